-- The streams of a container by their names, without their bytes.
use Rattle.std.specs.Prelude.{ℕ, List, length, map}
use Rattle.std.specs.FinMap.{FinMap, entries, from_entries}
use Rattle.msi_container_format.specs.declared.contents.Contents.{Contents}
use Rattle.msi_container_format.specs.Names.{name_cmp}
use Rattle.msi_container_format.specs.Container.{name, size}
use Rattle.msi_container_read.specs.declared.sizes.Listing.{Listing}

-- how many bytes each stream has, by name
abbrev pub sizes_of : FinMap name_cmp (List ℕ) → FinMap name_cmp ℕ
sizes_of streams = from_entries (map (λ e. (e.0, length e.1)) (entries streams))

-- what contents are, but for the bytes of the streams and the CLSID
abbrev pub listing_of : Contents → Listing
listing_of contents = record { sizes = sizes_of contents.streams; has_storages = contents.has_storages }

-- each entry's name and size
abbrev pub named_sizes : (bytes directory : List ℕ) → List ℕ → List (List ℕ × ℕ)
named_sizes bytes directory ks = map (λ k. (name bytes directory k, size bytes directory k)) ks
