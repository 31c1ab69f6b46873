-- One more extent.
use Rattle.std.proofs.Common.{◌≡◌, ℕ, ◌+◌, List, [], ◌∷◌, ◌++◌, sym}
use Rattle.std.proofs.lemmas.List.{flat_map_more}
use Rattle.std.proofs.lemmas.List.Sums.{sum_by_push}
use Rattle.msi_container_format.specs.Bytes.{bytes_at}
use Rattle.msi_container_view.specs.Extents.{Extent, bytes_of, size_of}

pub bytes_of_more : (file : List ℕ) (extents : List Extent) (extent : Extent)
    → bytes_of file (extents ++ (extent ∷ [])) ≡ bytes_of file extents ++ bytes_at file extent.start extent.count
bytes_of_more file extents extent = sym (flat_map_more (λ (e : Extent). bytes_at file e.start e.count) [] extents extent)

pub size_of_more : (extents : List Extent) (extent : Extent)
    → size_of (extents ++ (extent ∷ [])) ≡ size_of extents + extent.count
size_of_more extents extent = sum_by_push (λ (e : Extent). e.count) extents extent
