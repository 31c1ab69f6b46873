-- Streams as extents: pieces of a file, one behind the other.
use Rattle.std.specs.Prelude.{ℕ, List, sum_by, map, if◌then◌else◌}
use Rattle.std.specs.List.{flat_map, range_with_len}
use Rattle.msi_container_format.specs.Bytes.{bytes_at}
use Rattle.msi_container_format.specs.Container.{is_mini, mini_sector_byte, sector_byte}
pub use Rattle.msi_container_view.specs.declared.extents.Extent.{Extent}

abbrev pub bytes_of : List ℕ → List Extent → List ℕ
bytes_of file extents = flat_map (λ e. bytes_at file e.start e.count) extents

abbrev pub size_of : List Extent → ℕ
size_of extents = sum_by (λ e. e.count) extents

-- so many bytes of a stream with these members: mini sectors of the mini stream below 4096 bytes, and sectors from
-- there on
abbrev pub bytes_stored : (file mini_stream : List ℕ) → ℕ → List ℕ → List ℕ
bytes_stored file mini_stream size members = map
    (λ i. if is_mini size then mini_sector_byte file mini_stream members i else sector_byte file members i)
    (range_with_len 0 size)
