-- The bytes that a stream is, by how many they are.
use Rattle.std.proofs.Common.{◌≡◌, ℕ, ◌<◌, ◌≤◌, Bool, true, false, cond, List, map, ap, sym}
use Rattle.std.specs.List.{range_with_len}
use Rattle.std.proofs.lemmas.Bool.{lt-ltb, le-ltb}
use Rattle.msi_container_format.specs.Container.{is_mini, mini_sector_byte, sector_byte}
use Rattle.msi_container_view.specs.Extents.{bytes_stored}

-- those of mini sectors, or of sectors
chosen : (file mini_stream : List ℕ) (size : ℕ) (members : List ℕ) (b : Bool) → is_mini size ≡ b
    → map (λ i. cond b (mini_sector_byte file mini_stream members i) (sector_byte file members i)) (range_with_len 0 size) ≡ bytes_stored file mini_stream size members
chosen file mini_stream size members b e =
    ap (λ x. map (λ i. cond x (mini_sector_byte file mini_stream members i) (sector_byte file members i)) (range_with_len 0 size)) (sym e)

pub stored_small : (file mini_stream : List ℕ) (size : ℕ) (members : List ℕ) → size < 4096 → map (mini_sector_byte file mini_stream members) (range_with_len 0 size) ≡ bytes_stored file mini_stream size members
stored_small file mini_stream size members l = chosen file mini_stream size members true (lt-ltb size 4096 l)

pub stored_large : (file mini_stream : List ℕ) (size : ℕ) (members : List ℕ) → 4096 ≤ size → map (sector_byte file members) (range_with_len 0 size) ≡ bytes_stored file mini_stream size members
stored_large file mini_stream size members l = chosen file mini_stream size members false (le-ltb size 4096 l)
