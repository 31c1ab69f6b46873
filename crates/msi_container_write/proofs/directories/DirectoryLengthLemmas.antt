-- How long the directory and its pieces are.
use Rattle.std.proofs.Common.{◌≡◌, ℕ, zero, suc, ◌+◌, ◌-◌, ◌*◌, List, [], ◌∷◌, ◌++◌, length, replicate, ◌∙◌, arith, refl}
use Rattle.std.specs.List.{concat}
use Rattle.std.proofs.lemmas.List.{length-append}
use Rattle.msi_container_write.specs.Extents.{units}
use Rattle.msi_container_write.specs.Layout.{Entry, name_field, entry_bytes, unused_entry, mini_part, large_part, root_entry, stream_entry, stream_entries_bytes, directory_sectors, large_first, directory_of}

-- an entry takes 128 bytes
pub length-entry_bytes : (e : Entry) → length e.clsid ≡ 16 → length (entry_bytes e) ≡ 128
length-entry_bytes e clsid =
    let name : length (name_field e.name) ≡ 64 = refl in
    simp length-append (omega arith)

-- and so does each stream's entry
pub length-stream_entries_bytes : (n k next next_mini : ℕ) (streams : List (List ℕ × List ℕ)) → length (stream_entries_bytes n k next next_mini streams) ≡ 128 * length streams
length-stream_entries_bytes n k next next_mini [] = refl
length-stream_entries_bytes n k next next_mini (stream ∷ streams) =
    let entry = entry_bytes (stream_entry n k next next_mini stream) in
    let others = stream_entries_bytes n (k + 1) (next + units 512 (large_part stream)) (next_mini + units 64 (mini_part stream)) streams in
    let here = length-entry_bytes (stream_entry n k next next_mini stream) refl in
    let rest = length-stream_entries_bytes n (k + 1) (next + units 512 (large_part stream)) (next_mini + units 64 (mini_part stream)) streams in
    length-append entry others ∙ omega arith

-- n pieces of 128 bytes
pub length-unused : (n : ℕ) (piece : List ℕ) → length piece ≡ 128 → length (concat (replicate n piece)) ≡ 128 * n
length-unused zero piece long = refl
length-unused (suc n) piece long = length-append piece (concat (replicate n piece)) ∙ omega (arith, length-unused n piece long)

-- the directory fills its sectors
pub length-directory_of : (clsid : List ℕ) (streams : List (List ℕ × List ℕ)) → length clsid ≡ 16 → length (directory_of clsid streams) ≡ 512 * directory_sectors (length streams)
length-directory_of clsid streams fits =
    let n = length streams in
    let taken = directory_sectors n in
    let root = entry_bytes (root_entry clsid streams) in
    let others = stream_entries_bytes n 1 (large_first streams) 0 streams in
    let unused = concat (replicate (4 * taken - (n + 1)) unused_entry) in
    length-append (root ++ others) unused
    ∙ omega (
      arith,
      length-append root others,
      length-entry_bytes (root_entry clsid streams) fits,
      length-stream_entries_bytes n 1 (large_first streams) 0 streams,
      length-unused (4 * taken - (n + 1)) unused_entry refl,
    )
