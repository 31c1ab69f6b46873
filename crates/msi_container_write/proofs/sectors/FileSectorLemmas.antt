-- Which region of the file of some streams a sector is in.
use Rattle.std.proofs.Common.{◌≡◌, ℕ, ◌+◌, ◌*◌, ◌<◌, ◌≤◌, List, ◌∷◌, ◌++◌, get_or, length, map, replicate, sym, ◌∙◌, ap, subst, arith}
use Rattle.std.specs.List.{range_with_len, flat_map}
use Rattle.std.specs.Int.{to_le_bytes, w32}
use Rattle.msi_container_write.specs.Extents.{units, all_units, laid_byte, table_byte}
use Rattle.msi_container_write.specs.Image.{Run, fat_sectors, difat_sectors, fat_entry, listed_entry, difat_entry, difat_run, front}
use Rattle.msi_container_write.specs.Layout.{mini_parts, large_parts, mini_fat, mini_fat_entry, mini_fat_run, mini_fat_sectors, mini_stream, mini_stream_first, mini_stream_sectors, large_first, directory_of, directory_sectors, parts_of, taken_by}
use Rattle.msi_container_write.specs.Sectors.{file_sector}
use Rattle.msi_container_write.proofs.directories.DirectoryLengthLemmas.{length-directory_of}
use Rattle.msi_container_write.proofs.placing.LaidPartsLemmas.{filled, mini_fat_units, mini_stream_units, taken}
use Rattle.msi_container_write.proofs.placing.PlacedLemmas.{NamedStreams}
use Rattle.msi_container_write.proofs.sectors.SectorLemmas.{header_sector, part_sector, fat_sector, difat_sector, free_sector, first_part, next_parts, laid_in_sector, table_in_sector}

-- PARTS

directory_units : (clsid : List ℕ) (streams : NamedStreams) → length clsid ≡ 16 → units 512 (directory_of clsid streams) ≡ directory_sectors (length streams)
directory_units clsid streams fits = filled _ _ (length-directory_of clsid streams fits)

-- the directory
pub directory_part : (clsid : List ℕ) (streams : NamedStreams) (m : ℕ) → length clsid ≡ 16 → m < directory_sectors (length streams)
    → map (λ p. get_or (directory_of clsid streams) p 0) (range_with_len (512 * m) 512) ≡ map (laid_byte 512 (parts_of clsid streams)) (range_with_len (512 * m) 512)
directory_part clsid streams m fits within =
    first_part (directory_of clsid streams) (mini_fat streams ∷ mini_stream streams ∷ large_parts streams) m
    (subst (λ u. m < u) (sym (directory_units clsid streams fits)) within)

-- what stands behind the directory
behind_directory : (clsid : List ℕ) (streams : NamedStreams) (m n : ℕ) → length clsid ≡ 16 → n ≡ directory_sectors (length streams) + m
    → map (laid_byte 512 (mini_fat streams ∷ mini_stream streams ∷ large_parts streams)) (range_with_len (512 * m) 512)
    ≡ map (laid_byte 512 (parts_of clsid streams)) (range_with_len (512 * n) 512)
behind_directory clsid streams m n fits there =
    next_parts (directory_of clsid streams) (mini_fat streams ∷ mini_stream streams ∷ large_parts streams) m n
    (there ∙ ap (λ u. u + m) (sym (directory_units clsid streams fits)))

-- what stands behind the mini FAT
behind_mini_fat : (clsid : List ℕ) (streams : NamedStreams) (m n : ℕ) → length clsid ≡ 16 → n ≡ mini_stream_first streams + m
    → map (laid_byte 512 (mini_stream streams ∷ large_parts streams)) (range_with_len (512 * m) 512)
    ≡ map (laid_byte 512 (parts_of clsid streams)) (range_with_len (512 * n) 512)
behind_mini_fat clsid streams m n fits there =
    next_parts (mini_fat streams) (mini_stream streams ∷ large_parts streams) m (mini_fat_sectors streams + m) (ap (λ u. u + m) (sym (mini_fat_units streams)))
    ∙ behind_directory clsid streams (mini_fat_sectors streams + m) n fits (omega (arith, there))

-- the mini FAT
pub mini_fat_part : (clsid : List ℕ) (streams : NamedStreams) (m n : ℕ) → length clsid ≡ 16 → m < mini_fat_sectors streams → n ≡ directory_sectors (length streams) + m
    → map (table_byte (mini_fat_entry (mini_parts streams))) (range_with_len (512 * m) 512) ≡ map (laid_byte 512 (parts_of clsid streams)) (range_with_len (512 * n) 512)
mini_fat_part clsid streams m n fits within there =
    table_in_sector (mini_fat_entry (mini_parts streams)) (mini_fat_sectors streams) m within
    ∙ first_part (mini_fat streams) (mini_stream streams ∷ large_parts streams) m (subst (λ u. m < u) (sym (mini_fat_units streams)) within)
    ∙ behind_directory clsid streams m n fits there

-- the mini stream
pub mini_stream_part : (clsid : List ℕ) (streams : NamedStreams) (m n : ℕ) → length clsid ≡ 16 → m < mini_stream_sectors streams → n ≡ mini_stream_first streams + m
    → map (laid_byte 64 (mini_parts streams)) (range_with_len (512 * m) 512) ≡ map (laid_byte 512 (parts_of clsid streams)) (range_with_len (512 * n) 512)
mini_stream_part clsid streams m n fits within there =
    laid_in_sector 64 (mini_parts streams) m
    ∙ first_part (mini_stream streams) (large_parts streams) m (subst (λ u. m < u) (sym (mini_stream_units streams)) within)
    ∙ behind_mini_fat clsid streams m n fits there

-- the large streams
pub large_part : (clsid : List ℕ) (streams : NamedStreams) (m n : ℕ) → length clsid ≡ 16 → n ≡ large_first streams + m
    → map (laid_byte 512 (large_parts streams)) (range_with_len (512 * m) 512) ≡ map (laid_byte 512 (parts_of clsid streams)) (range_with_len (512 * n) 512)
large_part clsid streams m n fits there =
    next_parts (mini_stream streams) (large_parts streams) m (mini_stream_sectors streams + m) (ap (λ u. u + m) (sym (mini_stream_units streams)))
    ∙ behind_mini_fat clsid streams (mini_stream_sectors streams + m) n fits (omega (arith, there))

-- SECTORS OF THE FILE

-- how many sectors the parts take, as they were counted
taken_as : (clsid : List ℕ) (streams : NamedStreams) (X : ℕ) → length clsid ≡ 16 → X ≡ taken_by streams → all_units 512 (parts_of clsid streams) ≡ X
taken_as clsid streams X fits is = taken clsid streams (length-directory_of clsid streams fits) ∙ sym is

-- the header; k is 109
pub file_header : (clsid : List ℕ) (streams : NamedStreams) (total X n k : ℕ) (fat difat mini_fat : Run) → 76 + 4 * k ≡ 512
    → length clsid ≡ 16
    → X ≡ taken_by streams
    → n ≡ 0
    → fat.first ≡ X
    → fat.count ≡ fat_sectors total
    → difat ≡ difat_run X total
    → mini_fat ≡ mini_fat_run streams
    → front fat.count mini_fat difat ++ flat_map (to_le_bytes w32) (map (listed_entry fat.first fat.count) (range_with_len 0 k)) ≡ file_sector clsid streams total n
file_header clsid streams total X n k fat difat mini_fat size fits x zero first count run mini =
    let Y = all_units 512 (parts_of clsid streams) in
    let same : X ≡ Y = sym (taken_as clsid streams X fits x) in
    let head : ℕ → ℕ → Run → Run → List ℕ = λ a b d e. front b e d ++ flat_map (to_le_bytes w32) (map (listed_entry a b) (range_with_len 0 k)) in
    ap (λ a. head a fat.count difat mini_fat) (first ∙ same)
    ∙ ap (λ b. head Y b difat mini_fat) count
    ∙ ap (λ d. head Y (fat_sectors total) d mini_fat) (run ∙ ap (λ a. difat_run a total) same)
    ∙ ap (λ e. head Y (fat_sectors total) (difat_run Y total) e) mini
    ∙ header_sector (parts_of clsid streams) (mini_fat_run streams) total k size
    ∙ ap (file_sector clsid streams total) (sym zero)

-- the parts
pub file_part : (clsid : List ℕ) (streams : NamedStreams) (total X m n : ℕ) → length clsid ≡ 16 → X ≡ taken_by streams → m < X → n ≡ m + 1
    → map (laid_byte 512 (parts_of clsid streams)) (range_with_len (512 * m) 512) ≡ file_sector clsid streams total n
file_part clsid streams total X m n fits x within there =
    part_sector (parts_of clsid streams) (mini_fat_run streams) total m (subst (λ a. m < a) (sym (taken_as clsid streams X fits x)) within)
    ∙ ap (file_sector clsid streams total) (sym there)

-- the FAT
pub file_fat : (clsid : List ℕ) (streams : NamedStreams) (total X m : ℕ) → length clsid ≡ 16 → X ≡ taken_by streams → m < fat_sectors total
    → map (table_byte (fat_entry (parts_of clsid streams) total)) (range_with_len (512 * m) 512) ≡ file_sector clsid streams total (X + 1 + m)
file_fat clsid streams total X m fits x within =
    fat_sector (parts_of clsid streams) (mini_fat_run streams) total m within
    ∙ ap (λ a. file_sector clsid streams total (a + 1 + m)) (taken_as clsid streams X fits x)

-- the DIFAT
pub file_difat : (clsid : List ℕ) (streams : NamedStreams) (total X k m : ℕ) → length clsid ≡ 16 → X ≡ taken_by streams → k < difat_sectors total → m ≡ fat_sectors total + k
    → map (table_byte (difat_entry X total)) (range_with_len (512 * k) 512) ≡ file_sector clsid streams total (X + 1 + m)
file_difat clsid streams total X k m fits x within there =
    let same = taken_as clsid streams X fits x in
    ap (λ a. map (table_byte (difat_entry a total)) (range_with_len (512 * k) 512)) (sym same)
    ∙ difat_sector (parts_of clsid streams) (mini_fat_run streams) total k within
    ∙ ap (λ a. file_sector clsid streams total (a + 1 + (fat_sectors total + k))) same
    ∙ ap (λ b. file_sector clsid streams total (X + 1 + b)) (sym there)

-- free sectors
pub file_free : (clsid : List ℕ) (streams : NamedStreams) (total X m : ℕ) → length clsid ≡ 16 → X ≡ taken_by streams → fat_sectors total + difat_sectors total ≤ m
    → replicate 512 0 ≡ file_sector clsid streams total (X + 1 + m)
file_free clsid streams total X m fits x past =
    free_sector (parts_of clsid streams) (mini_fat_run streams) total m past
    ∙ ap (λ a. file_sector clsid streams total (a + 1 + m)) (taken_as clsid streams X fits x)
