-- A file of parts that are chained in order, with the sectors of the FAT and of the DIFAT behind them, and free sectors
-- last: version 3, sectors of 512 bytes.
use Rattle.std.specs.Prelude.{ℕ, zero, suc, ◌+◌, ◌-◌, ◌*◌, ◌/◌, ◌%◌, Bool, ◌&&◌, if◌then◌else◌, ◌==◌, nat_lt, nat_le}
use Rattle.std.specs.Prelude.{List, [], ◌∷◌, ◌++◌, slice_index, map, replicate}
use Rattle.std.specs.List.{range_with_len, flat_map}
use Rattle.std.specs.Int.{div_ceil, to_le_bytes, w32}
use Rattle.msi_container_format.specs.Format.{DIFAT_SECTOR, FAT_SECTOR, FREE_SECTOR, signature}
use Rattle.msi_container_write.specs.Extents.{all_units, laid_byte, link, chain_entry, start_of, table_byte}

-- HOW MANY SECTORS

-- the sectors of a FAT that has an entry for each sector, 128 each
abbrev pub fat_sectors : ℕ → ℕ
fat_sectors total = div_ceil total 128

-- the sectors of the DIFAT, which lists the FAT's beyond the header's 109, 127 each
abbrev pub difat_sectors : ℕ → ℕ
difat_sectors total = div_ceil (fat_sectors total - 109) 127

-- in so many sectors there is room for those that the parts take, the FAT's and the DIFAT's, and the file isn't shorter
-- than an earlier one
abbrev pub suffices : ℕ → ℕ → ℕ → Bool
suffices taken earlier total =
    nat_le (taken + fat_sectors total + difat_sectors total) total && nat_le earlier (512 * (total + 1))

-- the first number from k on that passes a test, of the next few
abbrev pub first_from : (ℕ → Bool) → ℕ → ℕ → ℕ
first_from test k zero = k
first_from test k (suc few) = if test k then k else first_from test (k + 1) few

-- the least number of sectors that suffices; as many as the bound always do
abbrev pub least_total : ℕ → ℕ → ℕ
least_total taken earlier = first_from (suffices taken earlier) 0 (2 * taken + earlier + 4)

-- TABLES

-- the FAT: the parts' chains, marks for the sectors of the FAT and of the DIFAT, and free entries
abbrev pub fat_entry : List (List ℕ) → ℕ → ℕ → ℕ
fat_entry parts total n =
    if nat_lt n (all_units 512 parts) then link 512 parts n
    else if nat_lt n (all_units 512 parts + fat_sectors total) then FAT_SECTOR
    else if nat_lt n (all_units 512 parts + fat_sectors total + difat_sectors total) then DIFAT_SECTOR
    else FREE_SECTOR

-- entry k of the list of FAT sectors, of which there are count from a first one on
abbrev pub listed_entry : ℕ → ℕ → ℕ → ℕ
listed_entry first count k = if nat_lt k count then first + k else FREE_SECTOR

-- the DIFAT: each of its sectors has 127 entries of that list, from entry 109 on, and then the number of its next
-- sector
abbrev pub difat_entry : ℕ → ℕ → ℕ → ℕ
difat_entry taken total e =
    if e % 128 == 127 then chain_entry (taken + fat_sectors total) (difat_sectors total) (e / 128)
    else listed_entry taken (fat_sectors total) (109 + 127 * (e / 128) + e % 128)

-- THE HEADER

-- which sectors the mini FAT takes
pub record Run : Type 0 where
  pub first : ℕ
  pub count : ℕ

-- the header's numbers of 32 bits: no directory sector count, the number of FAT sectors, the directory in sector 0, no
-- transaction, the cutoff, the mini FAT, and the DIFAT
abbrev pub front_numbers : ℕ → Run → Run → List ℕ
front_numbers fat mini_fat difat =
    0 ∷ fat ∷ 0 ∷ 0 ∷ 4096 ∷ start_of mini_fat.first mini_fat.count
    ∷ mini_fat.count ∷ start_of difat.first difat.count ∷ difat.count ∷ []

-- the header's first 76 bytes: the signature, no CLSID, the versions, the byte order, the sizes of sectors and of mini
-- sectors, six zeros, and the numbers
abbrev pub front : ℕ → Run → Run → List ℕ
front fat mini_fat difat =
    signature
    ++ replicate 16 0
    ++ 0x3E ∷ 0 ∷ 3 ∷ 0 ∷ 0xFE ∷ 0xFF ∷ 9 ∷ 0 ∷ 6 ∷ 0 ∷ 0 ∷ 0 ∷ 0 ∷ 0 ∷ 0 ∷ 0 ∷ []
    ++ flat_map (to_le_bytes w32) (front_numbers fat mini_fat difat)

-- THE WHOLE

-- the DIFAT stands behind the FAT
abbrev pub difat_run : ℕ → ℕ → Run
difat_run taken total = record { first = taken + fat_sectors total; count = difat_sectors total }

-- byte p: the header, its list of FAT sectors, the parts, the FAT, the DIFAT, and free sectors
abbrev pub image_byte : List (List ℕ) → Run → ℕ → ℕ → ℕ
image_byte parts mini_fat total p =
    let taken = all_units 512 parts in
    let fat = fat_sectors total in
    let difat = difat_sectors total in
    if nat_lt p 76 then slice_index (front fat mini_fat (difat_run taken total)) p
    else if nat_lt p 512 then table_byte (listed_entry taken fat) (p - 76)
    else if nat_lt p (512 * (taken + 1)) then laid_byte 512 parts (p - 512)
    else if nat_lt p (512 * (taken + fat + 1)) then table_byte (fat_entry parts total) (p - 512 * (taken + 1))
    else if nat_lt p (512 * (taken + fat + difat + 1))
    then table_byte (difat_entry taken total) (p - 512 * (taken + fat + 1))
    else 0

abbrev pub image : List (List ℕ) → Run → ℕ → List ℕ
image parts mini_fat total = map (image_byte parts mini_fat total) (range_with_len 0 (512 * (total + 1)))
