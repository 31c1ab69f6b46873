-- Worked rows of the layout, each computed.
use Rattle.std.proofs.Common.{◌≡◌, ℕ, ◌+◌, ◌*◌, true, false, List, [], ◌∷◌, ◌++◌, length, map, replicate, refl}
use Rattle.std.specs.List.{range_with_len}
use Rattle.msi_container_write.specs.Balance.{middle, left_link, right_link}
use Rattle.msi_container_write.specs.Extents.{all_units}
use Rattle.msi_container_write.specs.Image.{fat_sectors, difat_sectors, suffices, least_total, fat_entry, listed_entry, difat_entry, image_byte}
use Rattle.msi_container_write.specs.Layout.{entry_bytes, unused_entry, root_entry, stream_entry, directory_sectors, mini_sectors, mini_fat_run, parts_of, taken_by, large_first}

-- THE TREE

-- five entries hang from 3: 1 has 2 on its right, and 4 has 5
three_on_top : middle 1 5 ≡ 3
three_on_top = refl

left_of_five : map (left_link 5 1 5) (range_with_len 1 5) ≡ 0xFFFF_FFFF ∷ 0xFFFF_FFFF ∷ 1 ∷ 0xFFFF_FFFF ∷ 0xFFFF_FFFF ∷ []
left_of_five = refl

right_of_five : map (right_link 5 1 5) (range_with_len 1 5) ≡ 2 ∷ 0xFFFF_FFFF ∷ 4 ∷ 5 ∷ 0xFFFF_FFFF ∷ []
right_of_five = refl

-- THE DIRECTORY

-- the root above one stream: 22 bytes of name, type 5, black, no siblings, entry 1 below it, its CLSID, no sectors
root : entry_bytes (root_entry (replicate 16 0xAB) ((0x61 ∷ [], replicate 5000 7) ∷ [])) ≡
    0x52 ∷ 0 ∷ 0x6F ∷ 0 ∷ 0x6F ∷ 0 ∷ 0x74 ∷ 0 ∷ 0x20 ∷ 0 ∷ 0x45 ∷ 0 ∷ 0x6E ∷ 0 ∷ 0x74 ∷ 0 ∷ 0x72 ∷ 0 ∷ 0x79 ∷ 0 ∷ []
    ++ replicate 44 0
    ++ 22 ∷ 0 ∷ 5 ∷ 1 ∷ []
    ++ replicate 8 0xFF
    ++ 1 ∷ 0 ∷ 0 ∷ 0 ∷ []
    ++ replicate 16 0xAB
    ++ replicate 20 0
    ++ 0xFE ∷ 0xFF ∷ 0xFF ∷ 0xFF ∷ []
    ++ replicate 8 0
root = refl

-- the only stream, of 5000 bytes from sector 1 on, named by U+4824
one_stream : entry_bytes (stream_entry 1 1 1 0 (0x4824 ∷ [], replicate 5000 7)) ≡
    0x24 ∷ 0x48 ∷ []
    ++ replicate 62 0
    ++ 4 ∷ 0 ∷ 2 ∷ 1 ∷ []
    ++ replicate 12 0xFF
    ++ replicate 36 0
    ++ 1 ∷ 0 ∷ 0 ∷ 0 ∷ []
    ++ 0x88 ∷ 0x13 ∷ 0 ∷ 0 ∷ 0 ∷ 0 ∷ 0 ∷ 0 ∷ []
one_stream = refl

-- the second of three streams, empty
empty_stream : entry_bytes (stream_entry 3 2 7 0 (0x61 ∷ 0x62 ∷ [], [])) ≡
    0x61 ∷ 0 ∷ 0x62 ∷ 0 ∷ []
    ++ replicate 60 0
    ++ 6 ∷ 0 ∷ 2 ∷ 1 ∷ []
    ++ 1 ∷ 0 ∷ 0 ∷ 0 ∷ 3 ∷ 0 ∷ 0 ∷ 0 ∷ []
    ++ replicate 4 0xFF
    ++ replicate 36 0
    ++ 0xFE ∷ 0xFF ∷ 0xFF ∷ 0xFF ∷ []
    ++ replicate 8 0
empty_stream = refl

unused : length unused_entry ≡ 128
unused = refl

-- the root and three streams fill a sector, and a fourth stream begins another
sectors_by_count : map directory_sectors (0 ∷ 1 ∷ 3 ∷ 4 ∷ 7 ∷ 8 ∷ []) ≡ 1 ∷ 1 ∷ 1 ∷ 2 ∷ 2 ∷ 3 ∷ []
sectors_by_count = refl

-- HOW MANY SECTORS

-- 109 FAT sectors for one stream of 7087104 bytes and no DIFAT sector, and one of each more for one of a byte more
without_difat : (suffices 13843 0 13951 ≡ false) × (suffices 13843 0 13952 ≡ true) × (fat_sectors 13952 ≡ 109) × (difat_sectors 13952 ≡ 0)
without_difat = (refl, refl, refl, refl)

with_difat : (suffices 13844 0 13954 ≡ false) × (suffices 13844 0 13955 ≡ true) × (fat_sectors 13955 ≡ 110) × (difat_sectors 13955 ≡ 1)
with_difat = (refl, refl, refl, refl)

-- the sectors of nine, over earlier files of so many bytes
least : map (least_total 9) (0 ∷ 5632 ∷ 5633 ∷ 10000 ∷ 10240 ∷ 10241 ∷ []) ≡ 10 ∷ 10 ∷ 11 ∷ 19 ∷ 19 ∷ 20 ∷ []
least = refl

-- THE WHOLE, for one stream of 4096 bytes

abbrev streams : List (List ℕ × List ℕ)
streams = (0x44CA ∷ 0x47B3 ∷ 0x46E8 ∷ 0x4828 ∷ [], replicate 4096 7) ∷ []

abbrev file : List (List ℕ)
file = parts_of (replicate 16 0) streams

nine : (all_units 512 file ≡ 9) × (taken_by streams ≡ 9) × (large_first streams ≡ 1)
nine = (refl, refl, refl)

fat : map (fat_entry file 10) (range_with_len 0 12) ≡
    0xFFFF_FFFE ∷ 2 ∷ 3 ∷ 4 ∷ 5 ∷ 6 ∷ 7 ∷ 8 ∷ 0xFFFF_FFFE ∷ 0xFFFF_FFFD ∷ 0xFFFF_FFFF ∷ 0xFFFF_FFFF ∷ []
fat = refl

listed : map (listed_entry 9 1) (range_with_len 0 3) ≡ 9 ∷ 0xFFFF_FFFF ∷ 0xFFFF_FFFF ∷ []
listed = refl

-- the header: versions, byte order, shifts, FAT sectors, cutoff, and the first FAT sector
header : map (image_byte file (mini_fat_run streams) 10) (range_with_len 24 56) ≡
    0x3E ∷ 0 ∷ 3 ∷ 0 ∷ 0xFE ∷ 0xFF ∷ 9 ∷ 0 ∷ 6 ∷ 0 ∷ 0 ∷ 0 ∷ 0 ∷ 0 ∷ 0 ∷ 0 ∷ []
    ++ 0 ∷ 0 ∷ 0 ∷ 0 ∷ 1 ∷ 0 ∷ 0 ∷ 0 ∷ 0 ∷ 0 ∷ 0 ∷ 0 ∷ 0 ∷ 0 ∷ 0 ∷ 0 ∷ 0 ∷ 0x10 ∷ 0 ∷ 0 ∷ []
    ++ 0xFE ∷ 0xFF ∷ 0xFF ∷ 0xFF ∷ 0 ∷ 0 ∷ 0 ∷ 0 ∷ 0xFE ∷ 0xFF ∷ 0xFF ∷ 0xFF ∷ 0 ∷ 0 ∷ 0 ∷ 0 ∷ []
    ++ 9 ∷ 0 ∷ 0 ∷ 0 ∷ []
header = refl

-- the stream begins in sector 1, and the FAT in sector 9
bytes : map (image_byte file (mini_fat_run streams) 10) (1024 ∷ 5119 ∷ 5120 ∷ 5124 ∷ 5631 ∷ []) ≡ 7 ∷ 7 ∷ 0xFE ∷ 2 ∷ 0xFF ∷ []
bytes = refl

-- in a longer file there are free sectors behind the FAT, and they are zero
free : map (image_byte file (mini_fat_run streams) 19) (5160 ∷ 5632 ∷ 10239 ∷ []) ≡ 0xFF ∷ 0 ∷ 0 ∷ []
free = refl

-- SMALL STREAMS, one of 1 byte and one of 65, with an empty one and a large one

abbrev mixed : List (List ℕ × List ℕ)
mixed = (0x61 ∷ [], 5 ∷ []) ∷ (0x62 ∷ [], []) ∷ (0x63 ∷ [], replicate 65 6) ∷ (0x64 ∷ [], replicate 4096 7) ∷ []

abbrev mixed_file : List (List ℕ)
mixed_file = parts_of (replicate 16 0) mixed

-- two sectors of the directory, one of the mini FAT, one of the mini stream, eight of the large stream
places : (mini_sectors mixed ≡ 3) × (large_first mixed ≡ 4) × (all_units 512 mixed_file ≡ 12) × (taken_by mixed ≡ 12)
places = (refl, refl, refl, refl)

-- each chain of mini sectors ends, and what is left of the mini FAT is free
mini_table : map (λ p. image_byte mixed_file (mini_fat_run mixed) 13 (512 * 3 + p)) (0 ∷ 3 ∷ 4 ∷ 8 ∷ 12 ∷ 511 ∷ []) ≡ 0xFE ∷ 0xFF ∷ 2 ∷ 0xFE ∷ 0xFF ∷ 0xFF ∷ []
mini_table = refl

-- the mini stream, each of whose mini sectors is filled up with zeros
mini_bytes : map (λ p. image_byte mixed_file (mini_fat_run mixed) 13 (512 * 4 + p)) (0 ∷ 1 ∷ 63 ∷ 64 ∷ 128 ∷ 129 ∷ 192 ∷ []) ≡ 5 ∷ 0 ∷ 0 ∷ 6 ∷ 6 ∷ 0 ∷ 0 ∷ []
mini_bytes = refl

-- where the root and the streams start: in sector 3, in mini sector 0, nowhere, in mini sector 1, and in sector 4; and their sizes
starts : map (λ k. image_byte mixed_file (mini_fat_run mixed) 13 (512 + 128 * k + 116)) (0 ∷ 1 ∷ 2 ∷ 3 ∷ 4 ∷ []) ≡ 3 ∷ 0 ∷ 0xFE ∷ 1 ∷ 4 ∷ []
starts = refl

sizes : map (λ k. image_byte mixed_file (mini_fat_run mixed) 13 (512 + 128 * k + 120)) (0 ∷ 1 ∷ 2 ∷ 3 ∷ []) ≡ 192 ∷ 1 ∷ 0 ∷ 65 ∷ []
sizes = refl

-- the DIFAT sector behind 13844 sectors of parts lists the 110th FAT sector, and ends
difat : map (difat_entry 13844 13955) (0 ∷ 1 ∷ 126 ∷ 127 ∷ []) ≡ 0x3681 ∷ 0xFFFF_FFFF ∷ 0xFFFF_FFFF ∷ 0xFFFF_FFFE ∷ []
difat = refl
