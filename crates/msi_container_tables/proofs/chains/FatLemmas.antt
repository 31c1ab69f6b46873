-- The sectors of the FAT, and the places at which the header and the DIFAT list them.
use Rattle.std.proofs.Common.{◌≡◌, ℕ, ◌-◌, ◌/◌, ◌<◌, List, ◌++◌, length, get_or, take, map, arith, ◌∙◌, refl}
use Rattle.std.specs.Int.{div_ceil}
use Rattle.std.specs.List.{range_with_len}
use Rattle.std.proofs.lemmas.List.FromFn.{get_or-map-range_with_len, length-map-range_with_len, take-map-range_with_len}
use Rattle.msi_container_tables.specs.Claims.{CanClaim, IsFree}
use Rattle.msi_container_format.specs.Container.{listed, fat_count, fat_of, sector_size}
use Rattle.msi_container_tables.proofs.chains.ChainLemmas.{free_at}

-- the next FAT sector is free when those before it were claimed
pub fat_sector_free : (bytes difat : List ℕ) (limit k : ℕ) (used : List ℕ)
    → CanClaim limit used (fat_of bytes difat)
    → k < fat_count bytes
    → IsFree limit (used ++ map (listed bytes difat) (range_with_len 0 k)) (listed bytes difat k)
fat_sector_free bytes difat limit k used can l =
    let count = fat_count bytes in
    let number = listed bytes difat in
    let all = fat_of bytes difat in
    let long : length all ≡ count = length-map-range_with_len number 0 count in
    let free = free_at limit k used all can (omega arith) in
    let front : take k all ≡ map number (range_with_len 0 k) = take-map-range_with_len number 0 count k (omega arith) in
    let at : get_or all k 0 ≡ number k = get_or-map-range_with_len number 0 count k k 0 l (omega arith) in
    rw (← front, ← at) free

-- how many sectors the DIFAT has, by the numbers that the code has for it
pub difat_count_is : (bytes : List ℕ) (end listed read size : ℕ)
    → end ≡ div_ceil listed (size / 4 - 1)
    → listed ≡ read - 109
    → read ≡ fat_count bytes
    → size ≡ sector_size bytes
    → end ≡ div_ceil (fat_count bytes - 109) (sector_size bytes / 4 - 1)
difat_count_is bytes end listed read size e l r s = e ∙ rw (l, r, s) refl
