-- The bytes of sectors and of mini sectors, one behind the other.
use Rattle.std.proofs.Common.{◌≡◌, ℕ, ◌+◌, ◌-◌, ◌*◌, ◌/◌, ◌%◌, ◌<◌, ◌==◌, Bool, true, false, cond, min, List, ◌++◌, map, get_or, sym, ap, arith, refl}
use Rattle.std.specs.List.{range_with_len}
use Rattle.std.proofs.lemmas.Nat.{div-mul-add, mod-mul-add}
use Rattle.msi_container_format.specs.Bytes.{bytes_at, place}
use Rattle.msi_container_format.specs.Container.{version, sector_size, sector_byte, mini_sector_byte}
use Rattle.msi_container_tables.proofs.parts.ListLemmas.{from_fn_append}

-- byte j of member i
pub place_within : (size : ℕ) (members : List ℕ) (i j : ℕ) → j < size → place size members (i * size + j) ≡ (get_or members i 0 + 1) * size + j
place_within size members i j l = rw (div-mul-add i size j l, mod-mul-add i size j l) refl

-- one more sector, cut at the count
pub sector_bytes_more : (bytes sectors : List ℕ) (i count : ℕ)
    → map (sector_byte bytes sectors) (range_with_len 0 (min count (i * sector_size bytes)))
    ++ bytes_at bytes ((get_or sectors i 0 + 1) * sector_size bytes) (min (sector_size bytes) (count - min count (i * sector_size bytes)))
    ≡ map (sector_byte bytes sectors) (range_with_len 0 (min count ((i + 1) * sector_size bytes)))
sector_bytes_more bytes sectors i count =
    let size = sector_size bytes in
    let start = (get_or sectors i 0 + 1) * size in
    let so_far = min count (i * size) in
    from_fn_append (sector_byte bytes sectors) (λ j. get_or bytes (start + j) 0) so_far (min size (count - so_far)) (min count ((i + 1) * size))
    (omega arith)
    (λ j l.
    let whole : so_far ≡ i * size = omega arith in
    ap (λ p. get_or bytes p 0) (sym (rw whole (place_within size sectors i j (omega arith)))))

-- a mini sector lies within one sector of the mini stream
same_sector : (large : Bool) (m j : ℕ)
    → j < 64
    → ((64 * m + j) / cond large 4096 512 ≡ 64 * m / cond large 4096 512) × ((64 * m + j) % cond large 4096 512 ≡ 64 * m % cond large 4096 512 + j)
same_sector true m j l = (omega arith, omega arith)
same_sector false m j l = (omega arith, omega arith)

-- byte j of mini sector m
place_in_mini : (bytes mini_stream : List ℕ) (m j : ℕ)
    → j < 64
    → place (sector_size bytes) mini_stream (64 * m + j) ≡ place (sector_size bytes) mini_stream (64 * m) + j
place_in_mini bytes mini_stream m j l =
    let same = same_sector (version bytes == 4) m j l in
    rw (same.0, same.1) (omega arith)

-- one more mini sector, cut at the count
pub mini_sector_bytes_more : (bytes mini_stream mini_sectors : List ℕ) (i count : ℕ)
    → map (mini_sector_byte bytes mini_stream mini_sectors) (range_with_len 0 (min count (i * 64)))
    ++ bytes_at bytes (place (sector_size bytes) mini_stream (64 * get_or mini_sectors i 0)) (min 64 (count - min count (i * 64)))
    ≡ map (mini_sector_byte bytes mini_stream mini_sectors) (range_with_len 0 (min count ((i + 1) * 64)))
mini_sector_bytes_more bytes mini_stream mini_sectors i count =
    let start = place (sector_size bytes) mini_stream (64 * get_or mini_sectors i 0) in
    let so_far = min count (i * 64) in
    from_fn_append (mini_sector_byte bytes mini_stream mini_sectors) (λ j. get_or bytes (start + j) 0) so_far (min 64 (count - so_far)) (min count ((i + 1) * 64))
    (omega arith)
    (λ j l.
    let m : (so_far + j) / 64 ≡ i = omega arith in
    let rest : (so_far + j) % 64 ≡ j = omega arith in
    ap (λ p. get_or bytes p 0) (sym (rw (m, rest) (place_in_mini bytes mini_stream (get_or mini_sectors i 0) j (omega arith)))))
