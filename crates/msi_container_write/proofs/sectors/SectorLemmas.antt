-- The file sector by sector: which of its regions a sector is in.
use Rattle.std.proofs.Common.{◌≡◌, ℕ, ◌+◌, ◌-◌, ◌*◌, ◌<◌, ◌≤◌, List, [], ◌∷◌, ◌++◌, get_or, map, replicate, inl, inr, sym, ◌∙◌, ap, arith, refl}
use Rattle.std.specs.List.{range_with_len, flat_map}
use Rattle.std.specs.Int.{to_le_bytes, w32}
use Rattle.std.proofs.lemmas.Bool.{cases_lt, lt-ltb, le-ltb}
use Rattle.std.proofs.lemmas.List.{get_or_past}
use Rattle.std.proofs.lemmas.List.FromFn.{get_or-map-range_with_len, length-map-range_with_len}
use Rattle.msi_container_write.specs.Extents.{units, all_units, laid_byte, laid_bytes, table_byte}
use Rattle.msi_container_write.specs.Image.{Run, fat_sectors, difat_sectors, fat_entry, listed_entry, difat_entry, difat_run, front, image_byte}
use Rattle.msi_container_write.specs.Sectors.{image_sector}
use Rattle.msi_container_write.proofs.sectors.ImageLemmas.{front_bytes, list_bytes}
use Rattle.msi_container_write.proofs.placing.RangeLemmas.{map_range_append, map_ranges_same, range_more, replicate_is_map}

-- RANGES

-- one piece behind another
pub ranges_join : (f : ℕ → ℕ) (a b n : ℕ) → n ≡ a + b → map f (range_with_len 0 n) ≡ map f (range_with_len 0 a) ++ map f (range_with_len a b)
ranges_join f a b n long = ap (λ m. map f (range_with_len 0 m)) long ∙ range_more f 0 a a b (omega arith)

-- REGIONS OF AN IMAGE

-- the header
pub header_sector : (parts : List (List ℕ)) (mini_fat : Run) (total n : ℕ) → 76 + 4 * n ≡ 512
    → front (fat_sectors total) mini_fat (difat_run (all_units 512 parts) total)
    ++ flat_map (to_le_bytes w32) (map (listed_entry (all_units 512 parts) (fat_sectors total)) (range_with_len 0 n))
    ≡ image_sector parts mini_fat total 0
header_sector parts mini_fat total n size =
    let f : ℕ → ℕ = image_byte parts mini_fat total in
    let list = flat_map (to_le_bytes w32) (map (listed_entry (all_units 512 parts) (fat_sectors total)) (range_with_len 0 n)) in
    ap (λ bs. bs ++ list) (sym (front_bytes parts mini_fat total))
    ∙ ap (λ bs. map f (range_with_len 0 76) ++ bs) (sym (list_bytes parts mini_fat total n size))
    ∙ sym (map_range_append f f (λ k. f (76 + k)) 76 (4 * n) (λ k l. refl) (λ k l. refl))
    ∙ ap (λ m. map f (range_with_len 0 m)) size

-- the parts
pub part_sector : (parts : List (List ℕ)) (mini_fat : Run) (total m : ℕ) → m < all_units 512 parts
    → map (laid_byte 512 parts) (range_with_len (512 * m) 512) ≡ image_sector parts mini_fat total (m + 1)
part_sector parts mini_fat total m within =
    let X = all_units 512 parts in
    map_ranges_same (laid_byte 512 parts) (image_byte parts mini_fat total) (512 * m) (512 * (m + 1)) 512 (λ k l.
    let p = 512 * (m + 1) + k in
    let e : p - 512 ≡ 512 * m + k = omega arith in
    rw (le-ltb p 76 (omega arith), le-ltb p 512 (omega arith), lt-ltb p (512 * (X + 1)) (omega arith), e) refl)

-- the FAT
pub fat_sector : (parts : List (List ℕ)) (mini_fat : Run) (total m : ℕ) → m < fat_sectors total
    → map (table_byte (fat_entry parts total)) (range_with_len (512 * m) 512) ≡ image_sector parts mini_fat total (all_units 512 parts + 1 + m)
fat_sector parts mini_fat total m within =
    let X = all_units 512 parts in
    let F = fat_sectors total in
    map_ranges_same (table_byte (fat_entry parts total)) (image_byte parts mini_fat total) (512 * m) (512 * (X + 1 + m)) 512 (λ k l.
    let p = 512 * (X + 1 + m) + k in
    let e : p - 512 * (X + 1) ≡ 512 * m + k = omega arith in
    rw (le-ltb p 76 (omega arith), le-ltb p 512 (omega arith), le-ltb p (512 * (X + 1)) (omega arith), lt-ltb p (512 * (X + F + 1)) (omega arith), e) refl)

-- the DIFAT
pub difat_sector : (parts : List (List ℕ)) (mini_fat : Run) (total m : ℕ) → m < difat_sectors total
    → map (table_byte (difat_entry (all_units 512 parts) total)) (range_with_len (512 * m) 512) ≡ image_sector parts mini_fat total (all_units 512 parts + 1 + (fat_sectors total + m))
difat_sector parts mini_fat total m within =
    let X = all_units 512 parts in
    let F = fat_sectors total in
    let D = difat_sectors total in
    map_ranges_same (table_byte (difat_entry X total)) (image_byte parts mini_fat total) (512 * m) (512 * (X + 1 + (F + m))) 512 (λ k l.
    let p = 512 * (X + 1 + (F + m)) + k in
    let e : p - 512 * (X + F + 1) ≡ 512 * m + k = omega arith in
    rw (le-ltb p 76 (omega arith), le-ltb p 512 (omega arith), le-ltb p (512 * (X + 1)) (omega arith), le-ltb p (512 * (X + F + 1)) (omega arith), lt-ltb p (512 * (X + F + D + 1)) (omega arith), e) refl)

-- free sectors
pub free_sector : (parts : List (List ℕ)) (mini_fat : Run) (total m : ℕ) → fat_sectors total + difat_sectors total ≤ m
    → replicate 512 0 ≡ image_sector parts mini_fat total (all_units 512 parts + 1 + m)
free_sector parts mini_fat total m past =
    let X = all_units 512 parts in
    let F = fat_sectors total in
    let D = difat_sectors total in
    replicate_is_map 512 0
    ∙ map_ranges_same (λ _. 0) (image_byte parts mini_fat total) 0 (512 * (X + 1 + m)) 512 (λ k l.
    let p = 512 * (X + 1 + m) + k in
    rw (le-ltb p 76 (omega arith), le-ltb p 512 (omega arith), le-ltb p (512 * (X + 1)) (omega arith), le-ltb p (512 * (X + F + 1)) (omega arith), le-ltb p (512 * (X + F + D + 1)) (omega arith)) refl)

-- PARTS

-- the first part
pub first_part : (part : List ℕ) (parts : List (List ℕ)) (m : ℕ) → m < units 512 part
    → map (λ p. get_or part p 0) (range_with_len (512 * m) 512) ≡ map (laid_byte 512 (part ∷ parts)) (range_with_len (512 * m) 512)
first_part part parts m within =
    map_ranges_same (λ p. get_or part p 0) (laid_byte 512 (part ∷ parts)) (512 * m) (512 * m) 512 (λ k l. rw (lt-ltb (512 * m + k) (units 512 part * 512) (omega arith)) refl)

-- the parts behind it
pub next_parts : (part : List ℕ) (parts : List (List ℕ)) (m n : ℕ) → n ≡ units 512 part + m
    → map (laid_byte 512 parts) (range_with_len (512 * m) 512) ≡ map (laid_byte 512 (part ∷ parts)) (range_with_len (512 * n) 512)
next_parts part parts m n there =
    let U = units 512 part in
    map_ranges_same (laid_byte 512 parts) (laid_byte 512 (part ∷ parts)) (512 * m) (512 * n) 512 (λ k l.
    let e : 512 * n + k - U * 512 ≡ 512 * m + k = omega arith in
    rw (le-ltb (512 * n + k) (U * 512) (omega arith), e) refl)

-- past the last part all is zero
laid_past : (size : ℕ) (parts : List (List ℕ)) (p : ℕ) → all_units size parts * size ≤ p → laid_byte size parts p ≡ 0
laid_past size [] p past = refl
laid_past size (part ∷ parts) p past =
    let U = units size part in
    let here : U * size ≤ p = omega arith in
    rw (le-ltb p (U * size) here) (laid_past size parts (p - U * size) (omega arith))

-- sector m of what is laid in smaller units, as far as it goes and zeros behind it
pub laid_in_sector : (size : ℕ) (parts : List (List ℕ)) (m : ℕ)
    → map (laid_byte size parts) (range_with_len (512 * m) 512) ≡ map (λ p. get_or (laid_bytes size parts) p 0) (range_with_len (512 * m) 512)
laid_in_sector size parts m =
    let n = size * all_units size parts in
    map_ranges_same (laid_byte size parts) (λ p. get_or (laid_bytes size parts) p 0) (512 * m) (512 * m) 512 (λ k l.
    let p = 512 * m + k in
    elim (cases_lt p n) [
      | inl low ↦ sym (get_or-map-range_with_len (laid_byte size parts) 0 n p p 0 low (omega arith))
      | inr high ↦ laid_past size parts p (omega arith) ∙ sym (get_or_past (laid_bytes size parts) p 0 (omega (arith, length-map-range_with_len (laid_byte size parts) 0 n)))
    ])

-- sector m of a table of n sectors
pub table_in_sector : (entry : ℕ → ℕ) (n m : ℕ) → m < n
    → map (table_byte entry) (range_with_len (512 * m) 512) ≡ map (λ p. get_or (map (table_byte entry) (range_with_len 0 (512 * n))) p 0) (range_with_len (512 * m) 512)
table_in_sector entry n m within =
    map_ranges_same (table_byte entry) (λ p. get_or (map (table_byte entry) (range_with_len 0 (512 * n))) p 0) (512 * m) (512 * m) 512 (λ k l.
    sym (get_or-map-range_with_len (table_byte entry) 0 (512 * n) (512 * m + k) (512 * m + k) 0 (omega arith) (omega arith)))
