-- The image, read as the grammar reads it.
use Rattle.std.proofs.Common.{◌≡◌, ℕ, ◌+◌, ◌-◌, ◌*◌, ◌/◌, ◌%◌, ◌<◌, ◌≤◌, ◌^◌, Bool, true, false, cond, ltb, eqb, List, [], length, get_or, take, map, Some, inl, inr, sym, ◌∙◌, ap, arith, refl, lit<}
use Rattle.std.specs.List.{range_with_len}
use Rattle.std.proofs.lemmas.Bool.{cases_lt, lt-ltb, le-ltb, ne_eqb, eq-eqb}
use Rattle.std.proofs.lemmas.Grind.{div_ceil_times}
use Rattle.std.proofs.lemmas.List.FromFn.{fill_by_all, get_or-map-range_with_len, get_or-range_with_len, length-range_with_len, length-map-range_with_len}
use Rattle.msi_container_write.proofs.placing.LaidLemmas.{laid_at, last_at, units_within, number_from, place_range}
use Rattle.msi_container_format.specs.Bytes.{number32, place}
use Rattle.msi_container_format.specs.Chains.{IsChain}
use Rattle.msi_container_format.specs.Container.{IsHeader, successor, listed, next_difat, version, sector_size}
use Rattle.msi_container_write.specs.Extents.{units, all_units, laid_byte, is_last, link, start_of, number_byte, table_byte}
use Rattle.msi_container_write.specs.Image.{Run, image, image_byte, front, fat_sectors, difat_sectors, fat_entry, listed_entry, difat_entry, difat_run}
use Rattle.msi_container_write.specs.SpelledParts.{fat_behind, difat_behind, IsSpelledPart, IsSpelledImage}

-- entry n of a table in some bytes, which begins at start
pub table_number : (bytes : List ℕ) (entry : ℕ → ℕ) (start n p : ℕ)
    → entry n < 2 ^ 32
    → p ≡ start + 4 * n
    → ((q : ℕ) → start + 4 * n ≤ q → q < start + 4 * n + 4 → get_or bytes q 0 ≡ table_byte entry (q - start))
    → number32 bytes p ≡ entry n
table_number bytes entry start n p small there at =
    let byte : (b q : ℕ) → b < 4 → q ≡ start + 4 * n + b → get_or bytes q 0 ≡ number_byte (entry n) b = λ b q l e.
    let row : (q - start) / 4 ≡ n = omega arith in
    let column : (q - start) % 4 ≡ b = omega arith in
    at q (omega arith) (omega arith) ∙ rw (row, column) refl in
    number_from _ _ _ _ (entry n) small
    (byte 0 p (lit< tt) (omega arith))
    (byte 1 (p + 1) (lit< tt) (omega arith))
    (byte 2 (p + 2) (lit< tt) (omega arith))
    (byte 3 (p + 2 + 1) (lit< tt) (omega arith))

-- THE IMAGE'S BYTES

-- byte p of the image is what its definition gives there
image_at : (parts : List (List ℕ)) (mini_fat : Run) (total p : ℕ) → p < 512 * (total + 1) → get_or (image parts mini_fat total) p 0 ≡ image_byte parts mini_fat total p
image_at parts mini_fat total p l = get_or-map-range_with_len (image_byte parts mini_fat total) 0 (512 * (total + 1)) p p 0 l (omega arith)

-- the header's first 76 bytes
front_at : (parts : List (List ℕ)) (mini_fat : Run) (total p : ℕ) → p < 76
    → get_or (image parts mini_fat total) p 0 ≡ get_or (front (fat_sectors total) mini_fat (difat_run (all_units 512 parts) total)) p 0
front_at parts mini_fat total p l = image_at parts mini_fat total p (omega arith) ∙ rw (lt-ltb p 76 l) refl

-- the header's list of FAT sectors
list_at : (parts : List (List ℕ)) (mini_fat : Run) (total p : ℕ) → 76 ≤ p → p < 512
    → get_or (image parts mini_fat total) p 0 ≡ table_byte (listed_entry (all_units 512 parts) (fat_sectors total)) (p - 76)
list_at parts mini_fat total p a b = image_at parts mini_fat total p (omega arith) ∙ rw (le-ltb p 76 a, lt-ltb p 512 b) refl

-- the parts
laid_byte_at : (parts : List (List ℕ)) (mini_fat : Run) (total p : ℕ) → all_units 512 parts ≤ total → 512 ≤ p → p < 512 * (all_units 512 parts + 1)
    → get_or (image parts mini_fat total) p 0 ≡ laid_byte 512 parts (p - 512)
laid_byte_at parts mini_fat total p fits a b =
    image_at parts mini_fat total p (omega arith)
    ∙ rw (le-ltb p 76 (omega arith), le-ltb p 512 a, lt-ltb p (512 * (all_units 512 parts + 1)) b) refl

-- the FAT
fat_byte_at : (parts : List (List ℕ)) (mini_fat : Run) (total p : ℕ) → all_units 512 parts + fat_sectors total ≤ total → 512 * (all_units 512 parts + 1) ≤ p → p < 512 * (all_units 512 parts + fat_sectors total + 1)
    → get_or (image parts mini_fat total) p 0 ≡ table_byte (fat_entry parts total) (p - 512 * (all_units 512 parts + 1))
fat_byte_at parts mini_fat total p fits a b =
    let X = all_units 512 parts in
    let F = fat_sectors total in
    image_at parts mini_fat total p (omega arith)
    ∙ rw (le-ltb p 76 (omega arith), le-ltb p 512 (omega arith), le-ltb p (512 * (X + 1)) a, lt-ltb p (512 * (X + F + 1)) b) refl

-- the DIFAT
difat_byte_at : (parts : List (List ℕ)) (mini_fat : Run) (total p : ℕ) → all_units 512 parts + fat_sectors total + difat_sectors total ≤ total → 512 * (all_units 512 parts + fat_sectors total + 1) ≤ p → p < 512 * (all_units 512 parts + fat_sectors total + difat_sectors total + 1)
    → get_or (image parts mini_fat total) p 0 ≡ table_byte (difat_entry (all_units 512 parts) total) (p - 512 * (all_units 512 parts + fat_sectors total + 1))
difat_byte_at parts mini_fat total p fits a b =
    let X = all_units 512 parts in
    let F = fat_sectors total in
    let D = difat_sectors total in
    image_at parts mini_fat total p (omega arith)
    ∙ rw (le-ltb p 76 (omega arith), le-ltb p 512 (omega arith), le-ltb p (512 * (X + 1)) (omega arith), le-ltb p (512 * (X + F + 1)) a, lt-ltb p (512 * (X + F + D + 1)) b) refl

-- THE HEADER

-- the image has sectors of 512 bytes
image_size : (parts : List (List ℕ)) (mini_fat : Run) (total : ℕ) → sector_size (image parts mini_fat total) ≡ 512
image_size parts mini_fat total =
    let low = front_at parts mini_fat total 26 (lit< tt) in
    let high = front_at parts mini_fat total 27 (lit< tt) in
    let three : version (image parts mini_fat total) ≡ 3 = rw (low, high) refl in
    ap (λ v. cond (eqb v 4) 4096 512) three

-- the image has a header of version 3
header : (parts : List (List ℕ)) (mini_fat : Run) (total : ℕ) → IsHeader (image parts mini_fat total)
header parts mini_fat total =
    let at : (p : ℕ) → p < 76 → get_or (image parts mini_fat total) p 0 ≡ get_or (front (fat_sectors total) mini_fat (difat_run (all_units 512 parts) total)) p 0 = front_at parts mini_fat total in
    record {
      signed = rw (at 0 (lit< tt), at 1 (lit< tt), at 2 (lit< tt), at 3 (lit< tt), at 4 (lit< tt), at 5 (lit< tt), at 6 (lit< tt), at 7 (lit< tt)) refl;
      versioned = inl (rw (at 26 (lit< tt), at 27 (lit< tt)) refl, rw (at 30 (lit< tt), at 31 (lit< tt)) refl);
      order = rw (at 28 (lit< tt), at 29 (lit< tt)) refl;
      mini_shift = rw (at 32 (lit< tt), at 33 (lit< tt)) refl;
      cutoff = rw (at 56 (lit< tt), at 57 (lit< tt), at 58 (lit< tt), at 59 (lit< tt)) refl;
    }

-- a number whose bytes stand in the header's front from byte p on
front_number : (parts : List (List ℕ)) (mini_fat : Run) (total p n : ℕ) → p + 4 ≤ 76 → n < 2 ^ 32
    → get_or (front (fat_sectors total) mini_fat (difat_run (all_units 512 parts) total)) p 0 ≡ number_byte n 0
    → get_or (front (fat_sectors total) mini_fat (difat_run (all_units 512 parts) total)) (p + 1) 0 ≡ number_byte n 1
    → get_or (front (fat_sectors total) mini_fat (difat_run (all_units 512 parts) total)) (p + 2) 0 ≡ number_byte n 2
    → get_or (front (fat_sectors total) mini_fat (difat_run (all_units 512 parts) total)) (p + 2 + 1) 0 ≡ number_byte n 3
    → number32 (image parts mini_fat total) p ≡ n
front_number parts mini_fat total p n inside small a b c d =
    number_from _ _ _ _ n small
    (front_at parts mini_fat total p (omega arith) ∙ a)
    (front_at parts mini_fat total (p + 1) (omega arith) ∙ b)
    (front_at parts mini_fat total (p + 2) (omega arith) ∙ c)
    (front_at parts mini_fat total (p + 2 + 1) (omega arith) ∙ d)

-- the header counts the FAT's sectors
fat_count : (parts : List (List ℕ)) (mini_fat : Run) (total : ℕ) → fat_sectors total < 2 ^ 32 → number32 (image parts mini_fat total) 44 ≡ fat_sectors total
fat_count parts mini_fat total small = front_number parts mini_fat total 44 (fat_sectors total) (omega arith) small refl refl refl refl

-- the header has the directory start in sector 0
first_directory : (parts : List (List ℕ)) (mini_fat : Run) (total : ℕ) → number32 (image parts mini_fat total) 48 ≡ 0
first_directory parts mini_fat total = front_number parts mini_fat total 48 0 (lit< tt) (lit< tt) refl refl refl refl

-- where a chain starts is the end mark or a number that fits 32 bits
start_bound : (b : Bool) (first : ℕ) → first < 2 ^ 32 → cond b 0xFFFF_FFFE first < 2 ^ 32
start_bound true first small = lit< tt
start_bound false first small = small

-- the same for a number of units
start_fits : (first count : ℕ) → first < 2 ^ 32 → start_of first count < 2 ^ 32
start_fits first count small = start_bound (eqb count 0) first small

-- the header names where the mini FAT starts
first_mini_fat : (parts : List (List ℕ)) (mini_fat : Run) (total : ℕ) → mini_fat.first < 2 ^ 32 → number32 (image parts mini_fat total) 60 ≡ start_of mini_fat.first mini_fat.count
first_mini_fat parts mini_fat total small =
    front_number parts mini_fat total 60 (start_of mini_fat.first mini_fat.count) (omega arith) (start_fits mini_fat.first mini_fat.count small) refl refl refl refl

-- the header names where the DIFAT starts
first_difat : (parts : List (List ℕ)) (mini_fat : Run) (total : ℕ) → all_units 512 parts + fat_sectors total < 2 ^ 32
    → number32 (image parts mini_fat total) 68 ≡ start_of (all_units 512 parts + fat_sectors total) (difat_sectors total)
first_difat parts mini_fat total small =
    let first = all_units 512 parts + fat_sectors total in
    front_number parts mini_fat total 68 (start_of first (difat_sectors total)) (omega arith) (start_fits first (difat_sectors total) small) refl refl refl refl

-- THE FAT

-- the FAT has an entry for each sector
pub covered : (total : ℕ) → total ≤ 128 * fat_sectors total
covered total = omega (arith, div_ceil_times total 128 (omega arith))

-- the image spells entry n of the FAT at its place
fat_number : (parts : List (List ℕ)) (mini_fat : Run) (total n p : ℕ) → all_units 512 parts + fat_sectors total ≤ total → n < 128 * fat_sectors total → fat_entry parts total n < 2 ^ 32 → p ≡ 512 * (all_units 512 parts + 1) + 4 * n
    → number32 (image parts mini_fat total) p ≡ fat_entry parts total n
fat_number parts mini_fat total n p fits l small there =
    let X = all_units 512 parts in
    table_number (image parts mini_fat total) (fat_entry parts total) (512 * (X + 1)) n p small there
    (λ q a b. fat_byte_at parts mini_fat total q fits (omega arith) (omega arith))

-- the successor of a sector is its entry in the FAT
successor_is : (parts : List (List ℕ)) (mini_fat : Run) (total n : ℕ) → all_units 512 parts + fat_sectors total ≤ total → n < 128 * fat_sectors total → fat_entry parts total n < 2 ^ 32
    → successor (image parts mini_fat total) (fat_behind parts total) n ≡ Some (fat_entry parts total n)
successor_is parts mini_fat total n fits l small =
    let X = all_units 512 parts in
    let F = fat_sectors total in
    let inside : ltb (4 * n) (length (fat_behind parts total) * 512) ≡ true = lt-ltb _ _ (rw (length-range_with_len X F) (omega arith)) in
    let there : place 512 (fat_behind parts total) (4 * n) ≡ 512 * (X + 1) + 4 * n = place_range X F (4 * n) (omega arith) in
    rw (image_size parts mini_fat total, inside, there, fat_number parts mini_fat total n (512 * (X + 1) + 4 * n) fits l small refl) refl

-- a link is the end mark or the next number, and fits 32 bits
link_bound : (b : Bool) (n : ℕ) → n < 2 ^ 31 → cond b 0xFFFF_FFFE (n + 1) < 2 ^ 32
link_bound true n h = lit< tt
link_bound false n h = omega arith

-- the successor of a part's unit is its link
link_is : (parts : List (List ℕ)) (mini_fat : Run) (total n : ℕ) → all_units 512 parts + fat_sectors total ≤ total → total < 2 ^ 31 → n < all_units 512 parts
    → successor (image parts mini_fat total) (fat_behind parts total) n ≡ Some (link 512 parts n)
link_is parts mini_fat total n fits few l =
    let is : fat_entry parts total n ≡ link 512 parts n = rw (lt-ltb n (all_units 512 parts) l) refl in
    let inside : n < 128 * fat_sectors total = omega (arith, covered total) in
    successor_is parts mini_fat total n fits inside (rw is (link_bound (is_last 512 parts n) n (omega arith))) ∙ ap Some is

-- THE PARTS

-- the sectors of part i are a chain
part_chain : (parts : List (List ℕ)) (mini_fat : Run) (total i : ℕ) → all_units 512 parts + fat_sectors total ≤ total → total < 2 ^ 31 → i < length parts
    → IsChain (successor (image parts mini_fat total) (fat_behind parts total)) (all_units 512 (take i parts)) (units 512 (get_or parts i [])) (range_with_len (all_units 512 (take i parts)) (units 512 (get_or parts i [])))
part_chain parts mini_fat total i fits few l =
    let s = all_units 512 (take i parts) in
    let u = units 512 (get_or parts i []) in
    let long = length-range_with_len s u in
    record {
      long = long;
      first = λ z. get_or-range_with_len s u 0 0 (omega arith) ∙ omega arith;
      linked = λ k b.
          let within = units_within 512 parts i l in
          let open_end : is_last 512 parts (s + k) ≡ false = last_at 512 parts i k l (omega arith) ∙ ne_eqb (k + 1) u (λ e. omega arith) in
          rw (get_or-range_with_len s u k 0 (omega arith), get_or-range_with_len s u (k + 1) 0 (omega arith))
          (link_is parts mini_fat total (s + k) fits few (omega arith) ∙ ap Some (rw open_end (omega arith)));
    }

-- the last sector of part i has the end mark
part_end : (parts : List (List ℕ)) (mini_fat : Run) (total i : ℕ) → all_units 512 parts + fat_sectors total ≤ total → total < 2 ^ 31 → i < length parts → 0 < units 512 (get_or parts i [])
    → successor (image parts mini_fat total) (fat_behind parts total) (all_units 512 (take i parts) + units 512 (get_or parts i []) - 1) ≡ Some 0xFFFF_FFFE
part_end parts mini_fat total i fits few l z =
    let s = all_units 512 (take i parts) in
    let u = units 512 (get_or parts i []) in
    let within = units_within 512 parts i l in
    let last : s + u - 1 ≡ s + (u - 1) = omega arith in
    let ended : is_last 512 parts (s + (u - 1)) ≡ true = last_at 512 parts i (u - 1) l (omega arith) ∙ eq-eqb (u - 1 + 1) u (omega arith) in
    rw last (link_is parts mini_fat total (s + (u - 1)) fits few (omega arith) ∙ ap Some (rw ended refl))

-- the sectors of part i hold its bytes
part_byte : (parts : List (List ℕ)) (mini_fat : Run) (total i p : ℕ) → all_units 512 parts ≤ total → i < length parts → p < length (get_or parts i [])
    → get_or (image parts mini_fat total) (place 512 (range_with_len (all_units 512 (take i parts)) (units 512 (get_or parts i []))) p) 0 ≡ get_or (get_or parts i []) p 0
part_byte parts mini_fat total i p fits l h =
    let s = all_units 512 (take i parts) in
    let u = units 512 (get_or parts i []) in
    let within = units_within 512 parts i l in
    let inside : p < u * 512 = omega (arith, div_ceil_times (length (get_or parts i [])) 512 (omega arith)) in
    let q = 512 * (s + 1) + p in
    let e : q - 512 ≡ s * 512 + p = omega arith in
    rw (place_range s u p (omega arith))
    (laid_byte_at parts mini_fat total q fits (omega arith) (omega arith) ∙ rw e (laid_at 512 parts i p l inside))

-- part i is spelled by its sectors
spelled_part : (parts : List (List ℕ)) (mini_fat : Run) (total i : ℕ) → all_units 512 parts + fat_sectors total ≤ total → total < 2 ^ 31 → i < length parts
    → IsSpelledPart (image parts mini_fat total) (fat_behind parts total) (all_units 512 (take i parts)) (units 512 (get_or parts i [])) (get_or parts i [])
spelled_part parts mini_fat total i fits few l = record {
  chain = part_chain parts mini_fat total i fits few l;
  ended = part_end parts mini_fat total i fits few l;
  content = λ p h. part_byte parts mini_fat total i p (omega arith) l h;
}

-- THE DIFAT

-- the header and the DIFAT have room for each sector of the FAT
pub listed_all : (total : ℕ) → fat_sectors total ≤ 109 + 127 * difat_sectors total
listed_all total = omega (arith, div_ceil_times (fat_sectors total - 109) 127 (omega arith))

-- the image spells entry r of sector q of the DIFAT at its place
difat_number : (parts : List (List ℕ)) (mini_fat : Run) (total q r p : ℕ) → all_units 512 parts + fat_sectors total + difat_sectors total ≤ total → q < difat_sectors total → r < 128 → difat_entry (all_units 512 parts) total (128 * q + r) < 2 ^ 32 → p ≡ (all_units 512 parts + fat_sectors total + q + 1) * 512 + 4 * r
    → number32 (image parts mini_fat total) p ≡ difat_entry (all_units 512 parts) total (128 * q + r)
difat_number parts mini_fat total q r p fits l few small there =
    let first = all_units 512 parts + fat_sectors total in
    table_number (image parts mini_fat total) (difat_entry (all_units 512 parts) total) (512 * (first + 1)) (128 * q + r) p small (omega arith)
    (λ b low high. difat_byte_at parts mini_fat total b fits (omega arith) (omega arith))

-- entry r of row q of a table with 128 entries in a row: its row
row_of : (q r : ℕ) → r < 128 → (128 * q + r) / 128 ≡ q
row_of q r few = omega arith

-- and its column
column_of : (q r : ℕ) → r < 128 → (128 * q + r) % 128 ≡ r
column_of q r few = omega arith

-- each sector of the DIFAT ends in the number of the next
difat_link : (taken total q : ℕ) → q + 1 < difat_sectors total → difat_entry taken total (128 * q + 127) ≡ taken + fat_sectors total + q + 1
difat_link taken total q more = rw (column_of q 127 (lit< tt), row_of q 127 (lit< tt), lt-ltb (q + 1) (difat_sectors total) more) refl

-- its entries before that one list the FAT's sectors from 109 on
difat_lists : (taken total q r : ℕ) → r < 127 → 109 + 127 * q + r < fat_sectors total → difat_entry taken total (128 * q + r) ≡ taken + (109 + 127 * q + r)
difat_lists taken total q r few inside =
    rw (column_of q r (omega arith), row_of q r (omega arith), ne_eqb r 127 (λ e. omega arith), lt-ltb (109 + 127 * q + r) (fat_sectors total) inside) refl

-- the sector of the DIFAT behind sector q is the next one
next_is : (parts : List (List ℕ)) (mini_fat : Run) (total q : ℕ) → all_units 512 parts + fat_sectors total + difat_sectors total ≤ total → total < 2 ^ 31 → q + 1 < difat_sectors total
    → next_difat (image parts mini_fat total) (all_units 512 parts + fat_sectors total + q) ≡ Some (all_units 512 parts + fat_sectors total + (q + 1))
next_is parts mini_fat total q fits few more =
    let X = all_units 512 parts in
    let first = X + fat_sectors total in
    let is = difat_link X total q more in
    let read = difat_number parts mini_fat total q 127 ((first + q + 1) * 512 + 508) fits (omega arith) (lit< tt) (rw is (omega arith)) (omega arith) in
    rw (image_size parts mini_fat total) (ap Some (read ∙ is ∙ omega arith))

-- the sectors of the DIFAT are a chain from where the header says
difat_chain : (parts : List (List ℕ)) (mini_fat : Run) (total : ℕ) → all_units 512 parts + fat_sectors total + difat_sectors total ≤ total → total < 2 ^ 31
    → IsChain (next_difat (image parts mini_fat total)) (number32 (image parts mini_fat total) 68) (difat_sectors total) (difat_behind parts total)
difat_chain parts mini_fat total fits few =
    let first = all_units 512 parts + fat_sectors total in
    let D = difat_sectors total in
    let long = length-range_with_len first D in
    record {
      long = long;
      first = λ z.
          let some : eqb D 0 ≡ false = ne_eqb D 0 (λ e. omega arith) in
          let there : first + 0 ≡ first = omega arith in
          get_or-range_with_len first D 0 0 (omega arith) ∙ there ∙ sym (first_difat parts mini_fat total (omega arith) ∙ rw some refl);
      linked = λ q more.
          rw (get_or-range_with_len first D q 0 (omega arith), get_or-range_with_len first D (q + 1) 0 (omega arith))
          (next_is parts mini_fat total q fits few (omega arith));
    }

-- THE LIST OF FAT SECTORS

-- the header lists the first 109
listed_in_header : (parts : List (List ℕ)) (mini_fat : Run) (total k : ℕ) → all_units 512 parts + fat_sectors total < 2 ^ 32 → k < fat_sectors total → k < 109
    → number32 (image parts mini_fat total) (76 + 4 * k) ≡ all_units 512 parts + k
listed_in_header parts mini_fat total k few l low =
    let X = all_units 512 parts in
    let F = fat_sectors total in
    let entry : listed_entry X F k ≡ X + k = rw (lt-ltb k F l) refl in
    table_number (image parts mini_fat total) (listed_entry X F) 76 k (76 + 4 * k) (rw entry (omega arith)) refl
    (λ q a b. list_at parts mini_fat total q (omega arith) (omega arith)) ∙ entry

-- the DIFAT lists the others, 127 in each of its sectors
listed_in_difat : (parts : List (List ℕ)) (mini_fat : Run) (total k q r : ℕ) → all_units 512 parts + fat_sectors total + difat_sectors total ≤ total → total < 2 ^ 31 → k < fat_sectors total → k ≡ 109 + 127 * q + r → r < 127
    → number32 (image parts mini_fat total) ((get_or (difat_behind parts total) q 0 + 1) * 512 + 4 * r) ≡ all_units 512 parts + k
listed_in_difat parts mini_fat total k q r fits few l split low =
    let X = all_units 512 parts in
    let first = X + fat_sectors total in
    let D = difat_sectors total in
    let inside : q < D = omega (arith, listed_all total) in
    let is = difat_lists X total q r low (omega arith) in
    rw (get_or-range_with_len first D q 0 inside)
    (difat_number parts mini_fat total q r ((first + q + 1) * 512 + 4 * r) fits inside (omega arith) (rw is (omega arith)) refl ∙ is ∙ omega arith)

-- entry k of the list is the FAT's sector k
listed_is : (parts : List (List ℕ)) (mini_fat : Run) (total k : ℕ) → all_units 512 parts + fat_sectors total + difat_sectors total ≤ total → total < 2 ^ 31 → k < fat_sectors total
    → listed (image parts mini_fat total) (difat_behind parts total) k ≡ all_units 512 parts + k
listed_is parts mini_fat total k fits few l =
    rw (image_size parts mini_fat total)
    (elim (cases_lt k 109) [
      | inl low ↦ rw (lt-ltb k 109 low) (listed_in_header parts mini_fat total k (omega arith) l low)
      | inr high ↦ rw (le-ltb k 109 high) (listed_in_difat parts mini_fat total k ((k - 109) / 127) ((k - 109) % 127) fits few l (omega arith) (omega arith))
    ])

-- the list is that of the FAT's sectors
fat_listed : (parts : List (List ℕ)) (mini_fat : Run) (total : ℕ) → all_units 512 parts + fat_sectors total + difat_sectors total ≤ total → total < 2 ^ 31
    → fat_behind parts total ≡ map (listed (image parts mini_fat total) (difat_behind parts total)) (range_with_len 0 (fat_sectors total))
fat_listed parts mini_fat total fits few =
    let X = all_units 512 parts in
    let F = fat_sectors total in
    fill_by_all (listed (image parts mini_fat total) (difat_behind parts total)) (fat_behind parts total) F 0 (length-range_with_len X F) (λ k l.
    get_or-range_with_len X F k 0 l ∙ sym (listed_is parts mini_fat total k fits few l))

-- THE WHOLE

-- the image of sectors that suffice spells its parts
pub spelled_image : (parts : List (List ℕ)) (mini_fat : Run) (total : ℕ) → all_units 512 parts + fat_sectors total + difat_sectors total ≤ total → total < 2 ^ 31 → mini_fat.first < 2 ^ 32
    → IsSpelledImage (image parts mini_fat total) parts mini_fat total
spelled_image parts mini_fat total fits few small = record {
  long = length-map-range_with_len (image_byte parts mini_fat total) 0 (512 * (total + 1));
  header = header parts mini_fat total;
  size = image_size parts mini_fat total;
  directory = first_directory parts mini_fat total;
  mini_start = first_mini_fat parts mini_fat total small;
  fat_count = fat_count parts mini_fat total (omega arith);
  difat = difat_chain parts mini_fat total fits few;
  fat = fat_listed parts mini_fat total fits few;
  spelled = λ i l. spelled_part parts mini_fat total i (omega arith) few l;
}
