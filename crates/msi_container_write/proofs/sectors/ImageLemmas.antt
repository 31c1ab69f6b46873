-- The header of an image, and the entries of its DIFAT.
use Rattle.std.proofs.Common.{◌≡◌, ℕ, ◌+◌, ◌-◌, ◌*◌, ◌/◌, ◌%◌, ◌<◌, List, get_or, map, inl, inr, sym, ◌∙◌, ap, arith, refl}
use Rattle.std.specs.List.{range_with_len, flat_map}
use Rattle.std.specs.Int.{to_le_bytes, w32}
use Rattle.std.proofs.lemmas.Bool.{cases_lt, lt-ltb, le-ltb, eq-eqb, ne_eqb}
use Rattle.std.proofs.lemmas.List.FromFn.{fill_by_all}
use Rattle.msi_container_write.specs.Extents.{all_units, chain_entry, table_byte}
use Rattle.msi_container_write.specs.Image.{Run, fat_sectors, listed_entry, difat_entry, difat_run, front, image_byte}
use Rattle.msi_container_write.proofs.placing.RangeLemmas.{map_range_same, bytes_of_numbers}

-- THE DIFAT

-- an entry of the DIFAT by its place in its sector
pub difat_entry_is : (taken total k n : ℕ) (fat difat : Run)
    → fat.first ≡ taken
    → fat.count ≡ fat_sectors total
    → difat ≡ difat_run taken total
    → (k % 128 ≡ 127 → n ≡ chain_entry difat.first difat.count (k / 128))
    → (k % 128 < 127 → n ≡ listed_entry fat.first fat.count (109 + 127 * (k / 128) + k % 128))
    → n ≡ difat_entry taken total k
difat_entry_is taken total k n fat difat first count run next listed =
    elim (cases_lt (k % 128) 127) [
      | inl low ↦
          let place = 109 + 127 * (k / 128) + k % 128 in
          rw (ne_eqb (k % 128) 127 (λ e. absurd (omega arith)))
          (listed low ∙ ap (λ a. listed_entry a fat.count place) first ∙ ap (λ b. listed_entry taken b place) count)
      | inr high ↦
          let last : k % 128 ≡ 127 = omega arith in
          rw (eq-eqb (k % 128) 127 last)
          (next last ∙ ap (λ (r : Run). chain_entry r.first r.count (k / 128)) run)
    ]

-- THE HEADER

-- the bytes of a table
table_bytes : (f entry : ℕ → ℕ) (size n : ℕ) → size ≡ 4 * n → ((k : ℕ) → k < size → f k ≡ table_byte entry k)
    → map f (range_with_len 0 size) ≡ flat_map (to_le_bytes w32) (map entry (range_with_len 0 n))
table_bytes f entry size n long same =
    map_range_same f (table_byte entry) size (4 * n) long (λ k l. same k (omega arith)) ∙ sym (bytes_of_numbers entry n)

pub front_bytes : (parts : List (List ℕ)) (mini_fat : Run) (total : ℕ)
    → map (image_byte parts mini_fat total) (range_with_len 0 76) ≡ front (fat_sectors total) mini_fat (difat_run (all_units 512 parts) total)
front_bytes parts mini_fat total =
    let header = front (fat_sectors total) mini_fat (difat_run (all_units 512 parts) total) in
    map_range_same (image_byte parts mini_fat total) (λ p. get_or header p 0) 76 76 refl (λ k l. rw (lt-ltb k 76 l) refl)
    ∙ sym (fill_by_all (λ p. get_or header p 0) header 76 0 refl (λ k l. refl))

-- the header's list of FAT sectors
pub list_bytes : (parts : List (List ℕ)) (mini_fat : Run) (total n : ℕ) → 76 + 4 * n ≡ 512
    → map (λ k. image_byte parts mini_fat total (76 + k)) (range_with_len 0 (4 * n))
    ≡ flat_map (to_le_bytes w32) (map (listed_entry (all_units 512 parts) (fat_sectors total)) (range_with_len 0 n))
list_bytes parts mini_fat total n size =
    table_bytes (λ k. image_byte parts mini_fat total (76 + k)) (listed_entry (all_units 512 parts) (fat_sectors total)) (4 * n) n refl (λ k l.
    let e : 76 + k - 76 ≡ k = omega arith in
    rw (le-ltb (76 + k) 76 (omega arith), lt-ltb (76 + k) 512 (omega arith), e) refl)
