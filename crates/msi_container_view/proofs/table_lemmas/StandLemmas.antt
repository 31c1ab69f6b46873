-- A copy that grows behind its end, and the sectors that stand in it.
use Rattle.std.proofs.Common.{◌≡◌, ℕ, ◌+◌, ◌-◌, ◌*◌, ◌/◌, ◌<◌, ◌≤◌, List, [], ◌∷◌, ◌++◌, length, get_or, Option, inl, inr, sym, ◌∙◌, ap, arith}
use Rattle.std.specs.List.{range_with_len}
use Rattle.std.proofs.Math.Nat.{mul-le-mul_right, mul-div_cancel}
use Rattle.std.proofs.lemmas.List.{length_push}
use Rattle.std.proofs.lemmas.List.FromFn.{length-range_with_len, get_or-range_with_len}
use Rattle.msi_container_device.specs.Held.{Held, bytes_told}
use Rattle.msi_container_format.specs.Container.{sector_size}
use Rattle.msi_container_tables.proofs.chains.ClaimLemmas.{push_cases}
use Rattle.msi_container_view.specs.Reading.{IsAppended}
use Rattle.msi_container_view.specs.Tables.{TablesRead, IsCopy, ReadsOn, StandAt}
use Rattle.msi_container_view.proofs.copies.HeaderCopyLemmas.{same_size, sector_size_known}
use Rattle.msi_container_view.proofs.copies.PartsCopyLemmas.{copied_further}
use Rattle.msi_container_view.proofs.table_lemmas.LoadLemmas.{AreBehind, none_behind, run_behind}

-- SIZES

-- a sector has 512 bytes at least
pub least_size : (bytes : List ℕ) → 512 ≤ sector_size bytes
least_size bytes = elim (sector_size_known bytes) [ inl e ↦ omega (arith, e) | inr e ↦ omega (arith, e) ]

-- so many sectors and their sizes
whole_first : (n size : ℕ) → size ≤ (1 + n) * size
whole_first n size = omega arith

-- a copy has a header
pub has_header : (t : TablesRead) → IsCopy t → 512 ≤ length t.copy
has_header t c = omega (arith, c.long, least_size t.copy, whole_first c.sectors (sector_size t.copy))

-- a longer copy that begins with the same header has sectors of the same size
pub size_kept : (old new : List ℕ) → 512 ≤ length old → ((k : ℕ) → k < length old → get_or new k 0 ≡ get_or old k 0) → sector_size new ≡ sector_size old
size_kept old new h front = same_size old new (λ i l. front i (omega arith))

pub size_read_on : (old new : TablesRead) (n : ℕ) → IsCopy old → ReadsOn old new n → sector_size new.copy ≡ sector_size old.copy
size_read_on old new n c r = size_kept old.copy new.copy (has_header old c) r.front

-- READING ON

-- what was read on is a copy
grown : (long n m size : ℕ) → long ≡ (1 + n) * size → long + m * size ≡ (1 + (n + m)) * size
grown long n m size e = rw e (omega arith)

pub copy_read_on : (old new : TablesRead) (n : ℕ) → IsCopy old → ReadsOn old new n → IsCopy new
copy_read_on old new n c r = record {
  sectors = c.sectors + n;
  long = r.long ∙ grown (length old.copy) c.sectors n (sector_size old.copy) c.long ∙ ap (λ s. (1 + (c.sectors + n)) * s) (sym (size_read_on old new n c r));
  read = omega (arith, c.read, r.read, r.long);
  headed = λ file t i l. r.front i (omega (arith, has_header old c)) ∙ c.headed file (sym r.told ∙ t) i l;
}

-- it was read on twice
more_rows : (m n size : ℕ) → (m + n) * size ≡ m * size + n * size
more_rows m n size = omega arith

same_rows : (n s t : ℕ) → s ≡ t → n * s ≡ n * t
same_rows n s t e = ap (λ k. n * k) e

pub reads_further : (a b c : TablesRead) (m n : ℕ) → IsCopy a → ReadsOn a b m → ReadsOn b c n → ReadsOn a c (m + n)
reads_further a b c m n copy first then =
    let rows = same_rows n _ _ (size_read_on a b m copy first) in
    let both = more_rows m n (sector_size a.copy) in
    record {
      told = then.told ∙ first.told;
      long = omega (arith, then.long, first.long, rows, both);
      front = λ k l. then.front k (omega (arith, first.long)) ∙ first.front k l;
      read = omega (arith, then.read, first.read, rows, both);
    }

-- SECTORS IN THE COPY

-- they stay where they stand
pub stand_further : (old new : TablesRead) (n : ℕ) (sectors places : List ℕ) → IsCopy old → ReadsOn old new n → StandAt old.held old.copy sectors places → StandAt old.held new.copy sectors places
stand_further old new n sectors places c r s =
    let size = size_read_on old new n c r in
    record {
      long = s.long;
      inside = λ i l. rw size (omega (arith, s.inside i l, r.long));
      told = λ file t.
          let sized = same_size file old.copy (c.headed file t) in
          copied_further file old.copy new.copy sectors places (s.told file t) (λ i l. rw sized at (s.inside i l)) r.front;
    }

-- the source tells the same
pub stand_told : (held now : Option Held) (copy sectors places : List ℕ) → bytes_told now ≡ bytes_told held → StandAt held copy sectors places → StandAt now copy sectors places
stand_told held now copy sectors places same s = record { long = s.long; inside = s.inside; told = λ file t. s.told file (sym same ∙ t) }

-- one sector more
pub stand_push : (held : Option Held) (copy sectors places : List ℕ) (sector place : ℕ) → StandAt held copy sectors places → StandAt held copy (sector ∷ []) (place ∷ []) → StandAt held copy (sectors ++ sector ∷ []) (places ++ place ∷ [])
stand_push held copy sectors places sector place s one = record {
  long = length_push places place ∙ ap (λ n. n + 1) s.long ∙ sym (length_push sectors sector);
  inside = λ i l. elim (push_cases places place i l) [
    | inl p ↦ rw p.1 (s.inside i p.0)
    | inr p ↦ rw p.1 (one.inside 0 (omega arith))
  ];
  told = λ file t. record {
    long = length_push places place ∙ ap (λ n. n + 1) s.long ∙ sym (length_push sectors sector);
    same = λ i j l b. elim (push_cases sectors sector i l) [
      | inl p ↦ elim (push_cases places place i (omega (arith, length_push places place, length_push sectors sector, s.long, l))) [
        | inl q ↦ rw (p.1, q.1) ((s.told file t).same i j p.0 b)
        | inr q ↦ absurd (omega (arith, s.long, p.0, q.0))
      ]
      | inr p ↦ elim (push_cases places place i (omega (arith, length_push places place, length_push sectors sector, s.long, l))) [
        | inl q ↦ absurd (omega (arith, s.long, p.0, q.0))
        | inr q ↦ rw (p.1, q.1) ((one.told file t).same 0 j (omega arith) b)
      ]
    ];
  };
}

-- the places of sectors behind a copy
place_is : (first i size j long : ℕ) → long ≡ (1 + first) * size → (first + i + 1) * size + j ≡ long + (i * size + j)
place_is first i size j long e = rw e (omega arith)

place_ends : (first i size many long : ℕ) → long ≡ (1 + first) * size → i < many → (first + i + 2) * size ≤ long + many * size
place_ends first i size many long e l =
    let one : i + 1 ≤ many = omega arith in
    let rows = mul-le-mul_right size one in
    rw e (omega arith)

pub behind_stand : (old : TablesRead) (new sectors : List ℕ) (first : ℕ) → IsCopy old → length old.copy ≡ (1 + first) * sector_size old.copy → AreBehind old.held (sector_size old.copy) old.copy new sectors (length sectors) → StandAt old.held new sectors (range_with_len first (length sectors))
behind_stand old new sectors first c is_first b =
    let many = length sectors in
    let size = size_kept old.copy new (has_header old c) b.front in
    let long = length-range_with_len first many in
    record {
      long = long;
      inside = λ i l. rw (size, get_or-range_with_len first many i 0 (omega arith), b.long) (place_ends first i (sector_size old.copy) many (length old.copy) is_first (omega arith));
      told = λ file t.
          let sized = same_size file old.copy (c.headed file t) in
          record {
            long = long;
            same = λ i j l k.
                let below : j < sector_size old.copy = rw sized k in
                rw (get_or-range_with_len first many i 0 l, ← sized)
                (ap (λ n. get_or new n 0) (place_is first i (sector_size old.copy) j (length old.copy) is_first) ∙ b.told file t i j l below);
          };
    }

-- the sector behind the copy, by the copy's length
sectors_in : (n size : ℕ) → 0 < size → (1 + n) * size / size - 1 ≡ n
sectors_in n size some = rw (mul-div_cancel (1 + n) some) (omega arith)

pub first_behind : (t : TablesRead) (long size : ℕ) → IsCopy t → long ≡ length t.copy → size ≡ sector_size t.copy → length t.copy ≡ (1 + (long / size - 1)) * sector_size t.copy
first_behind t long size c is_long is_size =
    let first : long / size - 1 ≡ c.sectors = rw (is_long, is_size, c.long) (sectors_in c.sectors (sector_size t.copy) (omega (arith, least_size t.copy))) in
    c.long ∙ ap (λ n. (1 + n) * sector_size t.copy) (sym first)

-- a sector that was read behind a copy
pub one_behind : (t : TablesRead) (now : Option Held) (new : List ℕ) (sector place count : ℕ) → bytes_told now ≡ bytes_told t.held → place ≡ (sector + 1) * sector_size t.copy → count ≡ sector_size t.copy → IsAppended now place count t.copy new → AreBehind t.held (sector_size t.copy) t.copy new (sector ∷ []) 1
one_behind t now new sector place count same is_place is_count a =
    run_behind t.held now (sector_size t.copy) t.copy t.copy new (sector ∷ []) sector 0 1 place count same (none_behind t.held (sector_size t.copy) t.copy (sector ∷ []))
    (λ k l. only_member k l) is_place (omega arith) a
  where
    only_member : (k : ℕ) → k < 1 → get_or (sector ∷ []) (0 + k) 0 ≡ sector + k
    only_member k l = let none : k ≡ 0 = omega arith in rw none (omega arith)

pub one_stands : (t : TablesRead) (now : Option Held) (new : List ℕ) (sector place count first : ℕ) → IsCopy t → length t.copy ≡ (1 + first) * sector_size t.copy → bytes_told now ≡ bytes_told t.held → place ≡ (sector + 1) * sector_size t.copy → count ≡ sector_size t.copy → IsAppended now place count t.copy new → StandAt t.held new (sector ∷ []) (first ∷ [])
one_stands t now new sector place count first c is_first same is_place is_count a =
    behind_stand t new (sector ∷ []) first c is_first (one_behind t now new sector place count same is_place is_count a)

-- all of some sectors that were read behind a copy
pub behind_all_stand : (t : TablesRead) (new sectors places : List ℕ) (first size at : ℕ) → IsCopy t → length t.copy ≡ (1 + first) * sector_size t.copy → size ≡ sector_size t.copy → AreBehind t.held size t.copy new sectors at → at ≡ length sectors → places ≡ range_with_len first (length sectors) → StandAt t.held new sectors places
behind_all_stand t new sectors places first size at c is_first is_size b all is =
    rw is (behind_stand t new sectors first c is_first (rw (is_size, all) at b))
