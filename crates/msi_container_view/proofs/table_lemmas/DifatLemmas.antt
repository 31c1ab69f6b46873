-- The sectors of the DIFAT, which are found one by one, each in the copy of the one before.
use Rattle.std.proofs.Common.{◌≡◌, ℕ, ◌+◌, ◌-◌, ◌*◌, ◌/◌, ◌<◌, ◌≤◌, ◌^◌, List, [], ◌∷◌, ◌++◌, length, get_or, take, Some, inl, inr, arith, ◌∙◌, ap, sym, refl}
use Rattle.std.specs.Int.{div_ceil}
use Rattle.std.proofs.Math.Nat.{mul-le-mul_right}
use Rattle.std.proofs.lemmas.Bool.{cases_eq}
use Rattle.std.proofs.lemmas.List.{append_assoc}
use Rattle.msi_container_format.specs.Container.{sector_size, fat_count, difat_start, next_difat, IsDifat}
use Rattle.msi_container_tables.specs.Claims.{CanClaim, IsFree}
use Rattle.msi_container_tables.specs.Walks.{follower}
use Rattle.msi_container_tables.proofs.chains.ChainLemmas.{follower_nil, follower_more, next_is, free_at}
use Rattle.msi_container_view.specs.Copied.{HasHeaderOf, AreCopied}
use Rattle.msi_container_view.specs.Reading.{Tells}
use Rattle.msi_container_view.specs.Tables.{TablesRead, IsCopy, ReadsOn, StandAt}
use Rattle.msi_container_view.proofs.copies.HeaderCopyLemmas.{same_size, same_fat_count, same_difat_start}
use Rattle.msi_container_view.proofs.copies.TableCopyLemmas.{same_next_difat}
use Rattle.msi_container_view.proofs.table_lemmas.StandLemmas.{has_header, size_read_on, copy_read_on, stand_further, stand_told, stand_push}

-- HOW MANY

-- how many sectors the DIFAT has
abbrev pub difat_count : List ℕ → ℕ
difat_count bytes = div_ceil (fat_count bytes - 109) (sector_size bytes / 4 - 1)

-- a copy says so too
same_count : (file copy : List ℕ) → HasHeaderOf file copy → difat_count copy ≡ difat_count file
same_count file copy h = rw (same_fat_count file copy h, same_size file copy h) refl

pub count_told : (t : TablesRead) → IsCopy t → (file : List ℕ) → Tells t.held file → difat_count t.copy ≡ difat_count file
count_told t c file told = same_count file t.copy (c.headed file told)

pub count_kept : (old new : TablesRead) (n : ℕ) → IsCopy old → ReadsOn old new n → difat_count new.copy ≡ difat_count old.copy
count_kept old new n c r = same_count old.copy new.copy (λ i l. r.front i (omega (arith, has_header old c)))

-- THE NEXT ONE

-- what follows in the copy follows in the file
follower_copied : (file copy sectors places : List ℕ) → HasHeaderOf file copy → AreCopied file copy sectors places → follower (next_difat copy) (difat_start copy) places ≡ follower (next_difat file) (difat_start file) sectors
follower_copied file copy sectors places h c =
    elim (cases_eq (length sectors) 0) [
      | inl z ↦
          follower_nil (next_difat copy) (difat_start copy) places (c.long ∙ z) ∙ ap Some (same_difat_start file copy h)
          ∙ sym (follower_nil (next_difat file) (difat_start file) sectors z)
      | inr z ↦
          let last = same_next_difat file copy sectors places h c (length sectors - 1) (omega arith) in
          follower_more (next_difat copy) (difat_start copy) places (omega (arith, c.long))
          ∙ ap (λ n. next_difat copy (get_or places (n - 1) 0)) c.long ∙ last
          ∙ sym (follower_more (next_difat file) (difat_start file) sectors (omega arith))
    ]

pub follows_told : (first old : TablesRead) (n s : ℕ) (sectors places : List ℕ) → IsCopy first → ReadsOn first old n → StandAt first.held old.copy sectors places → Some s ≡ follower (next_difat old.copy) (difat_start old.copy) places
    → (file : List ℕ) → Tells first.held file → follower (next_difat file) (difat_start file) sectors ≡ Some s
follows_told first old n s sectors places c r stand is file told =
    let header = (copy_read_on first old n c r).headed file (r.told ∙ told) in
    sym (follower_copied file old.copy sectors places header (stand.told file told)) ∙ sym is

-- it is free where the whole DIFAT can be claimed
pub next_free : (file xs used list difat : List ℕ) (limit n s : ℕ) → IsDifat file difat → CanClaim limit used difat → n < difat_count file → xs ≡ take n difat → follower (next_difat file) (difat_start file) xs ≡ Some s → list ≡ used ++ xs → IsFree limit list s
next_free file xs used list difat limit n s is can within front follows claimed =
    let same = next_is (next_difat file) (difat_start file) (difat_count file) n s xs difat is within front follows in
    rw (claimed, front, ← same) (free_at limit n used difat can (omega (arith, is.long)))

-- ONE MORE

-- there is room for it
room_more : (long before n claimed size : ℕ) → long ≤ (1 + before) * size → before + n + 1 ≤ claimed → claimed ≤ 0xFFFF_FFFB → long + n * size + size ≤ 2 ^ 32 * size
room_more long before n claimed size h l m =
    let all : before + n + 2 ≤ 2 ^ 32 = omega arith in
    let rows = mul-le-mul_right size all in
    omega arith

pub room_on : (first old : TablesRead) (n before claimed : ℕ) → IsCopy first → ReadsOn first old n → length first.copy ≤ (1 + before) * sector_size first.copy → before + n + 1 ≤ claimed → claimed ≤ 0xFFFF_FFFB
    → length old.copy + sector_size old.copy ≤ 2 ^ 32 * sector_size old.copy
room_on first old n before claimed c r room l m =
    rw (size_read_on first old n c r, r.long) (room_more (length first.copy) before n claimed (sector_size first.copy) room l m)

-- it is claimed behind the others
pub claimed_more : (used list longer xs : List ℕ) (s : ℕ) → list ≡ used ++ xs → longer ≡ list ++ s ∷ [] → longer ≡ used ++ (xs ++ s ∷ [])
claimed_more used list longer xs s so_far more = rw (more, so_far) (append_assoc used xs (s ∷ []))

-- it stands behind the others
pub one_more_stands : (first old new : TablesRead) (n sector place : ℕ) (sectors places : List ℕ) → IsCopy first → ReadsOn first old n → ReadsOn old new 1 → StandAt first.held old.copy sectors places → StandAt old.held new.copy (sector ∷ []) (place ∷ [])
    → StandAt first.held new.copy (sectors ++ sector ∷ []) (places ++ place ∷ [])
one_more_stands first old new n sector place sectors places c r more stand one =
    let held = stand_told first.held old.held old.copy sectors places r.told stand in
    let both = stand_push old.held new.copy sectors places sector place (stand_further old new 1 sectors places (copy_read_on first old n c r) more held) one in
    stand_told old.held first.held new.copy (sectors ++ sector ∷ []) (places ++ place ∷ []) (sym r.told) both
