-- Counts of places against the cells that name them, through one text taken or given back.
use Rattle.std.proofs.Common.{◌≡◌, ◌≢◌, ℕ, zero, suc, ◌+◌, ◌-◌, ◌<◌, ◌≤◌, List, length, refl, sym, ap, ◌∙◌, subst, arith, if◌then◌else◌, ◌==◌, slice_get}
use Rattle.msi_pool.specs.Pool.{Place}
use Rattle.msi_pool.specs.FirstFit.{count_of}
use Rattle.msi_pool.specs.FirstFitLaws.{text_at, count_at, OthersStay, Takes, GivesBack}
use Rattle.msi_table_cells.proofs.StoredValuesLemmas.{once_same, once_other, by_number}

-- how often each number is named
abbrev pub Uses : Type 0
Uses = ℕ → ℕ

abbrev pub none : Uses
none n = 0

abbrev pub once : ℕ → Uses
once number n = if number == n then 1 else 0

infixl 65 ◌⊕◌
abbrev pub ◌⊕◌ : Uses → Uses → Uses
(f ⊕ g) n = f n + g n

-- the count of the place of a number; no place has the number 0
abbrev pub room : List Place → Uses
room places zero = 0
room places (suc i) = count_of (slice_get places i)

-- every place's count is at least the number of cells that name it; so 0 and numbers past the end are never named
abbrev pub Enough : List Place → Uses → Type 0
Enough places uses = (n : ℕ) → uses n ≤ room places n

-- Some cells were exchanged for others, beside cells that stayed: the counts changed with them, and the texts of the staying cells stayed.
pub record Moved (most : ℕ) (stay old new : Uses) (before after : List Place) : Type 0 where
  pub balance : (n : ℕ) → room after n + old n ≡ room before n + new n
  pub texts : (n : ℕ) → 0 < stay n → text_at after n ≡ text_at before n
  pub width : length before ≤ most → length after ≤ most

pub room_at : (places : List Place) (number : ℕ) → 0 < number → room places number ≡ count_at places number
room_at places zero h = absurd (omega (arith, h))
room_at places (suc i) h = let e : suc i - 1 ≡ i = omega arith in rw e

room_other : (number : ℕ) (before after : List Place) (n : ℕ) → OthersStay number before after → n ≢ number → room after n ≡ room before n
room_other number before after zero others e = refl
room_other number before after (suc i) others e = ap count_of (others i (omega (arith, e)))

text_other : (number : ℕ) (before after : List Place) (n : ℕ) → OthersStay number before after → 0 < n → n ≢ number → text_at after n ≡ text_at before n
text_other number before after zero others h e = absurd (omega (arith, h))
text_other number before after (suc i) others h e = let k : suc i - 1 ≡ i = omega arith in rw (k, others i (omega (arith, e)))

-- what is named has a place, so its number is not 0
pub named_pos : (places : List Place) (uses : Uses) (n : ℕ) → Enough places uses → 0 < uses n → 0 < n
named_pos places uses zero enough h = absurd (omega (arith, enough 0, h))
named_pos places uses (suc n) enough h = omega arith

-- A text that is taken: one cell more names its place, and no place in use changes its text.
module _ (most : ℕ) (stay : Uses) (text : List ℕ) (number : ℕ) (before after : List Place) (t : Takes text number before after) (enough : Enough before stay) where
  pub taken_text : text_at after number ≡ text
  taken_text = rw t.place

  taken_balance : (n : ℕ) → room after n + none n ≡ room before n + once number n
  taken_balance n = by_number n number
      (λ e. rw e (omega (arith, once_same number, room_at before number t.from_one, room_at after number t.from_one, ap count_of t.place)))
      (λ e. omega (arith, once_other number n e, room_other number before after n t.others e))

  taken_texts : (n : ℕ) → 0 < stay n → text_at after n ≡ text_at before n
  taken_texts n h = by_number n number
      (λ e. rw e (taken_text ∙ sym (t.kept (omega (arith, enough number, subst (λ m. 0 < stay m) e h, room_at before number t.from_one)))))
      (λ e. text_other number before after n t.others (named_pos before stay n enough h) e)

  pub taken_moved : (length before ≤ most → number ≤ most) → Moved most stay none (once number) before after
  taken_moved fits = record { balance = taken_balance; texts = taken_texts; width = λ h. omega (arith, t.many, h, fits h) }

-- A place that is given back: one cell less names it, and no place that is still in use changes its text.
module _ (most : ℕ) (stay : Uses) (number : ℕ) (before after : List Place) (t : GivesBack number before after) (enough : Enough before (stay ⊕ once number)) where
  back_pos : 0 < number
  back_pos = named_pos before (stay ⊕ once number) number enough (omega (arith, once_same number))

  back_balance : (n : ℕ) → room after n + once number n ≡ room before n + none n
  back_balance n = by_number n number
      (λ e. rw e (omega (arith, once_same number, room_at before number back_pos, room_at after number back_pos, t.count)))
      (λ e. omega (arith, once_other number n e, room_other number before after n t.others e))

  back_texts : (n : ℕ) → 0 < stay n → text_at after n ≡ text_at before n
  back_texts n h = by_number n number
      (λ e. rw e (t.kept (omega (arith, enough number, subst (λ m. 0 < stay m) e h, back_balance number, once_same number, room_at after number back_pos))))
      (λ e. text_other number before after n t.others (named_pos before (stay ⊕ once number) n enough (omega (arith, h))) e)

  pub back_moved : Moved most stay (once number) none before after
  back_moved = record { balance = back_balance; texts = back_texts; width = λ h. omega (arith, t.many, h) }

-- nothing moved
pub unmoved : (most : ℕ) (stay f : Uses) (places : List Place) → Moved most stay f f places places
unmoved most stay f places = record { balance = λ n. refl; texts = λ n h. refl; width = λ h. h }
