-- The lesser of the least free place and the least place of the text is the first fit.
use Rattle.std.proofs.Common.{◌≡◌, ℕ, suc, ◌<◌, ◌≤◌, Bool, true, false, ◌||◌, List, Option, Some, None, inl, inr, refl, sym, ap, ◌∙◌, ◌+◌, subst, length, is_some, Result, Ok, Err, IfOk, IfErr, OnOk, slice_get, nat_lt, if◌then◌else◌, arith, true≢false}
use Rattle.std.specs.Prelude.{slice_index_or, unwrap_or, ◌∷◌, []}
use Rattle.std.specs.List.{list_any, position_or_len}
use Rattle.std.proofs.lemmas.Bool.{cases_Bool, cases_lt, lt-ltb, le-ltb, or_from, or_left, or_right}
use Rattle.std.proofs.lemmas.Bool.Decides.{nat_tests}
use Rattle.std.proofs.lemmas.Grind.{common_steps}
use Rattle.std.proofs.lemmas.Option.{slice_get-get_or, slice_get_past, none-some, same_Some}
use Rattle.std.proofs.lemmas.List.Sums.{position_or_len_is}
use Rattle.msi_base.specs.declared.errors.ErrorKind.{ErrorKind}
use Rattle.msi_base.specs.declared.errors.ErrorKind.TheVariants.{OutOfMemory, InvalidInput}
use Rattle.msi_pool_places.specs.Pool.{Place}
use Rattle.msi_pool_places.specs.FirstFit.{is_fit, first_fit, taken, with_text_at, most_places}
use Rattle.msi_pool_places.proofs.CountLemmas.{taken_in_range}
use Rattle.msi_pool_places.proofs.TakenLemmas.{taken_takes}
use Rattle.msi_pool_places.specs.declared.texts.Entry.{Entry}
use Rattle.msi_pool_places.specs.PoolIndexes.{IsLeast, is_free, has_room_for, is_among, lesser, AreFree}
use Rattle.msi_pool_places.specs.TextIndexes.{is_entered, AreOpen}
use Rattle.msi_pool_places.proofs.FirstFitLemmas.{no_place, most_places-few}

fit_is : (text : List ℕ) (p : Place) → is_fit text p ≡ (is_free (Some p) || has_room_for text (Some p))
fit_is text p = grind (arith, nat_tests, common_steps)

pub lesser_least : (f g : ℕ → Bool) (a b : Option ℕ) → IsLeast f a → IsLeast g b → IsLeast (λ i. f i || g i) (lesser a b)
lesser_least f g None None h k = λ i. or_from (f i) (g i) (h i) (k i)
lesser_least f g None (Some j) h k = (or_right (f j) (g j) k.0, λ i less. or_from (f i) (g i) (h i) (k.1 i less))
lesser_least f g (Some i) None h k = (or_left (f i) (g i) h.0, λ n less. or_from (f n) (g n) (h.1 n less) (k n))
lesser_least f g (Some i) (Some j) h k = elim (cases_lt j i) [
  | inl less ↦ rw (lt-ltb j i less) (or_right (f j) (g j) k.0, λ n l. or_from (f n) (g n) (h.1 n (omega (arith, l, less))) (k.1 n l))
  | inr more ↦ rw (le-ltb j i more) (or_left (f i) (g i) h.0, λ n l. or_from (f n) (g n) (h.1 n l) (k.1 n (omega (arith, l, more))))
]

abbrev fits : List ℕ → List Place → ℕ → Bool
fits text places i = is_free (slice_get places i) || has_room_for text (slice_get places i)

fits_at : (text : List ℕ) (places : List Place) (i : ℕ) → i < length places → is_fit text (slice_index_or places i no_place) ≡ fits text places i
fits_at text places i inside = fit_is text (slice_index_or places i no_place) ∙ sym (ap (λ o. is_free o || has_room_for text o) (slice_get-get_or places i no_place inside))

-- the least place that passes the test is the first fit
first_fit_is : (text : List ℕ) (places : List Place) (i : ℕ) → i ≤ length places → ((k : ℕ) → k < i → fits text places k ≡ false)
    → (i < length places → fits text places i ≡ true) → first_fit text places ≡ i
first_fit_is text places i within below at =
    let is = position_or_len_is (is_fit text) places i no_place within
    (λ k less. fits_at text places k (omega (arith, less, within)) ∙ below k less)
    (λ less. fits_at text places i less ∙ at less) in
    rw is (elim (cases_lt i (length places)) [
      | inl less ↦ rw (lt-ltb i (length places) less) refl
      | inr more ↦ rw (le-ltb i (length places) more) (omega (arith, within, more))
    ])

fits_within : (text : List ℕ) (places : List Place) (i : ℕ) → fits text places i ≡ true → i < length places
fits_within text places i h = elim (cases_lt i (length places)) [
  | inl less ↦ less
  | inr past ↦ absurd (true≢false (sym h ∙ ap (λ o. is_free o || has_room_for text o) (slice_get_past places i past)))
]

pub record Found (text : List ℕ) (places : List Place) (i : ℕ) : Type 0 where
  pub fit : first_fit text places ≡ i
  pub inside : i < length places

abbrev Least : List ℕ → List Place → Option ℕ → Type 0
Least text places o = IsLeast (fits text places) o

found_at : (text : List ℕ) (places : List Place) (o : Option ℕ) (i : ℕ) → o ≡ Some i → Least text places o → Found text places i
found_at text places None i h least = absurd (none-some i h)
found_at text places (Some j) i h least = let is = same_Some j i h in
    let inside = fits_within text places j least.0 in
    subst (λ n. Found text places n) is (record { fit = first_fit_is text places j (omega (arith, inside)) least.1 (λ _. least.0); inside = inside })

found_none : (text : List ℕ) (places : List Place) (o : Option ℕ) → o ≡ None → Least text places o → first_fit text places ≡ length places
found_none text places None h least = first_fit_is text places (length places) (omega arith) (λ k less. least k) (λ less. absurd (omega (arith, less)))
found_none text places (Some j) h least = absurd (none-some j (sym h))

least_same : (f g : ℕ → Bool) (o : Option ℕ) → ((i : ℕ) → f i ≡ g i) → IsLeast f o → IsLeast g o
least_same f g None same h = λ i. sym (same i) ∙ h i
least_same f g (Some j) same h = (sym (same j) ∙ h.0, λ i less. sym (same i) ∙ h.1 i less)

both_least : (text start : List ℕ) (places : List Place) (free : List ℕ) (entries : List Entry) (a b : Option ℕ) → AreFree free places → AreOpen entries places → start ≡ text
    → IsLeast (is_among free) a → IsLeast (is_entered entries start) b → Least text places (lesser a b)
both_least text start places free entries a b are_free are_open same h k =
    lesser_least (λ i. is_free (slice_get places i)) (λ i. has_room_for text (slice_get places i)) a b
    (least_same (is_among free) _ a are_free h)
    (least_same (is_entered entries start) _ b (λ i. ap (λ t. is_entered entries t i) same ∙ are_open text i) k)

pub fit_some : (text start : List ℕ) (places : List Place) (free : List ℕ) (entries : List Entry) (a b o : Option ℕ) (i : ℕ) → AreFree free places → AreOpen entries places → start ≡ text
    → IsLeast (is_among free) a → IsLeast (is_entered entries start) b → o ≡ lesser a b → o ≡ Some i → Found text places i
fit_some text start places free entries a b o i are_free are_open same h k is at = found_at text places (lesser a b) i (sym is ∙ at) (both_least text start places free entries a b are_free are_open same h k)

pub fit_none : (text start : List ℕ) (places : List Place) (free : List ℕ) (entries : List Entry) (a b o : Option ℕ) → AreFree free places → AreOpen entries places → start ≡ text
    → IsLeast (is_among free) a → IsLeast (is_entered entries start) b → o ≡ lesser a b → o ≡ None → first_fit text places ≡ length places
fit_none text start places free entries a b o are_free are_open same h k is at = found_none text places (lesser a b) (sym is ∙ at) (both_least text start places free entries a b are_free are_open same h k)

taken_if : (long : Bool) (places : List Place) (text : List ℕ) (i : ℕ) → first_fit text places ≡ i → (nat_lt i (length places) || nat_lt i (most_places long)) ≡ true
    → taken long places text ≡ Some (i + 1, with_text_at places i text)
taken_if long places text i is room = rw (is, room) refl

-- taking at a place that there is
pub taken_found : (long : Bool) (places after : List Place) (text given : List ℕ) (i : ℕ) (r : Result ℕ ErrorKind) → Found text places i → given ≡ text
    → IfOk r (λ j. j ≡ i) → OnOk r (after ≡ with_text_at places i given) → IfOk r (λ j. taken long places text ≡ Some (j + 1, after))
taken_found long places after text given i (Ok j) f same at is = rw (at, is, same) (taken_if long places text i f.fit (ap (λ b. b || nat_lt i (most_places long)) (lt-ltb i (length places) f.inside)))
taken_found long places after text given i (Err e) f same at is = tt

pub found_room : (long : Bool) (places : List Place) (text : List ℕ) (i : ℕ) (r : Result ℕ ErrorKind) → Found text places i → IfErr r (λ e. e ≡ OutOfMemory)
    → IfErr r (λ e. e ≡ (if is_some (taken long places text) then OutOfMemory else InvalidInput))
found_room long places text i (Ok j) f h = tt
found_room long places text i (Err e) f h = rw (taken_if long places text i f.fit (ap (λ b. b || nat_lt i (most_places long)) (lt-ltb i (length places) f.inside))) h

-- taking at a new place
pub taken_last : (long : Bool) (places after : List Place) (text given : List ℕ) (r : Result ℕ ErrorKind) → first_fit text places ≡ length places → given ≡ text
    → OnOk r (length places < most_places long) → IfOk r (λ j. j ≡ length places) → OnOk r (after ≡ with_text_at places (length places) given)
    → IfOk r (λ j. taken long places text ≡ Some (j + 1, after))
taken_last long places after text given (Ok j) f same room at is = rw (at, is, same) (taken_if long places text (length places) f (or_right _ _ (lt-ltb (length places) (most_places long) room)))
taken_last long places after text given (Err e) f same room at is = tt

pub last_room : (long : Bool) (places : List Place) (text : List ℕ) (r : Result ℕ ErrorKind) → first_fit text places ≡ length places
    → IfErr r (λ e. e ≡ (if nat_lt (length places) (most_places long) then OutOfMemory else InvalidInput))
    → IfErr r (λ e. e ≡ (if is_some (taken long places text) then OutOfMemory else InvalidInput))
last_room long places text (Ok j) f h = tt
last_room long places text (Err e) f h = h ∙ sym (ap (λ b. if b then OutOfMemory else InvalidInput) (rw f (last_is (length places) (most_places long) (with_text_at places (length places) text))))
  where
    last_is : (n m : ℕ) (after : List Place) → is_some {T = ℕ × List Place} (if nat_lt n n || nat_lt n m then Some (n + 1, after) else None) ≡ nat_lt n m
    last_is n m after = rw (le-ltb n n (omega arith)) (elim (cases_Bool (nat_lt n m)) [
      | inl less ↦ rw less refl
      | inr more ↦ rw more refl
    ])

-- there are never more places than long references can name
pub taken_most : (long : Bool) (before after : List Place) (text : List ℕ) (number : ℕ) → taken long before text ≡ Some (number, after)
    → length before ≤ 16777215 → length after ≤ 16777215
taken_most long before after text number is few =
    let many = (taken_takes long before after text number is).many in
    let range = (taken_in_range long before after text number is).0 in
    omega (arith, many, range, most_places-few long, few)

-- a place fits where the first that does is none past the end
lt_after : (n m : ℕ) → nat_lt (1 + n) (suc m) ≡ nat_lt n m
lt_after n m = elim (cases_lt n m) [
  | inl less ↦ lt-ltb (1 + n) (suc m) (omega (arith, less)) ∙ sym (lt-ltb n m less)
  | inr more ↦ le-ltb (1 + n) (suc m) (omega (arith, more)) ∙ sym (le-ltb n m more)
]

any_before_end : (f : Place → Bool) (places : List Place) → nat_lt (position_or_len f places) (length places) ≡ list_any f places
any_before_end f [] = refl
any_before_end f (p ∷ ps) = elim (cases_Bool (f p)) [
  | inl fits_here ↦ rw fits_here (lt-ltb 0 (suc (length ps)) (omega arith))
  | inr other ↦ rw other (lt_after (position_or_len f ps) (length ps) ∙ any_before_end f ps)
]

chosen : (b : Bool) (k n : ℕ) → nat_lt k n ≡ b → nat_lt (unwrap_or (if b then Some k else None) n) n ≡ b
chosen true k n h = h
chosen false k n h = le-ltb n n (omega arith)

first_fit_before : (text : List ℕ) (places : List Place) → nat_lt (first_fit text places) (length places) ≡ list_any (is_fit text) places
first_fit_before text places = chosen (nat_lt (position_or_len (is_fit text) places) (length places)) (position_or_len (is_fit text) places) (length places) refl
    ∙ any_before_end (is_fit text) places

none_if : (i len most : ℕ) (after : List Place) → nat_lt i len ≡ false → nat_lt i most ≡ false
    → is_some {T = ℕ × List Place} (if nat_lt i len || nat_lt i most then Some (i + 1, after) else None) ≡ false
none_if i len most after a b = rw (a, b) refl

-- where no place may be added, there is one for a text where one fits
pub room_past : (long : Bool) (places : List Place) (text : List ℕ) → most_places long ≤ length places
    → list_any (is_fit text) places ≡ is_some (taken long places text)
room_past long places text full =
    let i = first_fit text places in
    sym (first_fit_before text places) ∙ elim (cases_lt i (length places)) [
      | inl less ↦ lt-ltb i (length places) less
          ∙ sym (ap is_some (taken_if long places text i refl (ap (λ b. b || nat_lt i (most_places long)) (lt-ltb i (length places) less))))
      | inr more ↦ le-ltb i (length places) more
          ∙ sym (none_if i (length places) (most_places long) (with_text_at places i text) (le-ltb i (length places) more) (le-ltb i (most_places long) (omega (arith, more, full))))
    ]
