-- The values of a summary as they are counted, one after the other.
use Rattle.std.proofs.Common.{◌≡◌, ℕ, ◌+◌, ◌<◌, ◌≤◌, Bool, true, false, cond, eqb, List, [], ◌∷◌, ◌++◌, length, get_or, take, drop, Some, None, inl, inr, refl, sym, ap, subst, ◌∙◌, arith}
use Rattle.std.specs.Prelude.{◌⊎◌, ◌||◌}
use Rattle.std.specs.BTreeSet.{BTreeSet, Updates, contains}
use Rattle.std.specs.List.{AllByRecursion, AllZip, list_any}
use Rattle.std.specs.Ordering.{nat_cmp}
use Rattle.std.proofs.lemmas.Bool.{lt-ltb, le-ltb, or_parts, or_from}
use Rattle.std.proofs.lemmas.Bool.Decides.{nat_tests}
use Rattle.std.proofs.lemmas.List.{take_more, take-append-drop, drop_more}
use Rattle.msi_base.specs.declared.errors.ErrorKind.{ErrorKind}
use Rattle.msi_base.specs.declared.errors.ErrorKind.TheVariants as kind
use Rattle.msi_base.specs.Lists.{has_pair}
use Rattle.msi_base.proofs.ListLemmas.{no_pair_joined}
use Rattle.msi_base.proofs.OptionLemmas.{not_given}
use Rattle.msi_base.proofs.OrderingLemmas.{nat_equal}
use Rattle.msi_base.proofs.ReadFieldLemmas.{IsBytes}
use Rattle.msi_summary_properties.specs.declared.propset.PropertyValue.{PropertyValue}
use Rattle.msi_summary_properties.proofs.SpelledSetLemmas.{stands_drop}
use Rattle.msi_recode.specs.declared.page.TextPage.{TextPage}
use Rattle.msi_recode.specs.Errors.{of_property}
use Rattle.msi_recode.specs.SummaryReading.{CanBePut, IsCounted, IsEntryRead, IsNotCounted, value_in}
use Rattle.msi_recode.specs.SummaryRecoding.{AreTooLong, EntryStandsAt, IsFirstUnread, IsValuesError, SpellsValueIn, most_size, stream_size}
use Rattle.msi_recode.proofs.SizeLemmas.{section_behind}
use Rattle.msi_recode.proofs.SummaryLemmas.{entries_stand}
use Rattle.msi_recode.proofs.SummaryOnlyLemmas.{read_again}

-- a value that isn't read isn't spelled
not_spelled : (version : ℕ) (text_page : TextPage) (bytes : List ℕ) (section id place : ℕ) → value_in version text_page (drop (section + place) bytes) ≡ None
    → (value : PropertyValue) → EntryStandsAt version text_page bytes section (id, place) (id, value) → ⊥
not_spelled version text_page bytes section id place none value (same, fit, stands) =
    let b = stands_drop (section + place) bytes (λ s. SpellsValueIn version text_page s value) stands in
    not_given value (sym (ap (value_in version text_page) b.parts ∙ read_again version text_page b.spelled b.others value fit b.is) ∙ none)

-- ---- the ids so far

eqb_turned : (a b : ℕ) → eqb a b ≡ eqb b a
eqb_turned a b = grind (arith, nat_tests)

any_behind : (id q place : ℕ) (front : List (ℕ × ℕ)) → cond (eqb q id) true (list_any (λ p. eqb p.0 q) front) ≡ list_any (λ p. eqb p.0 q) (front ++ (id, place) ∷ [])
any_behind id q place [] = ap (λ (t : Bool). cond t true false) (eqb_turned q id) ∙ alone (eqb id q)
  where
    alone : (t : Bool) → cond t true false ≡ (t || false)
    alone true = refl
    alone false = refl
any_behind id q place (p ∷ front) = by_test (eqb q id) (eqb p.0 q) (list_any (λ r. eqb r.0 q) front) ∙ ap (λ (t : Bool). eqb p.0 q || t) (any_behind id q place front)
  where
    by_test : (a b c : Bool) → cond a true (b || c) ≡ (b || cond a true c)
    by_test true true c = refl
    by_test true false c = refl
    by_test false b c = refl

apart : (id place : ℕ) (front : List (ℕ × ℕ)) → list_any (λ p. eqb p.0 id) front ≡ false → AllByRecursion (λ (p : ℕ × ℕ). list_any (λ (q : ℕ × ℕ). eqb p.0 q.0) ((id, place) ∷ []) ≡ false) front
apart id place [] none = tt
apart id place (p ∷ front) none =
    let parts = or_parts (eqb p.0 id) (list_any (λ r. eqb r.0 id) front) none in
    (or_from (eqb p.0 id) false parts.0 refl, apart id place front parts.1)

-- ---- the loop

pub record AreCounted (version : ℕ) (text_page : TextPage) (bytes : List ℕ) (section : ℕ) (front : List (ℕ × ℕ)) (ids : BTreeSet ℕ) (size : ℕ) : Type 0 where
  pub entries : List (ℕ × PropertyValue)
  pub read : AllZip (IsEntryRead version text_page bytes section) front entries
  pub once : has_pair (λ p q. eqb p.0 q.0) front ≡ false
  pub listed : (id : ℕ) → contains nat_cmp ids id ≡ list_any (λ p. eqb p.0 id) front
  pub sized : size ≡ stream_size entries

pub counted_start : (version : ℕ) (text_page : TextPage) (bytes : List ℕ) (section : ℕ) (ids : BTreeSet ℕ) → ((id : ℕ) → contains nat_cmp ids id ≡ false) → AreCounted version text_page bytes section [] ids 56
counted_start version text_page bytes section ids none = record { entries = []; read = tt; once = refl; listed = none; sized = refl }

module _ (version : ℕ) (text_page : TextPage) (bytes : List ℕ) (section : ℕ) (pairs : List (ℕ × ℕ)) (i id place : ℕ) where
  zip_behind : (value : PropertyValue) (ps : List (ℕ × ℕ)) (es : List (ℕ × PropertyValue)) → value_in version text_page (drop (section + place) bytes) ≡ Some value
      → AllZip (IsEntryRead version text_page bytes section) ps es → AllZip (IsEntryRead version text_page bytes section) (ps ++ (id, place) ∷ []) (es ++ (id, value) ∷ [])
  zip_behind value [] [] read h = ((refl, read), tt)
  zip_behind value [] (e ∷ es) read h = absurd h
  zip_behind value (p ∷ ps) [] read h = absurd h
  zip_behind value (p ∷ ps) (e ∷ es) read (first, h) = (first, zip_behind value ps es read h)

  pub counted_next : (ids new : BTreeSet ℕ) (size len : ℕ) → AreCounted version text_page bytes section (take i pairs) ids size → i < length pairs → get_or pairs i (0, 0) ≡ (id, place)
      → IsCounted version text_page (drop (section + place) bytes) id len → contains nat_cmp ids id ≡ false → Updates nat_cmp ids new id true
      → AreCounted version text_page bytes section (take (i + 1) pairs) new (size + (8 + len))
  counted_next ids new size len c lt at (value, read, is) absent updated =
      let front = take i pairs in
      let more : take (i + 1) pairs ≡ front ++ (id, place) ∷ [] = take_more pairs i (0, 0) lt ∙ ap (λ (p : ℕ × ℕ). front ++ p ∷ []) at in
      let none : list_any (λ p. eqb p.0 id) front ≡ false = sym (c.listed id) ∙ absent in
      subst (λ (ps : List (ℕ × ℕ)). AreCounted version text_page bytes section ps new (size + (8 + len))) (sym more) (record {
        entries = c.entries ++ (id, value) ∷ [];
        read = zip_behind value front c.entries read c.read;
        once = no_pair_joined (λ (p q : ℕ × ℕ). eqb p.0 q.0) front ((id, place) ∷ []) c.once refl (apart id place front none);
        listed = λ q. updated.0 q ∙ ap (λ (t : Bool). cond t true (contains nat_cmp ids q)) (nat_equal q id) ∙ ap (cond (eqb q id) true) (c.listed q) ∙ any_behind id q place front;
        sized = let sum = section_behind c.entries id value in let before = c.sized in omega (arith, sum, before, is);
      })

  pub value_unread : (ids : BTreeSet ℕ) (size : ℕ) → IsBytes bytes → AreCounted version text_page bytes section (take i pairs) ids size → size ≤ most_size (length bytes) → i < length pairs → get_or pairs i (0, 0) ≡ (id, place)
      → IsNotCounted version text_page (drop (section + place) bytes) (contains nat_cmp ids id) → IsFirstUnread version text_page bytes section pairs id
  value_unread ids size fits c short lt at fails = record {
    front = take i pairs;
    place = place;
    behind = drop (i + 1) pairs;
    listed = sym (take-append-drop i pairs) ∙ ap (λ (x : List (ℕ × ℕ)). take i pairs ++ x) (drop_more pairs i (0, 0) lt ∙ ap (λ (p : ℕ × ℕ). p ∷ drop (i + 1) pairs) at);
    entries = c.entries;
    spelled = (entries_stand version text_page bytes section (take i pairs) c.entries fits c.read, c.once);
    short = le-ltb (most_size (length bytes)) (stream_size c.entries) (let sum = c.sized in omega (arith, sum, short));
    fails = by_reason fails;
  }
    where
      by_reason : (value_in version text_page (drop (section + place) bytes) ≡ None) ⊎ (contains nat_cmp ids id ≡ true)
          → ((value : PropertyValue) → EntryStandsAt version text_page bytes section (id, place) (id, value) → ⊥) ⊎ (list_any (λ p. eqb p.0 id) (take i pairs) ≡ true)
      by_reason (inl none) = inl (not_spelled version text_page bytes section id place none)
      by_reason (inr there) = inr (sym (c.listed id) ∙ there)

  pub value_error : (k : ErrorKind) → (k ≡ kind.InvalidData) ⊎ (k ≡ kind.OutOfMemory) → (k ≡ kind.InvalidData → IsFirstUnread version text_page bytes section pairs id)
      → IsValuesError version text_page bytes section pairs (of_property id k)
  value_error k (inl invalid) first =
      subst (λ (x : ErrorKind). IsValuesError version text_page bytes section pairs (of_property id x)) (sym invalid) (inr (inl (id, refl, first invalid)))
  value_error k (inr memory) first = subst (λ (x : ErrorKind). IsValuesError version text_page bytes section pairs (of_property id x)) (sym memory) (inl refl)

pub too_long : (version : ℕ) (text_page : TextPage) (bytes : List ℕ) (section : ℕ) (pairs : List (ℕ × ℕ)) (i size : ℕ) (ids : BTreeSet ℕ) → IsBytes bytes → AreCounted version text_page bytes section (take i pairs) ids size → most_size (length bytes) < size
    → AreTooLong version text_page bytes section pairs
too_long version text_page bytes section pairs i size ids fits c past = record {
  front = take i pairs;
  behind = drop i pairs;
  listed = sym (take-append-drop i pairs);
  entries = c.entries;
  spelled = (entries_stand version text_page bytes section (take i pairs) c.entries fits c.read, c.once);
  long = lt-ltb (most_size (length bytes)) (stream_size c.entries) (let sum = c.sized in omega (arith, sum, past));
}

pub counted_all : (version : ℕ) (text_page : TextPage) (bytes : List ℕ) (section : ℕ) (pairs front : List (ℕ × ℕ)) (ids : BTreeSet ℕ) (size : ℕ) → front ≡ pairs → AreCounted version text_page bytes section front ids size → size ≤ most_size (length bytes)
    → CanBePut version text_page bytes section pairs
counted_all version text_page bytes section pairs front ids size all c short = record {
  entries = c.entries;
  read = subst (λ (ps : List (ℕ × ℕ)). AllZip (IsEntryRead version text_page bytes section) ps c.entries) all c.read;
  once = ap (has_pair (λ p q. eqb p.0 q.0)) (sym all) ∙ c.once;
  short = le-ltb (most_size (length bytes)) (stream_size c.entries) (let sum = c.sized in omega (arith, sum, short));
}
