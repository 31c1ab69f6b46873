-- What a summary's stream has is read: where a value isn't put, the pairs can't be.
use Rattle.std.proofs.Common.{◌≡◌, ℕ, zero, suc, ◌+◌, ◌<◌, Bool, true, false, cond, eqb, List, [], ◌∷◌, ◌++◌, length, get_or, take, drop, Option, Some, None, inl, inr, refl, sym, ap, subst, ◌∙◌, arith}
use Rattle.std.specs.Prelude.{◌⊎◌, ◌||◌, is_some, option_map, unwrap_or}
use Rattle.std.specs.List.{AllZip, list_any}
use Rattle.std.proofs.lemmas.Bool.{cases_Bool, or_left, or_right}
use Rattle.msi_base.specs.declared.codepage.CodePage.TheVariants as page
use Rattle.msi_base.specs.Lists.{entry_where, has_pair}
use Rattle.msi_base.specs.Pages as pages
use Rattle.msi_base.proofs.OptionLemmas.{not_given}
use Rattle.msi_summary_properties.specs.declared.propset.PropertyValue.{PropertyValue}
use Rattle.msi_summary_properties.specs.declared.propset.PropertyValue.TheVariants.{Empty, Null, I1, I2, I4, LpStr, FileTime}
use Rattle.msi_summary_properties.specs.Properties.{Properties, value_with_id}
use Rattle.msi_summary_properties.specs.PropertyStream.{FitsValue}
use Rattle.msi_summary_properties.specs.Reading.{value_at}
use Rattle.msi_summary_properties.proofs.SpelledSetLemmas.{stands_drop}
use Rattle.msi_summary_properties.proofs.ValueLemmas.{Begins, value_again}
use Rattle.msi_recode.specs.declared.page.TextPage.{TextPage}
use Rattle.msi_recode.specs.TextPages.{text_in}
use Rattle.msi_recode.specs.SummaryRecoding.{SpellsString, SpellsValueIn, EntryStandsAt, in_utf8, page_named}
use Rattle.msi_recode.specs.SummaryReading.{piece_at, in_page, value_in, IsEntryRead, ArePut, CannotBePut}
use Rattle.msi_recode.specs.SummaryRecoding.{page_stated}
use Rattle.msi_recode.proofs.SummaryLemmas.{piece_again}

-- ---- a value

in_made : (version : ℕ) (text_page : TextPage) (bytes : List ℕ) (v w : PropertyValue) → value_at version page.Utf8 bytes ≡ Some v → in_page text_page bytes v ≡ Some w → value_in version text_page bytes ≡ Some w
unfolding value_in
in_made version text_page bytes v w at is = rw at is

text_made : (text_page : TextPage) (bytes piece old text : List ℕ) → piece_at bytes ≡ Some piece → text_in text_page piece ≡ Some text → in_page text_page bytes (LpStr old) ≡ Some (LpStr text)
text_made text_page bytes piece old text found reads = rw (found, reads) refl

text_again : (version : ℕ) (text_page : TextPage) (spelled others text : List ℕ) → SpellsString text_page spelled text → value_in version text_page (spelled ++ others) ≡ Some (LpStr text)
text_again version text_page spelled others text (inl (encoded, small, reads, is)) =
    let old = unwrap_or (pages.text_in page.Utf8 encoded) [] in
    let at = value_again version page.Utf8 spelled others (LpStr old) tt (inl (encoded, small, refl, is)) in
    let piece = piece_again (length encoded + 1) (spelled ++ others) encoded others small (omega arith) (ap (λ (x : List ℕ). x ++ others) is) in
    in_made version text_page (spelled ++ others) (LpStr old) (LpStr text) at (text_made text_page (spelled ++ others) encoded old text piece reads)
text_again version text_page spelled others text (inr (reads, is)) =
    let old = unwrap_or (pages.text_in page.Utf8 []) [] in
    let at = value_again version page.Utf8 spelled others (LpStr old) tt (inr (refl, is)) in
    let piece = piece_again 0 (spelled ++ others) [] others (omega arith) refl (ap (λ (x : List ℕ). x ++ others) is) in
    in_made version text_page (spelled ++ others) (LpStr old) (LpStr text) at (text_made text_page (spelled ++ others) [] old text piece reads)

pub read_again : (version : ℕ) (text_page : TextPage) (spelled others : List ℕ) (v : PropertyValue) → FitsValue v → SpellsValueIn version text_page spelled v → value_in version text_page (spelled ++ others) ≡ Some v
read_again version text_page spelled others Empty fit is = in_made version text_page (spelled ++ others) Empty Empty (value_again version page.Utf8 spelled others Empty fit is) refl
read_again version text_page spelled others Null fit is = in_made version text_page (spelled ++ others) Null Null (value_again version page.Utf8 spelled others Null fit is) refl
read_again version text_page spelled others (I1 n) fit is = in_made version text_page (spelled ++ others) (I1 n) (I1 n) (value_again version page.Utf8 spelled others (I1 n) fit is) refl
read_again version text_page spelled others (I2 n) fit is = in_made version text_page (spelled ++ others) (I2 n) (I2 n) (value_again version page.Utf8 spelled others (I2 n) fit is) refl
read_again version text_page spelled others (I4 n) fit is = in_made version text_page (spelled ++ others) (I4 n) (I4 n) (value_again version page.Utf8 spelled others (I4 n) fit is) refl
read_again version text_page spelled others (LpStr text) fit is = text_again version text_page spelled others text is
read_again version text_page spelled others (FileTime n) fit is = in_made version text_page (spelled ++ others) (FileTime n) (FileTime n) (value_again version page.Utf8 spelled others (FileTime n) fit is) refl

pub entries_read : (version : ℕ) (text_page : TextPage) (bytes : List ℕ) (section : ℕ) (pairs : List (ℕ × ℕ)) (entries : List (ℕ × PropertyValue))
    → AllZip (EntryStandsAt version text_page bytes section) pairs entries → AllZip (IsEntryRead version text_page bytes section) pairs entries
entries_read version text_page bytes section [] [] h = tt
entries_read version text_page bytes section [] (e ∷ entries) h = absurd h
entries_read version text_page bytes section (p ∷ pairs) [] h = absurd h
entries_read version text_page bytes section (p ∷ pairs) (e ∷ entries) ((id, fit, stands), more) =
    let b = stands_drop (section + p.1) bytes (λ s. SpellsValueIn version text_page s e.1) stands in
    ((id, ap (value_in version text_page) b.parts ∙ read_again version text_page b.spelled b.others e.1 fit b.is), entries_read version text_page bytes section pairs entries more)

-- ---- the page

-- a value that names a page is a number, which reads alike in each page
number_read : (hint : Option TextPage) (version : ℕ) (text_page : TextPage) (bytes : List ℕ) (section place : ℕ) (v : PropertyValue) → FitsValue v → Begins (drop (section + place) bytes) (λ s. SpellsValueIn version text_page s v)
    → page_named hint (Some v) ≡ Some text_page → page_stated hint version bytes section (Some place) ≡ Some text_page
number_read hint version text_page bytes section place Empty fit b h = absurd cc
number_read hint version text_page bytes section place Null fit b h = absurd cc
number_read hint version text_page bytes section place (I1 n) fit b h = absurd cc
number_read hint version text_page bytes section place (I2 n) fit b h =
    let at : value_at version page.Utf8 (drop (section + place) bytes) ≡ Some (I2 n) = ap (value_at version page.Utf8) b.parts ∙ value_again version page.Utf8 b.spelled b.others (I2 n) fit b.is in
    rw at h
number_read hint version text_page bytes section place (I4 n) fit b h = absurd cc
number_read hint version text_page bytes section place (LpStr text) fit b h = absurd cc
number_read hint version text_page bytes section place (FileTime n) fit b h = absurd cc

pub page_again : (hint : Option TextPage) (version : ℕ) (text_page : TextPage) (bytes : List ℕ) (section : ℕ) (pairs : List (ℕ × ℕ)) (entries : List (ℕ × PropertyValue)) → AllZip (EntryStandsAt version text_page bytes section) pairs entries
    → page_named hint (entry_where (λ k. eqb k 1) entries) ≡ Some text_page → page_stated hint version bytes section (entry_where (λ k. eqb k 1) pairs) ≡ Some text_page
page_again hint version text_page bytes section [] [] all h = h
page_again hint version text_page bytes section [] (e ∷ entries) all h = absurd all
page_again hint version text_page bytes section (p ∷ pairs) [] all h = absurd all
page_again hint version text_page bytes section (p ∷ pairs) (e ∷ entries) ((id, fit, stands), more) h =
    let b = stands_drop (section + p.1) bytes (λ s. SpellsValueIn version text_page s e.1) stands in
    by_first (eqb p.0 1) b fit (page_again hint version text_page bytes section pairs entries more)
    (subst (λ (n : ℕ). page_named hint (cond (eqb n 1) (Some e.1) (entry_where (λ k. eqb k 1) entries)) ≡ Some text_page) id h)
  where
    by_first : (t : Bool) → Begins (drop (section + p.1) bytes) (λ s. SpellsValueIn version text_page s e.1) → FitsValue e.1
        → (page_named hint (entry_where (λ k. eqb k 1) entries) ≡ Some text_page → page_stated hint version bytes section (entry_where (λ k. eqb k 1) pairs) ≡ Some text_page)
        → page_named hint (cond t (Some e.1) (entry_where (λ k. eqb k 1) entries)) ≡ Some text_page → page_stated hint version bytes section (cond t (Some p.1) (entry_where (λ k. eqb k 1) pairs)) ≡ Some text_page
    by_first true b fit later h = number_read hint version text_page bytes section p.1 e.1 fit b h
    by_first false b fit later h = later h

-- ---- where a value isn't put

absent_some : {Y : Type 0} {P : Type 0} (o : Option Y) (y : Y) → o ≡ None → o ≡ Some y → P
absent_some o y none some = absurd (not_given y (sym some ∙ none))

read_at : (version : ℕ) (text_page : TextPage) (bytes : List ℕ) (section i : ℕ) (pairs : List (ℕ × ℕ)) (entries : List (ℕ × PropertyValue)) (pair : ℕ × ℕ) → AllZip (IsEntryRead version text_page bytes section) pairs entries → i < length pairs → get_or pairs i (0, 0) ≡ pair
    → (v : PropertyValue) × (value_in version text_page (drop (section + pair.1) bytes) ≡ Some v)
read_at version text_page bytes section i [] entries pair all lt is = absurd (omega (arith, lt))
read_at version text_page bytes section i (p ∷ pairs) [] pair all lt is = absurd all
read_at version text_page bytes section zero (p ∷ pairs) (e ∷ entries) pair ((id, read), more) lt is = (e.1, ap (λ (x : ℕ × ℕ). value_in version text_page (drop (section + x.1) bytes)) (sym is) ∙ read)
read_at version text_page bytes section (suc i) (p ∷ pairs) (e ∷ entries) pair ((id, read), more) lt is = read_at version text_page bytes section i pairs entries pair more (omega (arith, lt)) is

any_there : (id i : ℕ) (pairs : List (ℕ × ℕ)) (pair : ℕ × ℕ) → i < length pairs → get_or pairs i (0, 0) ≡ pair → eqb id pair.0 ≡ true → list_any (λ q. eqb id q.0) pairs ≡ true
any_there id i [] pair lt is same = absurd (omega (arith, lt))
any_there id zero (p ∷ pairs) pair lt is same = or_left (eqb id p.0) (list_any (λ q. eqb id q.0) pairs) (ap (λ (x : ℕ × ℕ). eqb id x.0) is ∙ same)
any_there id (suc i) (p ∷ pairs) pair lt is same = or_right (eqb id p.0) (list_any (λ q. eqb id q.0) pairs) (any_there id i pairs pair (omega (arith, lt)) is same)

listed_twice : (i : ℕ) (pairs : List (ℕ × ℕ)) (pair : ℕ × ℕ) → i < length pairs → get_or pairs i (0, 0) ≡ pair → list_any (λ p. eqb p.0 pair.0) (take i pairs) ≡ true → has_pair (λ p q. eqb p.0 q.0) pairs ≡ true
listed_twice i [] pair lt is any = absurd (omega (arith, lt))
listed_twice zero (p ∷ pairs) pair lt is any = absurd cc
listed_twice (suc i) (p ∷ pairs) pair lt is any = elim (cases_Bool (eqb p.0 pair.0)) [
  | inl same ↦ or_left (list_any (λ q. eqb p.0 q.0) pairs) (has_pair (λ p q. eqb p.0 q.0) pairs) (any_there p.0 i pairs pair (omega (arith, lt)) is same)
  | inr other ↦ or_right (list_any (λ q. eqb p.0 q.0) pairs) (has_pair (λ p q. eqb p.0 q.0) pairs) (listed_twice i pairs pair (omega (arith, lt)) is (sym (ap (λ (t : Bool). t || list_any (λ q. eqb q.0 pair.0) (take i pairs)) other) ∙ any))
]

pub there_listed : (version : ℕ) (text_page : TextPage) (bytes : List ℕ) (section id : ℕ) (pairs : List (ℕ × ℕ)) (entries : List (ℕ × PropertyValue)) → AllZip (IsEntryRead version text_page bytes section) pairs entries
    → is_some (entry_where (λ k. eqb k id) entries) ≡ true → list_any (λ p. eqb p.0 id) pairs ≡ true
there_listed version text_page bytes section id [] [] all h = absurd cc
there_listed version text_page bytes section id [] (e ∷ entries) all h = absurd all
there_listed version text_page bytes section id (p ∷ pairs) [] all h = absurd all
there_listed version text_page bytes section id (p ∷ pairs) (e ∷ entries) ((same, read), more) h =
    subst (λ (n : ℕ). (eqb n id || list_any (λ p. eqb p.0 id) pairs) ≡ true) same
    (by_test (eqb e.0 id) (there_listed version text_page bytes section id pairs entries more) h)
  where
    by_test : (t : Bool) → (is_some (entry_where (λ k. eqb k id) entries) ≡ true → list_any (λ p. eqb p.0 id) pairs ≡ true) → is_some (cond t (Some e.1) (entry_where (λ k. eqb k id) entries)) ≡ true → (t || list_any (λ p. eqb p.0 id) pairs) ≡ true
    by_test true later h = refl
    by_test false later h = later h

pub mapped_some : {X : Type 0} (f : X → X) (o : Option X) → is_some (option_map f o) ≡ is_some o
mapped_some f None = refl
mapped_some f (Some x) = refl

pub values_fail : (version : ℕ) (text_page : TextPage) (bytes : List ℕ) (section : ℕ) (pairs : List (ℕ × ℕ)) (i id place : ℕ) (before mid : Properties) → ArePut version text_page bytes section (take i pairs) before mid → i < length pairs → get_or pairs i (0, 0) ≡ (id, place)
    → (value_in version text_page (drop (section + place) bytes) ≡ None) ⊎ (is_some (value_with_id id mid.values) ≡ true) → CannotBePut version text_page bytes section pairs
values_fail version text_page bytes section pairs i id place before mid w lt is (inl none) entries all =
    let r = read_at version text_page bytes section i pairs entries (id, place) all lt is in
    absent_some (value_in version text_page (drop (section + place) bytes)) r.0 none r.1
values_fail version text_page bytes section pairs i id place before mid w lt is (inr there) entries all =
    let listed : is_some (entry_where (λ k. eqb k id) w.entries) ≡ true = sym (mapped_some (in_utf8 id) (entry_where (λ k. eqb k id) w.entries)) ∙ ap is_some (sym (w.values id)) ∙ there in
    listed_twice i pairs (id, place) lt is (there_listed version text_page bytes section id (take i pairs) w.entries w.read listed)
