-- Bytes have at most one summary.
use Rattle.std.proofs.Common.{◌≡◌, ℕ, ◌<◌, Bool, cond, eqb, ltb, List, [], ◌∷◌, ◌++◌, drop, Option, Some, None, inl, inr, refl, sym, ap, subst, ◌∙◌, arith}
use Rattle.std.specs.Prelude.{option_map}
use Rattle.std.specs.List.{AllZip, AllByRecursion}
use Rattle.std.proofs.lemmas.Bool.{cases_eq, cases_Bool, eq-eqb, ne_eqb, ltb-true, ltb-false}
use Rattle.msi_base.specs.Lists.{entry_where}
use Rattle.msi_base.proofs.ListLemmas.{all_weaker}
use Rattle.msi_base.proofs.OptionLemmas.{not_given, some_is}
use Rattle.msi_summary_properties.specs.declared.propset.PropertyValue.{PropertyValue}
use Rattle.msi_summary_properties.specs.declared.propset.OperatingSystem.{OperatingSystem}
use Rattle.msi_summary_properties.specs.Properties.{Properties, value_with_id}
use Rattle.msi_summary_properties.specs.PropertyLaws.{Ascending}
use Rattle.msi_summary_properties.specs.PropertyStream.{header_bytes, section_head}
use Rattle.msi_summary_properties.specs.Reading.{Header, header_at, section_at}
use Rattle.msi_summary_properties.proofs.HeaderLemmas.{IsHeader, header_again, section_again}
use Rattle.msi_summary_properties.proofs.SpelledSetLemmas.{stands_drop}
use Rattle.msi_recode.specs.declared.page.TextPage.{TextPage}
use Rattle.msi_recode.specs.RecodingLaws.{OneSummary}
use Rattle.msi_recode.specs.SummaryReading.{IsEntryRead}
use Rattle.msi_recode.specs.SummaryRecoding.{page_stated}
use Rattle.msi_recode.specs.SummaryRecoding.{IsSummary, in_utf8}
use Rattle.msi_recode.proofs.SummaryOnlyLemmas.{entries_read, page_again}

-- ---- lists whose keys ascend are one where each look-up gives the same

none_above : {X : Type 0} (id : ℕ) (es : List (ℕ × X)) → AllByRecursion (λ e. id < e.0) es → entry_where (λ k. eqb k id) es ≡ None
none_above id [] all = refl
none_above id (e ∷ es) (lt, more) =
    ap (λ (t : Bool). cond t (Some e.1) (entry_where (λ k. eqb k id) es)) (ne_eqb e.0 id (λ same. omega (arith, same, lt))) ∙ none_above id es more

first_found : {X : Type 0} (e : ℕ × X) (es : List (ℕ × X)) → entry_where (λ k. eqb k e.0) (e ∷ es) ≡ Some e.1
first_found e es = ap (λ (t : Bool). cond t (Some e.1) (entry_where (λ k. eqb k e.0) es)) (eq-eqb e.0 e.0 refl)

other_found : {X : Type 0} (id : ℕ) (e : ℕ × X) (es : List (ℕ × X)) → (e.0 ≡ id → ⊥) → entry_where (λ k. eqb k id) (e ∷ es) ≡ entry_where (λ k. eqb k id) es
other_found id e es other = ap (λ (t : Bool). cond t (Some e.1) (entry_where (λ k. eqb k id) es)) (ne_eqb e.0 id other)

-- a key below all of the other list isn't found there
below_all : {X : Type 0} {P : Type 0} (e f : ℕ × X) (es fs : List (ℕ × X)) → e.0 < f.0 → AllByRecursion (λ g. f.0 < g.0) fs
    → entry_where (λ k. eqb k e.0) (e ∷ es) ≡ entry_where (λ k. eqb k e.0) (f ∷ fs) → P
below_all e f es fs lt above same =
    let none = none_above e.0 (f ∷ fs) (lt, all_weaker (λ g. f.0 < g.0) (λ g. e.0 < g.0) fs (λ g h. omega (arith, lt, h)) above) in
    absurd (not_given e.1 (sym (first_found e es) ∙ same ∙ none))

same_pair : {X : Type 0} (x y : ℕ × X) → x.0 ≡ y.0 → x.1 ≡ y.1 → x ≡ y
same_pair x y p q = λ i. (p i, q i)

-- without their first keys, which are one, the lists give the same, too
later_same : {X : Type 0} (e f : ℕ × X) (es fs : List (ℕ × X)) → e.0 ≡ f.0 → AllByRecursion (λ g. e.0 < g.0) es → AllByRecursion (λ g. f.0 < g.0) fs
    → ((id : ℕ) → entry_where (λ k. eqb k id) (e ∷ es) ≡ entry_where (λ k. eqb k id) (f ∷ fs)) → (id : ℕ) → entry_where (λ k. eqb k id) es ≡ entry_where (λ k. eqb k id) fs
later_same e f es fs key above beyond same id = elim (cases_eq e.0 id) [
  | inl this ↦ none_above id es (subst (λ (n : ℕ). AllByRecursion (λ g. n < g.0) es) this above) ∙ sym (none_above id fs (subst (λ (n : ℕ). AllByRecursion (λ g. n < g.0) fs) (sym key ∙ this) beyond))
  | inr other ↦ sym (other_found id e es other) ∙ same id ∙ other_found id f fs (λ is. other (key ∙ is))
]

pub same_lookups : {X : Type 0} (es fs : List (ℕ × X)) → Ascending es → Ascending fs → ((id : ℕ) → entry_where (λ k. eqb k id) es ≡ entry_where (λ k. eqb k id) fs) → es ≡ fs
same_lookups [] [] a b same = refl
same_lookups [] (f ∷ fs) a b same = absurd (not_given f.1 (sym (first_found f fs) ∙ sym (same f.0)))
same_lookups (e ∷ es) [] a b same = absurd (not_given e.1 (sym (first_found e es) ∙ same e.0))
same_lookups (e ∷ es) (f ∷ fs) a b same = elim (cases_eq e.0 f.0) [
  | inl key ↦
      let there : Some e.1 ≡ Some f.1 = sym (first_found e es) ∙ same e.0 ∙ ap (λ (n : ℕ). entry_where (λ k. eqb k n) (f ∷ fs)) key ∙ first_found f fs in
      let first : e ≡ f = same_pair e f key (some_is e.1 f.1 there) in
      ap (λ x. x ∷ es) first ∙ ap (λ xs. f ∷ xs) (same_lookups es fs a.1 b.1 (later_same e f es fs key a.0 b.0 same))
  | inr other ↦ elim (cases_Bool (ltb e.0 f.0)) [
    | inl lt ↦ below_all e f es fs (ltb-true e.0 f.0 lt) b.0 (same e.0)
    | inr ge ↦ below_all f e fs es (omega (arith, other, ltb-false e.0 f.0 ge)) a.0 (sym (same f.0))
  ]
]

-- ---- what is read of bytes is one

pub one_entries : (version : ℕ) (page : TextPage) (bytes : List ℕ) (section : ℕ) (pairs : List (ℕ × ℕ)) (xs ys : List (ℕ × PropertyValue))
    → AllZip (IsEntryRead version page bytes section) pairs xs → AllZip (IsEntryRead version page bytes section) pairs ys → xs ≡ ys
one_entries version page bytes section [] [] [] h k = refl
one_entries version page bytes section [] [] (y ∷ ys) h k = absurd k
one_entries version page bytes section [] (x ∷ xs) ys h k = absurd h
one_entries version page bytes section (p ∷ pairs) [] ys h k = absurd h
one_entries version page bytes section (p ∷ pairs) (x ∷ xs) [] h k = absurd k
one_entries version page bytes section (p ∷ pairs) (x ∷ xs) (y ∷ ys) ((id, read), more) ((key, found), later) =
    let first : x ≡ y = same_pair x y (id ∙ sym key) (some_is x.1 y.1 (sym read ∙ found)) in
    ap (λ (z : ℕ × PropertyValue). z ∷ xs) first ∙ ap (λ (zs : List (ℕ × PropertyValue)). y ∷ zs) (one_entries version page bytes section pairs xs ys more later)

header_with : Properties → ℕ → ℕ → ℕ → Header
header_with set version reserved section = record { version = version; os_version = set.os_version; os = set.os; clsid = set.clsid; reserved = reserved; format_identifier = set.format_identifier; section = section }

header_read : (hint : Option TextPage) (bytes : List ℕ) (set : Properties) (s : IsSummary hint bytes set) → header_at bytes ≡ Some (header_with set s.version s.reserved s.section)
unfolding header_with
header_read hint bytes set s =
    let h = header_with set s.version s.reserved s.section in
    let is : IsHeader h = record { version = s.fits.0; os_version = s.held.0; clsid = s.held.1; some = s.fits.1; reserved = s.fits.2; format = s.held.2; section = s.fits.3 } in
    let top = stands_drop 0 bytes (λ front. front ≡ header_bytes set s.version s.reserved s.section) s.header in
    ap header_at (top.parts ∙ ap (λ (x : List ℕ). x ++ top.others) top.is) ∙ header_again h top.others is

pairs_read : (hint : Option TextPage) (bytes : List ℕ) (set : Properties) (s : IsSummary hint bytes set) → section_at (drop s.section bytes) ≡ Some s.pairs
pairs_read hint bytes set s =
    let low = stands_drop s.section bytes (λ front. front ≡ section_head s.size s.pairs) s.head in
    ap section_at (low.parts ∙ ap (λ (x : List ℕ). x ++ low.others) low.is) ∙ section_again s.size s.pairs low.others s.fits.4 s.fits.5 s.fits.6

-- where two summaries of the bytes have their header, pairs and page alike, their entries are one
record AreAlike (hint : Option TextPage) (bytes : List ℕ) (a b : Properties) (s : IsSummary hint bytes a) (t : IsSummary hint bytes b) : Type 0 where
  version : s.version ≡ t.version
  section : s.section ≡ t.section
  pairs : s.pairs ≡ t.pairs
  os : a.os ≡ b.os
  os_version : a.os_version ≡ b.os_version
  clsid : a.clsid ≡ b.clsid
  format : a.format_identifier ≡ b.format_identifier

heads_alike : (hint : Option TextPage) (bytes : List ℕ) (a b : Properties) (s : IsSummary hint bytes a) (t : IsSummary hint bytes b) → AreAlike hint bytes a b s t
unfolding header_with
heads_alike hint bytes a b s t =
    let same : header_with a s.version s.reserved s.section ≡ header_with b t.version t.reserved t.section =
    some_is (header_with a s.version s.reserved s.section) (header_with b t.version t.reserved t.section) (sym (header_read hint bytes a s) ∙ header_read hint bytes b t) in
    let section : s.section ≡ t.section = ap (λ (h : Header). h.section) same in record {
      version = ap (λ (h : Header). h.version) same;
      section = section;
      pairs = some_is s.pairs t.pairs (sym (pairs_read hint bytes a s) ∙ ap (λ (n : ℕ). section_at (drop n bytes)) section ∙ pairs_read hint bytes b t);
      os = ap (λ (h : Header). h.os) same;
      os_version = ap (λ (h : Header). h.os_version) same;
      clsid = ap (λ (h : Header). h.clsid) same;
      format = ap (λ (h : Header). h.format_identifier) same;
    }

stated : Option TextPage → List ℕ → ℕ → ℕ → List (ℕ × ℕ) → Option TextPage
stated hint bytes version section pairs = page_stated hint version bytes section (entry_where (λ k. eqb k 1) pairs)

page_is : (hint : Option TextPage) (bytes : List ℕ) (set : Properties) (s : IsSummary hint bytes set) → stated hint bytes s.version s.section s.pairs ≡ Some s.page
unfolding stated
page_is hint bytes set s = page_again hint s.version s.page bytes s.section s.pairs s.entries s.spelled s.named

same_page : (hint : Option TextPage) (bytes : List ℕ) (a b : Properties) (s : IsSummary hint bytes a) (t : IsSummary hint bytes b) → AreAlike hint bytes a b s t → s.page ≡ t.page
same_page hint bytes a b s t r =
    let same = ap (λ (n : ℕ). stated hint bytes n s.section s.pairs) r.version ∙ ap (λ (n : ℕ). stated hint bytes t.version n s.pairs) r.section ∙ ap (stated hint bytes t.version t.section) r.pairs in
    some_is s.page t.page (sym (page_is hint bytes a s) ∙ same ∙ page_is hint bytes b t)

same_entries : (hint : Option TextPage) (bytes : List ℕ) (a b : Properties) (s : IsSummary hint bytes a) (t : IsSummary hint bytes b) → AreAlike hint bytes a b s t → s.entries ≡ t.entries
same_entries hint bytes a b s t r =
    let read = entries_read s.version s.page bytes s.section s.pairs s.entries s.spelled in
    let first = subst (λ (n : ℕ). AllZip (IsEntryRead n s.page bytes s.section) s.pairs s.entries) r.version read in
    let second = subst (λ (n : ℕ). AllZip (IsEntryRead t.version s.page bytes n) s.pairs s.entries) r.section first in
    let third = subst (λ (ps : List (ℕ × ℕ)). AllZip (IsEntryRead t.version s.page bytes t.section) ps s.entries) r.pairs second in
    let last = subst (λ (p : TextPage). AllZip (IsEntryRead t.version p bytes t.section) t.pairs s.entries) (same_page hint bytes a b s t r) third in
    one_entries t.version t.page bytes t.section t.pairs s.entries t.entries last (entries_read t.version t.page bytes t.section t.pairs t.entries t.spelled)

same_set : (a b : Properties) → a.os ≡ b.os → a.os_version ≡ b.os_version → a.clsid ≡ b.clsid → a.format_identifier ≡ b.format_identifier → a.values ≡ b.values → a ≡ b
same_set a b p q r s t = λ i. record { os = p i; os_version = q i; clsid = r i; format_identifier = s i; values = t i }

pub one_summary : OneSummary
one_summary hint bytes a b up down s t =
    let r = heads_alike hint bytes a b s t in
    let entries = same_entries hint bytes a b s t r in
    let found = λ (id : ℕ). s.values id ∙ ap (λ (es : List (ℕ × PropertyValue)). option_map (in_utf8 id) (entry_where (λ k. eqb k id) es)) entries ∙ sym (t.values id) in
    same_set a b r.os r.os_version r.clsid r.format (same_lookups a.values b.values up down found)
