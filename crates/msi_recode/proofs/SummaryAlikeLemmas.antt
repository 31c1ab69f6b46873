-- A summary that a package may have comes back as it is.
use Rattle.std.proofs.Common.{◌≡◌, ℕ, ◌+◌, ◌<◌, Bool, true, false, cond, eqb, List, [], ◌∷◌, map, Option, Some, None, inl, inr, refl, sym, ap, subst, ◌∙◌}
use Rattle.std.specs.Prelude.{option_map, unwrap_or, zip, IsSome}
use Rattle.std.specs.List.{AllZip, AllByRecursion}
use Rattle.std.specs.Int.{w16, cast_unsigned}
use Rattle.std.proofs.lemmas.Bool.{cases_Bool, eqb-true}
use Rattle.msi_base.specs.declared.codepage.CodePage.{CodePage}
use Rattle.msi_base.specs.declared.codepage.CodePage.TheVariants as page
use Rattle.msi_base.specs.Lists.{entry_where}
use Rattle.msi_base.specs.Pages as plain
use Rattle.msi_base.proofs.OptionLemmas.{some_is}
use Rattle.msi_summary_properties.specs.declared.propset.PropertyValue.{PropertyValue}
use Rattle.msi_summary_properties.specs.declared.propset.PropertyValue.TheVariants.{Empty, Null, I1, I2, I4, LpStr, FileTime}
use Rattle.msi_summary_properties.specs.Properties.{Properties, page_in, page_of, value_with_id}
use Rattle.msi_summary_properties.specs.PropertyLaws.{Ascending}
use Rattle.msi_summary_properties.specs.PropertyStream.{Spells, SpellsValue, StandsAt, ValueStandsAt, by_id}
use Rattle.msi_summary_properties.specs.PropertyStream as sets
use Rattle.msi_summary_properties.proofs.KeptSetLemmas.{IsKept-spelled}
use Rattle.msi_summary_properties.proofs.SpelledSetLemmas.{find_sorted}
use Rattle.msi_recode.specs.declared.page.TextPage.{TextPage}
use Rattle.msi_recode.specs.declared.page.TextPage.TheVariants.{Plain}
use Rattle.msi_recode.specs.TextPages.{Reads}
use Rattle.msi_recode.specs.RecodingLaws.{SummariesStayAlike, naming_utf8}
use Rattle.msi_recode.specs.SummaryRecoding.{IsSummary, SpellsString, SpellsValueIn, EntryStandsAt, in_utf8, page_named}
use Rattle.msi_recode.proofs.PageLemmas.{page_alone}
use Rattle.msi_recode.proofs.PagesAlikeLemmas.{pages_read_alike}
use Rattle.msi_recode.proofs.SummaryOneLemmas.{one_summary}

-- what a page reads, another one reads alike
abbrev ReadsAlike : CodePage → TextPage → Type 0
ReadsAlike p q = (bytes text : List ℕ) → plain.Reads p bytes text → Reads q bytes text

-- ---- the page that property 1 names

no_page : {P : Type 0} (p : CodePage) → None ≡ Some p → P
no_page p h = absurd cc

page_found : (o : Option PropertyValue) (p : CodePage) → page_in o ≡ Some p → (q : TextPage) × (page_named None o ≡ Some q) × ReadsAlike p q
page_found None p h = (Plain page.Utf8, refl, λ bytes text reads. subst (λ (x : CodePage). plain.Reads x bytes text) (sym (some_is page.Utf8 p h)) reads)
page_found (Some Empty) p h = no_page p h
page_found (Some Null) p h = no_page p h
page_found (Some (I1 n)) p h = no_page p h
page_found (Some (I2 n)) p h =
    let found = pages_read_alike (cast_unsigned w16 n) p h in
    (found.0, sym (page_alone (cast_unsigned w16 n)) ∙ found.1, found.2)
page_found (Some (I4 n)) p h = no_page p h
page_found (Some (LpStr text)) p h = no_page p h
page_found (Some (FileTime n)) p h = no_page p h

known : (o : Option CodePage) → IsSome o → o ≡ Some (unwrap_or o page.Utf8)
known None h = absurd cc
known (Some p) h = refl

-- ---- the values

string_alike : (p : CodePage) (q : TextPage) → ReadsAlike p q → (bytes text : List ℕ) → sets.SpellsString p bytes text → SpellsString q bytes text
string_alike p q alike bytes text (inl (encoded, small, reads, is)) = inl (encoded, small, alike encoded text reads, is)
string_alike p q alike bytes text (inr (reads, is)) = inr (alike [] text reads, is)

value_alike : (version : ℕ) (p : CodePage) (q : TextPage) → ReadsAlike p q → (bytes : List ℕ) (v : PropertyValue) → SpellsValue version p bytes v → SpellsValueIn version q bytes v
value_alike version p q alike bytes Empty h = h
value_alike version p q alike bytes Null h = h
value_alike version p q alike bytes (I1 n) h = h
value_alike version p q alike bytes (I2 n) h = h
value_alike version p q alike bytes (I4 n) h = h
value_alike version p q alike bytes (LpStr text) h = string_alike p q alike bytes text h
value_alike version p q alike bytes (FileTime n) h = h

abbrev listed : List (ℕ × ℕ) → List PropertyValue → List (ℕ × PropertyValue)
listed pairs values = zip (map (λ p. p.0) pairs) values

entries_alike : (version : ℕ) (p : CodePage) (q : TextPage) → ReadsAlike p q → (bytes : List ℕ) (section : ℕ) (pairs : List (ℕ × ℕ)) (values : List PropertyValue)
    → AllZip (ValueStandsAt version p bytes section) pairs values → AllZip (EntryStandsAt version q bytes section) pairs (listed pairs values)
entries_alike version p q alike bytes section [] [] all = tt
entries_alike version p q alike bytes section [] (v ∷ values) all = absurd all
entries_alike version p q alike bytes section (r ∷ pairs) [] all = absurd all
entries_alike version p q alike bytes section (r ∷ pairs) (v ∷ values) ((fit, (front, spelled, others, len, parts, is)), more) =
    ((refl, fit, (front, spelled, others, len, parts, value_alike version p q alike spelled v is)), entries_alike version p q alike bytes section pairs values more)

-- ---- the set that names UTF-8

lookup_mapped : (id : ℕ) (es : List (ℕ × PropertyValue)) → entry_where (λ k. eqb k id) (map (λ e. (e.0, in_utf8 e.0 e.1)) es) ≡ option_map (in_utf8 id) (entry_where (λ k. eqb k id) es)
lookup_mapped id [] = refl
lookup_mapped id (e ∷ es) = elim (cases_Bool (eqb e.0 id)) [
  | inl this ↦
      ap (λ (t : Bool). cond t (Some (in_utf8 e.0 e.1)) (entry_where (λ k. eqb k id) (map (λ e. (e.0, in_utf8 e.0 e.1)) es))) this
      ∙ ap (λ (n : ℕ). Some (in_utf8 n e.1)) (eqb-true e.0 id this)
      ∙ sym (ap (λ (t : Bool). option_map (in_utf8 id) (cond t (Some e.1) (entry_where (λ k. eqb k id) es))) this)
  | inr other ↦
      ap (λ (t : Bool). cond t (Some (in_utf8 e.0 e.1)) (entry_where (λ k. eqb k id) (map (λ e. (e.0, in_utf8 e.0 e.1)) es))) other
      ∙ lookup_mapped id es
      ∙ sym (ap (λ (t : Bool). option_map (in_utf8 id) (cond t (Some e.1) (entry_where (λ k. eqb k id) es))) other)
]

above_mapped : (n : ℕ) (es : List (ℕ × PropertyValue)) → AllByRecursion (λ (f : ℕ × PropertyValue). n < f.0) es → AllByRecursion (λ (f : ℕ × PropertyValue). n < f.0) (map (λ e. (e.0, in_utf8 e.0 e.1)) es)
above_mapped n [] all = tt
above_mapped n (e ∷ es) (lt, more) = (lt, above_mapped n es more)

ascending_mapped : (es : List (ℕ × PropertyValue)) → Ascending es → Ascending (map (λ e. (e.0, in_utf8 e.0 e.1)) es)
ascending_mapped [] h = tt
ascending_mapped (e ∷ es) (above, more) = (above_mapped e.0 es above, ascending_mapped es more)

-- ---- what a package's set is, is the summary's

found_listed : (bytes : List ℕ) (set : Properties) (s : Spells bytes set) (id : ℕ) → value_with_id id set.values ≡ entry_where (λ k. eqb k id) (listed s.pairs s.values)
found_listed bytes set s id = ap (λ (es : List (ℕ × PropertyValue)). entry_where (λ k. eqb k id) es) s.listed ∙ find_sorted id (listed s.pairs s.values)

spelled_summary : (bytes : List ℕ) (set : Properties) → Spells bytes set → IsSummary None bytes (naming_utf8 set)
spelled_summary bytes set s =
    let found = page_found (value_with_id 1 set.values) (page_of set) (known (page_in (value_with_id 1 set.values)) s.page) in record {
      version = s.version;
      reserved = s.reserved;
      section = s.section;
      size = s.size;
      pairs = s.pairs;
      entries = listed s.pairs s.values;
      page = found.0;
      held = s.held;
      fits = s.fits;
      header = s.header;
      head = s.head;
      once = s.once;
      spelled = entries_alike s.version (page_of set) found.0 found.2 bytes s.section s.pairs s.values s.spelled;
      named = ap (page_named None) (sym (found_listed bytes set s 1)) ∙ found.1;
      values = λ id. lookup_mapped id set.values ∙ ap (option_map (in_utf8 id)) (found_listed bytes set s id);
    }

pub summaries_stay_alike : SummariesStayAlike
summaries_stay_alike bytes after set spelled (other, is, fits, written, said) =
    let mine = spelled_summary bytes set spelled in
    let kept = IsKept-spelled bytes set spelled in
    let same : other ≡ naming_utf8 set = one_summary None bytes other (naming_utf8 set) (IsKept-spelled after other said).ascending (ascending_mapped set.values kept.ascending) is mine in
    subst (λ (x : Properties). Spells after x) same said
