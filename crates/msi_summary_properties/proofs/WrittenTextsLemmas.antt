-- What is written of a set reads as a set.
use Rattle.std.proofs.Common.{◌≡◌, ℕ, ◌+◌, ◌^◌, ◌<◌, true, List, [], ◌∷◌, ◌++◌, map, Option, Some, None, refl, sym, ap, subst, ◌∙◌}
use Rattle.std.specs.Prelude.{option_map, option_and_then, unwrap_or, is_some, IsUtf8, ◌==◌, if◌then◌else◌}
use Rattle.std.specs.List.{AllByRecursion, list_any}
use Rattle.msi_base.specs.declared.codepage.CodePage.{CodePage}
use Rattle.msi_base.specs.Lists.{all_present}
use Rattle.msi_base.specs.Pages.{text_in, bytes_in, IsWritable}
use Rattle.msi_base.proofs.BoolLemmas.{by_test}
use Rattle.msi_base.proofs.OptionLemmas.{some_there}
use Rattle.msi_base.proofs.SpelledTextsLemmas.{written_again}
use Rattle.msi_pool.specs.PoolWriting.{is_refused_spelling}
use Rattle.msi_summary_properties.specs.declared.propset.PropertyValue.{PropertyValue}
use Rattle.msi_summary_properties.specs.declared.propset.PropertyValue.TheVariants.{LpStr}
use Rattle.msi_summary_properties.specs.Properties.{Properties, page_in, page_of, value_with_id}
use Rattle.msi_summary_properties.specs.PropertyStream.{AreWritable, FitsValue, HaveUtf8Texts, IsUtf8Value, IsWritableValue, header_bytes, ids_of, least_version, needs_version_1, padded_to_four, piece_of, property_stream, section_bytes, section_of, string_bytes_of, value_bytes}
use Rattle.msi_summary_properties.specs.PropertyLaws.{Ascending, AreInRange, CanBeRead, IsKept}
use Rattle.msi_summary_properties.specs.PropertyWriting.{is_carried}
use Rattle.msi_summary_properties.proofs.PlainSectionLemmas.{carried_first, told_parts}
use Rattle.msi_summary_properties.proofs.ReadBackLemmas.{sets_read_back, told}

-- ---- the set that is read of what is written, where a text that the page doesn't carry back has changed

abbrev again_value : CodePage → PropertyValue → PropertyValue
again_value page (LpStr text) = LpStr (unwrap_or (option_and_then (text_in page) (bytes_in page text)) [])
again_value page v = v

abbrev again : CodePage → List (ℕ × PropertyValue) → List (ℕ × PropertyValue)
again page es = map (λ e. (e.0, again_value page e.1)) es

record IsAgain (page : CodePage) (v : PropertyValue) : Type 0 where
  pub writable : IsWritableValue page (again_value page v)
  pub bytes : value_bytes page (again_value page v) ≡ value_bytes page v

some_spelling : (o : Option (List ℕ)) → is_some (option_map string_bytes_of o) ≡ true → is_some o ≡ true
some_spelling None there = there
some_spelling (Some bytes) there = refl

text_again : (page : CodePage) (text : List ℕ) → IsUtf8 text → is_some (bytes_in page text) ≡ true → IsAgain page (LpStr text)
text_again page text utf8 there =
    let bytes = unwrap_or (bytes_in page text) [] in
    let spelled : bytes_in page text ≡ Some bytes = some_there (bytes_in page text) [] there in
    let read = written_again page text bytes utf8 spelled in
    let is : unwrap_or (option_and_then (text_in page) (bytes_in page text)) [] ≡ read.0 =
    ap (λ o. unwrap_or (option_and_then (text_in page) o) []) spelled ∙ ap (λ o. unwrap_or o []) read.2 in
    record {
      writable = subst (IsWritable page) (sym is) (ap (option_and_then (text_in page)) read.3 ∙ read.2);
      bytes = ap (λ t. option_map string_bytes_of (bytes_in page t)) is ∙ ap (option_map string_bytes_of) (read.3 ∙ sym spelled);
    }

value_again : (page : CodePage) (v : PropertyValue) → IsUtf8Value v → is_some (value_bytes page v) ≡ true → IsAgain page v
value_again page (LpStr text) utf8 there = text_again page text utf8 (some_spelling (bytes_in page text) there)
value_again page v utf8 there = record { writable = tt; bytes = refl }

fits_again : (page : CodePage) (v : PropertyValue) → FitsValue v → FitsValue (again_value page v)
fits_again page (LpStr text) fits = fits
fits_again page v fits = fits

version_again : (page : CodePage) (v : PropertyValue) → needs_version_1 (again_value page v) ≡ needs_version_1 v
version_again page (LpStr text) = refl
version_again page v = refl

page_again : (page : CodePage) (v : PropertyValue) → page_in (Some (again_value page v)) ≡ page_in (Some v)
page_again page (LpStr text) = refl
page_again page v = refl

-- the same of lists of values
ids_again : (page : CodePage) (P : ℕ → Type 0) (es : List (ℕ × PropertyValue)) → AllByRecursion (λ e. P e.0) es → AllByRecursion (λ e. P e.0) (again page es)
ids_again page P [] all = tt
ids_again page P (e ∷ es) all = (all.0, ids_again page P es all.1)

ascending_again : (page : CodePage) (es : List (ℕ × PropertyValue)) → Ascending es → Ascending (again page es)
ascending_again page [] ascending = tt
ascending_again page (e ∷ es) ascending = (ids_again page (λ id. e.0 < id) es ascending.0, ascending_again page es ascending.1)

range_again : (page : CodePage) (es : List (ℕ × PropertyValue)) → AreInRange es → AreInRange (again page es)
range_again page [] range = tt
range_again page (e ∷ es) range = (fits_again page e.1 range.0, range_again page es range.1)

versions_again : (page : CodePage) (es : List (ℕ × PropertyValue)) → list_any (λ e. needs_version_1 e.1) (again page es) ≡ list_any (λ e. needs_version_1 e.1) es
versions_again page [] = refl
versions_again page (e ∷ es) = rw (version_again page e.1, versions_again page es) refl

named_again : (page : CodePage) (es : List (ℕ × PropertyValue)) → page_in (value_with_id 1 (again page es)) ≡ page_in (value_with_id 1 es)
named_again page [] = refl
named_again page (e ∷ es) = by_test (e.0 == 1)
    (λ first. ap (λ b. page_in (if b then Some (again_value page e.1) else value_with_id 1 (again page es))) first
    ∙ page_again page e.1 ∙ ap (λ b. page_in (if b then Some e.1 else value_with_id 1 es)) (sym first))
    (λ later. ap (λ b. page_in (if b then Some (again_value page e.1) else value_with_id 1 (again page es))) later
    ∙ named_again page es ∙ ap (λ b. page_in (if b then Some e.1 else value_with_id 1 es)) (sym later))

writable_again : (page : CodePage) (es : List (ℕ × PropertyValue)) → HaveUtf8Texts es → is_carried page es ≡ true → AllByRecursion (λ e. IsWritableValue page e.1) (again page es)
writable_again page [] utf8 carried = tt
writable_again page (e ∷ es) utf8 carried =
    let each = carried_first page e es carried in
    let here = value_again page e.1 utf8.0 each.0 in
    (here.writable, writable_again page es utf8.1 each.1)

same_ids : (page : CodePage) (es : List (ℕ × PropertyValue)) → ids_of (again page es) ≡ ids_of es
same_ids page [] = refl
same_ids page (e ∷ es) = ap (λ ids. e.0 ∷ ids) (same_ids page es)

abbrev pieces : CodePage → List (ℕ × PropertyValue) → List (Option (List ℕ))
pieces page es = map (λ e. piece_of page e.1) es

same_pieces : (page : CodePage) (es : List (ℕ × PropertyValue)) → HaveUtf8Texts es → is_carried page es ≡ true → pieces page (again page es) ≡ pieces page es
same_pieces page [] utf8 carried = refl
same_pieces page (e ∷ es) utf8 carried =
    let each = carried_first page e es carried in
    let here = value_again page e.1 utf8.0 each.0 in
    ap (λ o. option_map padded_to_four o ∷ pieces page (again page es)) here.bytes ∙ ap (λ ps. piece_of page e.1 ∷ ps) (same_pieces page es utf8.1 each.1)

same_section : (page : CodePage) (es : List (ℕ × PropertyValue)) → HaveUtf8Texts es → is_carried page es ≡ true → section_of page (again page es) ≡ section_of page es
same_section page es utf8 carried =
    ap (λ ids. option_map (section_bytes ids) (all_present (pieces page (again page es)))) (same_ids page es)
    ∙ ap (λ ps. option_map (section_bytes (ids_of es)) (all_present ps)) (same_pieces page es utf8 carried)

-- ---- the whole set

pub can_be_read : (set : Properties) → IsKept set → HaveUtf8Texts set.values → CanBeRead set
can_be_read set kept utf8 bytes refused written =
    let q = page_of set in
    let es = set.values in
    let carried = (told_parts q es (told set refused)).0 in
    let read : Properties = record set { values = again q es } in
    let page : page_of read ≡ q = ap (λ o. unwrap_or o CodePage.Utf8) (named_again q es) in
    let section : section_of (page_of read) (again q es) ≡ section_of q es =
    ap (λ p. section_of p (again q es)) page ∙ same_section q es utf8 carried in
    let version : least_version read ≡ least_version set = ap (λ b. if b then 1 else 0) (versions_again q es) in
    let kept_again : IsKept read = record {
      header = kept.header;
      ids = ids_again q (λ id. id < 2 ^ 32) es kept.ids;
      ascending = ascending_again q es kept.ascending;
      range = range_again q es kept.range;
      page = subst (λ o. is_some o ≡ true) (sym (named_again q es)) kept.page;
    } in
    let writable : AreWritable read = subst (λ p. AllByRecursion (λ e. IsWritableValue p e.1) (again q es)) (sym page) (writable_again q es utf8 carried) in
    let written_again : property_stream read ≡ Some bytes =
    ap (λ v. option_map (λ s. header_bytes set v 1 48 ++ s) (section_of (page_of read) (again q es))) version
    ∙ ap (option_map (λ s. header_bytes set (least_version set) 1 48 ++ s)) section
    ∙ written in
    (read, sets_read_back read bytes kept_again writable (ap is_refused_spelling section ∙ refused) written_again)
