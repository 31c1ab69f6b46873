-- What is read of a summary's stream is what it has.
use Rattle.std.proofs.Common.{◌≡◌, ℕ, ◌+◌, false, List, [], length, drop, eqb, Option, Some, None, refl, sym, ap, subst, ◌∙◌, arith}
use Rattle.std.specs.Prelude.{option_map, unwrap_or}
use Rattle.std.specs.List.{AllByRecursion, AllZip}
use Rattle.msi_base.specs.declared.codepage.CodePage.{CodePage}
use Rattle.msi_base.specs.declared.codepage.CodePage.TheVariants as page
use Rattle.msi_base.proofs.ListLemmas.{all_weaker}
use Rattle.msi_base.proofs.PagesLemmas.{utf8_texts_come_back}
use Rattle.msi_summary_properties.specs.declared.propset.PropertyValue.{PropertyValue}
use Rattle.msi_summary_properties.specs.declared.propset.PropertyValue.TheVariants.{Empty, Null, I1, I2, I4, LpStr, FileTime}
use Rattle.msi_base.specs.Lists.{entry_where}
use Rattle.msi_base.proofs.ReadFieldLemmas.{IsBytes, IsBytes-drop}
use Rattle.msi_summary_properties.specs.Properties.{Properties, page_in, page_of, value_with_id}
use Rattle.msi_summary_properties.specs.PropertyStream.{FitsHeader, StandsAt, header_bytes, section_head, AreWritable, IsWritableValue, HaveUtf8Texts, IsUtf8Value}
use Rattle.msi_summary_properties.specs.PropertyWriting.{is_refused}
use Rattle.msi_summary_properties.specs.Reading.{Header, header_at, section_at, set_with}
use Rattle.msi_summary_properties.proofs.HeaderLemmas.{header_found, section_found}
use Rattle.msi_summary_properties.proofs.SpelledSetLemmas.{stands_here}
use Rattle.msi_recode.specs.declared.page.TextPage.{TextPage}
use Rattle.msi_recode.specs.SummaryRecoding.{IsSummary, in_utf8, is_too_long}
use Rattle.msi_recode.specs.SummaryReading.{ArePut, CanBePut, IsEntryRead}
use Rattle.msi_recode.specs.SummaryRecoding.{page_stated}
use Rattle.msi_recode.proofs.SizeLemmas.{short_written}
use Rattle.msi_recode.proofs.SummaryLemmas.{entries_stand, page_read}
use Rattle.msi_recode.proofs.SummaryOneLemmas.{one_entries}

pub summary_read : (hint : Option TextPage) (bytes rest : List ℕ) (h : Header) (pairs : List (ℕ × ℕ)) (text_page : TextPage) (set : Properties) → IsBytes bytes → header_at bytes ≡ Some h → rest ≡ drop (h.section + 0) bytes → section_at rest ≡ Some pairs
    → page_stated hint h.version bytes h.section (entry_where (λ k. eqb k 1) pairs) ≡ Some text_page → ArePut h.version text_page bytes h.section pairs (set_with h []) set → CanBePut h.version text_page bytes h.section pairs
    → (summary : IsSummary hint bytes set) × (is_too_long (length bytes) summary.entries ≡ false)
summary_read hint bytes rest h pairs text_page set fits header is section stated put can =
    let top = header_found bytes h fits header in
    let here : rest ≡ drop h.section bytes = is ∙ ap (λ (n : ℕ). drop n bytes) (omega arith) in
    let low = section_found (drop h.section bytes) pairs (IsBytes-drop h.section bytes fits) (ap section_at (sym here) ∙ section) in
    let same : put.entries ≡ can.entries = one_entries h.version text_page bytes h.section pairs put.entries can.entries put.read can.read in (
      record {
        version = h.version;
        reserved = h.reserved;
        section = h.section;
        size = low.size;
        pairs = pairs;
        entries = put.entries;
        page = text_page;
        held = subst (λ (s : Properties). FitsHeader s) (sym put.same) (top.is.os_version, top.is.clsid, top.is.format);
        fits = (top.is.version, top.is.some, top.is.reserved, top.is.section, low.size_fits, low.count_fits, low.fits);
        header = subst (λ (s : Properties). StandsAt 0 bytes (λ front. front ≡ header_bytes s h.version h.reserved h.section)) (sym put.same)
            ([], header_bytes (set_with h set.values) h.version h.reserved h.section, top.others, refl, top.parts, refl);
        head = stands_here h.section bytes (section_head low.size pairs) low.others (λ front. front ≡ section_head low.size pairs) (omega arith) low.parts refl;
        once = put.once;
        spelled = entries_stand h.version text_page bytes h.section pairs put.entries fits put.read;
        named = page_read hint h.version text_page bytes h.section pairs put.entries stated put.read;
        values = put.values;
      },
      ap (is_too_long (length bytes)) same ∙ can.short,
    )

-- the same for what the code has in hand
pub summary_made : (hint : Option TextPage) (bytes rest : List ℕ) (h : Header) (pairs listed again counted : List (ℕ × ℕ)) (text_page reader_page : TextPage) (start set : Properties) → IsBytes bytes → header_at bytes ≡ Some h → rest ≡ drop (h.section + 0) bytes → section_at rest ≡ Some pairs
    → listed ≡ pairs → again ≡ pairs → counted ≡ pairs → reader_page ≡ text_page → start ≡ set_with h [] → page_stated hint h.version bytes h.section (entry_where (λ k. eqb k 1) listed) ≡ Some text_page → ArePut h.version reader_page bytes h.section again start set → CanBePut h.version reader_page bytes h.section counted
    → (summary : IsSummary hint bytes set) × (is_too_long (length bytes) summary.entries ≡ false)
summary_made hint bytes rest h pairs listed again counted text_page reader_page start set fits header is section listed_is again_is counted_is page_is start_is stated put can =
    summary_read hint bytes rest h pairs text_page set fits header is section
    (subst (λ (ps : List (ℕ × ℕ)). page_stated hint h.version bytes h.section (entry_where (λ k. eqb k 1) ps) ≡ Some text_page) listed_is stated)
    (subst (λ (p : TextPage). ArePut h.version p bytes h.section pairs (set_with h []) set) page_is
    (subst (λ (ps : List (ℕ × ℕ)). ArePut h.version reader_page bytes h.section ps (set_with h []) set) again_is
    (subst (λ (s : Properties). ArePut h.version reader_page bytes h.section again s set) start_is put)))
    (subst (λ (p : TextPage). CanBePut h.version p bytes h.section pairs) page_is (subst (λ (ps : List (ℕ × ℕ)). CanBePut h.version reader_page bytes h.section ps) counted_is can))

-- the set's page is UTF-8, which writes each text
utf8_named : (set : Properties) (o : Option PropertyValue) → value_with_id 1 set.values ≡ option_map (in_utf8 1) o → page_of set ≡ page.Utf8
utf8_named set None is = ap (λ (v : Option PropertyValue). unwrap_or (page_in v) page.Utf8) is
utf8_named set (Some v) is = ap (λ (v : Option PropertyValue). unwrap_or (page_in v) page.Utf8) is

-- what was counted before isn't too long to be written
pub set_written : (version : ℕ) (text_page : TextPage) (bytes : List ℕ) (section : ℕ) (pairs again counted : List (ℕ × ℕ)) (start set : Properties) → again ≡ pairs → counted ≡ pairs → ArePut version text_page bytes section again start set
    → CanBePut version text_page bytes section counted → is_refused set ≡ false
set_written version text_page bytes section pairs again counted start set again_is counted_is put can =
    let same : again ≡ counted = again_is ∙ sym counted_is in
    let read = subst (λ (ps : List (ℕ × ℕ)). AllZip (IsEntryRead version text_page bytes section) ps put.entries) same put.read in
    let one : put.entries ≡ can.entries = one_entries version text_page bytes section counted put.entries can.entries read can.read in
    short_written (length bytes) set put.entries (utf8_named set (entry_where (λ k. eqb k 1) put.entries) (put.values 1)) put.size (ap (is_too_long (length bytes)) one ∙ can.short)

writable : (v : PropertyValue) → IsUtf8Value v → IsWritableValue page.Utf8 v
writable Empty h = tt
writable Null h = tt
writable (I1 n) h = tt
writable (I2 n) h = tt
writable (I4 n) h = tt
writable (LpStr text) h = utf8_texts_come_back text h
writable (FileTime n) h = tt

pub summary_writable : (hint : Option TextPage) (bytes : List ℕ) (set : Properties) → IsSummary hint bytes set → HaveUtf8Texts set.values → AreWritable set
summary_writable hint bytes set is utf8 =
    subst (λ (p : CodePage). AllByRecursion (λ (e : ℕ × PropertyValue). IsWritableValue p e.1) set.values) (sym (utf8_named set (entry_where (λ k. eqb k 1) is.entries) (is.values 1)))
    (all_weaker (λ (e : ℕ × PropertyValue). IsUtf8Value e.1) (λ (e : ℕ × PropertyValue). IsWritableValue page.Utf8 e.1) set.values (λ e h. writable e.1 h) utf8)
