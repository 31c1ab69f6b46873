-- What a summary keeps to, and that each call on it keeps to it.
use Rattle.std.proofs.Common.{◌≡◌, ℕ, ◌<◌, ◌^◌, true, List, [], ◌∷◌, ◌++◌, refl, sym, ap, subst, lit<, inl, inr}
use Rattle.std.specs.Prelude.{is_some, Result}
use Rattle.std.specs.List.{AllByRecursion}
use Rattle.msi_base.specs.declared.codepage.CodePage.{CodePage}
use Rattle.msi_base.specs.declared.codepage.CodePage.TheVariants as page
use Rattle.msi_base.specs.declared.errors.ErrorKind.{ErrorKind}
use Rattle.msi_categories.specs.Spellings.{language_list_text, braced_uuid_text}
use Rattle.msi_summary.specs.PropertyValue.{PropertyValue}
use Rattle.msi_summary.specs.PropertyValue.TheVariants.{I4, LpStr, FileTime}
use Rattle.msi_summary.specs.OperatingSystem.TheVariants as os
use Rattle.msi_summary.specs.Properties.{Properties, with_value, without_value, with_page, page_value, can_set, new_set}
use Rattle.msi_summary.specs.PropertyStream.{FitsValue}
use Rattle.msi_summary.specs.PropertyLaws.{IsKept}
use Rattle.msi_summary.specs.declared.property.TextProperty.{TextProperty}
use Rattle.msi_summary.specs.declared.property.TextProperty.TheVariants.{Title, Subject, Author, Comments, LastSavedBy, CreatingApplication}
use Rattle.msi_summary.specs.declared.property.NumberProperty.{NumberProperty}
use Rattle.msi_summary.specs.declared.property.NumberProperty.TheVariants.{PageCount, WordCount, CharacterCount, DocSecurity}
use Rattle.msi_summary.specs.declared.property.TimeProperty.{TimeProperty}
use Rattle.msi_summary.specs.declared.property.TimeProperty.TheVariants.{LastPrinted, CreationTime, LastSavedTime}
use Rattle.msi_summary.specs.declared.property.SummaryProperty.{SummaryProperty}
use Rattle.msi_summary.specs.declared.property.SummaryProperty.TheVariants as property
use Rattle.msi_summary.specs.Property.{text_id, number_id, time_id, codepage_id, keywords_id, template_id, uuid_id}
use Rattle.msi_summary.specs.Summary as summary
use Rattle.msi_summary.proofs.KeptSetLemmas.{IsKept-with_value, IsKept-without_value}
use Rattle.msi_summary.proofs.PropertiesLemmas.{page_in-page_value}
use Rattle.msi.specs.Calls.{SummaryCall, SummaryAnswer}
use Rattle.msi.specs.Calls as calls
use Rattle.msi.specs.Lent.{RunsTo, Gives, FitsSummaryCall, summary_after, summary_outcome, summary_wants_memory}

pub record IsSummarySet (set : Properties) : Type 0 where
  pub kept : IsKept set
  pub format : set.format_identifier ≡ summary.summary_format

set_with : (id : ℕ) (value : PropertyValue) (set : Properties) → can_set id value ≡ true → id < 2 ^ 32 → FitsValue value → IsSummarySet set → IsSummarySet (with_value id value set)
set_with id value set can small fits h = record { kept = IsKept-with_value id value set can small fits h.kept; format = h.format }

set_without : (id : ℕ) (set : Properties) → IsSummarySet set → IsSummarySet (without_value id set)
set_without id set h = record { kept = IsKept-without_value id set h.kept; format = h.format }

page_fits : (p : CodePage) → FitsValue (page_value p)
page_fits page.Windows932 = record { sfits = lit< tt }
page_fits page.Windows936 = record { sfits = lit< tt }
page_fits page.Windows949 = record { sfits = lit< tt }
page_fits page.Windows950 = record { sfits = lit< tt }
page_fits page.Windows951 = record { sfits = lit< tt }
page_fits page.Windows1250 = record { sfits = lit< tt }
page_fits page.Windows1251 = record { sfits = lit< tt }
page_fits page.Windows1252 = record { sfits = lit< tt }
page_fits page.Windows1253 = record { sfits = lit< tt }
page_fits page.Windows1254 = record { sfits = lit< tt }
page_fits page.Windows1255 = record { sfits = lit< tt }
page_fits page.Windows1256 = record { sfits = lit< tt }
page_fits page.Windows1257 = record { sfits = lit< tt }
page_fits page.Windows1258 = record { sfits = lit< tt }
page_fits page.MacintoshRoman = record { sfits = lit< tt }
page_fits page.MacintoshCyrillic = record { sfits = lit< tt }
page_fits page.UsAscii = record { sfits = lit< tt }
page_fits page.Iso88591 = record { sfits = lit< tt }
page_fits page.Iso88592 = record { sfits = lit< tt }
page_fits page.Iso88593 = record { sfits = lit< tt }
page_fits page.Iso88594 = record { sfits = lit< tt }
page_fits page.Iso88595 = record { sfits = lit< tt }
page_fits page.Iso88596 = record { sfits = lit< tt }
page_fits page.Iso88597 = record { sfits = lit< tt }
page_fits page.Iso88598 = record { sfits = lit< tt }
page_fits page.Utf8 = record { sfits = lit< tt }

set_with_page : (p : CodePage) (set : Properties) → IsSummarySet set → IsSummarySet (with_page p set)
set_with_page p set h = set_with 1 (page_value p) set (ap is_some (page_in-page_value p)) (lit< tt) (page_fits p) h

-- A NEW SUMMARY

new_set_is : IsSummarySet (new_set os.Win32 10 summary.summary_format)
new_set_is = record { kept = record { header = (lit< tt, refl, refl); ids = tt; ascending = tt; range = tt; page = refl }; format = refl }

text_small : (p : TextProperty) → text_id p < 2 ^ 32
text_small Title = lit< tt
text_small Subject = lit< tt
text_small Author = lit< tt
text_small Comments = lit< tt
text_small LastSavedBy = lit< tt
text_small CreatingApplication = lit< tt

text_can : (p : TextProperty) (text : List ℕ) → can_set (text_id p) (LpStr text) ≡ true
text_can Title text = refl
text_can Subject text = refl
text_can Author text = refl
text_can Comments text = refl
text_can LastSavedBy text = refl
text_can CreatingApplication text = refl

set_with_text : (p : TextProperty) (text : List ℕ) (set : Properties) → IsSummarySet set → IsSummarySet (summary.with_text (text_id p) text set)
set_with_text p text set h = set_with (text_id p) (LpStr text) set (text_can p text) (text_small p) tt h

pub new_summary_is : (title : List ℕ) → IsSummarySet (summary.new_summary title)
new_summary_is title = set_with_text Title title (with_page page.Utf8 (new_set os.Win32 10 summary.summary_format)) (set_with_page page.Utf8 (new_set os.Win32 10 summary.summary_format) new_set_is)

-- EACH CALL

number_small : (p : NumberProperty) → number_id p < 2 ^ 32
number_small PageCount = lit< tt
number_small WordCount = lit< tt
number_small CharacterCount = lit< tt
number_small DocSecurity = lit< tt

number_can : (p : NumberProperty) (value : PropertyValue) → can_set (number_id p) value ≡ true
number_can PageCount value = refl
number_can WordCount value = refl
number_can CharacterCount value = refl
number_can DocSecurity value = refl

time_small : (p : TimeProperty) → time_id p < 2 ^ 32
time_small LastPrinted = lit< tt
time_small CreationTime = lit< tt
time_small LastSavedTime = lit< tt

time_can : (p : TimeProperty) (value : PropertyValue) → can_set (time_id p) value ≡ true
time_can LastPrinted value = refl
time_can CreationTime value = refl
time_can LastSavedTime value = refl

set_with_own : (id : ℕ) (text : List ℕ) (set : Properties) → can_set id (LpStr text) ≡ true → id < 2 ^ 32 → IsSummarySet set → IsSummarySet (summary.with_text id text set)
set_with_own id text set can small h = set_with id (LpStr text) set can small tt h

cleared_kept : (set : Properties) (p : SummaryProperty) → IsSummarySet set → IsSummarySet (summary.cleared p set)
cleared_kept set property.Codepage h = set_without codepage_id set h
cleared_kept set (property.Text p) h = set_without (text_id p) set h
cleared_kept set (property.Number p) h = set_without (number_id p) set h
cleared_kept set (property.Time p) h = set_without (time_id p) set h
cleared_kept set property.Arch h = set_with_own template_id ([] ++ 59 ∷ summary.languages_text set) set refl (lit< tt) h
cleared_kept set property.Languages h = set_with_own template_id (summary.arch_text set ++ 59 ∷ language_list_text []) set refl (lit< tt) h
cleared_kept set property.Keywords h = set_with_own keywords_id _ set refl (lit< tt) h
cleared_kept set property.Uuid h = set_without uuid_id set h

call_kept : (set : Properties) (c : SummaryCall) → FitsSummaryCall c → IsSummarySet set → IsSummarySet (summary_after set c)
call_kept set (calls.ask q) fits h = h
call_kept set (calls.set_text p text) fits h = set_with_text p text set h
call_kept set (calls.set_number p n) fits h = set_with (number_id p) (I4 n) set (number_can p (I4 n)) (number_small p) fits h
call_kept set (calls.set_time p ticks) fits h = set_with (time_id p) (FileTime ticks) set (time_can p (FileTime ticks)) (time_small p) fits h
call_kept set (calls.set_arch text) fits h = set_with_own template_id (text ++ 59 ∷ summary.languages_text set) set refl (lit< tt) h
call_kept set (calls.set_languages ids) fits h = set_with_own template_id (summary.arch_text set ++ 59 ∷ language_list_text ids) set refl (lit< tt) h
call_kept set (calls.set_keywords words) fits h = set_with_own keywords_id _ set refl (lit< tt) h
call_kept set (calls.set_uuid id) fits h = set_with_own uuid_id (braced_uuid_text id) set refl (lit< tt) h
call_kept set (calls.set_codepage p) fits h = set_with_page p set h
call_kept set (calls.clear q) fits h = cleared_kept set q h

outcome_kept : (set : Properties) (c : SummaryCall) → FitsSummaryCall c → IsSummarySet set → IsSummarySet (summary_outcome set c).1
outcome_kept set (calls.ask q) fits h = h
outcome_kept set (calls.set_text p text) fits h = call_kept set (calls.set_text p text) fits h
outcome_kept set (calls.set_number p n) fits h = call_kept set (calls.set_number p n) fits h
outcome_kept set (calls.set_time p ticks) fits h = call_kept set (calls.set_time p ticks) fits h
outcome_kept set (calls.set_arch text) fits h = call_kept set (calls.set_arch text) fits h
outcome_kept set (calls.set_languages ids) fits h = call_kept set (calls.set_languages ids) fits h
outcome_kept set (calls.set_keywords words) fits h = call_kept set (calls.set_keywords words) fits h
outcome_kept set (calls.set_uuid id) fits h = call_kept set (calls.set_uuid id) fits h
outcome_kept set (calls.set_codepage p) fits h = call_kept set (calls.set_codepage p) fits h
outcome_kept set (calls.clear q) fits h = call_kept set (calls.clear q) fits h

given_kept : (set mid : Properties) (c : SummaryCall) (a : Result SummaryAnswer ErrorKind) → FitsSummaryCall c
    → Gives (summary_outcome set c) (summary_wants_memory c) set a mid → IsSummarySet set → IsSummarySet mid
given_kept set mid c a fits (inl is) h = subst IsSummarySet (ap (λ r. r.1) is) (outcome_kept set c fits h)
given_kept set mid c a fits (inr refused) h = subst IsSummarySet (sym refused.2) h

-- and a run of calls
pub run_kept : (set new : Properties) (cs : List SummaryCall) (answers : List (Result SummaryAnswer ErrorKind)) → AllByRecursion FitsSummaryCall cs
    → RunsTo summary_outcome summary_wants_memory set cs answers new → IsSummarySet set → IsSummarySet new
run_kept set new [] [] fits run h = subst IsSummarySet (sym run) h
run_kept set new [] (a ∷ others) fits run h = absurd run
run_kept set new (c ∷ cs) [] fits run h = absurd run
run_kept set new (c ∷ cs) (a ∷ others) fits run h = run_kept run.0 new cs others fits.1 run.2 (given_kept set run.0 c a fits.0 run.1 h)
