-- The summary: a property set of one format, and what its properties say.
use Rattle.std.specs.Prelude.{◌≡◌, ℕ, ◌-◌, ℤ, Bool, true, false, ◌==◌, ◌&&◌, if◌then◌else◌}
use Rattle.std.specs.Prelude.{Option, Some, None, option_and_then, unwrap_or}
use Rattle.std.specs.Prelude.{List, [], ◌∷◌, ◌++◌, map, length, drop, take, codes}
use Rattle.std.specs.List.{slice_split, before_first, after_first, join_by, filter_map, onto_first}
use Rattle.std.specs.List.{prefix_len, suffix_len}
use Rattle.std.specs.Str.{trim_end}
use Rattle.uuid.specs.Text.{parsed}
use Rattle.msi_base.specs.declared.codepage.CodePage.TheVariants as page
use Rattle.msi_categories.specs.Numerals.{u16_in}
use Rattle.msi_categories.specs.Spellings.{language_list_text, braced_uuid_text}
use Rattle.msi_summary_properties.specs.declared.propset.PropertyValue.{PropertyValue}
use Rattle.msi_summary_properties.specs.declared.propset.PropertyValue.TheVariants.{I4, LpStr, FileTime}
use Rattle.msi_summary_properties.specs.declared.propset.OperatingSystem.TheVariants as os
use Rattle.msi_summary_properties.specs.Properties.{Properties, value_with_id, with_value, without_value}
use Rattle.msi_summary_properties.specs.Properties.{with_page, new_set}
use Rattle.msi_summary_properties.specs.PropertyStream.{Spells}
use Rattle.msi_summary.specs.declared.property.TextProperty.TheVariants.{Title}
use Rattle.msi_summary.specs.declared.property.SummaryProperty.{SummaryProperty}
use Rattle.msi_summary.specs.declared.property.SummaryProperty.TheVariants.{Codepage, Text, Number, Time, Keywords}
use Rattle.msi_summary.specs.declared.property.SummaryProperty.TheVariants.{Arch, Languages, Uuid}
use Rattle.msi_summary.specs.Property.{text_id, number_id, time_id, codepage_id, keywords_id, template_id, uuid_id}

-- FMTID_SummaryInformation, F29F85E0-4FF9-1068-AB91-08002B27B3D9, as its bytes stand in a stream
abbrev pub summary_format : List ℕ
summary_format = 0xE0 ∷ 0x85 ∷ 0x9F ∷ 0xF2 ∷ 0xF9 ∷ 0x4F ∷ 0x68 ∷ 0x10 ∷ 0xAB ∷ 0x91 ∷ 0x08 ∷ 0x00 ∷ 0x2B ∷ 0x27 ∷ 0xB3
    ∷ 0xD9 ∷ []

-- the bytes spell a property set that is a summary
abbrev pub SpellsSummary : List ℕ → Properties → Type 0
SpellsSummary bytes set = Spells bytes set × (set.format_identifier ≡ summary_format)

-- a value, where it has the type
abbrev pub as_text : PropertyValue → Option (List ℕ)
as_text (LpStr text) = Some text
as_text _ = None

abbrev pub as_number : PropertyValue → Option ℤ
as_number (I4 n) = Some n
as_number _ = None

abbrev pub as_time : PropertyValue → Option ℕ
as_time (FileTime ticks) = Some ticks
as_time _ = None

abbrev pub text_with_id : ℕ → Properties → Option (List ℕ)
text_with_id id set = option_and_then as_text (value_with_id id set.values)

abbrev pub number_with_id : ℕ → Properties → Option ℤ
number_with_id id set = option_and_then as_number (value_with_id id set.values)

abbrev pub time_with_id : ℕ → Properties → Option ℕ
time_with_id id set = option_and_then as_time (value_with_id id set.values)

abbrev pub with_text : ℕ → List ℕ → Properties → Properties
with_text id text set = with_value id (LpStr text) set

abbrev pub with_number : ℕ → ℤ → Properties → Properties
with_number id n set = with_value id (I4 n) set

abbrev pub with_time : ℕ → ℕ → Properties → Properties
with_time id ticks set = with_value id (FileTime ticks) set

-- the template: the architecture, and behind the first `;` the languages
abbrev pub is_semicolon : ℕ → Bool
is_semicolon c = c == 59

abbrev pub is_comma : ℕ → Bool
is_comma c = c == 44

abbrev pub template_of : Properties → List ℕ
template_of set = unwrap_or (text_with_id template_id set) []

abbrev pub arch_text : Properties → List ℕ
arch_text set = before_first is_semicolon (template_of set)

abbrev pub languages_text : Properties → List ℕ
languages_text set = after_first is_semicolon (template_of set)

abbrev pub nonempty : List ℕ → Option (List ℕ)
nonempty [] = None
nonempty (c ∷ cs) = Some (c ∷ cs)

abbrev pub arch_of : Properties → Option (List ℕ)
arch_of set = nonempty (arch_text set)

-- the parts between commas that are numbers, in order
abbrev pub languages_of : Properties → List ℕ
languages_of set = filter_map u16_in (slice_split is_comma (languages_text set))

abbrev pub with_template : List ℕ → List ℕ → Properties → Properties
with_template arch languages set = with_text template_id (arch ++ 59 ∷ languages) set

abbrev pub with_arch : List ℕ → Properties → Properties
with_arch arch set = with_template arch (languages_text set) set

abbrev pub with_languages : List ℕ → Properties → Properties
with_languages ids set = with_template (arch_text set) (language_list_text ids) set

-- the pieces of a text that is cut at each `; `
abbrev pub keyword_pieces : List ℕ → List (List ℕ)
keyword_pieces [] = [] ∷ []
keyword_pieces (c ∷ []) = (c ∷ []) ∷ []
keyword_pieces (c ∷ d ∷ cs) = if (c == 59) && (d == 32) then [] ∷ keyword_pieces cs
    else onto_first c (keyword_pieces (d ∷ cs))

abbrev pub keywords_in : List ℕ → List (List ℕ)
keywords_in [] = []
keywords_in (c ∷ cs) = map trim_end (keyword_pieces (c ∷ cs))

abbrev pub keywords_of : Properties → List (List ℕ)
keywords_of set = keywords_in (unwrap_or (text_with_id keywords_id set) [])

abbrev pub with_keywords : List (List ℕ) → Properties → Properties
with_keywords words set = with_text keywords_id (join_by (λ w. w) (codes "; ") words) set

-- the UUID, in braces and upper case; read without any braces around it
abbrev pub is_open_brace : ℕ → Bool
is_open_brace c = c == 123

abbrev pub is_close_brace : ℕ → Bool
is_close_brace c = c == 125

abbrev pub without_front : (ℕ → Bool) → List ℕ → List ℕ
without_front p text = drop (prefix_len p text) text

abbrev pub without_end : (ℕ → Bool) → List ℕ → List ℕ
without_end p text = take (length text - suffix_len p text) text

abbrev pub without_braces : List ℕ → List ℕ
without_braces text = without_end is_close_brace (without_front is_open_brace text)

abbrev pub uuid_of : Properties → Option (List ℕ)
uuid_of set = option_and_then (λ text. parsed (without_braces text)) (text_with_id uuid_id set)

abbrev pub with_uuid : List ℕ → Properties → Properties
with_uuid id set = with_text uuid_id (braced_uuid_text id) set

-- a property cleared: the template and the keywords stay, with an empty text, and other properties are removed
abbrev pub cleared : SummaryProperty → Properties → Properties
cleared Codepage set = without_value codepage_id set
cleared (Text p) set = without_value (text_id p) set
cleared (Number p) set = without_value (number_id p) set
cleared (Time p) set = without_value (time_id p) set
cleared Keywords set = with_keywords [] set
cleared Arch set = with_arch [] set
cleared Languages set = with_languages [] set
cleared Uuid set = without_value uuid_id set

-- whether it is cleared by another text
abbrev pub is_set_empty : SummaryProperty → Bool
is_set_empty Keywords = true
is_set_empty Arch = true
is_set_empty Languages = true
is_set_empty _ = false

-- a new summary, with its title
abbrev pub new_summary : List ℕ → Properties
new_summary title_text =
    with_text (text_id Title) title_text (with_page page.Utf8 (new_set os.Win32 10 summary_format))
