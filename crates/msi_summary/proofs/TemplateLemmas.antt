-- The parts of a template, as they are set and read.
use Rattle.std.proofs.Common.{◌≡◌, ℕ, ◌+◌, ◌^◌, ◌<◌, suc, Bool, true, false, List, [], ◌∷◌, ◌++◌, length, map, get_or, take, drop, Some, refl, sym, ap, subst, ◌∙◌, append_assoc, append-nil, arith, inl, inr}
use Rattle.std.specs.Prelude.{codes, option_and_then, unwrap_or}
use Rattle.std.specs.Fmt.{decimal}
use Rattle.std.specs.List.{after_first, before_first, filter_map, flat_map, list_any, position_or_len, slice_split, All, AllByRecursion}
use Rattle.std.specs.Str.Parse.{IsNumeral, AllDigits, digits_value, without_leading_plus}
use Rattle.std.proofs.lemmas.Bool.{cases_Bool, ne_eqb, or_from, or_parts}
use Rattle.std.proofs.lemmas.Fmt.{decimal_is_IsNumeral}
use Rattle.std.proofs.lemmas.List.{take_at, drop_at, length-append}
use Rattle.std.proofs.lemmas.List.Elements.{All-from_recursion}
use Rattle.std.proofs.lemmas.List.Splits.{slice_split_none, slice_split_at}
use Rattle.std.proofs.lemmas.Str.Parse.{digit_from_value, without_leading_plus_none}
use Rattle.msi_categories.specs.Numerals.{u16_in}
use Rattle.msi_categories.specs.Spellings.{language_list_text}
use Rattle.msi_summary_properties.specs.declared.propset.PropertyValue.TheVariants.{LpStr}
use Rattle.msi_summary_properties.specs.Properties.{Properties}
use Rattle.msi_summary.specs.Property.{template_id}
use Rattle.msi_summary.specs.Summary.{as_text, is_comma, is_semicolon, nonempty, template_of, arch_text, languages_text, with_template}
use Rattle.msi_summary.specs.SummaryLaws.{ArchKeepsLanguages, LanguagesKeepArch}
use Rattle.msi_summary.proofs.NumeralLemmas.{u16_in-ok}
use Rattle.msi_summary_properties.proofs.PropertiesLemmas.{value_with_id-insert_entry}

-- ---- a text that is cut at its first mark

position_at : (p : ℕ → Bool) (front : List ℕ) (mark : ℕ) (back : List ℕ) → list_any p front ≡ false → p mark ≡ true
    → position_or_len p (front ++ mark ∷ back) ≡ length front
position_at p [] mark back none is = rw is refl
position_at p (c ∷ front) mark back none is =
    let parts = or_parts (p c) (list_any p front) none in
    rw parts.0 (omega (arith, position_at p front mark back parts.1 is))

before_mark : (p : ℕ → Bool) (front : List ℕ) (mark : ℕ) (back : List ℕ) → list_any p front ≡ false → p mark ≡ true
    → before_first p (front ++ mark ∷ back) ≡ front
before_mark p front mark back none is =
    ap (λ n. take n (front ++ mark ∷ back)) (position_at p front mark back none is) ∙ take_at front (mark ∷ back) (length front) refl

after_mark : (p : ℕ → Bool) (front : List ℕ) (mark : ℕ) (back : List ℕ) → list_any p front ≡ false → p mark ≡ true
    → after_first p (front ++ mark ∷ back) ≡ back
after_mark p front mark back none is =
    ap (λ n. drop (n + 1) (front ++ mark ∷ back)) (position_at p front mark back none is)
    ∙ ap (drop (length front + 1)) (sym (append_assoc front (mark ∷ []) back))
    ∙ drop_at (front ++ mark ∷ []) back (length front + 1) (length-append front (mark ∷ []))

no_mark_before : (p : ℕ → Bool) (text : List ℕ) → list_any p (before_first p text) ≡ false
no_mark_before p [] = refl
no_mark_before p (c ∷ text) = elim (cases_Bool (p c)) [
  | inl t ↦ rw t refl
  | inr f ↦
      let more : 1 + position_or_len p text ≡ suc (position_or_len p text) = omega arith in
      rw (f, more) (or_from (p c) (list_any p (before_first p text)) f (no_mark_before p text))
]

-- ---- the template

template_of-with_template : (arch languages : List ℕ) (set : Properties) → template_of (with_template arch languages set) ≡ arch ++ 59 ∷ languages
template_of-with_template arch languages set =
    ap (λ o. unwrap_or (option_and_then as_text o) []) (value_with_id-insert_entry template_id template_id (LpStr (arch ++ 59 ∷ languages)) set.values)

arch_text-with_template : (arch languages : List ℕ) (set : Properties) → list_any is_semicolon arch ≡ false → arch_text (with_template arch languages set) ≡ arch
arch_text-with_template arch languages set none =
    ap (before_first is_semicolon) (template_of-with_template arch languages set) ∙ before_mark is_semicolon arch 59 languages none refl

languages_text-with_template : (arch languages : List ℕ) (set : Properties) → list_any is_semicolon arch ≡ false → languages_text (with_template arch languages set) ≡ languages
languages_text-with_template arch languages set none =
    ap (after_first is_semicolon) (template_of-with_template arch languages set) ∙ after_mark is_semicolon arch 59 languages none refl

pub arch_keeps_languages : ArchKeepsLanguages
arch_keeps_languages arch set none = (
  ap nonempty (arch_text-with_template arch (languages_text set) set none),
  ap (λ text. filter_map u16_in (slice_split is_comma text)) (languages_text-with_template arch (languages_text set) set none),
)

-- ---- the languages

first_digit : (digits : List ℕ) → IsNumeral 10 digits → get_or digits 0 0 ≡ 43 → ⊥
first_digit [] is plus = omega (arith, is.0)
first_digit (c ∷ digits) is plus = omega (arith, digit_from_value c is.1.0, plus)

u16_in-decimal : (n : ℕ) → n < 2 ^ 16 → u16_in (decimal n) ≡ Some n
u16_in-decimal n small =
    let is = decimal_is_IsNumeral n (omega arith) in
    let bare : without_leading_plus (decimal n) ≡ decimal n = without_leading_plus_none (decimal n) (first_digit (decimal n) is.0) in
    let value : digits_value 10 (without_leading_plus (decimal n)) ≡ n = ap (digits_value 10) bare ∙ is.1 in
    let numeral : IsNumeral 10 (without_leading_plus (decimal n)) = subst (IsNumeral 10) (sym bare) is.0 in
    sym (u16_in-ok (decimal n) n ((numeral, omega arith), sym value))

no_comma : (digits : List ℕ) → AllDigits 10 digits → AllByRecursion (λ c. is_comma c ≡ false) digits
no_comma [] is = tt
no_comma (c ∷ digits) is = (ne_eqb c 44 (λ same. omega (arith, digit_from_value c is.0, same)), no_comma digits is.1)

apart : (n : ℕ) → n < 2 ^ 16 → All (λ c. is_comma c ≡ false) (decimal n)
apart n small = All-from_recursion (λ c. is_comma c ≡ false) (decimal n) (no_comma (decimal n) (decimal_is_IsNumeral n (omega arith)).0.1)

split_joined : (id : ℕ) (ids : List ℕ) → AllByRecursion (λ id. id < 2 ^ 16) (id ∷ ids)
    → slice_split is_comma (decimal id ++ flat_map (λ id. codes "," ++ decimal id) ids) ≡ decimal id ∷ map decimal ids
split_joined id [] small = ap (slice_split is_comma) (append-nil (decimal id)) ∙ slice_split_none is_comma (decimal id) (apart id small.0)
split_joined id (next ∷ ids) small =
    slice_split_at is_comma (decimal id) 44 (decimal next ++ flat_map (λ id. codes "," ++ decimal id) ids) (apart id small.0) refl
    ∙ ap (λ (parts : List (List ℕ)). decimal id ∷ parts) (split_joined next ids small.1)

decimals_read : (ids : List ℕ) → AllByRecursion (λ id. id < 2 ^ 16) ids → filter_map u16_in (map decimal ids) ≡ ids
decimals_read [] small = refl
decimals_read (id ∷ ids) small = rw (u16_in-decimal id small.0) (ap (λ (rest : List ℕ). id ∷ rest) (decimals_read ids small.1))

list_read : (ids : List ℕ) → AllByRecursion (λ id. id < 2 ^ 16) ids → filter_map u16_in (slice_split is_comma (language_list_text ids)) ≡ ids
list_read [] small = refl
list_read (id ∷ ids) small = ap (filter_map u16_in) (split_joined id ids small) ∙ decimals_read (id ∷ ids) small

pub languages_keep_arch : LanguagesKeepArch
languages_keep_arch ids set small =
    let none = no_mark_before is_semicolon (template_of set) in (
      ap (λ text. filter_map u16_in (slice_split is_comma text)) (languages_text-with_template (arch_text set) (language_list_text ids) set none) ∙ list_read ids small,
      ap nonempty (arch_text-with_template (arch_text set) (language_list_text ids) set none),
    )
