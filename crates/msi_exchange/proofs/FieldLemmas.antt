-- Fields of texts and values are read as they were written, and no others are read.
use Rattle.std.proofs.Common.{◌≡◌, ℕ, ℤ, pos, neg_ℤ, zero, suc, ◌<◌, Bool, true, false, not, ◌&&◌, ◌||◌, List, [], ◌∷◌, Some, None, refl, sym, ap, ◌∙◌, arith, cond, eqb, map, length, int_le, w32}
use Rattle.std.specs.Prelude.{option_map}
use Rattle.std.specs.Fmt.{signed_decimal}
use Rattle.std.specs.Int.RustNames.{FitsSigned}
use Rattle.std.specs.List.{list_any}
use Rattle.std.specs.Str.Parse.{signed_digits_value}
use Rattle.std.proofs.lemmas.Bool.{and_parts, and_from, or_parts}
use Rattle.std.proofs.lemmas.Bool.Decides.{Decides-eqb}
use Rattle.std.proofs.lemmas.Int.{ints}
use Rattle.std.proofs.lemmas.List.{length-map}
use Rattle.msi_table_values.specs.Numerals.{is_number_within}
use Rattle.msi_base.proofs.BoolLemmas.{by_test}
use Rattle.msi_base.proofs.OptionLemmas.{guard_held, guard_passed, map_some}
use Rattle.msi_table_values.specs.declared.column.ColumnType.{ColumnType}
use Rattle.msi_table_values.specs.declared.column.ColumnType.TheVariants as coltype
use Rattle.msi_table_values.specs.declared.value.Value.{Value}
use Rattle.msi_table_values.specs.declared.value.Value.TheVariants as value
use Rattle.msi_exchange.specs.Characters.{is_control, is_stand_in, swapped}
use Rattle.msi_exchange.specs.Fields.{filled_in, number_in, text_in, value_in}
use Rattle.msi_exchange.specs.Writing.{has_field, has_value_field, is_number_type, text_field, value_field}
use Rattle.msi_exchange.proofs.CharacterLemmas.{all_swapped_twice, control_of_field, stand_in_of_text}
use Rattle.msi_exchange.proofs.NumeralLemmas.{number_back, number_decides, signed_filled, signed_plain, within}

-- ---- texts

zero_not : (n : ℕ) → 0 < n → eqb n 0 ≡ false
zero_not n l = by_test (eqb n 0) (λ t. absurd (omega (arith, l, (Decides-eqb n 0).0 t))) (λ f. f)

not_zero : (n : ℕ) → eqb n 0 ≡ false → 0 < n
not_zero zero e = absurd cc
not_zero (suc n) e = omega arith

not_true : (b : Bool) → not b ≡ true → b ≡ false
not_true true e = absurd cc
not_true false e = refl

guarded : (e b : Bool) → cond e false b ≡ true → (e ≡ false) × (b ≡ true)
guarded true b h = absurd cc
guarded false b h = (refl, h)

-- what a text with a field is: not empty, and without characters that stand for others
pub filled : (text : List ℕ) → has_field text ≡ true → (0 < length text) × (list_any is_stand_in text ≡ false)
filled text h = let p = guarded (eqb (length text) 0) (not (list_any is_stand_in text)) h in (not_zero (length text) p.0, not_true (list_any is_stand_in text) p.1)

pub has_field_by : (text : List ℕ) → 0 < length text → list_any is_stand_in text ≡ false → has_field text ≡ true
has_field_by text l h = ap (λ e. cond e false (not (list_any is_stand_in text))) (zero_not (length text) l) ∙ ap not h

pub field_filled : (text : List ℕ) → has_field text ≡ true → 0 < length (text_field text)
field_filled text h = omega (arith, length-map text swapped, (filled text h).0)

pub field_plain : (text : List ℕ) → has_field text ≡ true → list_any is_control (text_field text) ≡ false
field_plain text h = control_of_field text ∙ (filled text h).1

-- a field that isn't empty and has no control character
text_by : (field : List ℕ) → 0 < length field → list_any is_control field ≡ false → text_in field ≡ Some (map swapped field)
text_by field l h =
    ap (λ e. cond (e || list_any is_control field) None (Some (map swapped field))) (zero_not (length field) l)
    ∙ ap (λ b. cond b None (Some (map swapped field))) h

pub text_back : (text : List ℕ) → has_field text ≡ true → text_in (text_field text) ≡ Some text
text_back text h = text_by (text_field text) (field_filled text h) (field_plain text h) ∙ ap Some (all_swapped_twice text)

pub text_parts : (field text : List ℕ) → text_in field ≡ Some text → (0 < length field) × (list_any is_control field ≡ false) × (map swapped field ≡ text)
text_parts field text e =
    let p = guard_passed (eqb (length field) 0 || list_any is_control field) (Some (map swapped field)) text e in
    let q = or_parts (eqb (length field) 0) (list_any is_control field) p.0 in
    let same : map swapped field ≡ text = cc in
    (not_zero (length field) q.0, q.1, same)

pub text_told : (field text : List ℕ) → text_in field ≡ Some text → has_field text ≡ true
text_told field text e =
    let p = text_parts field text e in
    ap has_field (sym p.2) ∙ has_field_by (map swapped field) (omega (arith, length-map field swapped, p.0)) (stand_in_of_text field ∙ p.1)

-- ---- values

filled_value : (type : ColumnType) (field : List ℕ) → 0 < length field → value_in type field ≡ filled_in type field
filled_value type field l = ap (λ e. cond e (Some value.Null) (filled_in type field)) (zero_not (length field) l)

pub value_back : (type : ColumnType) (v : Value) → has_value_field type v ≡ true → value_in type (value_field v) ≡ Some v
value_back type value.Null h = refl
value_back coltype.Int16 (value.Int n) h =
    let fits = within n h in
    filled_value coltype.Int16 (signed_decimal n) (signed_filled n fits) ∙ ap (option_map value.Int) (number_back n fits)
value_back coltype.Int32 (value.Int n) h =
    let fits = within n h in
    filled_value coltype.Int32 (signed_decimal n) (signed_filled n fits) ∙ ap (option_map value.Int) (number_back n fits)
value_back (coltype.Str k) (value.Int n) h = absurd cc
value_back coltype.Binary (value.Int n) h = absurd cc
value_back coltype.Int16 (value.Str text) h = absurd cc
value_back coltype.Int32 (value.Str text) h = absurd cc
value_back (coltype.Str k) (value.Str text) h = filled_value (coltype.Str k) (text_field text) (field_filled text h) ∙ ap (option_map value.Str) (text_back text h)
value_back coltype.Binary (value.Str text) h = filled_value coltype.Binary (text_field text) (field_filled text h) ∙ ap (option_map value.Str) (text_back text h)
value_back type value.Binary h = absurd cc

pub value_plain : (type : ColumnType) (v : Value) → has_value_field type v ≡ true → list_any is_control (value_field v) ≡ false
value_plain type value.Null h = refl
value_plain type (value.Int n) h = signed_plain n (within n (and_parts (is_number_type type) (int_le (neg_ℤ (pos 2147483648)) n && int_le n (pos 2147483647)) h).1)
value_plain coltype.Int16 (value.Str text) h = absurd cc
value_plain coltype.Int32 (value.Str text) h = absurd cc
value_plain (coltype.Str k) (value.Str text) h = field_plain text h
value_plain coltype.Binary (value.Str text) h = field_plain text h
value_plain type value.Binary h = absurd cc

number_fits : (field : List ℕ) (n : ℤ) → number_in field ≡ Some n → (int_le (neg_ℤ (pos 2147483648)) n && int_le n (pos 2147483647)) ≡ true
number_fits field n e =
    let p = guard_held (is_number_within (neg_ℤ (pos 2147483648)) (pos 2147483647) field) (Some (signed_digits_value 10 field)) n e in
    let is : signed_digits_value 10 field ≡ n = cc in
    ap (λ z. int_le (neg_ℤ (pos 2147483648)) z && int_le z (pos 2147483647)) (sym is) ∙ bounds (signed_digits_value 10 field) ((number_decides field).0 p.0).1
  where
    bounds : (z : ℤ) → FitsSigned w32 z → (int_le (neg_ℤ (pos 2147483648)) z && int_le z (pos 2147483647)) ≡ true
    bounds z fits = grind (arith, ints)

number_told : (field : List ℕ) (v : Value) (type : ColumnType) → is_number_type type ≡ true → option_map value.Int (number_in field) ≡ Some v → has_value_field type v ≡ true
number_told field v type numbers e =
    let (n, is, same) = map_some (number_in field) value.Int v e in
    ap (has_value_field type) (sym same) ∙ and_from (is_number_type type) (int_le (neg_ℤ (pos 2147483648)) n && int_le n (pos 2147483647)) numbers (number_fits field n is)

filled_told : (type : ColumnType) (field : List ℕ) (v : Value) → filled_in type field ≡ Some v → has_value_field type v ≡ true
filled_told coltype.Int16 field v e = number_told field v coltype.Int16 refl e
filled_told coltype.Int32 field v e = number_told field v coltype.Int32 refl e
filled_told (coltype.Str k) field v e = let (text, is, same) = map_some (text_in field) value.Str v e in ap (has_value_field (coltype.Str k)) (sym same) ∙ text_told field text is
filled_told coltype.Binary field v e = let (text, is, same) = map_some (text_in field) value.Str v e in ap (has_value_field coltype.Binary) (sym same) ∙ text_told field text is

pub value_told : (type : ColumnType) (field : List ℕ) (v : Value) → value_in type field ≡ Some v → has_value_field type v ≡ true
value_told type [] v e = let same : value.Null ≡ v = cc in ap (has_value_field type) (sym same)
value_told type (c ∷ cs) v e = filled_told type (c ∷ cs) v (sym (filled_value type (c ∷ cs) (omega arith)) ∙ e)
