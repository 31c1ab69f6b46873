-- Fields of types are read as they were written, and no others are read.
use Rattle.std.proofs.Common.{◌≡◌, ℕ, ◌^◌, ◌<◌, ◌⊎◌, inl, inr, Bool, true, false, List, [], ◌∷◌, Some, None, refl, sym, ap, subst, ◌∙◌, arith, cond, eqb, length, get_or}
use Rattle.std.specs.Prelude.{option_map}
use Rattle.std.specs.Char.{is_ascii, is_ascii_uppercase, to_ascii_lowercase, to_ascii_uppercase}
use Rattle.std.specs.List.{list_any}
use Rattle.std.proofs.lemmas.Bool.{or_from}
use Rattle.std.proofs.lemmas.Bool.Decides.{Decides-ltb}
use Rattle.msi_table_values.specs.Numerals.{u16_in}
use Rattle.msi_base.specs.Results.{◌>>=◌}
use Rattle.msi_base.proofs.OptionLemmas.{bind_some, branch, map_some}
use Rattle.msi_table_values.specs.declared.column.ColumnType.{ColumnType}
use Rattle.msi_table_values.specs.declared.column.ColumnType.TheVariants as coltype
use Rattle.msi_exchange.specs.Archives.{TypeDef}
use Rattle.msi_exchange.specs.Characters.{is_control}
use Rattle.msi_exchange.specs.TypeFields.{number_type, stream_type, type_in, type_of_letter, type_with}
use Rattle.msi_exchange.specs.Writing.{has_type_field, has_width, type_field, type_letter, type_width}
use Rattle.msi_exchange.proofs.NumeralLemmas.{decimal_plain, u16_back, u16_below}

-- ---- what is written is read

letter_back : (type : ColumnType) (l e : Bool) → has_width type l ≡ true → type_with (cond e (to_ascii_uppercase (type_letter type l)) (type_letter type l)) (type_width type) ≡ Some (record { coltype = type; is_localizable = l; is_nullable = e })
letter_back coltype.Int16 false false h = refl
letter_back coltype.Int16 false true h = refl
letter_back coltype.Int16 true e h = absurd cc
letter_back coltype.Int32 false false h = refl
letter_back coltype.Int32 false true h = refl
letter_back coltype.Int32 true e h = absurd cc
letter_back (coltype.Str n) false false h = refl
letter_back (coltype.Str n) false true h = refl
letter_back (coltype.Str n) true false h = refl
letter_back (coltype.Str n) true true h = refl
letter_back coltype.Binary false false h = refl
letter_back coltype.Binary false true h = refl
letter_back coltype.Binary true e h = absurd cc

pub width_below : (type : ColumnType) (l : Bool) → has_width type l ≡ true → type_width type < 2 ^ 16
width_below coltype.Int16 l h = omega arith
width_below coltype.Int32 l h = omega arith
width_below (coltype.Str n) l h = (Decides-ltb n (2 ^ 16)).0 h
width_below coltype.Binary l h = omega arith

pub type_back : (type : TypeDef) → has_type_field type ≡ true → type_in (type_field type) ≡ Some type
type_back type h =
    ap (λ o. o >>= type_with (cond type.is_nullable (to_ascii_uppercase (type_letter type.coltype type.is_localizable)) (type_letter type.coltype type.is_localizable))) (u16_back (type_width type.coltype) (width_below type.coltype type.is_localizable h))
    ∙ letter_back type.coltype type.is_localizable type.is_nullable h

letter_plain : (type : ColumnType) (l e : Bool) → is_control (cond e (to_ascii_uppercase (type_letter type l)) (type_letter type l)) ≡ false
letter_plain coltype.Int16 l false = refl
letter_plain coltype.Int16 l true = refl
letter_plain coltype.Int32 l false = refl
letter_plain coltype.Int32 l true = refl
letter_plain (coltype.Str n) false false = refl
letter_plain (coltype.Str n) false true = refl
letter_plain (coltype.Str n) true false = refl
letter_plain (coltype.Str n) true true = refl
letter_plain coltype.Binary l false = refl
letter_plain coltype.Binary l true = refl

pub type_plain : (type : TypeDef) → has_type_field type ≡ true → list_any is_control (type_field type) ≡ false
type_plain type h = or_from _ _ (letter_plain type.coltype type.is_localizable type.is_nullable) (decimal_plain (type_width type.coltype) (omega (arith, width_below type.coltype type.is_localizable h)))

pub type_filled : (type : TypeDef) → 0 < length (type_field type)
type_filled type = omega arith

-- ---- what is read can be written

number_width : (width : ℕ) (type : ColumnType) → number_type width ≡ Some type → has_width type false ≡ true
number_width width type e = of_number (branch (eqb width 2) (Some coltype.Int16) (cond (eqb width 4) (Some coltype.Int32) None) type e)
  where
    of_four : (b : Bool) → cond b (Some coltype.Int32) None ≡ Some type → has_width type false ≡ true
    of_four true e = let same : coltype.Int32 ≡ type = cc in ap (λ t. has_width t false) (sym same)
    of_four false e = absurd cc

    of_number : ((eqb width 2 ≡ true) × (Some coltype.Int16 ≡ Some type)) ⊎ ((eqb width 2 ≡ false) × (cond (eqb width 4) (Some coltype.Int32) None ≡ Some type)) → has_width type false ≡ true
    of_number (inl p) = let same : coltype.Int16 ≡ type = cc in ap (λ t. has_width t false) (sym same)
    of_number (inr p) = of_four (eqb width 4) p.1

stream_width : (width : ℕ) (type : ColumnType) → stream_type width ≡ Some type → has_width type false ≡ true
stream_width width type e = of_zero (eqb width 0) e
  where
    of_zero : (b : Bool) → cond b (Some coltype.Binary) None ≡ Some type → has_width type false ≡ true
    of_zero true e = let same : coltype.Binary ≡ type = cc in ap (λ t. has_width t false) (sym same)
    of_zero false e = absurd cc

letter_told : (s l i v : Bool) (width : ℕ) (found : ColumnType × Bool) → width < 2 ^ 16
    → cond s (Some (coltype.Str width, false)) (cond l (Some (coltype.Str width, true)) (cond i (option_map (λ type. (type, false)) (number_type width)) (cond v (option_map (λ type. (type, false)) (stream_type width)) None))) ≡ Some found
    → has_width found.0 found.1 ≡ true
letter_told true l i v width found below e = let same : (coltype.Str width, false) ≡ found = cc in ap (λ (f : ColumnType × Bool). has_width f.0 f.1) (sym same) ∙ (Decides-ltb width (2 ^ 16)).1 below
letter_told false true i v width found below e = let same : (coltype.Str width, true) ≡ found = cc in ap (λ (f : ColumnType × Bool). has_width f.0 f.1) (sym same) ∙ (Decides-ltb width (2 ^ 16)).1 below
letter_told false false true v width found below e = let (type, is, same) = map_some (number_type width) (λ type. (type, false)) found e in ap (λ (f : ColumnType × Bool). has_width f.0 f.1) (sym same) ∙ number_width width type is
letter_told false false false true width found below e = let (type, is, same) = map_some (stream_type width) (λ type. (type, false)) found e in ap (λ (f : ColumnType × Bool). has_width f.0 f.1) (sym same) ∙ stream_width width type is
letter_told false false false false width found below e = absurd cc

pub type_told : (field : List ℕ) (type : TypeDef) → type_in field ≡ Some type → has_type_field type ≡ true
type_told [] type e = absurd cc
type_told (letter ∷ digits) type e =
    let (width, is, rest) = bind_some (u16_in digits) (type_with letter) type e in
    let (found, named, same) = map_some (type_of_letter (to_ascii_lowercase letter) width) (λ found. record { coltype = found.0; is_localizable = found.1; is_nullable = is_ascii_uppercase letter }) type rest in
    ap has_type_field (sym same)
    ∙ letter_told (eqb (to_ascii_lowercase letter) 115) (eqb (to_ascii_lowercase letter) 108) (eqb (to_ascii_lowercase letter) 105) (eqb (to_ascii_lowercase letter) 118) width found (u16_below digits width is) named

-- ---- a field whose first byte is ASCII may be cut behind it

pub first_low : (field rest : List ℕ) (letter : ℕ) → field ≡ letter ∷ rest → is_ascii letter ≡ true → (0 < length field) × (get_or field 0 0 < 128)
first_low field rest letter e a = subst (λ (f : List ℕ). (0 < length f) × (get_or f 0 0 < 128)) (sym e) (omega arith, (Decides-ltb letter 128).0 a)
