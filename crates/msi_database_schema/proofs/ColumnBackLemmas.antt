-- A column comes back from its row of `_Columns` and its row of `_Validation`.
use Rattle.std.proofs.Common.{◌≡◌, ℕ, ◌+◌, ◌<◌, ◌≤◌, Bool, true, false, List, [], ◌∷◌, refl, ap, ◌∙◌, arith, Some, None, w16, pos, ℤ}
use Rattle.std.specs.Prelude.{◌==◌, Option, option_map}
use Rattle.std.specs.List.{All, list_any, slice_split, join_with_byte}
use Rattle.std.specs.Int.{cast_unsigned}
use Rattle.std.proofs.lemmas.Int.{ints}
use Rattle.std.proofs.lemmas.List.Elements.{All-cons, All-nil}
use Rattle.std.proofs.lemmas.List.Splits.{slice_split_none, slice_split_at}
use Rattle.std.proofs.lemmas.Bool.{or_parts}
use Rattle.msi_categories.specs.declared.category.Category.{Category}
use Rattle.msi_categories.specs.declared.category.Category.TheVariants as category
use Rattle.msi_categories.specs.Categories.{category_name}
use Rattle.msi_table_values.specs.declared.value.Value.{Value}
use Rattle.msi_table_values.specs.declared.value.Value.TheVariants.{Int, Str}
use Rattle.msi_table_values.specs.declared.column.ColumnType.{ColumnType}
use Rattle.msi_table_values.specs.declared.column.ColumnType.TheVariants as coltype
use Rattle.msi_table_values.specs.Columns.{ColumnDef, HasShortLength, IsPlainIfBinary, begun_column, bit_if, has_bit, kind_bits, type_bits, with_bits}
use Rattle.msi_table_values.proofs.TypeBitsLemmas.{bits_tell}
use Rattle.msi_database_schema.specs.Schema as schema
use Rattle.msi_database_schema.specs.Description as description

-- the bits of a type fit a signed number of 16 bits
bits_below : (kind : ℕ) (l n k : Bool) → kind ≤ 3583 → kind + bit_if l 0x200 + bit_if n 0x1000 + bit_if k 0x2000 < 32768
bits_below kind true true true h = omega arith
bits_below kind true true false h = omega arith
bits_below kind true false true h = omega arith
bits_below kind true false false h = omega arith
bits_below kind false true true h = omega arith
bits_below kind false true false h = omega arith
bits_below kind false false true h = omega arith
bits_below kind false false false h = omega arith

kind_below : (type : ColumnType) → HasShortLength type → kind_bits type ≤ 3583
kind_below coltype.Int16 h = omega arith
kind_below coltype.Int32 h = omega arith
kind_below (coltype.Str n) h = omega arith
kind_below coltype.Binary h = omega arith

pub type_bits_fit : (c : ColumnDef) → HasShortLength c.coltype → type_bits c < 32768
type_bits_fit c h = bits_below (kind_bits c.coltype) c.is_localizable c.is_nullable c.is_primary_key (kind_below c.coltype h)

number_back : (n : ℕ) → n < 32768 → cast_unsigned w16 (pos n) ≡ n
number_back n h = omega (arith, ints)

none_of : (v : List ℕ) → list_any (λ b. b == 59) v ≡ false → All (λ b. (b == 59) ≡ false) v
none_of [] e = All-nil _
none_of (b ∷ bs) e = let h = or_parts (b == 59) (list_any (λ b. b == 59) bs) e in All-cons (λ b. (b == 59) ≡ false) b bs h.0 (none_of bs h.1)

pub values_back : (v : List ℕ) (vs : List (List ℕ)) → list_any (list_any (λ b. b == 59)) (v ∷ vs) ≡ false → slice_split (λ c. c == 59) (join_with_byte 59 (v ∷ vs)) ≡ v ∷ vs
values_back v [] e = slice_split_none (λ c. c == 59) v (none_of v (or_parts (list_any (λ b. b == 59) v) false e).0)
values_back v (w ∷ ws) e =
    let h = or_parts (list_any (λ b. b == 59) v) (list_any (list_any (λ b. b == 59)) (w ∷ ws)) e in
    slice_split_at (λ c. c == 59) v 59 (join_with_byte 59 (w ∷ ws)) (none_of v h.0) refl ∙ ap (λ (parts : List (List ℕ)). v ∷ parts) (values_back w ws h.1)

pub enum_values_back : (values : List (List ℕ)) → list_any (list_any (λ b. b == 59)) values ≡ false → schema.values_in (description.text_or_null (description.joined_values values)) ≡ values
enum_values_back [] e = refl
enum_values_back (v ∷ vs) e = values_back v vs e

-- a category by its printed name
named_back : (c : Category) → schema.category_named (category_name c) ≡ Some c
named_back category.Text = refl
named_back category.UpperCase = refl
named_back category.LowerCase = refl
named_back category.Integer = refl
named_back category.DoubleInteger = refl
named_back category.Number = refl
named_back category.TimeDate = refl
named_back category.Identifier = refl
named_back category.Property = refl
named_back category.Filename = refl
named_back category.WildCardFilename = refl
named_back category.Path = refl
named_back category.Paths = refl
named_back category.AnyPath = refl
named_back category.DefaultDir = refl
named_back category.RegPath = refl
named_back category.Formatted = refl
named_back category.FormattedSddlText = refl
named_back category.Template = refl
named_back category.Condition = refl
named_back category.Guid = refl
named_back category.Version = refl
named_back category.Language = refl
named_back category.Binary = refl
named_back category.CustomSource = refl
named_back category.Cabinet = refl
named_back category.Shortcut = refl

pub category_back : (o : Option Category) → schema.category_named (schema.text_of (description.text_or_null (option_map category_name o))) ≡ o
category_back None = refl
category_back (Some c) = named_back c

-- a range, and a foreign key
pub range_back : (o : Option (ℤ × ℤ)) → schema.both_set schema.number_of schema.number_of (description.int_or_null (option_map (λ r. r.0) o)) (description.int_or_null (option_map (λ r. r.1) o)) ≡ o
range_back None = refl
range_back (Some r) = refl

pub foreign_key_back : (o : Option (List ℕ × ℤ)) → schema.both_set schema.text_of schema.number_of (description.text_or_null (option_map (λ r. r.0) o)) (description.int_or_null (option_map (λ r. r.1) o)) ≡ o
foreign_key_back None = refl
foreign_key_back (Some r) = refl

-- What a column has to be
pub record IsDescribable (c : ColumnDef) : Type 0 where
  pub short : HasShortLength c.coltype
  pub plain : IsPlainIfBinary c
  pub values : list_any (list_any (λ b. b == 59)) c.enum_values ≡ false

-- what the bits and the row of `_Validation` make of a column that is begun, is the column
abbrev made : List ℕ → ColumnType → Bool → Bool → Bool → Option (ℤ × ℤ) → Option (List ℕ × ℤ) → Option Category → List (List ℕ) → ColumnDef
made name type l n k range foreign category values = record { name = name; coltype = type; is_localizable = l; is_nullable = n; is_primary_key = k; value_range = range; foreign_key = foreign; category = category; enum_values = values }

parts_back : (name : List ℕ) (type : ColumnType) (l n k : Bool) (bits : ℕ) (range : Option (ℤ × ℤ)) (foreign : Option (List ℕ × ℤ)) (category : Option Category) (values : List (List ℕ)) (table : List ℕ)
    → has_bit bits 0x200 ≡ l → has_bit bits 0x1000 ≡ n → has_bit bits 0x2000 ≡ k → list_any (list_any (λ b. b == 59)) values ≡ false
    → schema.described (Some (description.validation_row table (made name type l n k range foreign category values))) (with_bits (begun_column name) bits type) ≡ made name type l n k range foreign category values
parts_back name type l true k bits range foreign category values table el en ek free = rw (el, en, ek, range_back range, foreign_key_back foreign, category_back category, enum_values_back values free)
parts_back name type l false k bits range foreign category values table el en ek free = rw (el, en, ek, range_back range, foreign_key_back foreign, category_back category, enum_values_back values free)

-- its row of `_Columns`
abbrev pub row_of_column : List ℕ → ℕ → ColumnDef → List Value
row_of_column table number c = Str table ∷ Int (pos number) ∷ Str c.name ∷ Int (pos (type_bits c)) ∷ []

bits_back : (table : List ℕ) (number : ℕ) (c : ColumnDef) → HasShortLength c.coltype → schema.bits_in (row_of_column table number c) ≡ type_bits c
bits_back table number c short = number_back (type_bits c) (type_bits_fit c short)

-- the column comes back, where the first row of `_Validation` that has its table and its name is the one that was added for it
pub column_back : (s : schema.SchemaRows) (table : List ℕ) (number : ℕ) (c : ColumnDef) → IsDescribable c
    → schema.validation_row s table c.name ≡ Some (description.validation_row table c)
    → schema.column_of_row s table (row_of_column table number c) ≡ Some c
column_back s table number c d found =
    let h = bits_tell c d.short in
    rw (found, bits_back table number c d.short, h.3 d.plain)
    (ap Some (parts_back c.name c.coltype c.is_localizable c.is_nullable c.is_primary_key (type_bits c) c.value_range c.foreign_key c.category c.enum_values table h.0 h.1 h.2 d.values))
