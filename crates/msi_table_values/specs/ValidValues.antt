-- Which values a column takes (MSI SDK, "_Validation table").
use Rattle.std.specs.Prelude.{ℕ, Bool, true, false, not, List, [], ◌∷◌, length, Option, Some, None, nat_le, ◌==◌, ◌&&◌}
use Rattle.std.specs.Prelude.{◌||◌, bytes_eq, chars, ℤ, pos, neg_ℤ, int_le}
use Rattle.std.specs.List.{list_any}
use Rattle.msi_categories.specs.declared.category.Category.{Category}
use Rattle.msi_categories.specs.CategoryRules.{is_accepted}
use Rattle.msi_table_values.specs.declared.column.ColumnType.{ColumnType}
use Rattle.msi_table_values.specs.declared.column.ColumnType.TheVariants as coltype
use Rattle.msi_table_values.specs.declared.value.Value.{Value}
use Rattle.msi_table_values.specs.declared.value.Value.TheVariants.{Null, Int, Str, Binary}
use Rattle.msi_table_values.specs.Columns.{ColumnDef, greatest_16, greatest_32}

abbrev pub is_within : ℤ → ℤ → ℤ → Bool
is_within low high n = int_le low n && int_le n high

-- where no range is set, every number is
abbrev pub is_in_value_range : Option (ℤ × ℤ) → ℤ → Bool
is_in_value_range None n = true
is_in_value_range (Some r) n = is_within r.0 r.1 n

-- where no category is set, every text is
abbrev pub is_of_category : Option Category → List ℕ → Bool
is_of_category None text = true
is_of_category (Some category) text = is_accepted category text

-- where no text is listed, every text is
abbrev pub is_of_values : List (List ℕ) → List ℕ → Bool
is_of_values [] text = true
is_of_values (v ∷ vs) text = list_any (bytes_eq text) (v ∷ vs)

-- a number of the type, but the least, which stands for no value; a text of at most n characters, where 0 sets no limit
abbrev pub fits_type : ColumnType → Value → Bool
fits_type coltype.Int16 (Int n) = is_within (neg_ℤ (pos greatest_16)) (pos greatest_16) n
fits_type coltype.Int32 (Int n) = is_within (neg_ℤ (pos greatest_32)) (pos greatest_32) n
fits_type (coltype.Str n) (Str text) = (n == 0) || nat_le (length (chars text)) n
fits_type coltype.Binary Binary = true
fits_type _ _ = false

-- null stands in nullable columns, but not in one of streams
abbrev pub is_valid_value : ColumnDef → Value → Bool
is_valid_value c Null = c.is_nullable && not (fits_type c.coltype Binary)
is_valid_value c (Int n) = fits_type c.coltype (Int n) && is_in_value_range c.value_range n
is_valid_value c (Str text) = fits_type c.coltype (Str text)
    && is_of_category c.category text && is_of_values c.enum_values text
is_valid_value c Binary = fits_type c.coltype Binary
