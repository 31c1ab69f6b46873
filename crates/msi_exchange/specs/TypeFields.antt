-- Fields with the types of columns: a letter, large where the column takes null, and a width.
use Rattle.std.specs.Prelude.{ℕ, Bool, true, false, ◌==◌, if◌then◌else◌, List, [], ◌∷◌, Option, Some, None, option_map}
use Rattle.std.specs.Char.{is_ascii_uppercase, to_ascii_lowercase}
use Rattle.msi_table_values.specs.Numerals.{u16_in}
use Rattle.msi_base.specs.Results.{◌>>=◌}
use Rattle.msi_table_values.specs.declared.column.ColumnType.{ColumnType}
use Rattle.msi_table_values.specs.declared.column.ColumnType.TheVariants as coltype
use Rattle.msi_exchange.specs.Archives.{TypeDef}

-- `i2` and `i4`
abbrev pub number_type : ℕ → Option ColumnType
number_type width = if width == 2 then Some coltype.Int16 else if width == 4 then Some coltype.Int32 else None

-- `v0`
abbrev pub stream_type : ℕ → Option ColumnType
stream_type width = if width == 0 then Some coltype.Binary else None

-- `s` is a text, `l` a localizable one, `i` a number and `v` a stream
abbrev pub type_of_letter : ℕ → ℕ → Option (ColumnType × Bool)
type_of_letter letter width = if letter == 115 then Some (coltype.Str width, false)
    else if letter == 108 then Some (coltype.Str width, true)
    else if letter == 105 then option_map (λ type. (type, false)) (number_type width)
    else if letter == 118 then option_map (λ type. (type, false)) (stream_type width)
    else None

abbrev pub type_with : ℕ → ℕ → Option TypeDef
type_with letter width = option_map
    (λ type. record { coltype = type.0; is_localizable = type.1; is_nullable = is_ascii_uppercase letter })
    (type_of_letter (to_ascii_lowercase letter) width)

abbrev pub type_in : List ℕ → Option TypeDef
type_in [] = None
type_in (letter ∷ digits) = u16_in digits >>= type_with letter
