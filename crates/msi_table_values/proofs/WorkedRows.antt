-- Worked examples, by computation.
use Rattle.std.specs.Prelude.{◌≡◌, ℕ, true, false, List, [], ◌∷◌, Some, None, refl, codes, map}
use Rattle.msi_table_values.specs.declared.column.ColumnType.{ColumnType}
use Rattle.msi_table_values.specs.declared.column.ColumnType.TheVariants as coltype
use Rattle.msi_table_values.specs.Columns.{ColumnDef, type_bits, type_of_bits}

abbrev pub plain : List ℕ → ColumnType → ColumnDef
plain name type = record { name = name; coltype = type; is_localizable = false; is_nullable = false; is_primary_key = false; value_range = None; foreign_key = None; category = None; enum_values = [] }

abbrev key : ColumnDef → ColumnDef
key c = record c { is_primary_key = true }

abbrev nullable : ColumnDef → ColumnDef
nullable c = record c { is_nullable = true }

abbrev pub number : ColumnDef
number = key (plain (codes "Number") coltype.Int16)

abbrev pub word : ColumnDef
word = nullable (plain (codes "Word") (coltype.Str 50))

number_type : type_bits number ≡ 0x2502
number_type = refl

word_type : type_bits word ≡ 0x1D32
word_type = refl

types_back : map type_of_bits (0x2502 ∷ 0x1D32 ∷ 0x900 ∷ 0x1900 ∷ 0x104 ∷ 0x504 ∷ 0x103 ∷ []) ≡ Some coltype.Int16 ∷ Some (coltype.Str 50) ∷ Some coltype.Binary ∷ Some coltype.Binary ∷ Some coltype.Int32 ∷ Some coltype.Binary ∷ None ∷ []
types_back = refl

-- a Binary column that is localizable, or a key, would read as one of texts
flagged_binary : map type_of_bits (0xB00 ∷ 0x2900 ∷ []) ≡ Some (coltype.Str 0) ∷ Some (coltype.Str 0) ∷ []
flagged_binary = refl
