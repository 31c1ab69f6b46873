-- The text that is written for an archive, and which archives have one.
use Rattle.std.specs.Prelude.{◌≡◌, Result, Ok, Err, ℕ, ◌^◌, Bool, true, false, not, ◌==◌, ◌&&◌, if◌then◌else◌, nat_lt}
use Rattle.std.specs.Prelude.{List, [], ◌∷◌, ◌++◌, length, map, Option, Some, None, is_some, int_le, neg_ℤ, pos}
use Rattle.std.specs.Char.{to_ascii_uppercase}
use Rattle.std.specs.Fmt.{decimal, signed_decimal}
use Rattle.std.specs.List.{flat_map, list_all, list_any}
use Rattle.msi_table_values.specs.Numerals.{u16_in}
use Rattle.msi_base.specs.declared.errors.ErrorKind.TheVariants.{InvalidInput}
use Rattle.msi_table_values.specs.declared.column.ColumnType.{ColumnType}
use Rattle.msi_table_values.specs.declared.column.ColumnType.TheVariants as coltype
use Rattle.msi_table_values.specs.declared.value.Value.{Value}
use Rattle.msi_table_values.specs.declared.value.Value.TheVariants as value
use Rattle.msi_exchange.specs.Archives.{ArchiveColumnDef, ArchiveDef, KeysDef, TypeDef}
use Rattle.msi_exchange.specs.Characters.{is_stand_in, swapped}
use Rattle.msi_exchange.specs.Places.{Fault}

-- The text of a field: neither the empty text, nor one with a character that stands for a control character, has one
abbrev pub text_field : List ℕ → List ℕ
text_field text = map swapped text

abbrev pub has_field : List ℕ → Bool
has_field text = if length text == 0 then false else not (list_any is_stand_in text)

abbrev pub value_field : Value → List ℕ
value_field (value.Int n) = signed_decimal n
value_field (value.Str text) = text_field text
value_field _ = []

abbrev pub is_number_type : ColumnType → Bool
is_number_type coltype.Int16 = true
is_number_type coltype.Int32 = true
is_number_type _ = false

abbrev pub has_value_field : ColumnType → Value → Bool
has_value_field type value.Null = true
has_value_field type (value.Int n) =
    is_number_type type && (int_le (neg_ℤ (pos 2147483648)) n && int_le n (pos 2147483647))
has_value_field type (value.Str text) = if is_number_type type then false else has_field text
has_value_field type value.Binary = false

abbrev pub type_letter : ColumnType → Bool → ℕ
type_letter (coltype.Str n) true = 108
type_letter (coltype.Str n) false = 115
type_letter coltype.Binary _ = 118
type_letter _ _ = 105

abbrev pub type_width : ColumnType → ℕ
type_width coltype.Int16 = 2
type_width coltype.Int32 = 4
type_width (coltype.Str n) = n
type_width coltype.Binary = 0

abbrev pub type_field : TypeDef → List ℕ
type_field type = let letter = type_letter type.coltype type.is_localizable in
    (if type.is_nullable then to_ascii_uppercase letter else letter) ∷ decimal (type_width type.coltype)

-- texts alone can be localized, and their width is below 2 ^ 16
abbrev pub has_width : ColumnType → Bool → Bool
has_width (coltype.Str n) is_localizable = nat_lt n (2 ^ 16)
has_width _ is_localizable = not is_localizable

abbrev pub has_type_field : TypeDef → Bool
has_type_field type = has_width type.coltype type.is_localizable

abbrev pub tabbed : List (List ℕ) → List ℕ
tabbed [] = []
tabbed (field ∷ others) = field ++ flat_map (λ other. 9 ∷ other) others

abbrev pub line_of : List (List ℕ) → List ℕ
line_of fields = tabbed fields ++ 13 ∷ 10 ∷ []

abbrev pub name_fields : List ArchiveColumnDef → List (List ℕ)
name_fields columns = map (λ c. text_field c.name) columns

abbrev pub type_fields : List ArchiveColumnDef → List (List ℕ)
type_fields columns = map (λ c. type_field c.field_type) columns

abbrev pub page_fields : Option ℕ → List (List ℕ)
page_fields None = []
page_fields (Some page) = decimal page ∷ []

-- what of the third line stands in front of the table's name
abbrev pub page_front : Option ℕ → List ℕ
page_front None = []
page_front (Some page) = decimal page ++ 9 ∷ []

abbrev pub key_fields : KeysDef → List (List ℕ)
key_fields head = page_fields head.page ++ text_field head.table ∷ map text_field head.keys

abbrev pub row_line : List Value → List ℕ
row_line row = line_of (map value_field row)

-- the lines of the names, of the types, of the keys, and of each row, each with a carriage return and a line feed
abbrev pub archive_text : ArchiveDef → List ℕ
archive_text archive = line_of (name_fields archive.columns)
    ++ (line_of (type_fields archive.columns) ++ (line_of (key_fields archive.head) ++ flat_map row_line archive.rows))

abbrev pub has_column_fields : ArchiveColumnDef → Bool
has_column_fields column = has_field column.name && has_type_field column.field_type

-- without a page in front, the table's name is none that would be read as one
abbrev pub has_table_field : Option ℕ → List ℕ → Bool
has_table_field (Some page) table = has_field table && nat_lt page (2 ^ 16)
has_table_field None table = has_field table && not (is_some (u16_in table))

abbrev pub has_key_fields : KeysDef → Bool
has_key_fields head = has_table_field head.page head.table && list_all has_field head.keys

-- a row has a value for each column, and there is a column
abbrev pub has_row_fields : List ArchiveColumnDef → List Value → Bool
has_row_fields [] [] = true
has_row_fields (column ∷ columns) (value ∷ values) =
    has_value_field column.field_type.coltype value && has_row_fields columns values
has_row_fields _ _ = false

abbrev pub has_row_line : List ArchiveColumnDef → List Value → Bool
has_row_line [] row = false
has_row_line columns row = has_row_fields columns row

abbrev pub can_write : ArchiveDef → Bool
can_write archive = list_all has_column_fields archive.columns && (has_key_fields archive.head
    && list_all (has_row_line archive.columns) archive.rows)

-- what a check of a part returned tells whether the part can be written
abbrev pub Checks : {X : Type 0} → Result X Fault → Bool → Type 0
Checks (Ok _) holds = holds ≡ true
Checks (Err e) holds = (e.kind ≡ InvalidInput) × (holds ≡ false)
