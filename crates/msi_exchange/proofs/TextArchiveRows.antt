-- Worked archives, by computation. The texts of the first two are as `msiinfo export` of msitools 0.101 writes them,
-- and so is that of the page, but for a null that it writes at the end.
use Rattle.std.specs.Prelude.{◌≡◌, ℕ, [], ◌∷◌, ◌++◌, List, None, Some, codes, false, negsuc, pos, refl, true}
use Rattle.msi_table_values.specs.declared.column.ColumnType.TheVariants as coltype
use Rattle.msi_table_values.specs.declared.value.Value.TheVariants as value
use Rattle.msi_exchange.specs.Archives.{ArchiveDef}
use Rattle.msi_exchange.specs.Fields.{text_in, value_in}
use Rattle.msi_exchange.specs.Reading.{archive_in, archive_of, cell_in, column_in, columns_in, keys_with, row_in}
use Rattle.msi_exchange.specs.TypeFields.{type_in}
use Rattle.msi_exchange.specs.Writing.{archive_text, can_write}

abbrev ended : List ℕ
ended = 13 ∷ 10 ∷ []

-- texts with the characters that stand for a tab, a carriage return and a line feed
abbrev properties_text : List ℕ
properties_text = codes "Property" ++ 9 ∷ codes "Value" ++ ended ++ codes "s72" ++ 9 ∷ codes "l0" ++ ended
    ++ codes "Property" ++ 9 ∷ codes "Property" ++ ended ++ codes "A" ++ 9 ∷ codes "one" ++ ended
    ++ codes "B" ++ 9 ∷ codes "tab" ++ 16 ∷ codes "cr" ++ 17 ∷ codes "lf" ++ 25 ∷ codes "end" ++ ended

abbrev properties : ArchiveDef
properties = record {
  head = record { page = None; table = codes "Property"; keys = codes "Property" ∷ [] };
  columns = record { name = codes "Property"; field_type = record { coltype = coltype.Str 72; is_localizable = false; is_nullable = false } }
      ∷ record { name = codes "Value"; field_type = record { coltype = coltype.Str 0; is_localizable = true; is_nullable = false } } ∷ [];
  rows = (value.Str (codes "A") ∷ value.Str (codes "one") ∷ [])
      ∷ (value.Str (codes "B") ∷ value.Str (codes "tab" ++ 9 ∷ codes "cr" ++ 13 ∷ codes "lf" ++ 10 ∷ codes "end") ∷ []) ∷ [];
}

properties_read : archive_in properties_text ≡ Some properties
unfolding archive_of cell_in column_in columns_in keys_with row_in
properties_read = refl

properties_written : archive_text properties ≡ properties_text
unfolding Rattle.std.specs.Fmt.digits
properties_written = refl

-- numbers, and a null
abbrev numbers_text : List ℕ
numbers_text = codes "Id" ++ 9 ∷ codes "Name" ++ ended ++ codes "i2" ++ 9 ∷ codes "I4" ++ ended ++ codes "Things" ++ 9 ∷ codes "Id" ++ ended
    ++ codes "-3" ++ 9 ∷ codes "-100000" ++ ended ++ codes "2" ++ 9 ∷ ended

abbrev numbers : ArchiveDef
numbers = record {
  head = record { page = None; table = codes "Things"; keys = codes "Id" ∷ [] };
  columns = record { name = codes "Id"; field_type = record { coltype = coltype.Int16; is_localizable = false; is_nullable = false } }
      ∷ record { name = codes "Name"; field_type = record { coltype = coltype.Int32; is_localizable = false; is_nullable = true } } ∷ [];
  rows = (value.Int (negsuc 2) ∷ value.Int (negsuc 99999) ∷ []) ∷ (value.Int (pos 2) ∷ value.Null ∷ []) ∷ [];
}

numbers_read : archive_in numbers_text ≡ Some numbers
unfolding archive_of cell_in column_in columns_in keys_with row_in
numbers_read = refl

-- the page of a whole database, in a file without columns
abbrev page_text : List ℕ
page_text = ended ++ ended ++ codes "1252" ++ 9 ∷ codes "_ForceCodepage" ++ ended

abbrev page_alone : ArchiveDef
page_alone = record { head = record { page = Some 1252; table = codes "_ForceCodepage"; keys = [] }; columns = []; rows = [] }

page_read : archive_in page_text ≡ Some page_alone
unfolding archive_of cell_in column_in columns_in keys_with row_in
page_read = refl

page_written : archive_text page_alone ≡ page_text
unfolding Rattle.std.specs.Fmt.digits
page_written = refl

page_can_be_written : can_write page_alone ≡ true
page_can_be_written = refl

-- lines that line feeds end, and the last one the text
feeds_read : archive_in (codes "A" ++ 10 ∷ codes "S255" ++ 10 ∷ codes "T" ++ 10 ∷ codes "x") ≡ Some (record {
  head = record { page = None; table = codes "T"; keys = [] };
  columns = record { name = codes "A"; field_type = record { coltype = coltype.Str 255; is_localizable = false; is_nullable = true } } ∷ [];
  rows = (value.Str (codes "x") ∷ []) ∷ [];
})
unfolding archive_of cell_in column_in columns_in keys_with row_in
feeds_read = refl

-- a row with a field too few, a number of three bytes, and a raw carriage return in a text
row_refused : archive_in (codes "A" ++ 9 ∷ codes "B" ++ ended ++ codes "i2" ++ 9 ∷ codes "i2" ++ ended ++ codes "T" ++ ended ++ codes "1" ++ ended) ≡ None
unfolding archive_of cell_in column_in columns_in keys_with row_in
row_refused = refl

type_refused : type_in (codes "i3") ≡ None
type_refused = refl

text_refused : text_in (codes "a" ++ 13 ∷ codes "b") ≡ None
text_refused = refl

number_refused : value_in coltype.Int16 (codes "2147483648") ≡ None
number_refused = refl
