-- Tables whose texts are UTF-8, as every `Text` is.
use Rattle.std.specs.Prelude.{IsUtf8}
use Rattle.msi_table_values.specs.Utf8Texts.{AreUtf8Columns}
use Rattle.msi_table.specs.Tables.{TableDef}

abbrev pub IsUtf8Table : TableDef → Type 0
IsUtf8Table table = IsUtf8 table.name × AreUtf8Columns table.columns
