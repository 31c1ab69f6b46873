-- What an update sets: a column and its new value.
use Rattle.std.specs.Prelude.{ℕ, List, ◌++◌, Option, Some, codes}
use Rattle.std.specs.Fmt.{◌++?◌}
use Rattle.msi_table_values.specs.declared.value.Value.{Value}
use Rattle.msi_table_values.specs.Values.{value_text}
use Rattle.msi_query_tokens.specs.Names.{name_text}

-- as it prints, where its text is ASCII
abbrev pub set_text : List ℕ × Value → Option (List ℕ)
set_text s = Some (name_text s.0 ++ codes " = ") ++? value_text s.1
