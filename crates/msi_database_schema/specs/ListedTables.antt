-- The tables that `_Tables` lists, one by one, and the two that are always there.
use Rattle.std.specs.Prelude.{ℕ, Bool, List, [], ◌∷◌, ◌++◌, map, Option, option_map}
use Rattle.std.specs.declared.cmp.Ordering.{Ordering}
use Rattle.msi_base.specs.Lists.{all_present, list_cmp}
use Rattle.msi_table.specs.Tables.{TableDef}
use Rattle.msi_database_schema.specs.Schema.{SchemaRows, columns_of, listed_names, table_with}
use Rattle.msi_database_schema.specs.System.{columns_columns, columns_name, tables_columns, tables_name}

abbrev pub listed_table : Bool → SchemaRows → List ℕ → Option TableDef
listed_table long s name = option_map (λ columns. table_with long (name, columns)) (columns_of s name)

abbrev pub listed_tables : Bool → SchemaRows → Option (List TableDef)
listed_tables long s = all_present (map (listed_table long s) (listed_names s))

abbrev pub system_tables : Bool → List TableDef
system_tables long = table_with long (tables_name, tables_columns)
    ∷ table_with long (columns_name, columns_columns) ∷ []

abbrev pub by_names : TableDef → TableDef → Ordering
by_names t u = list_cmp t.name u.name

abbrev pub with_system : Bool → List TableDef → List TableDef
with_system long listed = system_tables long ++ listed
