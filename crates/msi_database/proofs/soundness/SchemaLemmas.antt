-- The tables of a schema stand in the order of their names.
use Rattle.std.proofs.Common.{◌≡◌, ℕ, Bool, true, false, ◌&&◌, List, [], ◌∷◌, map, Option, Some, None, refl, subst, ap}
use Rattle.std.specs.Prelude.{option_map, option_and_then, T, if◌then◌else◌, zip}
use Rattle.std.specs.FinMap.{is_sorted}
use Rattle.std.specs.FinMap.Entries.{below_all}
use Rattle.std.specs.Ordering.{is_lt}
use Rattle.std.proofs.lemmas.Option.{same_Some}
use Rattle.msi_base.specs.Lists.{list_cmp, all_present}
use Rattle.msi_table_values.specs.Columns.{ColumnDef}
use Rattle.msi_database_schema.specs.System.{tables_name, columns_name, tables_columns, columns_columns}
use Rattle.msi_database_schema.specs.Schema.{SchemaRows, schema_of, by_name, is_faulty, listed_names, columns_of}
use Rattle.msi_database_schema.proofs.SchemaLemmas.{Described, by_name-sorted}
use Rattle.msi_database_changes.specs.Database.{Database, Tables, columns_by_name}
use Rattle.msi_database_storage.specs.Streams.{Streams}
use Rattle.msi_database_storage.specs.Agreement.{SchemaIs, schema_rows}
use Rattle.msi_database_storage.proofs.StreamLemmas.{TablesSorted}

named_sorted : {X : Type 0} (faulty : Bool) (f : X → Described) (o : Option X) (x : Described) → (if faulty then None else option_map (λ columns. by_name (f columns)) o) ≡ Some x → T (is_sorted list_cmp x)
named_sorted true f o x e = absurd cc
named_sorted false f None x e = absurd cc
named_sorted false f (Some columns) x e = subst (λ (y : Described). T (is_sorted list_cmp y)) (same_Some (by_name (f columns)) x e) (by_name-sorted (f columns))

schema_sorted : (o : Option SchemaRows) (x : List (List ℕ × List ColumnDef)) → option_and_then schema_of o ≡ Some x → T (is_sorted list_cmp x)
schema_sorted None x e = absurd cc
schema_sorted (Some s) x e = named_sorted (is_faulty s) (λ columns. (tables_name, tables_columns) ∷ (columns_name, columns_columns) ∷ zip (listed_names s) columns) (all_present (map (columns_of s) (listed_names s))) x e

shown_below : (k : List ℕ) (ts : Tables) → below_all list_cmp k (map (λ t. (t.0, t.1.columns)) ts) ≡ below_all list_cmp k ts
shown_below k [] = refl
shown_below k (t ∷ ts) = ap (λ b. is_lt (list_cmp k t.0) && b) (shown_below k ts)

shown_sorted : (ts : Tables) → is_sorted list_cmp (map (λ t. (t.0, t.1.columns)) ts) ≡ is_sorted list_cmp ts
shown_sorted [] = refl
shown_sorted (t ∷ ts) = λ i. shown_below t.0 ts i && shown_sorted ts i

pub tables_sorted : (streams : Streams) (d : Database) → SchemaIs streams d → TablesSorted d.tables
tables_sorted streams d h = subst T (shown_sorted d.tables) (schema_sorted (schema_rows streams d.pool) (columns_by_name d) h)

-- and so do their names with their columns
pub shown_in_order : (streams : Streams) (d : Database) → SchemaIs streams d → T (is_sorted list_cmp (columns_by_name d))
shown_in_order streams d h = schema_sorted (schema_rows streams d.pool) (columns_by_name d) h
