-- Rows that are read of bytes fit the columns of a table of a schema.
use Rattle.std.proofs.Common.{◌≡◌, ◌≢◌, ℕ, suc, ◌<◌, Bool, true, false, ◌==◌, List, [], ◌∷◌, length, map, Option, Some, None, refl, sym, ap, subst, ◌∙◌, arith, inl, inr}
use Rattle.std.specs.Prelude.{option_map, option_and_then, if◌then◌else◌, zip}
use Rattle.std.specs.List.{AllByRecursion}
use Rattle.std.specs.FinMap.{put}
use Rattle.std.proofs.lemmas.Option.{same_Some, none-some}
use Rattle.std.proofs.lemmas.Bool.{eqb-false}
use Rattle.msi_base.specs.Lists.{all_present, tabulated, list_cmp}
use Rattle.msi_table_values.specs.Columns.{ColumnDef}
use Rattle.msi_table.specs.Tables.{TableDef}
use Rattle.msi_database_schema.specs.System.{tables_name, columns_name, tables_columns, columns_columns}
use Rattle.msi_database_storage.specs.Streams.{Streams}
use Rattle.msi_database_storage.specs.StreamNames.{HoldBytes}
use Rattle.msi_database_storage.specs.Kept.{schema_listed}
use Rattle.msi_database.proofs.opening.OpenedLemmas.{HaveFittingRows}
use Rattle.msi_database_storage.specs.Agreement.{schema_in, schema_rows}
use Rattle.msi_database_schema.specs.Schema.{SchemaRows, schema_of, by_name, is_faulty, listed_names, columns_of, column_rows}
use Rattle.msi_database_changes.proofs.steps.TurnLemmas.{map_some}
use Rattle.msi_pool.specs.Pool.{Pool}
use Rattle.msi_base.specs.Lists.{numbers_from}
use Rattle.std.proofs.lemmas.List.{length-map}
use Rattle.std.proofs.lemmas.Bool.{cases_eq}
use Rattle.std.specs.FinMap.Entries.{by_order}
use Rattle.std.specs.declared.cmp.Ordering.TheVariants.{Less, Equal, Greater}
use Rattle.msi_base.proofs.ListLemmas.{length-numbers_from}
use Rattle.msi_database_storage.proofs.ReadLemmas.{rows_read_fit}

-- each table of a schema has a column

abbrev HasColumn : List ℕ × List ColumnDef → Type 0
HasColumn t = 0 < length t.1

present_length : {X : Type 0} (xs : List (Option X)) (ys : List X) → all_present xs ≡ Some ys → length ys ≡ length xs
present_length [] ys e = ap length (sym (same_Some [] ys e))
present_length (None ∷ xs) ys e = absurd (none-some ys e)
present_length (Some x ∷ xs) ys e = map_some (λ rest. x ∷ rest) (all_present xs) ys e (λ rest is whole. ap length (sym whole) ∙ ap suc (present_length xs rest is))

columns_by : (n : ℕ) (f : ℕ → Option ColumnDef) (b : Bool) (cs : List ColumnDef) → (n == 0) ≡ b → (if b then None else all_present (tabulated n f)) ≡ Some cs → 0 < length cs
columns_by n f true cs zeroed e = absurd (none-some cs e)
columns_by n f false cs some e =
    let many : length cs ≡ length (tabulated n f) = present_length (tabulated n f) cs e in
    let as_many : length (tabulated n f) ≡ n = length-map (numbers_from 0 n) f ∙ length-numbers_from 0 n in
    let apart : n ≢ 0 = eqb-false n 0 some in
    elim (cases_eq n 0) [ inl zeroed ↦ absurd (apart zeroed) | inr filled ↦ omega (arith, many, as_many, filled) ]

columns_filled : (s : SchemaRows) (name : List ℕ) (cs : List ColumnDef) → columns_of s name ≡ Some cs → 0 < length cs
columns_filled s name cs e = columns_by (length (column_rows s name)) _ (length (column_rows s name) == 0) cs refl e

filled_by : (s : SchemaRows) (n : List ℕ) (ns : List (List ℕ)) (css : List (List ColumnDef)) (o : Option (List ColumnDef)) → columns_of s n ≡ o
    → ((rest : List (List ColumnDef)) → all_present (map (columns_of s) ns) ≡ Some rest → AllByRecursion (λ cs. 0 < length cs) rest)
    → all_present (o ∷ map (columns_of s) ns) ≡ Some css → AllByRecursion (λ cs. 0 < length cs) css
filled_by s n ns css None is others e = absurd (none-some css e)
filled_by s n ns css (Some cs) is others e = map_some (λ rest. cs ∷ rest) (all_present (map (columns_of s) ns)) css e (λ rest rest_is whole.
    subst (AllByRecursion (λ (cs : List ColumnDef). 0 < length cs)) whole (columns_filled s n cs is, others rest rest_is))

all_filled : (s : SchemaRows) (names : List (List ℕ)) (css : List (List ColumnDef)) → all_present (map (columns_of s) names) ≡ Some css → AllByRecursion (λ cs. 0 < length cs) css
all_filled s [] css e = subst (AllByRecursion (λ (cs : List ColumnDef). 0 < length cs)) (same_Some [] css e) tt
all_filled s (n ∷ ns) css e = filled_by s n ns css (columns_of s n) refl (all_filled s ns) e

zipped_filled : (names : List (List ℕ)) (css : List (List ColumnDef)) → AllByRecursion (λ cs. 0 < length cs) css → AllByRecursion HasColumn (zip names css)
zipped_filled [] css h = tt
zipped_filled (n ∷ ns) [] h = tt
zipped_filled (n ∷ ns) (cs ∷ css) h = (h.0, zipped_filled ns css h.1)

put_filled : (k : List ℕ) (v : List ColumnDef) (es : List (List ℕ × List ColumnDef)) → 0 < length v → AllByRecursion HasColumn es → AllByRecursion HasColumn (put list_cmp k v es)
put_filled k v [] here h = (here, tt)
put_filled k v (e ∷ es) here h = elim (list_cmp k e.0) as (λ o. AllByRecursion HasColumn (by_order o ((k, v) ∷ e ∷ es) ((e.0, v) ∷ es) (e ∷ put list_cmp k v es))) [
  | Less ↦ (here, h)
  | Equal ↦ (here, h.1)
  | Greater ↦ (h.0, put_filled k v es here h.1)
]

by_name_filled : (ts : List (List ℕ × List ColumnDef)) → AllByRecursion HasColumn ts → AllByRecursion HasColumn (by_name ts)
by_name_filled [] h = tt
by_name_filled (t ∷ ts) h = put_filled t.0 t.1 (by_name ts) h.0 (by_name_filled ts h.1)

schema_by : (s : SchemaRows) (faulty : Bool) (o : Option (List (List ColumnDef))) (ts : List (List ℕ × List ColumnDef)) → ((css : List (List ColumnDef)) → o ≡ Some css → AllByRecursion (λ cs. 0 < length cs) css)
    → (if faulty then None else option_map (λ columns. by_name ((tables_name, tables_columns) ∷ (columns_name, columns_columns) ∷ zip (listed_names s) columns)) o) ≡ Some ts → AllByRecursion HasColumn ts
schema_by s true o ts h e = absurd (none-some ts e)
schema_by s false None ts h e = absurd (none-some ts e)
schema_by s false (Some css) ts h e = subst (AllByRecursion HasColumn) (same_Some _ ts e)
    (by_name_filled ((tables_name, tables_columns) ∷ (columns_name, columns_columns) ∷ zip (listed_names s) css) (omega arith, (omega arith, zipped_filled (listed_names s) css (h css refl))))

schema_filled : (o : Option SchemaRows) (ts : List (List ℕ × List ColumnDef)) → option_and_then schema_of o ≡ Some ts → AllByRecursion HasColumn ts
schema_filled None ts e = absurd (none-some ts e)
schema_filled (Some s) ts e = schema_by s (is_faulty s) (all_present (map (columns_of s) (listed_names s))) ts (all_filled s (listed_names s)) e

-- so the rows of the tables that a schema has fit
tables_fit : (streams : Streams) (long : Bool) (tables : List TableDef) → HoldBytes streams → AllByRecursion HasColumn (schema_listed tables) → HaveFittingRows streams long tables
tables_fit streams long [] h some = tt
tables_fit streams long (t ∷ ts) h some = (rows_read_fit streams long t.columns t.name h some.0, tables_fit streams long ts h some.1)

pub schema_rows_fit : (streams : Streams) (pool : Pool) (tables : List TableDef) → HoldBytes streams → schema_in streams pool ≡ Some (schema_listed tables) → HaveFittingRows streams pool.long tables
schema_rows_fit streams pool tables h e = tables_fit streams pool.long tables h (schema_filled (schema_rows streams pool) (schema_listed tables) e)
