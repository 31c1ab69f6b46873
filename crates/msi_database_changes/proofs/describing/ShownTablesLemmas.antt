-- Which tables a database has after a change, with their columns.
use Rattle.std.proofs.Common.{◌≡◌, ℕ, List, [], ◌∷◌, ◌++◌, refl, sym, ap, ◌∙◌, Some, None}
use Rattle.std.specs.Prelude.{T, not, map, option_map, filter, Result, Ok, Err}
use Rattle.std.specs.FinMap.{find, put}
use Rattle.std.specs.FinMap.Entries.{by_order, find-put, is_sorted, is_sorted-put, same_entries}
use Rattle.std.specs.Ordering.{eq_by_cmp}
use Rattle.std.specs.declared.cmp.Ordering.{Ordering}
use Rattle.std.specs.declared.cmp.Ordering.TheVariants.{Less, Equal, Greater}
use Rattle.std.specs.Cmp.{nat_cmp_total}
use Rattle.std.specs.Cmp.Lexicographic.{lists_total}
use Rattle.msi_base.specs.declared.errors.ErrorKind.{ErrorKind}
use Rattle.msi_base.specs.declared.errors.ErrorKind.TheVariants.{InvalidInput, NotFound}
use Rattle.msi_base.specs.Lists.{list_cmp}
use Rattle.msi_base.proofs.BoolLemmas.{by_test}
use Rattle.msi_base.proofs.OptionLemmas.{map_some}
use Rattle.msi_base.specs.Refusals.{first_refusal, or_refused, unless_refused, ◌>>=◌}
use Rattle.msi_table_values.specs.declared.value.Value.{Value}
use Rattle.msi_table_values.specs.declared.value.Value.TheVariants.{Str}
use Rattle.msi_table_cells.specs.declared.cell.ValueRef.{ValueRef}
use Rattle.msi_table_values.specs.Columns.{ColumnDef}
use Rattle.msi_database_schema.specs.System.{columns_name, tables_name, validation_name}
use Rattle.msi_table_cells.specs.KeyOrder.{in_key_order}
use Rattle.msi_database_changes.specs.Database.{Database, rows_of, table_at}
use Rattle.msi_table_cells.specs.TableCells.{TableCells}
use Rattle.msi_database_changes.specs.Changes.{Change, no_change, sound_refusal, with_stored, pool_of}
use Rattle.msi_database_changes.specs.Texts.{PoolInUse, rows_put}
use Rattle.msi_database_schema.specs.Description.{column_rows, validation_rows}
use Rattle.msi_database_changes.specs.Create.{create_at_width, table_refusals, with_new_table}
use Rattle.msi_database_changes.specs.Insert.{row_refusals, rows_added, rows_inserted}
use Rattle.msi_database_schema.proofs.SchemaLemmas.{Described, names_tie, same_names}
use Rattle.msi_database_schema.proofs.OrderlessLemmas.{texts_same}
use Rattle.msi_database_changes.proofs.table_changes.DroppedLemmas.{without}
use Rattle.msi_database_changes.proofs.steps.RefusedLemmas.{front_fails, value_there, not_refused, same_Ok}

-- each table's columns
abbrev pub shown : Database → Described
shown d = map (λ t. (t.0, t.1.columns)) d.tables

abbrev pub columns_shown : List ℕ × TableCells → List ℕ × List ColumnDef
columns_shown t = (t.0, t.1.columns)

-- ---- results

pub ok_first : {A B : Type 0} (r : Result A ErrorKind) (f : A → Result B ErrorKind) (b : B) → (r >>= f) ≡ Ok b → (a : A) × (r ≡ Ok a) × (f a ≡ Ok b)
ok_first (Ok a) f b e = (a, refl, e)
ok_first (Err kind) f b e = cc

-- ---- tables by name

pub put_shown : (name : List ℕ) (t : TableCells) (tables : List (List ℕ × TableCells)) → map columns_shown (put list_cmp name t tables) ≡ put list_cmp name t.columns (map columns_shown tables)
put_shown name t [] = refl
put_shown name t (u ∷ us) = go (put_shown name t us) (list_cmp name u.0)
  where
    go : map columns_shown (put list_cmp name t us) ≡ put list_cmp name t.columns (map columns_shown us) → (o : Ordering) → map columns_shown (by_order o ((name, t) ∷ u ∷ us) ((u.0, t) ∷ us) (u ∷ put list_cmp name t us))
        ≡ by_order o ((name, t.columns) ∷ columns_shown u ∷ map columns_shown us) ((u.0, t.columns) ∷ map columns_shown us) (columns_shown u ∷ put list_cmp name t.columns (map columns_shown us))
    go rest Less = refl
    go rest Equal = refl
    go rest Greater = ap (λ (l : Described). columns_shown u ∷ l) rest

pub find_shown : (name : List ℕ) (tables : List (List ℕ × TableCells)) → find list_cmp name (map columns_shown tables) ≡ option_map (λ t. t.columns) (find list_cmp name tables)
find_shown name [] = refl
find_shown name (u ∷ us) = by_test (eq_by_cmp list_cmp name u.0) (λ t. rw t refl) (λ t. rw t (find_shown name us))

pub without_shown : (name : List ℕ) (tables : List (List ℕ × TableCells)) → map columns_shown (filter (λ t. not (eq_by_cmp list_cmp name t.0)) tables) ≡ without name (map columns_shown tables)
without_shown name [] = refl
without_shown name (u ∷ us) = by_test (eq_by_cmp list_cmp name u.0) (λ t. rw t (without_shown name us)) (λ t. rw t (ap (λ (l : Described). columns_shown u ∷ l) (without_shown name us)))

-- putting what is there
put_same : (name : List ℕ) (columns : List ColumnDef) (ts : Described) → T (is_sorted list_cmp ts) → find list_cmp name ts ≡ Some columns → put list_cmp name columns ts ≡ ts
put_same name columns ts up e = same_entries list_cmp (lists_total nat_cmp_total) same_names (put list_cmp name columns ts) ts (is_sorted-put list_cmp (lists_total nat_cmp_total) name columns ts up) up
    (λ q. find-put list_cmp (lists_total nat_cmp_total) q name columns ts ∙ by_test (eq_by_cmp list_cmp q name)
    (λ t. let same : q ≡ name = texts_same q name (sym (names_tie q name) ∙ t) in rw t (sym e ∙ ap (λ (n : List ℕ). find list_cmp n ts) (sym same)))
    (λ t. rw t refl))

-- a table stored anew keeps its columns
pub shown_stored : (name : List ℕ) (t : TableCells) (rows : List (List ValueRef)) (pool : PoolInUse) (c : Change) → T (is_sorted list_cmp (shown c.database)) → table_at name c.database ≡ Some t
    → shown (with_stored name t.columns rows pool c).database ≡ shown c.database
shown_stored name t rows pool c up e = put_shown name _ c.database.tables ∙ put_same name t.columns (shown c.database) up (find_shown name c.database.tables ∙ ap (option_map (λ u. u.columns)) e)

pub shown_after : (name : List ℕ) (t : TableCells) (rows : List (List ValueRef)) (pool : PoolInUse) (c b : Change) → T (is_sorted list_cmp (shown c.database)) → table_at name c.database ≡ Some t
    → with_stored name t.columns rows pool c ≡ b → shown b.database ≡ shown c.database
shown_after name t rows pool c b up e is = ap (λ (x : Change). shown x.database) (sym is) ∙ shown_stored name t rows pool c up e

-- ---- rows that are inserted

pub record Inserted (name : List ℕ) (rows : List (List Value)) (c b : Change) : Type 0 where
  pub table : TableCells
  pub at : table_at name c.database ≡ Some table
  pub accepted : first_refusal (row_refusals c.database.pool.places table rows) ≡ None
  pub added : rows_added name table rows c ≡ Some b

pub inserted : (name : List ℕ) (rows : List (List Value)) (c b : Change) → rows_inserted name rows c ≡ Ok b → Inserted name rows c b
inserted name rows c b e =
    let (t, at, f) = ok_first (or_refused NotFound (table_at name c.database)) (λ t. unless_refused (row_refusals c.database.pool.places t rows) t >>= λ t. or_refused InvalidInput (rows_added name t rows c)) b e in
    let (u, g, h) = ok_first (unless_refused (row_refusals c.database.pool.places t rows) t) (λ t. or_refused InvalidInput (rows_added name t rows c)) b f in
    let (none, same) = not_refused (row_refusals c.database.pool.places t rows) t u g in
    record { table = t; at = value_there NotFound (table_at name c.database) t at; accepted = none; added = rw (← same) at (value_there InvalidInput (rows_added name u rows c) b h) }

pub shown_inserted : (name : List ℕ) (rows : List (List Value)) (c b : Change) → T (is_sorted list_cmp (shown c.database)) → rows_inserted name rows c ≡ Ok b → shown b.database ≡ shown c.database
shown_inserted name rows c b up e =
    let i = inserted name rows c b e in
    let (r, put_in, is) = map_some (rows_put c.database.pool.long (pool_of c) rows) (λ r. with_stored name i.table.columns (in_key_order i.table.columns r.1.places (rows_of i.table ++ r.0)) r.1 c) b i.added in
    shown_after name i.table (in_key_order i.table.columns r.1.places (rows_of i.table ++ r.0)) r.1 c b up i.at is

-- ---- a new table

pub record Created (d : Database) (name : List ℕ) (columns : List ColumnDef) (c : Change) : Type 0 where
  pub sound : first_refusal (sound_refusal d) ≡ None
  pub accepted : first_refusal (table_refusals d name columns) ≡ None
  pub first : Change
  pub second : Change
  pub third : Change
  pub in_columns : rows_inserted columns_name (column_rows name columns) (no_change d) ≡ Ok first
  pub in_tables : rows_inserted tables_name ((Str name ∷ []) ∷ []) first ≡ Ok second
  pub in_validation : rows_inserted validation_name (validation_rows name columns) second ≡ Ok third
  pub last : with_new_table name columns third ≡ c

pub created : (d : Database) (name : List ℕ) (columns : List ColumnDef) (c : Change) → create_at_width d name columns ≡ Ok c → Created d name columns c
created d name columns c e =
    let refusals = sound_refusal d ++ table_refusals d name columns in
    let start = unless_refused refusals (no_change d) in
    let one = start >>= rows_inserted columns_name (column_rows name columns) in
    let two = one >>= rows_inserted tables_name ((Str name ∷ []) ∷ []) in
    let three = two >>= rows_inserted validation_name (validation_rows name columns) in
    let (c3, e3, f3) = ok_first three (λ c. Ok (with_new_table name columns c)) c e in
    let (c2, e2, f2) = ok_first two (rows_inserted validation_name (validation_rows name columns)) c3 e3 in
    let (c1, e1, f1) = ok_first one (rows_inserted tables_name ((Str name ∷ []) ∷ [])) c2 e2 in
    let (c0, e0, f0) = ok_first start (rows_inserted columns_name (column_rows name columns)) c1 e1 in
    let (none, same) = not_refused refusals (no_change d) c0 e0 in
    let parts = front_fails (sound_refusal d) (table_refusals d name columns) none in
    record { sound = parts.0; accepted = parts.1; first = c1; second = c2; third = c3; in_columns = rw (← same) at f0; in_tables = f1; in_validation = f2; last = same_Ok (with_new_table name columns c3) c f3 }

pub shown_by_steps : (d : Database) (name : List ℕ) (columns : List ColumnDef) (c : Change) → T (is_sorted list_cmp (shown d)) → Created d name columns c → shown c.database ≡ put list_cmp name columns (shown d)
shown_by_steps d name columns c up r =
    let s1 = shown_inserted columns_name (column_rows name columns) (no_change d) r.first up r.in_columns in
    let s2 = shown_inserted tables_name ((Str name ∷ []) ∷ []) r.first r.second (rw s1 up) r.in_tables in
    let s3 = shown_inserted validation_name (validation_rows name columns) r.second r.third (rw (s2 ∙ s1) up) r.in_validation in
    ap (λ (x : Change). shown x.database) (sym r.last) ∙ put_shown name _ r.third.database.tables ∙ ap (put list_cmp name columns) (s3 ∙ s2 ∙ s1)

pub shown_created : (d : Database) (name : List ℕ) (columns : List ColumnDef) (c : Change) → T (is_sorted list_cmp (shown d)) → create_at_width d name columns ≡ Ok c → shown c.database ≡ put list_cmp name columns (shown d)
shown_created d name columns c up e = shown_by_steps d name columns c up (created d name columns c e)
