-- An accepted call, step by step: what passed makes the change.
use Rattle.std.proofs.Common.{◌≡◌, ℕ, Bool, true, false, not, List, [], ◌∷◌, ◌++◌, Option, Some, None, Ok, refl, ap, ◌∙◌}
use Rattle.std.specs.Prelude.{option_map, Result}
use Rattle.msi_base.specs.declared.errors.ErrorKind.{ErrorKind}
use Rattle.msi_base.specs.declared.errors.ErrorKind.TheVariants.{InvalidInput, InvalidData, NotFound}
use Rattle.msi_base.proofs.OptionLemmas.{mapped_twice}
use Rattle.msi_table_values.specs.declared.value.Value.{Value}
use Rattle.msi_table_values.specs.declared.value.Value.TheVariants.{Str}
use Rattle.msi_table_cells.specs.declared.cell.ValueRef.{ValueRef}
use Rattle.msi_table_values.specs.Columns.{ColumnDef}
use Rattle.msi_query.specs.Queries.{InsertQuery, UpdateQuery, DeleteQuery}
use Rattle.msi_base.specs.Refusals.{Refusals, first_refusal, or_refused, unless, unless_refused, ◌>>=◌}
use Rattle.msi_query.specs.Selection.{has_columns, condition_names}
use Rattle.msi_table_cells.specs.TableCells.{TableCells}
use Rattle.msi_database_schema.specs.System.{is_system_table, tables_name, columns_name, validation_name}
use Rattle.msi_database_schema.specs.Description.{column_rows, validation_rows}
use Rattle.msi_database_changes.specs.Database.{Database, is_sound, table_at, rows_of}
use Rattle.msi_database_changes.specs.Changes.{Change, no_change, pool_of, with_stored, sound_refusal}
use Rattle.msi_database_changes.specs.Texts.{PoolInUse, in_turn, rows_put}
use Rattle.msi_table_cells.specs.KeyOrder.{in_key_order}
use Rattle.msi_database_changes.specs.Insert.{cells_added, early_insert_refusals, insert_at_width, insert_rows, insert_whole, rows_inserted, rows_added, row_refusals, whole_insert}
use Rattle.msi_database_changes.specs.Update.{update_at_width, update_refusals, is_update_barred, row_updated, rows_updated}
use Rattle.msi_database_changes.specs.Delete.{delete_rows, rows_deleted}
use Rattle.msi_database_changes.specs.Create.{create_at_width, table_refusals, with_new_table}

-- a first refusal of a sound database, of two that are tested
pub both_pass : (a b : Bool) (kind other : ErrorKind) → a ≡ true → b ≡ false → first_refusal ((not a, kind) ∷ (b, other) ∷ []) ≡ None
both_pass a b kind other e f = rw (e, f) refl

pub goes_on : {A B : Type 0} (rs : Refusals) (x : A) (f : A → Result B ErrorKind) → first_refusal rs ≡ None → (unless_refused rs x >>= f) ≡ f x
goes_on rs x f e = ap (λ (o : Option ErrorKind). unless o x >>= f) e

pub found : {A B : Type 0} (kind : ErrorKind) (o : Option A) (x : A) (f : A → Result B ErrorKind) → o ≡ Some x → (or_refused kind o >>= f) ≡ f x
found kind o x f e = ap (λ (o : Option _). or_refused kind o >>= f) e

-- ROWS THAT ARE INSERTED, from any change on

pub inserted_made : (b : Change) (name : List ℕ) (t : TableCells) (values : List (List Value)) (r : List (List ValueRef) × PoolInUse) → table_at name b.database ≡ Some t
    → first_refusal (row_refusals b.database.pool.places t values) ≡ None → rows_put b.database.pool.long (pool_of b) values ≡ Some r
    → rows_inserted name values b ≡ Ok (with_stored name t.columns (in_key_order t.columns r.1.places (rows_of t ++ r.0)) r.1 b)
inserted_made b name t values r at passed put =
    found NotFound (table_at name b.database) t (λ t. unless_refused (row_refusals b.database.pool.places t values) t >>= λ t. or_refused InvalidInput (rows_added name t values b)) at
    ∙ goes_on (row_refusals b.database.pool.places t values) t (λ t. or_refused InvalidInput (rows_added name t values b)) passed
    ∙ ap (λ (o : Option (List (List ValueRef) × PoolInUse)). or_refused InvalidInput (option_map (λ r. with_stored name t.columns (in_key_order t.columns r.1.places (rows_of t ++ r.0)) r.1 b) o)) put

-- the same by all rows of the table, as a call has them
pub inserted_by_cells : (b : Change) (name : List ℕ) (t : TableCells) (values : List (List Value)) (all : List (List ValueRef)) (used : PoolInUse) → table_at name b.database ≡ Some t
    → first_refusal (row_refusals b.database.pool.places t values) ≡ None → cells_added b.database.pool.long t.columns (pool_of b) (rows_of t) values ≡ Some (all, used)
    → rows_inserted name values b ≡ Ok (with_stored name t.columns all used b)
inserted_by_cells b name t values all used at passed put =
    let last : List (List ValueRef) × PoolInUse → Change = λ x. with_stored name t.columns x.0 x.1 b in
    found NotFound (table_at name b.database) t (λ t. unless_refused (row_refusals b.database.pool.places t values) t >>= λ t. or_refused InvalidInput (rows_added name t values b)) at
    ∙ goes_on (row_refusals b.database.pool.places t values) t (λ t. or_refused InvalidInput (rows_added name t values b)) passed
    ∙ ap (or_refused InvalidInput) (mapped_twice (λ r. (in_key_order t.columns r.1.places (rows_of t ++ r.0), r.1)) last (rows_put b.database.pool.long (pool_of b) values)
    ∙ ap (option_map last) put)

pub insert_made : (d : Database) (q : InsertQuery) (t : TableCells) (r : List (List ValueRef) × PoolInUse) → is_sound d ≡ true → is_system_table q.table ≡ false → table_at q.table d ≡ Some t
    → first_refusal (row_refusals d.pool.places t q.rows) ≡ None → rows_put d.pool.long (pool_of (no_change d)) q.rows ≡ Some r
    → insert_at_width d q ≡ Ok (with_stored q.table t.columns (in_key_order t.columns r.1.places (rows_of t ++ r.0)) r.1 (no_change d))
insert_made d q t r sound free at passed put =
    goes_on (sound_refusal d ++ (is_system_table q.table, InvalidInput) ∷ []) (no_change d) (rows_inserted q.table q.rows) (both_pass (is_sound d) (is_system_table q.table) InvalidData InvalidInput sound free)
    ∙ inserted_made (no_change d) q.table t q.rows r at passed put

-- what nothing refuses early is the insert of its whole rows
pub whole_is : (d : Database) (q : InsertQuery) → first_refusal (early_insert_refusals d q) ≡ None → insert_rows d q ≡ insert_whole d (whole_insert d q)
whole_is d q passed = goes_on (early_insert_refusals d q) (whole_insert d q) (insert_whole d) passed

-- UPDATE AND DELETE

pub update_made : (d : Database) (q : UpdateQuery) (t : TableCells) (r : List (List ValueRef) × PoolInUse) → is_sound d ≡ true → is_update_barred q ≡ false → table_at q.table d ≡ Some t
    → first_refusal (update_refusals d.pool.places t q) ≡ None → in_turn (row_updated d.pool.long d.pool.places t.columns q) (pool_of (no_change d)) (rows_of t) ≡ Some r
    → update_at_width d q ≡ Ok (with_stored q.table t.columns r.0 r.1 (no_change d))
update_made d q t r sound free at passed put =
    goes_on (sound_refusal d ++ (is_update_barred q, InvalidInput) ∷ []) (no_change d)
    (λ c. or_refused NotFound (table_at q.table d) >>= λ t. unless_refused (update_refusals d.pool.places t q) t >>= λ t. or_refused InvalidInput (rows_updated t q c))
    (both_pass (is_sound d) (is_update_barred q) InvalidData InvalidInput sound free)
    ∙ found NotFound (table_at q.table d) t (λ t. unless_refused (update_refusals d.pool.places t q) t >>= λ t. or_refused InvalidInput (rows_updated t q (no_change d))) at
    ∙ goes_on (update_refusals d.pool.places t q) t (λ t. or_refused InvalidInput (rows_updated t q (no_change d))) passed
    ∙ ap (λ (o : Option (List (List ValueRef) × PoolInUse)). or_refused InvalidInput (option_map (λ r. with_stored q.table t.columns r.0 r.1 (no_change d)) o)) put

pub delete_made : (d : Database) (q : DeleteQuery) (t : TableCells) → is_sound d ≡ true → is_system_table q.table ≡ false → table_at q.table d ≡ Some t
    → has_columns t.columns (condition_names q.condition) ≡ true → delete_rows d q ≡ Ok (rows_deleted t q (no_change d))
delete_made d q t sound free at known =
    goes_on (sound_refusal d ++ (is_system_table q.table, InvalidInput) ∷ []) (no_change d)
    (λ c. or_refused NotFound (table_at q.table d) >>= λ t. unless_refused ((not (has_columns t.columns (condition_names q.condition)), InvalidInput) ∷ []) (rows_deleted t q c))
    (both_pass (is_sound d) (is_system_table q.table) InvalidData InvalidInput sound free)
    ∙ found NotFound (table_at q.table d) t (λ t. unless_refused ((not (has_columns t.columns (condition_names q.condition)), InvalidInput) ∷ []) (rows_deleted t q (no_change d))) at
    ∙ rw known

-- CREATE

pub create_made : (d : Database) (name : List ℕ) (columns : List ColumnDef) (first second third : Change)
    → first_refusal (sound_refusal d ++ table_refusals d name columns) ≡ None
    → rows_inserted columns_name (column_rows name columns) (no_change d) ≡ Ok first
    → rows_inserted tables_name ((Str name ∷ []) ∷ []) first ≡ Ok second
    → rows_inserted validation_name (validation_rows name columns) second ≡ Ok third
    → create_at_width d name columns ≡ Ok (with_new_table name columns third)
create_made d name columns first second third passed one two three =
    let start : Result Change ErrorKind = unless_refused (sound_refusal d ++ table_refusals d name columns) (no_change d) in
    let began : start ≡ Ok (no_change d) = ap (λ (o : Option ErrorKind). unless o (no_change d)) passed in
    ap (λ (s : Result Change ErrorKind). s >>= rows_inserted columns_name (column_rows name columns) >>= rows_inserted tables_name ((Str name ∷ []) ∷ []) >>= rows_inserted validation_name (validation_rows name columns) >>= λ c. Ok (with_new_table name columns c)) began
    ∙ ap (λ (s : Result Change ErrorKind). s >>= rows_inserted tables_name ((Str name ∷ []) ∷ []) >>= rows_inserted validation_name (validation_rows name columns) >>= λ c. Ok (with_new_table name columns c)) one
    ∙ ap (λ (s : Result Change ErrorKind). s >>= rows_inserted validation_name (validation_rows name columns) >>= λ c. Ok (with_new_table name columns c)) two
    ∙ ap (λ (s : Result Change ErrorKind). s >>= λ c. Ok (with_new_table name columns c)) three
