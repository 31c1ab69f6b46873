-- Changes of rows leave the tables and their columns, and a drop takes one.
use Rattle.std.proofs.Common.{◌≡◌, ℕ, true, false, List, [], ◌∷◌, ◌++◌, refl, sym, ap, ◌∙◌, Some, None}
use Rattle.std.specs.Prelude.{T, not, Option, filter, Ok}
use Rattle.std.specs.List.{fold}
use Rattle.std.specs.FinMap.Entries.{is_sorted, is_sorted-where_key}
use Rattle.std.specs.Ordering.{eq_by_cmp}
use Rattle.std.proofs.lemmas.Bool.{not-false}
use Rattle.msi_base.specs.declared.errors.ErrorKind.TheVariants.{InvalidInput, NotFound}
use Rattle.msi_base.specs.Lists.{list_cmp}
use Rattle.msi_base.proofs.OptionLemmas.{map_some}
use Rattle.msi_pool.specs.Pool.{Place}
use Rattle.msi_base.specs.Refusals.{Refusals, first_refusal, or_refused, unless_refused, ◌>>=◌}
use Rattle.msi_query.specs.Selection.{condition_names, has_columns}
use Rattle.msi_query.specs.Queries.{DeleteQuery, UpdateQuery}
use Rattle.msi_database_schema.specs.System.{columns_name, is_system_table, tables_name, validation_name}
use Rattle.msi_database_schema.specs.Keys.{is_table_name}
use Rattle.msi_database_changes.specs.Database.{Database, rows_of, table_at}
use Rattle.msi_table_cells.specs.TableCells.{TableCells}
use Rattle.msi_database_changes.specs.Changes.{Change, no_change, pool_of, sound_refusal, with_stored}
use Rattle.msi_database_changes.specs.Delete.{delete_rows, rows_deleted, rows_meeting}
use Rattle.msi_database_changes.specs.Drop.{drop_table, is_row_about, rows_forgotten, table_released}
use Rattle.msi_database_changes.specs.Texts.{in_turn, rows_released}
use Rattle.msi_database_changes.specs.Update.{is_update_barred, row_updated, rows_updated, update_refusals, update_at_width}
use Rattle.msi_database_changes.specs.Insert.{rows_inserted}
use Rattle.msi_database_changes.proofs.steps.AtWidthLemmas.{IsChangeAtWidth, inserted, updated, deleted}
use Rattle.msi_database_changes.proofs.table_changes.DroppedLemmas.{without}
use Rattle.msi_database_changes.proofs.describing.ShownTablesLemmas.{ok_first, shown, shown_after, shown_inserted, shown_stored, without_shown}
use Rattle.msi_database_changes.proofs.steps.RefusedLemmas.{front_fails, none_holds, value_there, not_refused, same_Ok}

-- ---- a table that is dropped

shown_forgotten : (name : List ℕ) (places : List Place) (system : List ℕ) (c : Change) → T (is_sorted list_cmp (shown c.database)) → shown (rows_forgotten name places system c).database ≡ shown c.database
shown_forgotten name places system c up = go (table_at system c.database) refl
  where
    go : (o : Option TableCells) → table_at system c.database ≡ o → shown (rows_forgotten name places system c).database ≡ shown c.database
    go None e = rw e refl
    go (Some t) e = rw e (shown_stored system t (filter (λ row. not (is_row_about places name row)) (rows_of t)) (rows_released (pool_of c) (filter (is_row_about places name) (rows_of t))) c up e)

pub record Dropped (d : Database) (name : List ℕ) (c : Change) : Type 0 where
  pub sound : first_refusal (sound_refusal d) ≡ None
  pub no_system : is_system_table name ≡ false
  pub named : is_table_name name ≡ true
  pub table : TableCells
  pub at : table_at name d ≡ Some table
  pub last : fold (λ c system. rows_forgotten name d.pool.places system c) (table_released name table (no_change d)) (validation_name ∷ columns_name ∷ tables_name ∷ []) ≡ c

pub dropped_parts : (d : Database) (name : List ℕ) (c : Change) → drop_table d name ≡ Ok c → Dropped d name c
dropped_parts d name c e =
    let own : Refusals = (is_system_table name, InvalidInput) ∷ (not (is_table_name name), InvalidInput) ∷ [] in
    let forgotten = λ (start : Change) (t : TableCells). fold (λ c system. rows_forgotten name d.pool.places system c) (table_released name t start) (validation_name ∷ columns_name ∷ tables_name ∷ []) in
    let (start, e0, f0) = ok_first (unless_refused (sound_refusal d ++ own) (no_change d)) (λ c. or_refused NotFound (table_at name d) >>= λ t. Ok (forgotten c t)) c e in
    let (t, e1, f1) = ok_first (or_refused NotFound (table_at name d)) (λ t. Ok (forgotten start t)) c f0 in
    let (none, same) = not_refused (sound_refusal d ++ own) (no_change d) start e0 in
    let parts = front_fails (sound_refusal d) own none in
    let free = none_holds own parts.1 in
    record {
      sound = parts.0;
      no_system = free.0;
      named = not-false (is_table_name name) (free.1.0);
      table = t;
      at = value_there NotFound (table_at name d) t e1;
      last = ap (λ (x : Change). forgotten x t) same ∙ same_Ok (forgotten start t) c f1;
    }

pub shown_dropped_parts : (d : Database) (name : List ℕ) (c : Change) → T (is_sorted list_cmp (shown d)) → Dropped d name c → shown c.database ≡ without name (shown d)
shown_dropped_parts d name c up p =
    let places = d.pool.places in
    let c0 = table_released name p.table (no_change d) in
    let s0 : shown c0.database ≡ without name (shown d) = without_shown name d.tables in
    let up0 : T (is_sorted list_cmp (shown c0.database)) = rw s0 (is_sorted-where_key list_cmp (λ x. not (eq_by_cmp list_cmp name x)) (shown d) up) in
    let c1 = rows_forgotten name places validation_name c0 in
    let s1 : shown c1.database ≡ shown c0.database = shown_forgotten name places validation_name c0 up0 in
    let c2 = rows_forgotten name places columns_name c1 in
    let s2 : shown c2.database ≡ shown c1.database = shown_forgotten name places columns_name c1 (rw s1 up0) in
    ap (λ (x : Change). shown x.database) (sym p.last) ∙ shown_forgotten name places tables_name c2 (rw (s2 ∙ s1) up0) ∙ s2 ∙ s1 ∙ s0

pub shown_dropped : (d : Database) (name : List ℕ) (c : Change) → T (is_sorted list_cmp (shown d)) → drop_table d name ≡ Ok c → shown c.database ≡ without name (shown d)
shown_dropped d name c up e = shown_dropped_parts d name c up (dropped_parts d name c e)

-- ---- changes of rows

shown_updated : (d : Database) (q : UpdateQuery) (c : Change) → T (is_sorted list_cmp (shown d)) → update_at_width d q ≡ Ok c → shown c.database ≡ shown d
shown_updated d q c up e =
    let own : Refusals = sound_refusal d ++ (is_update_barred q, InvalidInput) ∷ [] in
    let refused = λ (t : TableCells). update_refusals d.pool.places t q in
    let (start, e0, f0) = ok_first (unless_refused own (no_change d)) (λ c. or_refused NotFound (table_at q.table d) >>= λ t. unless_refused (refused t) t >>= λ t. or_refused InvalidInput (rows_updated t q c)) c e in
    let (t, e1, f1) = ok_first (or_refused NotFound (table_at q.table d)) (λ t. unless_refused (refused t) t >>= λ t. or_refused InvalidInput (rows_updated t q start)) c f0 in
    let (u, e2, f2) = ok_first (unless_refused (refused t) t) (λ t. or_refused InvalidInput (rows_updated t q start)) c f1 in
    let begun : no_change d ≡ start = (not_refused own (no_change d) start e0).1 in
    let same : t ≡ u = (not_refused (refused t) t u e2).1 in
    let at : table_at q.table d ≡ Some u = value_there NotFound (table_at q.table d) t e1 ∙ ap Some same in
    let updated : rows_updated u q (no_change d) ≡ Some c = ap (rows_updated u q) begun ∙ value_there InvalidInput (rows_updated u q start) c f2 in
    let (r, put_in, is) = map_some (in_turn (row_updated d.pool.long d.pool.places u.columns q) (pool_of (no_change d)) (rows_of u)) (λ r. with_stored q.table u.columns r.0 r.1 (no_change d)) c updated in
    shown_after q.table u r.0 r.1 (no_change d) c up at is

shown_deleted : (d : Database) (q : DeleteQuery) (c : Change) → T (is_sorted list_cmp (shown d)) → delete_rows d q ≡ Ok c → shown c.database ≡ shown d
shown_deleted d q c up e =
    let own : Refusals = sound_refusal d ++ (is_system_table q.table, InvalidInput) ∷ [] in
    let (start, e0, f0) = ok_first (unless_refused own (no_change d)) (λ c. or_refused NotFound (table_at q.table d) >>= λ t. unless_refused ((not (has_columns t.columns (condition_names q.condition)), InvalidInput) ∷ []) (rows_deleted t q c)) c e in
    let (t, e1, f1) = ok_first (or_refused NotFound (table_at q.table d)) (λ t. unless_refused ((not (has_columns t.columns (condition_names q.condition)), InvalidInput) ∷ []) (rows_deleted t q start)) c f0 in
    let begun : no_change d ≡ start = (not_refused own (no_change d) start e0).1 in
    let is : rows_deleted t q start ≡ c = (not_refused ((not (has_columns t.columns (condition_names q.condition)), InvalidInput) ∷ []) (rows_deleted t q start) c f1).1 in
    shown_after q.table t (rows_meeting d.pool.places t q.condition false) (rows_released (pool_of (no_change d)) (rows_meeting d.pool.places t q.condition true)) (no_change d) c up (value_there NotFound (table_at q.table d) t e1)
    (ap (rows_deleted t q) begun ∙ is)

pub shown_changed : (d : Database) (c : Change) → T (is_sorted list_cmp (shown d)) → IsChangeAtWidth d c → shown c.database ≡ shown d
shown_changed d c up (inserted q e) =
    let own : Refusals = sound_refusal d ++ (is_system_table q.table, InvalidInput) ∷ [] in
    let (start, e0, f0) = ok_first (unless_refused own (no_change d)) (rows_inserted q.table q.rows) c e in
    let begun : no_change d ≡ start = (not_refused own (no_change d) start e0).1 in
    shown_inserted q.table q.rows (no_change d) c up (ap (rows_inserted q.table q.rows) begun ∙ f0)
shown_changed d c up (updated q e) = shown_updated d q c up e
shown_changed d c up (deleted q e) = shown_deleted d q c up e
