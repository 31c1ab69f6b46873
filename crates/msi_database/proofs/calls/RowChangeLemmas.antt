-- A change of rows of a well-formed database leaves what its rows describe.
use Rattle.std.proofs.Common.{◌≡◌, ℕ, Bool, true, false, List, [], ◌∷◌, ◌++◌, sym, ap, ◌∙◌, subst, Some, None}
use Rattle.std.specs.Prelude.{◌&&◌, not, option_map, is_some, map, bytes_eq, codes, Result, Ok, IsPermutation}
use Rattle.std.specs.List.{list_all}
use Rattle.std.proofs.lemmas.Bool.{or_parts, not-false}
use Rattle.msi_pool.specs.FirstFitLaws.{TakenPlacesHoldTheirText, GivenBackTakesOne}
use Rattle.msi_base.specs.declared.errors.ErrorKind.{ErrorKind}
use Rattle.msi_base.specs.declared.errors.ErrorKind.TheVariants.{InvalidInput, NotFound}
use Rattle.msi_base.proofs.BoolLemmas.{by_test}
use Rattle.msi_base.specs.Refusals.{Refusals, first_refusal, or_refused, unless_refused, ◌>>=◌}
use Rattle.msi_query.specs.Queries.{DeleteQuery, InsertQuery, UpdateQuery}
use Rattle.msi_table_cells.specs.CellValues.{row_values}
use Rattle.msi_database_schema.specs.System.{is_schema_table, is_system_table, validation_name}
use Rattle.msi_database_changes.specs.Database.{Database, table_at}
use Rattle.msi_table_cells.specs.TableCells.{TableCells}
use Rattle.msi_database_changes.specs.Changes.{Change, no_change, sound_refusal}
use Rattle.msi_database_changes.specs.Delete.{delete_rows}
use Rattle.msi_database_changes.specs.Insert.{insert_at_width, rows_inserted}
use Rattle.msi_database_changes.specs.Update.{is_update_barred, update_at_width, values_after}
use Rattle.msi_database_changes.specs.Laws.{OthersStay, rows_at}
use Rattle.msi_database_changes.proofs.steps.AtWidthLemmas.{IsChangeAtWidth, deleted, inserted, updated}
use Rattle.msi_database_schema.specs.Schema.{schema_of}
use Rattle.msi_database_schema.proofs.SchemaLemmas.{describes_from}
use Rattle.msi_database_schema.proofs.OrderlessLemmas.{HasKinds, texts_same}
use Rattle.msi_database_changes.proofs.describing.DescriptionLemmas.{IsSameButDescription}
use Rattle.msi_database_changes.proofs.describing.ShownTablesLemmas.{find_shown, ok_first, shown}
use Rattle.msi_database_changes.proofs.describing.ShownChangesLemmas.{shown_changed}
use Rattle.msi_database_changes.proofs.describing.DescribingLemmas.{alike_shown, describing, standard}
use Rattle.msi_database_changes.proofs.describing.ChangedDescriptionLemmas.{describes_changed, same_but_description, same_elsewhere}
use Rattle.msi_database_changes.proofs.steps.StoredLemmas.{WellFormed}
use Rattle.msi_database_changes.proofs.soundness.LawLemmas.{insert_adds_its_rows, update_sets_its_rows, delete_removes_its_rows}
use Rattle.msi_database_changes.proofs.steps.RefusedLemmas.{front_fails, none_holds, value_there, not_refused}

-- what wasn't refused at first
unrefused : {A B : Type 0} (rs : Refusals) (x : A) (f : A → Result B ErrorKind) (b : B) → (unless_refused rs x >>= f) ≡ Ok b → first_refusal rs ≡ None
unrefused rs x f b e = let (a, is, rest) = ok_first (unless_refused rs x) f b e in (not_refused rs x a is).0

own_unrefused : (d : Database) (b : Bool) → first_refusal (sound_refusal d ++ (b, InvalidInput) ∷ []) ≡ None → (first_refusal (sound_refusal d) ≡ None) × (b ≡ false)
own_unrefused d b e = let parts = front_fails (sound_refusal d) ((b, InvalidInput) ∷ []) e in (parts.0, (none_holds ((b, InvalidInput) ∷ []) parts.1).0)

pub insert_free : (d : Database) (q : InsertQuery) (c : Change) → insert_at_width d q ≡ Ok c → is_system_table q.table ≡ false
insert_free d q c e = (own_unrefused d (is_system_table q.table) (unrefused (sound_refusal d ++ (is_system_table q.table, InvalidInput) ∷ []) (no_change d) (rows_inserted q.table q.rows) c e)).1

pub delete_start : (d : Database) (q : DeleteQuery) (c : Change) → delete_rows d q ≡ Ok c → (is_system_table q.table ≡ false) × (t : TableCells) × (table_at q.table d ≡ Some t)
delete_start d q c e =
    let (start, is, rest) = ok_first (unless_refused (sound_refusal d ++ (is_system_table q.table, InvalidInput) ∷ []) (no_change d)) _ c e in
    let (t, at, more) = ok_first (or_refused NotFound (table_at q.table d)) _ c rest in
    ((own_unrefused d (is_system_table q.table) ((not_refused (sound_refusal d ++ (is_system_table q.table, InvalidInput) ∷ []) (no_change d) start is).0)).1, t, value_there NotFound (table_at q.table d) t at)

pub update_start : (d : Database) (q : UpdateQuery) (c : Change) → update_at_width d q ≡ Ok c → (first_refusal (sound_refusal d) ≡ None) × (is_update_barred q ≡ false) × (t : TableCells) × (table_at q.table d ≡ Some t)
update_start d q c e =
    let (start, is, rest) = ok_first (unless_refused (sound_refusal d ++ (is_update_barred q, InvalidInput) ∷ []) (no_change d)) _ c e in
    let (t, at, more) = ok_first (or_refused NotFound (table_at q.table d)) _ c rest in
    let own = own_unrefused d (is_update_barred q) ((not_refused (sound_refusal d ++ (is_update_barred q, InvalidInput) ∷ []) (no_change d) start is).0) in
    (own.0, own.1, t, value_there NotFound (table_at q.table d) t at)

and_second : (a b : Bool) → a ≡ true → (a && b) ≡ false → b ≡ false
and_second true b e f = f
and_second false b e f = cc

module _ (takes : TakenPlacesHoldTheirText) (gives : GivenBackTakesOne) (d : Database) (c : Change) (change : IsChangeAtWidth d c) (well : WellFormed d)
    (before : schema_of (describing d) ≡ Some (shown d)) (unlisted : map (row_values d.pool.places) d.unlisted_validation ≡ map (row_values c.database.pool.places) c.database.unlisted_validation) where
  pub shown_same : shown c.database ≡ shown d
  shown_same = shown_changed d c ((describes_from (describing d) (shown d) before).in_order) change

  elsewhere : (table : List ℕ) → OthersStay table d c.database → is_system_table table ≡ false → IsSameButDescription (describing d) (describing c.database)
  elsewhere table stay free = let r = or_parts (is_schema_table table) (bytes_eq table validation_name) free in same_elsewhere table d c.database stay (r.0) (r.1) shown_same unlisted

  changed_rows : (k : IsChangeAtWidth d c) → IsSameButDescription (describing d) (describing c.database)
  changed_rows (inserted q e) = elsewhere q.table ((insert_adds_its_rows takes gives d q c well e).1) (insert_free d q c e)
  changed_rows (deleted q e) = let (free, t, at) = delete_start d q c e in elsewhere q.table ((delete_removes_its_rows takes gives d q c t well at e).1) free
  changed_rows (updated q e) =
      let (sound, barred, t, at) = update_start d q c e in
      let r = or_parts (is_schema_table q.table) (bytes_eq q.table validation_name && not (list_all (λ s. bytes_eq s.0 (codes "Description")) q.sets)) barred in
      let (rows, stay) = update_sets_its_rows takes gives d q c t well at e in
      by_test (bytes_eq q.table validation_name)
      (λ y. let name : q.table ≡ validation_name = texts_same q.table validation_name y in
      let here : table_at validation_name d ≡ Some t = ap (λ (n : List ℕ). table_at n d) (sym name) ∙ at in
      same_but_description d c.database q t (subst (λ (n : List ℕ). OthersStay n d c.database) name stay) (ap is_some here) shown_same
      (alike_shown d t.columns (standard d sound) (find_shown validation_name d.tables ∙ ap (option_map (λ u. u.columns)) here))
      (not-false _ (and_second _ _ y r.1))
      (subst (λ (n : List ℕ). IsPermutation (values_after t q (rows_at n d)) (rows_at n c.database)) name rows))
      (λ n. same_elsewhere q.table d c.database stay (r.0) n shown_same unlisted)

  -- the rows describe the tables as before
  pub still_describes : HasKinds (describing d) → schema_of (describing c.database) ≡ Some (shown c.database)
  still_describes kinds = describes_changed d c change before kinds (changed_rows change)
