-- An update whose keys collide or whose texts find no room: what its steps refuse, the call refuses.
use Rattle.std.proofs.Common.{◌≡◌, Bool, true, false, List, ◌∷◌, [], Some, None, Result, Option, refl, sym, ap, ap₂, subst, ◌∙◌}
use Rattle.msi_base.specs.declared.errors.ErrorKind.{ErrorKind}
use Rattle.msi_base.specs.declared.errors.ErrorKind.TheVariants.{AlreadyExists, InvalidData, InvalidInput, NotFound}
use Rattle.msi_pool.specs.Pool.{Place, Pool}
use Rattle.msi_table_cells.specs.declared.cell.ValueRef.{ValueRef}
use Rattle.msi_table_values.specs.Columns.{ColumnDef}
use Rattle.msi_table.specs.Tables.{TableDef, long_table_of}
use Rattle.msi_database_changes.proofs.steps.AtWidthLemmas.{sound_widened}
use Rattle.msi_query.specs.Queries.{UpdateQuery}
use Rattle.msi_base.specs.Refusals.{IsRefusal, Refusals, first_refusal, or_refused, unless, unless_refused, ◌>>=◌}
use Rattle.msi_table_cells.specs.TableCells.{TableCells}
use Rattle.msi_database_changes.specs.Database.{Database, is_sound, table_at}
use Rattle.msi_database_changes.specs.Widening.{widened}
use Rattle.msi_database_changes.specs.Changes.{Change, barred_refusals, no_change, pool_of, with_stored}
use Rattle.msi_database_changes.specs.Texts.{PoolInUse, UsedPool, in_turn, in_use}
use Rattle.msi_database_changes.specs.Insert.{table_with}
use Rattle.msi_database_changes.specs.Update.{is_update_barred, keys_collide, row_updated, rows_updated, set_refusals, update_refusals, update_at_width, update_rows}
use Rattle.msi_database_changes.proofs.steps.RefusedLemmas.{behind_passed}
use Rattle.msi_database.specs.Listed.{IsKnown}
use Rattle.msi_database.proofs.calls.AcceptedCallLemmas.{both_pass, found, goes_on}
use Rattle.msi_database.proofs.calls.RefusedCallLemmas.{becomes, option_refused, step_refuses}
use Rattle.msi_database.proofs.calls.RowCallLemmas.{began_as, known_cells}
use Rattle.msi_database.proofs.widths.WideRefusalLemmas.{known_widened, long_pool, long_used, refused_widening}

-- new values that are accepted, and keys that don't collide
pub update_passes : (places : List Place) (columns : List ColumnDef) (rows : List (List ValueRef)) (q : UpdateQuery) → first_refusal (set_refusals columns q) ≡ None → keys_collide places (table_with columns rows) q ≡ false
    → first_refusal (update_refusals places (table_with columns rows) q) ≡ None
update_passes places columns rows q fits apart = behind_passed (set_refusals columns q) ((keys_collide places (table_with columns rows) q, AlreadyExists) ∷ []) fits ∙ rw apart refl

-- from what a call knows
module _ (pool : Pool) (d : Database) (pool_is : pool ≡ d.pool) (sound : is_sound d ≡ true) (q : UpdateQuery) (free : is_update_barred q ≡ false) (t : TableDef) (is_known : IsKnown d q.table t)
    (fits : first_refusal (set_refusals t.columns q) ≡ None) (columns : List ColumnDef) (columns_is : columns ≡ t.columns) (held : List (List ValueRef)) (at : table_at t.name d ≡ Some (table_with t.columns held)) (l : ErrorKind) where
  abbrev cells : TableCells
  cells = table_with t.columns held

  abbrev last : TableCells → Result Change ErrorKind
  last t = or_refused InvalidInput (rows_updated t q (no_change d))

  abbrev judged : TableCells → Result Change ErrorKind
  judged t = unless_refused (update_refusals d.pool.places t q) t >>= last

  at_table : update_at_width d q ≡ judged cells
  at_table =
      goes_on (barred_refusals d (is_update_barred q)) (no_change d)
      (λ c. or_refused NotFound (table_at q.table d) >>= λ t. unless_refused (update_refusals d.pool.places t q) t >>= λ t. or_refused InvalidInput (rows_updated t q c))
      (both_pass (is_sound d) (is_update_barred q) InvalidData InvalidInput sound free)
      ∙ found NotFound (table_at q.table d) cells judged (known_cells d q.table t cells is_known at)

  same_keys : (rows : List (List ValueRef)) → rows ≡ held → keys_collide pool.places (table_with columns rows) q ≡ keys_collide d.pool.places cells q
  same_keys rows are = ap (λ (rows : List (List ValueRef)). keys_collide pool.places (table_with columns rows) q) are
      ∙ ap₂ (λ (p : Pool) (cs : List ColumnDef). keys_collide p.places (table_with cs held) q) pool_is columns_is

  update_collides_at : (rows : List (List ValueRef)) → rows ≡ held → IsRefusal {A = Unit {0}} (unless_refused ((keys_collide pool.places (table_with columns rows) q, AlreadyExists) ∷ []) tt) l → IsRefusal (update_at_width d q) l
  update_collides_at rows are h =
      let keys : Refusals = (keys_collide d.pool.places cells q, AlreadyExists) ∷ [] in
      let moved = subst (λ (b : Bool). IsRefusal {A = Unit {0}} (unless_refused ((b, AlreadyExists) ∷ []) tt) l) (same_keys rows are) h in
      becomes (update_at_width d q) (judged cells) l at_table (step_refuses (update_refusals d.pool.places cells q) cells tt last l
      (becomes {A = Unit {0}} (unless_refused (update_refusals d.pool.places cells q) tt) (unless_refused keys tt) l
      (ap (λ (o : Option ErrorKind). unless {A = Unit {0}} o tt) (behind_passed (set_refusals t.columns q) keys fits)) moved))

  update_full_at : (cloned : Pool) → cloned ≡ pool → (before : UsedPool) → before ≡ record { pool = cloned; is_used = false } → keys_collide pool.places (table_with columns held) q ≡ false
      → IsRefusal (or_refused InvalidInput (in_turn (row_updated before.pool.long pool.places columns q) (in_use before) held)) l → IsRefusal (update_at_width d q) l
  update_full_at cloned cloned_is before before_is apart h =
      let began = began_as d.pool before cloned before_is (cloned_is ∙ pool_is) in
      let one = subst (λ (u : UsedPool). IsRefusal (or_refused InvalidInput (in_turn (row_updated u.pool.long pool.places columns q) (in_use u) held)) l) began h in
      let two = subst (λ (p : Pool). IsRefusal (or_refused InvalidInput (in_turn (row_updated d.pool.long p.places columns q) (pool_of (no_change d)) held)) l) pool_is one in
      let three = subst (λ (cs : List ColumnDef). IsRefusal (or_refused InvalidInput (in_turn (row_updated d.pool.long d.pool.places cs q) (pool_of (no_change d)) held)) l) columns_is two in
      becomes (update_at_width d q) (last cells) l
      (at_table ∙ goes_on (update_refusals d.pool.places cells q) cells last (update_passes d.pool.places t.columns held q fits (sym (same_keys held refl) ∙ apart)))
      (option_refused InvalidInput l (λ (r : List (List ValueRef) × PoolInUse). with_stored q.table t.columns r.0 r.1 (no_change d)) (in_turn (row_updated d.pool.long d.pool.places t.columns q) (pool_of (no_change d)) held) three)

-- also where references may widen
module _ (pool : Pool) (d : Database) (pool_is : pool ≡ d.pool) (sound : is_sound d ≡ true) (q : UpdateQuery) (free : is_update_barred q ≡ false) (t : TableDef) (is_known : IsKnown d q.table t)
    (fits : first_refusal (set_refusals t.columns q) ≡ None) (columns : List ColumnDef) (columns_is : columns ≡ t.columns) (held : List (List ValueRef)) (at : table_at t.name d ≡ Some (table_with t.columns held)) (l : ErrorKind) where
  pub update_collides : (rows : List (List ValueRef)) → rows ≡ held → IsRefusal {A = Unit {0}} (unless_refused ((keys_collide pool.places (table_with columns rows) q, AlreadyExists) ∷ []) tt) l → IsRefusal (update_rows d q) l
  update_collides rows are h = refused_widening (λ d. update_at_width d q) d l sound
      (update_collides_at (long_pool pool) (widened d) (ap long_pool pool_is) (sound_widened d sound) q free (long_table_of t) (known_widened d q.table t is_known) fits columns columns_is held at l rows are h)

  pub update_full : (cloned : Pool) → cloned ≡ pool → (before : UsedPool) → before ≡ record { pool = cloned; is_used = false } → keys_collide pool.places (table_with columns held) q ≡ false
      → IsRefusal (or_refused InvalidInput (in_turn (row_updated true pool.places columns q) (in_use before) held)) l → IsRefusal (update_rows d q) l
  update_full cloned cloned_is before before_is apart h = refused_widening (λ d. update_at_width d q) d l sound
      (update_full_at (long_pool pool) (widened d) (ap long_pool pool_is) (sound_widened d sound) q free (long_table_of t) (known_widened d q.table t is_known) fits columns columns_is held at l
      (long_pool cloned) (ap long_pool cloned_is) (long_used before) (ap long_used before_is) apart h)
