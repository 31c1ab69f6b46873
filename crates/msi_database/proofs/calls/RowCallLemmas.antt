-- Changes of rows: what a call made is what the change leaves.
use Rattle.std.proofs.Common.{◌≡◌, ℕ, ◌≤◌, Bool, true, false, not, cond, List, [], ◌∷◌, ◌++◌, fold, length, arith, Option, Some, None, Result, Ok, Err, refl, sym, ap, ap₂, subst, ◌∙◌, option_map}
use Rattle.std.specs.Prelude.{MatchOption}
use Rattle.std.proofs.lemmas.Option.{same_Some}
use Rattle.std.proofs.lemmas.Bool.{leb-true}
use Rattle.msi_base.specs.declared.errors.ErrorKind.{ErrorKind}
use Rattle.msi_pool.specs.FirstFit.{most_places}
use Rattle.msi_pool.specs.Pool.{Place, Pool}
use Rattle.msi_table_cells.specs.declared.cell.ValueRef.{ValueRef}
use Rattle.msi_table_values.specs.declared.value.Value.{Value}
use Rattle.msi_table_values.specs.Columns.{ColumnDef, types_of}
use Rattle.msi_table_cells.specs.CellValues.{row_values}
use Rattle.msi_table.specs.Tables.{TableDef}
use Rattle.msi_table_cells.specs.Fitting.{FitsTable}
use Rattle.msi_query.specs.Queries.{InsertQuery, UpdateQuery, DeleteQuery}
use Rattle.msi_query.specs.Conditions.{meets}
use Rattle.msi_base.specs.Refusals.{first_refusal, unless_refused}
use Rattle.msi_table_cells.specs.TableCells.{TableCells}
use Rattle.msi_query.specs.Selection.{has_columns, condition_names}
use Rattle.msi_database_schema.specs.Keys.{is_table_name, table_key}
use Rattle.msi_database_schema.specs.System.{is_system_table}
use Rattle.msi_database_schema.proofs.RowOrderLemmas.{names_total}
use Rattle.msi_database_changes.specs.Database.{Database, is_sound, table_at}
use Rattle.msi_database_changes.specs.Changes.{Change, no_change, pool_of, with_stored}
use Rattle.msi_database_changes.specs.Widening.{widened, widening}
use Rattle.msi_database_changes.specs.Setting.{cells_set}
use Rattle.msi_database_changes.specs.Texts.{PoolInUse, UsedPool, cell_released, in_turn, in_use, rows_put, rows_released, settled}
use Rattle.msi_database_changes.proofs.text_counts.NarrowLemmas.{cells_set_grows, cells_set_narrow, released_many, rows_put_narrow, turn_narrow}
use Rattle.msi_table_cells.specs.KeyOrder.{in_key_order}
use Rattle.msi_database_changes.specs.Insert.{table_with, cells_added, early_insert_refusals, insert_at_width, insert_rows, insert_whole, row_refusals, whole_insert}
use Rattle.msi_database_changes.specs.Update.{is_update_barred, row_updated, update_refusals, update_at_width, update_rows}
use Rattle.msi_database_changes.specs.Delete.{delete_rows, rows_meeting}
use Rattle.msi_database_changes.proofs.steps.AtWidthLemmas.{IsChangeAtWidth, inserted, updated, deleted, sound_widened}
use Rattle.msi_database_changes.proofs.steps.TurnLemmas.{map_some}
use Rattle.msi_database_storage.specs.Streams.{stream_of_rows}
use Rattle.msi_database_changes.specs.declared.storing.Stored.{Stored}
use Rattle.msi_database_storage.specs.Storing.{stored_in}
use Rattle.msi_database_storage.specs.Kept.{Kept, kept_of}
use Rattle.msi_database.specs.Keeping.{AreKept, IsKeptDatabase}
use Rattle.msi_database.specs.Listed.{IsKnown, table_def_at}
use Rattle.msi_database.specs.Making.{IsAnew, Leaves, Makes, MakesRows, RowsBecome, TellsUse, base_with, wide_for}
use Rattle.msi_database_storage.proofs.MapLemmas as found
use Rattle.msi_database_storage.proofs.StreamLemmas.{list_cmp_exact}
use Rattle.msi_database_schema.proofs.KeyLemmas.{table_key_is_name}
use Rattle.msi_database.proofs.soundness.SoundLemmas.{sound_is, sound_names}
use Rattle.msi_database.proofs.widths.RowsAtBothWidthsLemmas.{anew, anew_still}
use Rattle.msi_database.proofs.calls.AcceptedCallLemmas.{delete_made, insert_made, update_made, whole_is}

-- WHAT WAS MADE

pub makes_kept : (old : Kept) (r : Result Change ErrorKind) (base : Kept) (pool : Pool) (tables : List TableDef) (es : List Stored) → Makes old r base pool tables es → AreKept pool tables (stored_in es base.streams) true
makes_kept old (Ok c) base pool tables es h = h.1.1
makes_kept old (Err k) base pool tables es h = absurd h

pub makes_leaves : (old new : Kept) (r : Result Change ErrorKind) (base : Kept) (pool : Pool) (tables : List TableDef) (es : List Stored) → Makes old r base pool tables es → new ≡ kept_of pool tables (stored_in es base.streams) → Leaves old r new
makes_leaves old new (Ok c) base pool tables es h e = e ∙ h.1.0
makes_leaves old new (Err k) base pool tables es h e = absurd h

-- A TABLE THAT IS KNOWN

known_at : (d : Database) → is_sound d ≡ true → (name : List ℕ) (x : Option TableCells) → table_at name d ≡ x → (o : Option TableDef)
    → o ≡ option_map (λ t. record { name = name; columns = t.columns; long = d.pool.long }) x → MatchOption o (table_at name d ≡ None) (IsKnown d name)
known_at d sound name None at None e = at
known_at d sound name None at (Some t) e = absurd cc
known_at d sound name (Some u) at None e = absurd cc
known_at d sound name (Some u) at (Some t) e =
    let same : record { name = name; columns = u.columns; long = d.pool.long } ≡ t = cc in
    subst (IsKnown d name) same (record {
      named = refl;
      listed = ap (option_map (λ t. record { name = name; columns = t.columns; long = d.pool.long })) at;
      has_key = table_key_is_name name (found.found_has names_total list_cmp_exact (λ e. is_table_name e.0 ≡ true) name u d.tables (sound_names d sound) at);
      long = refl;
    })

pub known_by : (d : Database) → is_sound d ≡ true → (name : List ℕ) (o : Option TableDef) → o ≡ table_def_at name d → MatchOption o (table_at name d ≡ None) (IsKnown d name)
known_by d sound name o e = known_at d sound name (table_at name d) refl o e

pub known_cells : (d : Database) (name : List ℕ) (t : TableDef) (cells : TableCells) → IsKnown d name t → table_at t.name d ≡ Some cells → table_at name d ≡ Some cells
known_cells d name t cells known at = ap (λ n. table_at n d) (sym known.named) ∙ at

-- A CHANGE OF ROWS

-- the pool in use began as the database's
pub began_as : (pool : Pool) (before : UsedPool) (cloned : Pool) → before ≡ record { pool = cloned; is_used = false } → cloned ≡ pool → before ≡ record { pool = pool; is_used = false }
began_as pool before cloned is same = is ∙ ap (λ (p : Pool). record { pool = p; is_used = false }) same

-- THE THREE CALLS

pub delete_is : (d : Database) (q : DeleteQuery) (t : TableDef) (held rows : List (List ValueRef)) (before after : UsedPool) → is_sound d ≡ true → is_system_table q.table ≡ false → table_at q.table d ≡ Some (table_with t.columns held)
    → has_columns t.columns (condition_names q.condition) ≡ true → before ≡ record { pool = d.pool; is_used = false }
    → rows ≡ rows_meeting d.pool.places (table_with t.columns held) q.condition false
    → in_use after ≡ rows_released (in_use before) (rows_meeting d.pool.places (table_with t.columns held) q.condition true)
    → delete_rows d q ≡ Ok (with_stored q.table t.columns rows (in_use after) (no_change d))
delete_is d q t held rows before after sound free at fits began kept released =
    delete_made d q (table_with t.columns held) sound free at fits
    ∙ ap₂ (λ rows (used : PoolInUse). Ok (with_stored q.table t.columns rows used (no_change d))) (sym kept)
    (sym (released ∙ ap (λ (u : UsedPool). rows_released (in_use u) (rows_meeting d.pool.places (table_with t.columns held) q.condition true)) began))

pub update_is : (d : Database) (q : UpdateQuery) (t : TableDef) (held rows : List (List ValueRef)) (before after : UsedPool) → is_sound d ≡ true → is_update_barred q ≡ false → table_at q.table d ≡ Some (table_with t.columns held)
    → first_refusal (update_refusals d.pool.places (table_with t.columns held) q) ≡ None → before ≡ record { pool = d.pool; is_used = false }
    → in_turn (row_updated before.pool.long d.pool.places t.columns q) (in_use before) held ≡ Some (rows, in_use after)
    → update_at_width d q ≡ Ok (with_stored q.table t.columns rows (in_use after) (no_change d))
update_is d q t held rows before after sound free at passed began put =
    update_made d q (table_with t.columns held) (rows, in_use after) sound free at passed
    (ap (λ (u : UsedPool). in_turn (row_updated u.pool.long d.pool.places t.columns q) (in_use u) held) (sym began) ∙ put)

pub insert_is : (d : Database) (q : InsertQuery) (t : TableDef) (held rows : List (List ValueRef)) (values : List (List Value)) (before after : UsedPool) → is_sound d ≡ true → is_system_table q.table ≡ false
    → table_at q.table d ≡ Some (table_with t.columns held) → values ≡ q.rows
    → first_refusal (row_refusals d.pool.places (table_with t.columns held) values) ≡ None → before ≡ record { pool = d.pool; is_used = false }
    → cells_added before.pool.long t.columns (in_use before) held values ≡ Some (rows, in_use after)
    → insert_at_width d q ≡ Ok (with_stored q.table t.columns rows (in_use after) (no_change d))
insert_is d q t held rows values before after sound free at same passed began added =
    map_some (λ (r : List (List ValueRef) × PoolInUse). (in_key_order t.columns r.1.places (held ++ r.0), r.1)) (rows_put d.pool.long (pool_of (no_change d)) q.rows) (rows, in_use after)
    (ap₂ (λ (u : UsedPool) (vs : List (List Value)). cells_added u.pool.long t.columns (in_use u) held vs) (sym began) (sym same) ∙ added)
    (λ r put is. insert_made d q (table_with t.columns held) r sound free at (ap (λ (vs : List (List Value)). first_refusal (row_refusals d.pool.places (table_with t.columns held) vs)) (sym same) ∙ passed) put
    ∙ ap (λ (p : List (List ValueRef) × PoolInUse). Ok (with_stored q.table t.columns p.0 p.1 (no_change d))) is)

-- AT BOTH WIDTHS

-- where narrower references suffice for what was taken with those of three bytes, it is taken alike
pub cells_added_narrow : (long : Bool) (columns : List ColumnDef) (pool : PoolInUse) (held : List (List ValueRef)) (values : List (List Value)) (r : List (List ValueRef) × PoolInUse)
    → cells_added true columns pool held values ≡ Some r → length r.1.places ≤ most_places long → cells_added long columns pool held values ≡ Some r
cells_added_narrow long columns pool held values r e few =
    map_some (λ (r : List (List ValueRef) × PoolInUse). (in_key_order columns r.1.places (held ++ r.0), r.1)) (rows_put true pool values) r e
    (λ x put is.
    let few_x : length x.1.places ≤ most_places long = subst (λ (r : List (List ValueRef) × PoolInUse). length r.1.places ≤ most_places long) (sym is) few in
    ap (option_map (λ (r : List (List ValueRef) × PoolInUse). (in_key_order columns r.1.places (held ++ r.0), r.1))) (rows_put_narrow long pool values x put few_x) ∙ ap Some is)

row_grows : (places : List Place) (columns : List ColumnDef) (q : UpdateQuery) (b : Bool) (pool : PoolInUse) (row : List ValueRef) (r : List ValueRef × PoolInUse)
    → cond b (cells_set true columns pool row q.sets) (Some (row, pool)) ≡ Some r → length pool.places ≤ length r.1.places
row_grows places columns q true pool row r e = cells_set_grows true columns pool row q.sets r e
row_grows places columns q false pool row r e = subst (λ (r : List ValueRef × PoolInUse). length pool.places ≤ length r.1.places) (same_Some (row, pool) r e) (omega arith)

row_narrow : (long : Bool) (columns : List ColumnDef) (q : UpdateQuery) (b : Bool) (pool : PoolInUse) (row : List ValueRef) (r : List ValueRef × PoolInUse)
    → cond b (cells_set true columns pool row q.sets) (Some (row, pool)) ≡ Some r → length r.1.places ≤ most_places long → cond b (cells_set long columns pool row q.sets) (Some (row, pool)) ≡ Some r
row_narrow long columns q true pool row r e few = cells_set_narrow long columns pool row q.sets r e few
row_narrow long columns q false pool row r e few = e

rows_updated_narrow : (long : Bool) (places : List Place) (columns : List ColumnDef) (q : UpdateQuery) (pool : PoolInUse) (held : List (List ValueRef)) (r : List (List ValueRef) × PoolInUse)
    → in_turn (row_updated true places columns q) pool held ≡ Some r → length r.1.places ≤ most_places long → in_turn (row_updated long places columns q) pool held ≡ Some r
rows_updated_narrow long places columns q pool held r e few =
    turn_narrow long (row_updated true places columns q) (row_updated long places columns q)
    (λ s x r e. row_grows places columns q (meets columns q.condition (row_values places x)) s x r e)
    (λ s x r e few. row_narrow long columns q (meets columns q.condition (row_values places x)) s x r e few) pool held r e few

released_as_many : (pool : PoolInUse) (row : List ValueRef) → length (fold cell_released pool row).places ≡ length pool.places
released_as_many pool [] = refl
released_as_many pool (c ∷ cs) = released_as_many (cell_released pool c) cs ∙ released_many pool c

pub rows_released_as_many : (pool : PoolInUse) (rows : List (List ValueRef)) → length (rows_released pool rows).places ≡ length pool.places
rows_released_as_many pool [] = refl
rows_released_as_many pool (r ∷ rs) = rows_released_as_many (fold cell_released pool r) rs ∙ released_as_many pool r

-- WHAT A CALL KNOWS

pub record Called (k : Kept) (r : Result Change ErrorKind) (t : TableDef) (rows : List (List ValueRef)) (used : UsedPool) : Type 0 where
  pub can_store : FitsTable (settled used.pool).long (types_of t.columns) rows
  pub makes : (wide : Option Kept) (stored : Stored) (new : Pool) (is_used : Bool) → IsAnew k t rows used wide stored new is_used → MakesRows k r (base_with wide k) new stored
  pub uses : (wide : Option Kept) (stored : Stored) (new : Pool) (is_used : Bool) → IsAnew k t rows used wide stored new is_used → TellsUse r is_used

pub passes_one : (b : Bool) (kind : ErrorKind) (x : Unit {0}) → Ok x ≡ unless_refused ((not b, kind) ∷ []) tt → b ≡ true
passes_one true kind x e = refl
passes_one false kind x e = absurd cc

module _ (k : Kept) (kept : IsKeptDatabase k) (sound : is_sound k.database ≡ true) (pool : Pool) (pool_is : pool ≡ k.database.pool)
    (name : List ℕ) (t : TableDef) (is_known : IsKnown k.database name t) (columns : List ColumnDef) (columns_is : columns ≡ t.columns) (held : List (List ValueRef)) (at : table_at t.name k.database ≡ Some (table_with t.columns held))
    (cloned : Pool) (cloned_is : cloned ≡ pool) (before : UsedPool) (before_is : before ≡ record { pool = cloned; is_used = false }) (rows : List (List ValueRef)) (after : UsedPool)
    (page : after.pool.page ≡ before.pool.page) (long : after.pool.long ≡ before.pool.long) where
  abbrev d : Database
  d = k.database

  abbrev start : PoolInUse
  start = pool_of (no_change d)

  here : table_at name d ≡ Some (table_with t.columns held)
  here = known_cells d name t (table_with t.columns held) is_known at

  began : before ≡ record { pool = d.pool; is_used = false }
  began = began_as d.pool before cloned before_is (cloned_is ∙ pool_is)

  -- a change that makes these rows at either width
  becomes_by : (change : Database → Result Change ErrorKind) → change (widened d) ≡ Ok (with_stored name t.columns rows (in_use after) (no_change (widened d)))
      → (length after.pool.places ≤ most_places d.pool.long → change d ≡ Ok (with_stored name t.columns rows (in_use after) (no_change d))) → RowsBecome change d name t.columns rows after
  becomes_by change wide same = record { page = page ∙ ap (λ (u : UsedPool). u.pool.page) began; long = long ∙ ap (λ (u : UsedPool). u.pool.long) began; wide = wide; same = same }

  abbrev Made : Result Change ErrorKind → Type 0
  Made r = Called k r t rows after

  called_by : (r : Result Change ErrorKind) → FitsTable (settled after.pool).long (types_of t.columns) rows
      → ((e : Stored) → e.name ≡ table_key name → e.bytes ≡ stream_of_rows (settled after.pool).long t.columns rows → MakesRows k r (base_with (wide_for after k) k) (settled after.pool) e)
      → TellsUse r after.is_used → Made r
  called_by r fits makes uses = record {
    can_store = fits;
    makes = λ wide stored new is_used anew.
        subst (λ (w : Option Kept). MakesRows k r (base_with w k) new stored) (sym anew.base)
        (subst (λ (p : Pool). MakesRows k r (base_with (wide_for after k) k) p stored) (sym anew.pool) (makes stored (anew.name ∙ ap table_key is_known.named) anew.bytes));
    uses = λ wide stored new is_used anew. subst (TellsUse r) (sym anew.uses) uses;
  }

  may_widen : (change : Database → Result Change ErrorKind) → ((d : Database) (c : Change) → change d ≡ Ok c → IsChangeAtWidth d c) → RowsBecome change d name t.columns rows after → Made (widening change d)
  may_widen change is_change becomes =
      let new = anew k kept sound change is_change name t.columns rows after becomes in called_by (widening change d) new.fits new.makes new.uses

  pub delete_called : (q : DeleteQuery) → name ≡ q.table → is_system_table name ≡ false → has_columns t.columns (condition_names q.condition) ≡ true
      → rows ≡ rows_meeting pool.places (table_with columns held) q.condition false
      → in_use after ≡ rows_released (in_use before) (rows_meeting pool.places (table_with columns held) q.condition true)
      → Made (delete_rows d q)
  delete_called q named free fits rows_is released =
      let seen : DeleteQuery = record { table = name; condition = q.condition } in
      let same : seen ≡ q = λ i. record { table = named i; condition = q.condition } in
      let meeting = λ (places : List Place) (cs : List ColumnDef) (wanted : Bool). rows_meeting places (table_with cs held) q.condition wanted in
      let rows_here = rows_is ∙ ap₂ (λ (p : Pool) (cs : List ColumnDef). meeting p.places cs false) pool_is columns_is in
      let released_here = released ∙ ap₂ (λ (p : Pool) (cs : List ColumnDef). rows_released (in_use before) (meeting p.places cs true)) pool_is columns_is
      ∙ ap (λ (u : UsedPool). rows_released (in_use u) (meeting d.pool.places t.columns true)) began in
      let made : delete_rows d seen ≡ Ok (with_stored name t.columns rows (in_use after) (no_change d)) =
      delete_is d seen t held rows (record { pool = d.pool; is_used = false }) after sound free here fits refl rows_here released_here in
      let made_wide : delete_rows (widened d) seen ≡ Ok (with_stored name t.columns rows (in_use after) (no_change (widened d))) =
      delete_is (widened d) seen t held rows (record { pool = (widened d).pool; is_used = false }) after (sound_widened d sound) free here fits refl rows_here released_here in
      let many : length after.pool.places ≡ length d.pool.places = ap (λ (u : PoolInUse). length u.places) released_here ∙ rows_released_as_many start (meeting d.pool.places t.columns true) in
      let few : length after.pool.places ≤ most_places d.pool.long = subst (λ n. n ≤ most_places d.pool.long) (sym many) (leb-true (length d.pool.places) (most_places d.pool.long) (sound_is d sound).fits) in
      let becomes = becomes_by (λ d. delete_rows d seen) made_wide (λ few. made) in
      let new = anew_still k kept sound (λ d. delete_rows d seen) (λ d c e. deleted seen e) name t.columns rows after becomes few in
      subst (λ (q : DeleteQuery). Made (delete_rows d q)) same (called_by (delete_rows d seen) new.fits new.makes new.uses)

  pub update_called : (q : UpdateQuery) → name ≡ q.table → (b : Bool) → b ≡ is_update_barred q → b ≡ false
      → first_refusal (update_refusals pool.places (table_with columns held) q) ≡ None
      → in_turn (row_updated true pool.places columns q) (in_use before) held ≡ Some (rows, in_use after)
      → Made (update_rows d q)
  update_called q named b b_is free passed put =
      let seen : UpdateQuery = record { table = name; sets = q.sets; condition = q.condition } in
      let same : seen ≡ q = λ i. record { table = named i; sets = q.sets; condition = q.condition } in
      let passed_here = ap₂ (λ (p : Pool) (cs : List ColumnDef). first_refusal (update_refusals p.places (table_with cs held) seen)) (sym pool_is) (sym columns_is) ∙ passed in
      let put_here : in_turn (row_updated true d.pool.places t.columns seen) start held ≡ Some (rows, in_use after) =
      ap (λ (u : UsedPool). in_turn (row_updated true d.pool.places t.columns seen) (in_use u) held) (sym began)
      ∙ ap₂ (λ (p : Pool) (cs : List ColumnDef). in_turn (row_updated true p.places cs seen) (in_use before) held) (sym pool_is) (sym columns_is) ∙ put in
      let barred = ap is_update_barred same ∙ sym b_is ∙ free in
      let wide : update_at_width (widened d) seen ≡ Ok (with_stored name t.columns rows (in_use after) (no_change (widened d))) =
      update_is (widened d) seen t held rows (record { pool = (widened d).pool; is_used = false }) after (sound_widened d sound) barred here passed_here refl put_here in
      let becomes = becomes_by (λ d. update_at_width d seen) wide (λ few.
      update_is d seen t held rows (record { pool = d.pool; is_used = false }) after sound barred here passed_here refl (rows_updated_narrow d.pool.long d.pool.places t.columns seen start held (rows, in_use after) put_here few)) in
      subst (λ (q : UpdateQuery). Made (update_rows d q)) same (may_widen (λ d. update_at_width d seen) (λ d c e. updated seen e) becomes)

  whole_called : (q : InsertQuery) (values : List (List Value)) → name ≡ q.table → values ≡ q.rows → (b : Bool) → b ≡ is_system_table name → b ≡ false
      → first_refusal (row_refusals pool.places (table_with columns held) values) ≡ None
      → cells_added true columns (in_use before) held values ≡ Some (rows, in_use after)
      → Made (insert_whole d q)
  whole_called q values named values_are b b_is free passed added =
      let seen : InsertQuery = record { table = name; columns = q.columns; rows = q.rows } in
      let same : seen ≡ q = λ i. record { table = named i; columns = q.columns; rows = q.rows } in
      let passed_here = ap₂ (λ (p : Pool) (cs : List ColumnDef). first_refusal (row_refusals p.places (table_with cs held) values)) (sym pool_is) (sym columns_is) ∙ passed in
      let added_here : cells_added true t.columns start held values ≡ Some (rows, in_use after) =
      ap (λ (u : UsedPool). cells_added true t.columns (in_use u) held values) (sym began)
      ∙ ap (λ (cs : List ColumnDef). cells_added true cs (in_use before) held values) (sym columns_is) ∙ added in
      let barred = sym b_is ∙ free in
      let wide : insert_at_width (widened d) seen ≡ Ok (with_stored name t.columns rows (in_use after) (no_change (widened d))) =
      insert_is (widened d) seen t held rows values (record { pool = (widened d).pool; is_used = false }) after (sound_widened d sound) barred here values_are passed_here refl added_here in
      let becomes = becomes_by (λ d. insert_at_width d seen) wide (λ few.
      insert_is d seen t held rows values (record { pool = d.pool; is_used = false }) after sound barred here values_are passed_here refl (cells_added_narrow d.pool.long t.columns start held values (rows, in_use after) added_here few)) in
      subst (λ (q : InsertQuery). Made (insert_whole d q)) same (may_widen (λ d. insert_at_width d seen) (λ d c e. inserted seen e) becomes)

  -- the same of an insert that nothing refuses early
  pub insert_called : (q : InsertQuery) → first_refusal (early_insert_refusals d q) ≡ None → (values : List (List Value)) → name ≡ q.table → values ≡ (whole_insert d q).rows
      → (b : Bool) → b ≡ is_system_table name → b ≡ false → first_refusal (row_refusals pool.places (table_with columns held) values) ≡ None
      → cells_added true columns (in_use before) held values ≡ Some (rows, in_use after) → Made (insert_rows d q)
  insert_called q early values named values_are b b_is free passed added =
      subst (λ (r : Result Change ErrorKind). Made r) (sym (whole_is d q early)) (whole_called (whole_insert d q) values named values_are b b_is free passed added)

-- a base over which a change was made is sound
pub makes_sound : (old : Kept) (r : Result Change ErrorKind) (base : Kept) (pool : Pool) (tables : List TableDef) (stored : List Stored) → Makes old r base pool tables stored → is_sound base.database ≡ true
makes_sound old (Ok c) base pool tables stored made = made.2
makes_sound old (Err kind) base pool tables stored made = absurd made
