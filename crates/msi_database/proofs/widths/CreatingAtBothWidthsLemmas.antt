-- Creating a table, step by step at either width: which rows the system tables get, which streams these become, and what is refused.
use Rattle.std.proofs.Common.{◌≡◌, ℕ, ◌≤◌, Bool, true, false, List, [], ◌∷◌, ◌++◌, length, Option, Some, None, option_map, unwrap_or, Result, Ok, Err, refl, sym, ap, subst, ◌∙◌, arith, inl, inr, not}
use Rattle.std.specs.Prelude.{IsSomeAnd}
use Rattle.std.specs.Option.{option_map_or}
use Rattle.std.proofs.lemmas.Bool.{leb-true}
use Rattle.msi_base.specs.declared.errors.ErrorKind.{ErrorKind}
use Rattle.msi_base.specs.declared.errors.ErrorKind.TheVariants.{InvalidData, InvalidInput, NotFound}
use Rattle.msi_pool.specs.FirstFit.{most_places}
use Rattle.msi_pool.specs.Pool.{Pool}
use Rattle.msi_table_values.specs.declared.value.Value.{Value}
use Rattle.msi_table_cells.specs.declared.cell.ValueRef.{ValueRef}
use Rattle.msi_table_values.specs.Columns.{ColumnDef, types_of}
use Rattle.msi_table_cells.specs.Fitting.{FitsTable}
use Rattle.msi_table_cells.specs.KeyOrder.{in_key_order}
use Rattle.msi_table.specs.Tables.{TableDef}
use Rattle.msi_base.specs.Refusals.{IsRefusal, Refusals, first_refusal, or_refused, unless, unless_refused, ◌>>=◌}
use Rattle.msi_table_cells.specs.TableCells.{TableCells}
use Rattle.msi_database_schema.specs.Description.{column_rows, tables_row, validation_rows}
use Rattle.msi_database_schema.specs.Keys.{table_key}
use Rattle.msi_database_schema.specs.System.{columns_name, tables_name, validation_name}
use Rattle.msi_database_changes.specs.Texts.{PoolInUse, UsedPool, in_use, rows_put, settled}
use Rattle.msi_database_changes.proofs.text_counts.NarrowLemmas.{rows_put_grows}
use Rattle.msi_database_changes.specs.Database.{Database, is_sound, rows_of, table_at}
use Rattle.msi_database_changes.specs.Changes.{no_change, pool_of}
use Rattle.msi_database_changes.specs.Widening.{widened}
use Rattle.msi_database_changes.specs.Create.{create_at_width, create_table, table_refusals}
use Rattle.msi_database_changes.specs.Insert.{cells_added, row_refusals, table_with}
use Rattle.msi_database_changes.proofs.steps.AtWidthLemmas.{created, sound_widened}
use Rattle.msi_database_changes.proofs.steps.RefusedLemmas.{bind_ok, not_refused, same_Ok, value_there}
use Rattle.msi_database_changes.proofs.steps.TurnLemmas.{map_some}
use Rattle.msi_database_changes.specs.declared.storing.Stored.{Stored}
use Rattle.msi_database_storage.specs.Kept.{Kept, kept_widened, with_table_kept}
use Rattle.msi_database_changes.specs.Storing.{HaveOwnNames}
use Rattle.msi_database_storage.specs.Streams.{stream_of_rows}
use Rattle.msi_database_changes.specs.Create.{SystemRows}
use Rattle.msi_database_storage.specs.Storing.{stream_gone}
use Rattle.msi_database.specs.Creating.{CanHold, CanHoldAll, IsCreated, columns_at, create_refusals, new_table, rows_described, rows_with, stream_for, streams_for}
use Rattle.msi_database.specs.Keeping.{IsKeptDatabase}
use Rattle.msi_database.specs.Listed.{IsKnown, tables_listed}
use Rattle.msi_database.specs.Making.{Makes, TellsUse, base_with, wide_for}
use Rattle.msi_database.proofs.keeping.AcceptedChangeLemmas.{regular}
use Rattle.msi_database.proofs.table_changes.CreatingCallLemmas.{Creates, bind_err, creates_at, last, judged, stream_with, streams_described, store, streams_refused}
use Rattle.msi_database.proofs.keeping.KeepingLemmas.{change_comes}
use Rattle.msi_database.proofs.calls.AcceptedCallLemmas.{found, goes_on}
use Rattle.msi_database.proofs.widths.TablesAtBothWidthsLemmas.{tables_anew}
use Rattle.msi_database.proofs.calls.RefusedCallLemmas.{create_barred}
use Rattle.msi_database.proofs.calls.RowCallLemmas.{began_as, cells_added_narrow, known_cells}
use Rattle.msi_database.proofs.soundness.SoundLemmas.{sound_is}
use Rattle.msi_database.proofs.calls.StorableLemmas.{cells_can_store}
use Rattle.msi_database.proofs.widths.WideRefusalLemmas.{refused_either, refused_widening}
use Rattle.msi_database.proofs.widths.WideningLemmas.{widened_kept}

-- ONE TABLE

abbrev last_rows : List (List Value) → PoolInUse → TableCells → Result (List (List ValueRef) × PoolInUse) ErrorKind
last_rows values pool t = or_refused InvalidInput (cells_added true t.columns pool (rows_of t) values)

abbrev judged_rows : List (List Value) → PoolInUse → TableCells → Result (List (List ValueRef) × PoolInUse) ErrorKind
judged_rows values pool t = unless_refused (row_refusals pool.places t values) t >>= last_rows values pool

-- as a call takes them
pub rows_at_last : (d : Database) (name : List ℕ) (t : TableDef) → IsKnown d name t → (columns : List ColumnDef) → columns ≡ t.columns → (held : List (List ValueRef)) → table_at t.name d ≡ Some (table_with t.columns held)
    → (values : List (List Value)) (before : UsedPool) (seen : Pool) → seen.places ≡ before.pool.places → (rows_seen : List (List ValueRef)) → rows_seen ≡ held → (values_seen : List (List Value)) → values_seen ≡ values
    → first_refusal (row_refusals seen.places (table_with columns rows_seen) values_seen) ≡ None
    → rows_with d name values (in_use before) ≡ or_refused InvalidInput (cells_added true columns (in_use before) held values)
rows_at_last d name t known columns columns_are held at values before seen seen_is rows_seen rows_are values_seen values_are passed =
    let there = table_with t.columns held in
    let same : first_refusal (row_refusals seen.places (table_with columns rows_seen) values_seen) ≡ first_refusal (row_refusals before.pool.places there values)
    = λ i. first_refusal (row_refusals (seen_is i) (table_with (columns_are i) (rows_are i)) (values_are i)) in
    found NotFound (table_at name d) there (judged_rows values (in_use before)) (known_cells d name t there known at)
    ∙ goes_on (row_refusals before.pool.places there values) there (last_rows values (in_use before)) (sym same ∙ passed)
    ∙ ap (λ (cs : List ColumnDef). or_refused InvalidInput (cells_added true cs (in_use before) held values)) (sym columns_are)

-- what an answer says of the steps to it
pub record Took (d : Database) (name : List ℕ) (values : List (List Value)) (pool : PoolInUse) (r : List (List ValueRef) × PoolInUse) : Type 0 where
  pub t : TableCells
  pub at : table_at name d ≡ Some t
  pub passed : first_refusal (row_refusals pool.places t values) ≡ None
  pub added : cells_added true t.columns pool (rows_of t) values ≡ Some r

pub took : (d : Database) (name : List ℕ) (values : List (List Value)) (pool : PoolInUse) (r : List (List ValueRef) × PoolInUse) → rows_with d name values pool ≡ Ok r → Took d name values pool r
took d name values pool r e =
    bind_ok (or_refused NotFound (table_at name d)) (judged_rows values pool) r e (λ t t_is e.
    bind_ok (unless_refused (row_refusals pool.places t values) t) (last_rows values pool) r e (λ u u_is e.
    let ok = not_refused (row_refusals pool.places t values) t u u_is in
    record {
      t = t;
      at = value_there NotFound (table_at name d) t t_is;
      passed = ok.0;
      added = value_there InvalidInput (cells_added true t.columns pool (rows_of t) values) r (subst (λ (u : TableCells). last_rows values pool u ≡ Ok r) (sym ok.1) e);
    }))

pub rows_fit_there : (o : Option (List (List ValueRef))) (P : List (List ValueRef) → Type 0) → IsSomeAnd o P → P (unwrap_or o [])
rows_fit_there None P h = absurd h
rows_fit_there (Some rows) P h = h

-- each table's rows fit it
abbrev pub IsKeptHere : Database → Type 0
IsKeptHere d = (name : List ℕ) (t : TableCells) → table_at name d ≡ Some t → IsSomeAnd t.rows (FitsTable d.pool.long (types_of t.columns))

module _ (d : Database) (name : List ℕ) (values : List (List Value)) (pool : PoolInUse) (r : List (List ValueRef) × PoolInUse) (s : Took d name values pool r) where
  pub grew : length pool.places ≤ length r.1.places
  grew = map_some (λ (x : List (List ValueRef) × PoolInUse). (in_key_order s.t.columns x.1.places (rows_of s.t ++ x.0), x.1)) (rows_put true pool values) r s.added
      (λ x put is. subst (λ (r : List (List ValueRef) × PoolInUse). length pool.places ≤ length r.1.places) is (rows_put_grows true pool values x put))

  pub narrowed : length r.1.places ≤ most_places d.pool.long → cells_added d.pool.long s.t.columns pool (rows_of s.t) values ≡ Some r
  narrowed few = cells_added_narrow d.pool.long s.t.columns pool (rows_of s.t) values r s.added few

  as_stream : length r.1.places ≤ most_places d.pool.long → stream_with d name values pool ≡ Ok (stream_for d name r.0, r.1)
  as_stream few =
      let columns : columns_at name d ≡ s.t.columns = ap (λ (o : Option TableCells). option_map_or (λ t. t.columns) o []) s.at in
      found NotFound (table_at name d) s.t (judged d name values pool) s.at
      ∙ goes_on (row_refusals pool.places s.t values) s.t (last d name values pool) s.passed
      ∙ ap (λ (o : Option (List (List ValueRef) × PoolInUse)). or_refused InvalidInput (option_map (store d name s.t) o)) (narrowed few)
      ∙ ap (λ (cs : List ColumnDef). Ok (record { name = table_key name; bytes = stream_of_rows d.pool.long cs r.0 }, r.1)) (sym columns)

  fits_here : IsKeptHere d → FitsTable d.pool.long (types_of s.t.columns) (rows_of s.t)
  fits_here k = rows_fit_there s.t.rows (FitsTable d.pool.long (types_of s.t.columns)) (k name s.t s.at)

  pub stored_here : IsKeptHere d → length pool.places ≤ most_places d.pool.long → length r.1.places ≤ most_places d.pool.long → CanHold d name r.0
  stored_here k within few = subst (λ (o : Option TableCells). IsSomeAnd o (λ t. FitsTable d.pool.long (types_of t.columns) r.0)) (sym s.at)
      (cells_can_store d.pool.long s.t.columns (rows_of s.t) pool values r.0 r.1 (fits_here k) within s.passed (narrowed few)).0

  -- with references of three bytes it keeps within what these can name
  pub within_long : IsKeptHere d → d.pool.long ≡ true → length pool.places ≤ 16777215 → length r.1.places ≤ 16777215
  within_long k long within = (cells_can_store true s.t.columns (rows_of s.t) pool values r.0 r.1
      (subst (λ l. FitsTable l (types_of s.t.columns) (rows_of s.t)) long (fits_here k)) within s.passed s.added).1

-- ALL THREE

pub record Described (d : Database) (name : List ℕ) (columns : List ColumnDef) (pool : PoolInUse) (x : SystemRows × PoolInUse) : Type 0 where
  pub c : List (List ValueRef) × PoolInUse
  pub c_took : Took d columns_name (column_rows name columns) pool c
  pub t : List (List ValueRef) × PoolInUse
  pub t_took : Took d tables_name (tables_row name ∷ []) c.1 t
  pub v : List (List ValueRef) × PoolInUse
  pub v_took : Took d validation_name (validation_rows name columns) t.1 v
  pub is : ◌≡◌ {A = SystemRows × PoolInUse} (record { columns = c.0; tables = t.0; validation = v.0 }, v.1) x

abbrev third_rows : Database → List ℕ → List ColumnDef → List (List ValueRef) → List (List ValueRef) × PoolInUse → Result (SystemRows × PoolInUse) ErrorKind
third_rows d name columns c t = rows_with d validation_name (validation_rows name columns) t.1 >>= λ v. Ok (record { columns = c; tables = t.0; validation = v.0 }, v.1)

abbrev second_rows : Database → List ℕ → List ColumnDef → List (List ValueRef) × PoolInUse → Result (SystemRows × PoolInUse) ErrorKind
second_rows d name columns c = rows_with d tables_name (tables_row name ∷ []) c.1 >>= third_rows d name columns c.0

described : (d : Database) (name : List ℕ) (columns : List ColumnDef) (pool : PoolInUse) (x : SystemRows × PoolInUse) → rows_described d name columns pool ≡ Ok x → Described d name columns pool x
described d name columns pool x e =
    bind_ok (rows_with d columns_name (column_rows name columns) pool) (second_rows d name columns) x e (λ c c_is e.
    bind_ok (rows_with d tables_name (tables_row name ∷ []) c.1) (third_rows d name columns c.0) x e (λ t t_is e.
    bind_ok (rows_with d validation_name (validation_rows name columns) t.1) (λ v. Ok (record { columns = c.0; tables = t.0; validation = v.0 }, v.1)) x e (λ v v_is e. record {
      c = c;
      c_took = took d columns_name (column_rows name columns) pool c c_is;
      t = t;
      t_took = took d tables_name (tables_row name ∷ []) c.1 t t_is;
      v = v;
      v_took = took d validation_name (validation_rows name columns) t.1 v v_is;
      is = same_Ok (record { columns = c.0; tables = t.0; validation = v.0 }, v.1) x e;
    })))

module _ (k : Kept) (kept : IsKeptDatabase k) (sound : is_sound k.database ≡ true) (name : List ℕ) (columns : List ColumnDef) (x : SystemRows × PoolInUse)
    (s : Described k.database name columns (pool_of (no_change k.database)) x) where
  abbrev d : Database
  d = k.database

  start_within : length d.pool.places ≤ most_places d.pool.long
  start_within = leb-true (length d.pool.places) (most_places d.pool.long) (sound_is d sound).fits

  fit : IsKeptHere d
  fit = (regular k kept sound).fit

  c_grew : length d.pool.places ≤ length s.c.1.places
  c_grew = grew d columns_name (column_rows name columns) (pool_of (no_change d)) s.c s.c_took

  t_grew : length s.c.1.places ≤ length s.t.1.places
  t_grew = grew d tables_name (tables_row name ∷ []) s.c.1 s.t s.t_took

  v_grew : length s.t.1.places ≤ length s.v.1.places
  v_grew = grew d validation_name (validation_rows name columns) s.t.1 s.v s.v_took

  last_is : s.v.1 ≡ x.1
  last_is = ap (λ (x : SystemRows × PoolInUse). x.1) s.is

  -- three bytes can name all places
  pub places_long : d.pool.long ≡ true → length x.1.places ≤ 16777215
  places_long long =
      let w0 : length d.pool.places ≤ 16777215 = subst (λ l. length d.pool.places ≤ most_places l) long start_within in
      let w1 = within_long d columns_name (column_rows name columns) (pool_of (no_change d)) s.c s.c_took fit long w0 in
      let w2 = within_long d tables_name (tables_row name ∷ []) s.c.1 s.t s.t_took fit long w1 in
      let w3 = within_long d validation_name (validation_rows name columns) s.t.1 s.v s.v_took fit long w2 in
      subst (λ (p : PoolInUse). length p.places ≤ 16777215) last_is w3

  module _ (few : length x.1.places ≤ most_places d.pool.long) where
    v_few : length s.v.1.places ≤ most_places d.pool.long
    v_few = subst (λ (p : PoolInUse). length p.places ≤ most_places d.pool.long) (sym last_is) few

    t_few : length s.t.1.places ≤ most_places d.pool.long
    t_few = omega (arith, v_grew, v_few)

    c_few : length s.c.1.places ≤ most_places d.pool.long
    c_few = omega (arith, t_grew, t_few)

    pub hold_all : CanHoldAll d x.0
    hold_all = subst (λ (x : SystemRows × PoolInUse). CanHoldAll d x.0) s.is (record {
      columns = stored_here d columns_name (column_rows name columns) (pool_of (no_change d)) s.c s.c_took fit start_within c_few;
      tables = stored_here d tables_name (tables_row name ∷ []) s.c.1 s.t s.t_took fit c_few t_few;
      validation = stored_here d validation_name (validation_rows name columns) s.t.1 s.v s.v_took fit t_few v_few;
    })

    streams_are : streams_described d name columns (pool_of (no_change d)) ≡ Ok (streams_for d name x.0, x.1)
    streams_are =
        let c_is = as_stream d columns_name (column_rows name columns) (pool_of (no_change d)) s.c s.c_took c_few in
        let t_is = as_stream d tables_name (tables_row name ∷ []) s.c.1 s.t s.t_took t_few in
        let v_is = as_stream d validation_name (validation_rows name columns) s.t.1 s.v s.v_took v_few in
        ap (λ (r : Result (Stored × PoolInUse) ErrorKind). r >>= λ c. stream_with d tables_name (tables_row name ∷ []) c.1 >>= λ t. stream_with d validation_name (validation_rows name columns) t.1 >>= λ v. Ok (c.0 ∷ t.0 ∷ v.0 ∷ stream_gone name ∷ [], v.1)) c_is
        ∙ ap (λ (r : Result (Stored × PoolInUse) ErrorKind). r >>= λ t. stream_with d validation_name (validation_rows name columns) t.1 >>= λ v. Ok (stream_for d columns_name s.c.0 ∷ t.0 ∷ v.0 ∷ stream_gone name ∷ [], v.1)) t_is
        ∙ ap (λ (r : Result (Stored × PoolInUse) ErrorKind). r >>= λ v. Ok (stream_for d columns_name s.c.0 ∷ stream_for d tables_name s.t.0 ∷ v.0 ∷ stream_gone name ∷ [], v.1)) v_is
        ∙ ap (λ (x : SystemRows × PoolInUse). Ok (streams_for d name x.0, x.1)) s.is

    pub creates_here : first_refusal (create_refusals d name columns) ≡ None → Creates k name columns (streams_for d name x.0) x.1
    creates_here passed = creates_at k kept sound name columns passed (streams_for d name x.0) x.1 streams_are

-- THE WHOLE CALL

still_passed : (d : Database) (rest : Refusals) → is_sound d ≡ true → first_refusal ((not (is_sound d), InvalidData) ∷ rest) ≡ None → first_refusal ((not (is_sound (widened d)), InvalidData) ∷ rest) ≡ None
still_passed d rest sound e = ap (λ b. first_refusal ((not b, InvalidData) ∷ rest)) (sound_widened d sound ∙ sym sound) ∙ e

module _ (k : Kept) (kept : IsKeptDatabase k) (sound : is_sound k.database ≡ true) (name : List ℕ) (columns : List ColumnDef) (passed : first_refusal (create_refusals k.database name columns) ≡ None)
    (rows : SystemRows) (used : UsedPool) (page : used.pool.page ≡ k.database.pool.page) (long : used.pool.long ≡ k.database.pool.long)
    (made : rows_described k.database name columns (pool_of (no_change k.database)) ≡ Ok (rows, in_use used)) where
  abbrev old : Database
  old = k.database

  wide_kept : IsKeptDatabase (kept_widened k)
  wide_kept = widened_kept k kept sound

  wide_sound : is_sound (widened old) ≡ true
  wide_sound = sound_widened old sound

  steps : Described old name columns (pool_of (no_change old)) (rows, in_use used)
  steps = described old name columns (pool_of (no_change old)) (rows, in_use used) made

  wide_steps : Described (widened old) name columns (pool_of (no_change (widened old))) (rows, in_use used)
  wide_steps = described (widened old) name columns (pool_of (no_change (widened old))) (rows, in_use used) made

  few : length used.pool.places ≤ 16777215
  few = places_long (kept_widened k) wide_kept wide_sound name columns (rows, in_use used) wide_steps refl

  wide_creates : Creates (kept_widened k) name columns (streams_for (widened old) name rows) (in_use used)
  wide_creates = creates_here (kept_widened k) wide_kept wide_sound name columns (rows, in_use used) wide_steps few (still_passed old (table_refusals old name columns) sound passed)

  same_creates : length used.pool.places ≤ most_places old.pool.long → Creates k name columns (streams_for old name rows) (in_use used)
  same_creates suffices = creates_here k kept sound name columns (rows, in_use used) steps suffices passed

  abbrev tables_of : Kept → List TableDef
  tables_of base = with_table_kept (new_table base.database name columns) (tables_listed base.database)

  abbrev es_of : Kept → List Stored
  es_of base = streams_for base.database name rows

  abbrev base : Kept
  base = base_with (wide_for used k) k

  abbrev Holds : Kept → Type 0
  Holds b = HaveOwnNames (es_of b) × CanHoldAll b.database rows

  pub record CreateLeft : Type 0 where
    pub makes : Makes k (create_table old name columns) base (settled used.pool) (tables_of base) (es_of base)
    pub uses : TellsUse (create_table old name columns) used.is_used
    pub holds : Holds base

  pub create_left : CreateLeft
  create_left =
      let new = tables_anew k sound (λ d. create_at_width d name columns)
      (λ c e. (change_comes k c kept sound (inr (created name columns e))).tracks.long)
      (λ c e. (change_comes (kept_widened k) c wide_kept wide_sound (inr (created name columns e))).tracks.long)
      used page long few tables_of es_of (wide_creates.makes (record (widened old).pool { places = used.pool.places }) refl) wide_creates.tells
      (λ suffices. (same_creates suffices).makes (record old.pool { places = used.pool.places }) refl) (λ suffices. (same_creates suffices).tells)
      Holds (wide_creates.own, hold_all (kept_widened k) wide_kept wide_sound name columns (rows, in_use used) wide_steps few)
      (λ suffices. ((same_creates suffices).own, hold_all k kept sound name columns (rows, in_use used) steps suffices)) in
      record { makes = new.makes; uses = new.uses; holds = new.holds }

pub record CreateLeftOf (k : Kept) (name : List ℕ) (columns : List ColumnDef) (rows : SystemRows) (used : UsedPool) : Type 0 where
  pub makes : let base = base_with (wide_for used k) k in
      Makes k (create_table k.database name columns) base (settled used.pool) (with_table_kept (new_table base.database name columns) (tables_listed base.database)) (streams_for base.database name rows)
  pub uses : TellsUse (create_table k.database name columns) used.is_used
  pub names : HaveOwnNames (streams_for (base_with (wide_for used k) k).database name rows)
  pub held : CanHoldAll (base_with (wide_for used k) k).database rows

-- WHAT REFUSES ROWS REFUSES THEIR STREAMS

last_err : {A B : Type 0} (f : A → B) (o : Option A) (k : ErrorKind) → or_refused InvalidInput o ≡ Err k → or_refused InvalidInput (option_map f o) ≡ Err k
last_err f None k e = cc
last_err f (Some x) k e = cc

judged_err : {A B : Type 0} (o : Option ErrorKind) (t : TableCells) (f : TableCells → A → B) (g : TableCells → Option A) (k : ErrorKind) → (unless o t >>= λ t. or_refused InvalidInput (g t)) ≡ Err k
    → (unless o t >>= λ t. or_refused InvalidInput (option_map (f t) (g t))) ≡ Err k
judged_err None t f g k e = last_err (f t) (g t) k e
judged_err (Some l) t f g k e = cc

found_err : {A B : Type 0} (o : Option TableCells) (f : TableCells → A → B) (r : TableCells → Option ErrorKind) (g : TableCells → Option A) (k : ErrorKind)
    → (or_refused NotFound o >>= λ t. unless (r t) t >>= λ t. or_refused InvalidInput (g t)) ≡ Err k → (or_refused NotFound o >>= λ t. unless (r t) t >>= λ t. or_refused InvalidInput (option_map (f t) (g t))) ≡ Err k
found_err None f r g k e = cc
found_err (Some t) f r g k e = judged_err (r t) t f g k e

-- with references of three bytes
module _ (k : Kept) (kept : IsKeptDatabase k) (sound : is_sound k.database ≡ true) (name : List ℕ) (columns : List ColumnDef) (kind : ErrorKind) where
  abbrev wide : Database
  wide = widened k.database

  abbrev begin : PoolInUse
  begin = pool_of (no_change wide)

  fit_wide : IsKeptHere wide
  fit_wide = (regular (kept_widened k) (widened_kept k kept sound) (sound_widened k.database sound)).fit

  pub one_err : (name : List ℕ) (values : List (List Value)) (pool : PoolInUse) → rows_with wide name values pool ≡ Err kind → stream_with wide name values pool ≡ Err kind
  one_err name values pool e = found_err (table_at name wide) (store wide name) (λ t. first_refusal (row_refusals pool.places t values)) (λ t. cells_added true t.columns pool (rows_of t) values) kind e

  abbrev t_rows : List (List Value)
  t_rows = tables_row name ∷ []

  abbrev c_rows : List (List Value)
  c_rows = column_rows name columns

  abbrev v_rows : List (List Value)
  v_rows = validation_rows name columns

  abbrev end_with : Stored → Stored → Stored × PoolInUse → Result (List Stored × PoolInUse) ErrorKind
  end_with c t v = Ok (c ∷ t ∷ v.0 ∷ stream_gone name ∷ [], v.1)

  abbrev third_with : Stored → Stored × PoolInUse → Result (List Stored × PoolInUse) ErrorKind
  third_with c t = stream_with wide validation_name v_rows t.1 >>= end_with c t.0

  abbrev second_with : Stored × PoolInUse → Result (List Stored × PoolInUse) ErrorKind
  second_with c = stream_with wide tables_name t_rows c.1 >>= third_with c.0

  start_few : length begin.places ≤ 16777215
  start_few = leb-true (length begin.places) (most_places true) (sound_is wide (sound_widened k.database sound)).fits

  described_err : rows_described wide name columns begin ≡ Err kind → streams_described wide name columns begin ≡ Err kind
  described_err e =
      bind_err (rows_with wide columns_name c_rows begin) (second_rows wide name columns) kind e
      (λ f. ap (λ (r : Result (Stored × PoolInUse) ErrorKind). r >>= second_with) (one_err columns_name c_rows begin f))
      (λ c c_is e.
      let c_took = took wide columns_name c_rows begin c c_is in
      let c_few = within_long wide columns_name c_rows begin c c_took fit_wide refl start_few in
      let c_on = ap (λ (r : Result (Stored × PoolInUse) ErrorKind). r >>= second_with) (as_stream wide columns_name c_rows begin c c_took c_few) in
      bind_err (rows_with wide tables_name t_rows c.1) (third_rows wide name columns c.0) kind e
      (λ f. c_on ∙ ap (λ (r : Result (Stored × PoolInUse) ErrorKind). r >>= third_with (stream_for wide columns_name c.0)) (one_err tables_name t_rows c.1 f))
      (λ t t_is e.
      let t_took = took wide tables_name t_rows c.1 t t_is in
      let t_few = within_long wide tables_name t_rows c.1 t t_took fit_wide refl c_few in
      let t_on = c_on ∙ ap (λ (r : Result (Stored × PoolInUse) ErrorKind). r >>= third_with (stream_for wide columns_name c.0)) (as_stream wide tables_name t_rows c.1 t t_took t_few) in
      bind_err (rows_with wide validation_name v_rows t.1) (λ v. Ok (record { columns = c.0; tables = t.0; validation = v.0 }, v.1)) kind e
      (λ f. t_on ∙ ap (λ (r : Result (Stored × PoolInUse) ErrorKind). r >>= end_with (stream_for wide columns_name c.0) (stream_for wide tables_name t.0)) (one_err validation_name v_rows t.1 f))
      (λ v v_is e. absurd cc)))

  described_refused : IsRefusal (rows_described wide name columns begin) kind → IsRefusal (streams_described wide name columns begin) kind
  described_refused (inl memory) = inl memory
  described_refused (inr e) = inr (described_err e)

-- FROM WHAT A CALL KNOWS

module _ (k : Kept) (kept : IsKeptDatabase k) (sound : is_sound k.database ≡ true) (pool : Pool) (pool_is : pool ≡ k.database.pool) (cloned : Pool) (cloned_is : cloned ≡ pool) (before : UsedPool) (before_is : before ≡ record { pool = cloned; is_used = false })
    (name : List ℕ) (columns seen : List ColumnDef) (seen_is : seen ≡ columns) (x : Unit {0}) (answer : Ok x ≡ unless_refused (create_refusals k.database name seen) tt) (seen₂ : List ColumnDef) (seen₂_is : seen₂ ≡ columns) where
  began : before ≡ record { pool = k.database.pool; is_used = false }
  began = began_as k.database.pool before cloned before_is (cloned_is ∙ pool_is)

  rows_are : rows_described k.database name seen₂ (in_use before) ≡ rows_described k.database name columns (pool_of (no_change k.database))
  rows_are = λ i. rows_described k.database name (seen₂_is i) (in_use (began i))

  passed_here : first_refusal (create_refusals k.database name columns) ≡ None
  passed_here = subst (λ (cs : List ColumnDef). first_refusal (create_refusals k.database name cs) ≡ None) seen_is
      (not_refused (create_refusals k.database name seen) tt x (sym answer)).0

  pub create_called : (rows : SystemRows) (after : UsedPool) → after.pool.page ≡ before.pool.page → after.pool.long ≡ before.pool.long → rows_described k.database name seen₂ (in_use before) ≡ Ok (rows, in_use after)
      → CreateLeftOf k name columns rows after
  create_called rows after page long made =
      let left = create_left k kept sound name columns passed_here rows after (page ∙ ap (λ (u : UsedPool). u.pool.page) began) (long ∙ ap (λ (u : UsedPool). u.pool.long) began) (sym rows_are ∙ made) in
      record { makes = left.makes; uses = left.uses; names = left.holds.0; held = left.holds.1 }

  -- rows that are refused are refused with references of three bytes too
  pub rows_refused : (kind : ErrorKind) → IsRefusal (rows_described k.database name seen₂ (in_use before)) kind → IsRefusal (create_table k.database name columns) kind
  rows_refused kind h = refused_widening (λ d. create_at_width d name columns) k.database kind sound
      (streams_refused (widened k.database) name columns (still_passed k.database (table_refusals k.database name columns) sound passed_here) kind
      (described_refused k kept sound name columns kind (subst (λ (r : Result (SystemRows × PoolInUse) ErrorKind). IsRefusal r kind) rows_are h)))

pub create_barred_either : (d : Database) (name : List ℕ) (columns seen : List ColumnDef) → seen ≡ columns → (kind : ErrorKind) → Err kind ≡ unless_refused {A = Unit {0}} (create_refusals d name seen) tt → IsRefusal (create_table d name columns) kind
create_barred_either d name columns seen same kind e =
    let at : unless_refused {A = Unit {0}} (create_refusals d name columns) tt ≡ Err kind = ap (λ (cs : List ColumnDef). unless_refused {A = Unit {0}} (create_refusals d name cs) tt) (sym same) ∙ sym e in
    refused_either (λ d. create_at_width d name columns) d kind (create_barred d name columns kind (inr at))
    (λ sound. create_barred (widened d) name columns kind (inr (ap (λ b. unless_refused {A = Unit {0}} ((not b, InvalidData) ∷ table_refusals d name columns) tt) (sound_widened d sound ∙ sym sound) ∙ at)))

-- with what it made in hand
module _ (k : Kept) (name : List ℕ) (columns : List ColumnDef) (rows : SystemRows) (used : UsedPool) (left : CreateLeftOf k name columns rows used)
    (wide : Option Kept) (es : List Stored) (tables : List TableDef) (new : Pool) (is_used : Bool) (is : IsCreated k name columns rows used wide es tables new is_used) where
  pub made_with : Makes k (create_table k.database name columns) (base_with wide k) new tables es
  made_with =
      subst (λ (w : Option Kept). Makes k (create_table k.database name columns) (base_with w k) new tables es) (sym is.base)
      (subst (λ (p : Pool). Makes k (create_table k.database name columns) (base_with (wide_for used k) k) p tables es) (sym is.pool)
      (subst (λ (ts : List TableDef). Makes k (create_table k.database name columns) (base_with (wide_for used k) k) (settled used.pool) ts es) (sym is.tables)
      (subst (λ (es : List Stored). Makes k (create_table k.database name columns) (base_with (wide_for used k) k) (settled used.pool)
      (with_table_kept (new_table (base_with (wide_for used k) k).database name columns) (tables_listed (base_with (wide_for used k) k).database)) es) (sym is.stored) left.makes)))

  pub told_with : TellsUse (create_table k.database name columns) is_used
  told_with = subst (TellsUse (create_table k.database name columns)) (sym is.uses) left.uses

  pub named_with : HaveOwnNames es
  named_with = subst HaveOwnNames (sym is.stored) left.names
