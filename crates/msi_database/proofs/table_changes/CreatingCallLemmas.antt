-- Creating a table: the streams that a call makes one by one are what the change leaves, and what refuses them refuses the change.
use Rattle.std.proofs.Common.{◌≡◌, ℕ, true, List, [], ◌∷◌, ◌++◌, Option, Some, None, Result, Ok, Err, refl, sym, ap, subst, ◌∙◌, inl, inr}
use Rattle.std.specs.Prelude.{option_map, IfOk, OnOk}
use Rattle.msi_base.specs.declared.errors.ErrorKind.{ErrorKind}
use Rattle.msi_base.specs.declared.errors.ErrorKind.TheVariants.{InvalidInput, NotFound}
use Rattle.msi_pool.specs.Pool.{Pool}
use Rattle.msi_table_values.specs.declared.value.Value.{Value}
use Rattle.msi_table_cells.specs.declared.cell.ValueRef.{ValueRef}
use Rattle.msi_table_values.specs.Columns.{ColumnDef}
use Rattle.msi_table.specs.Tables.{TableDef}
use Rattle.msi_base.specs.Refusals.{IsRefusal, first_refusal, or_refused, unless, unless_refused, ◌>>=◌}
use Rattle.msi_table_cells.specs.TableCells.{TableCells}
use Rattle.msi_database_schema.specs.Description.{column_rows, tables_row, validation_rows}
use Rattle.msi_database_schema.specs.Keys.{table_key}
use Rattle.msi_database_schema.specs.System.{tables_name, columns_name, validation_name}
use Rattle.msi_database_changes.specs.Database.{Database, is_sound, table_at, rows_of}
use Rattle.msi_database_changes.specs.Changes.{Change, no_change, pool_of, sound_refusal, with_stored}
use Rattle.msi_database_changes.specs.Texts.{PoolInUse}
use Rattle.msi_database_changes.specs.Create.{create_at_width, table_refusals, with_new_table}
use Rattle.msi_database_changes.specs.Insert.{cells_added, row_refusals, rows_inserted}
use Rattle.msi_database_changes.proofs.steps.AtWidthLemmas.{created}
use Rattle.msi_database_changes.proofs.steps.RefusedLemmas.{bind_ok, first_refused, not_refused, same_Ok, value_there}
use Rattle.msi_database_changes.proofs.steps.TurnLemmas.{map_some}
use Rattle.msi_database_changes.specs.declared.storing.Stored.{Stored}
use Rattle.msi_database_storage.specs.Kept.{Kept, kept_of, database_kept, with_table_kept}
use Rattle.msi_database_changes.specs.Storing.{HaveOwnNames}
use Rattle.msi_database_storage.specs.Storing.{tables_stored}
use Rattle.msi_database_storage.specs.Streams.{Streams, stream_of_rows}
use Rattle.msi_database_storage.specs.Storing.{stream_gone}
use Rattle.msi_database.specs.Creating.{new_table}
use Rattle.msi_database.specs.Keeping.{AreKept, IsKeptDatabase}
use Rattle.msi_database.specs.Listed.{tables_listed}
use Rattle.msi_database.specs.Making.{TellsUse}
use Rattle.msi_database.proofs.widths.TablesAtBothWidthsLemmas.{MakesAt}
use Rattle.msi_database.proofs.widths.RowsAtBothWidthsLemmas.{own_parts}
use Rattle.msi_database.proofs.table_changes.TableChangeStepsLemmas.{create_by_steps, stays_at, third}
use Rattle.msi_database.proofs.keeping.AcceptedChangeLemmas.{describes}
use Rattle.msi_database_storage.proofs.EditLemmas.{created_stored}
use Rattle.msi_database.proofs.calls.FinishedChangeLemmas.{known_sound}
use Rattle.msi_database.proofs.calls.AcceptedCallLemmas.{inserted_by_cells}
use Rattle.msi_database.proofs.keeping.OwnNamesLemmas.{change_own_names, created_apart}
use Rattle.msi_database.proofs.calls.RefusedCallLemmas.{cells_full, create_first_refused, create_second_refused, create_third_refused, inserted_misfit, inserted_missing}
use Rattle.msi_database.proofs.table_changes.TableCallLemmas.{create_makes}
use Rattle.msi_database.proofs.keeping.TablesKeptLemmas.{listed_kept}

-- STEP BY STEP, with references of the width that there is

-- a table's stream with new rows, and the pool after their texts were taken
abbrev pub stream_with : Database → List ℕ → List (List Value) → PoolInUse → Result (Stored × PoolInUse) ErrorKind
stream_with d name values pool = or_refused NotFound (table_at name d) >>=
    λ t. unless_refused (row_refusals pool.places t values) t >>=
    λ t. or_refused InvalidInput (option_map
    (λ r. (record { name = table_key name; bytes = stream_of_rows d.pool.long t.columns r.0 }, r.1))
    (cells_added d.pool.long t.columns pool (rows_of t) values))

-- the streams of the system tables with the rows that describe a new table, whose own stream goes if one is left over
abbrev pub streams_described : Database → List ℕ → List ColumnDef → PoolInUse → Result (List Stored × PoolInUse) ErrorKind
streams_described d name columns pool = stream_with d columns_name (column_rows name columns) pool >>=
    λ c. stream_with d tables_name (tables_row name ∷ []) c.1 >>=
    λ t. stream_with d validation_name (validation_rows name columns) t.1 >>=
    λ v. Ok (c.0 ∷ t.0 ∷ v.0 ∷ stream_gone name ∷ [], v.1)

-- ANSWERS

pub always_ok : {A : Type 0} (r : Result A ErrorKind) (P : Type 0) → P → OnOk r P
always_ok (Ok x) P p = p
always_ok (Err k) P p = tt

pub both_ok : {A : Type 0} (r : Result A ErrorKind) (P Q R : A → Type 0) → ((x : A) → P x → Q x → R x) → IfOk r P → IfOk r Q → IfOk r R
both_ok (Ok x) P Q R f p q = f x p q
both_ok (Err k) P Q R f p q = tt

same_Err : {A : Type 0} (k l : ErrorKind) → ◌≡◌ {A = Result A ErrorKind} (Err k) (Err l) → k ≡ l
same_Err k l e = cc

pub bind_err : {A B P : Type 0} (r : Result A ErrorKind) (f : A → Result B ErrorKind) (k : ErrorKind) → (r >>= f) ≡ Err k → (r ≡ Err k → P) → ((x : A) → r ≡ Ok x → f x ≡ Err k → P) → P
bind_err (Ok x) f k e first then = then x refl e
bind_err (Err l) f k e first then = first cc

unmapped : {A B : Type 0} (kind k : ErrorKind) (f : A → B) (o : Option A) → or_refused kind (option_map f o) ≡ Err k → or_refused kind o ≡ Err k
unmapped kind k f None e = cc
unmapped kind k f (Some x) e = cc

-- THE STREAM OF ONE TABLE

-- what it becomes of the table's rows with new ones
abbrev pub store : Database → List ℕ → TableCells → List (List ValueRef) × PoolInUse → Stored × PoolInUse
store d name t r = (record { name = table_key name; bytes = stream_of_rows d.pool.long t.columns r.0 }, r.1)

abbrev pub cells : Database → List (List Value) → PoolInUse → TableCells → Option (List (List ValueRef) × PoolInUse)
cells d values pool t = cells_added d.pool.long t.columns pool (rows_of t) values

abbrev pub last : Database → List ℕ → List (List Value) → PoolInUse → TableCells → Result (Stored × PoolInUse) ErrorKind
last d name values pool t = or_refused InvalidInput (option_map (store d name t) (cells d values pool t))

abbrev pub judged : Database → List ℕ → List (List Value) → PoolInUse → TableCells → Result (Stored × PoolInUse) ErrorKind
judged d name values pool t = unless_refused (row_refusals pool.places t values) t >>= last d name values pool

-- what an answer says of the steps to it
pub record Stepped (d : Database) (name : List ℕ) (values : List (List Value)) (pool : PoolInUse) (x : Stored × PoolInUse) : Type 0 where
  pub t : TableCells
  pub at : table_at name d ≡ Some t
  pub passed : first_refusal (row_refusals pool.places t values) ≡ None
  pub r : List (List ValueRef) × PoolInUse
  pub added : cells d values pool t ≡ Some r
  pub is : store d name t r ≡ x

module _ (d : Database) (name : List ℕ) (values : List (List Value)) (pool : PoolInUse) where
  pub stepped : (x : Stored × PoolInUse) → stream_with d name values pool ≡ Ok x → Stepped d name values pool x
  stepped x e =
      bind_ok (or_refused NotFound (table_at name d)) (judged d name values pool) x e (λ t t_is e.
      bind_ok (unless_refused (row_refusals pool.places t values) t) (last d name values pool) x e (λ u u_is e.
      let ok = not_refused (row_refusals pool.places t values) t u u_is in
      let there = value_there InvalidInput (option_map (store d name t) (cells d values pool t)) x (subst (λ (u : TableCells). last d name values pool u ≡ Ok x) (sym ok.1) e) in
      map_some (store d name t) (cells d values pool t) x there (λ r added same. record { t = t; at = value_there NotFound (table_at name d) t t_is; passed = ok.0; r = r; added = added; is = same })))

  -- what refuses it refuses the rows
  module _ (b : Change) (same : table_at name b.database ≡ table_at name d) (pool_is : pool_of b ≡ pool) (long : b.database.pool.long ≡ d.pool.long) (k : ErrorKind) where
    refused_full : (t : TableCells) → table_at name b.database ≡ Some t → first_refusal (row_refusals pool.places t values) ≡ None → or_refused InvalidInput (cells d values pool t) ≡ Err k → IsRefusal (rows_inserted name values b) k
    refused_full t at passed e = cells_full b name values t at k
        (ap (λ (p : PoolInUse). first_refusal (row_refusals p.places t values)) pool_is ∙ passed)
        (inr (let e' : cells_added b.database.pool.long t.columns (pool_of b) (rows_of t) values ≡ cells d values pool t = λ i. cells_added (long i) t.columns (pool_is i) (rows_of t) values in ap (or_refused InvalidInput) e' ∙ e))

    refused_misfit : (t : TableCells) → table_at name b.database ≡ Some t → first_refusal (row_refusals pool.places t values) ≡ Some k → IsRefusal (rows_inserted name values b) k
    refused_misfit t at holds = inserted_misfit b name values t at k
        (inr (first_refused (row_refusals b.database.pool.places t values) tt k (ap (λ (p : PoolInUse). first_refusal (row_refusals p.places t values)) pool_is ∙ holds)))

    by_test : (t : TableCells) → table_at name b.database ≡ Some t → (o : Option ErrorKind) → first_refusal (row_refusals pool.places t values) ≡ o → (unless o t >>= last d name values pool) ≡ Err k → IsRefusal (rows_inserted name values b) k
    by_test t at None passed e = refused_full t at passed (unmapped InvalidInput k (store d name t) (cells d values pool t) e)
    by_test t at (Some l) holds e = refused_misfit t at (holds ∙ ap Some (same_Err {A = Stored × PoolInUse} l k e))

    by_table : (o : Option TableCells) → table_at name d ≡ o → (or_refused NotFound o >>= judged d name values pool) ≡ Err k → IsRefusal (rows_inserted name values b) k
    by_table None is e = subst (IsRefusal (rows_inserted name values b)) (same_Err {A = Stored × PoolInUse} NotFound k e) (inserted_missing b name values (same ∙ is))
    by_table (Some t) is e = by_test t (same ∙ is) (first_refusal (row_refusals pool.places t values)) refl e

    pub stream_refused : stream_with d name values pool ≡ Err k → IsRefusal (rows_inserted name values b) k
    stream_refused e = by_table (table_at name d) refl e

-- THE STREAMS OF A NEW TABLE

pub record Creates (k : Kept) (name : List ℕ) (columns : List ColumnDef) (es : List Stored) (used : PoolInUse) : Type 0 where
  pub makes : (new : Pool) → new ≡ record k.database.pool { places = used.places } → MakesAt k (create_at_width k.database name columns) new (with_table_kept (new_table k.database name columns) (tables_listed k.database)) es
  pub tells : TellsUse (create_at_width k.database name columns) used.is_used
  pub own : HaveOwnNames es

module _ (d : Database) (name : List ℕ) (columns : List ColumnDef) (passed : first_refusal (sound_refusal d ++ table_refusals d name columns) ≡ None) where
  abbrev c_rows : List (List Value)
  c_rows = column_rows name columns

  abbrev t_rows : List (List Value)
  t_rows = tables_row name ∷ []

  abbrev v_rows : List (List Value)
  v_rows = validation_rows name columns

  abbrev ends : Stored → Stored → Stored × PoolInUse → Result (List Stored × PoolInUse) ErrorKind
  ends c t v = Ok (c ∷ t ∷ v.0 ∷ stream_gone name ∷ [], v.1)

  abbrev third_step : Stored → Stored × PoolInUse → Result (List Stored × PoolInUse) ErrorKind
  third_step c t = stream_with d validation_name v_rows t.1 >>= ends c t.0

  abbrev second_step : Stored × PoolInUse → Result (List Stored × PoolInUse) ErrorKind
  second_step c = stream_with d tables_name t_rows c.1 >>= third_step c.0

  abbrev start : PoolInUse
  start = pool_of (no_change d)

  -- what refuses one of them refuses the change
  module _ (k : ErrorKind) where
    module _ (c : Stored × PoolInUse) (c_step : Stepped d columns_name c_rows start c) where
      abbrev first : Change
      first = with_stored columns_name c_step.t.columns c_step.r.0 c_step.r.1 (no_change d)

      first_is : rows_inserted columns_name c_rows (no_change d) ≡ Ok first
      first_is = inserted_by_cells (no_change d) columns_name c_step.t c_rows c_step.r.0 c_step.r.1 c_step.at c_step.passed c_step.added

      pool_first : pool_of first ≡ c.1
      pool_first = ap (λ (x : Stored × PoolInUse). x.1) c_step.is

      t_stays : table_at tables_name first.database ≡ table_at tables_name d
      t_stays = stays_at columns_name tables_name c_step.t.columns c_step.r.0 c_step.r.1 (no_change d) refl

      refused_second : stream_with d tables_name t_rows c.1 ≡ Err k → IsRefusal (create_at_width d name columns) k
      refused_second e = create_second_refused d name columns passed k first first_is (stream_refused d tables_name t_rows c.1 first t_stays pool_first refl k e)

      module _ (t : Stored × PoolInUse) (t_step : Stepped d tables_name t_rows c.1 t) where
        abbrev second : Change
        second = with_stored tables_name t_step.t.columns t_step.r.0 t_step.r.1 first

        second_is : rows_inserted tables_name t_rows first ≡ Ok second
        second_is = inserted_by_cells first tables_name t_step.t t_rows t_step.r.0 t_step.r.1 (t_stays ∙ t_step.at)
            (ap (λ (p : PoolInUse). first_refusal (row_refusals p.places t_step.t t_rows)) pool_first ∙ t_step.passed)
            (ap (λ (p : PoolInUse). cells_added d.pool.long t_step.t.columns p (rows_of t_step.t) t_rows) pool_first ∙ t_step.added)

        v_stays : table_at validation_name second.database ≡ table_at validation_name d
        v_stays = stays_at tables_name validation_name t_step.t.columns t_step.r.0 t_step.r.1 first refl
            ∙ stays_at columns_name validation_name c_step.t.columns c_step.r.0 c_step.r.1 (no_change d) refl

        refused_third : stream_with d validation_name v_rows t.1 ≡ Err k → IsRefusal (create_at_width d name columns) k
        refused_third e = create_third_refused d name columns passed k first first_is second second_is
            (stream_refused d validation_name v_rows t.1 second v_stays (ap (λ (x : Stored × PoolInUse). x.1) t_step.is) refl k e)

    refused_one : stream_with d columns_name c_rows start ≡ Err k → IsRefusal (create_at_width d name columns) k
    refused_one e = create_first_refused d name columns passed k (stream_refused d columns_name c_rows start (no_change d) refl refl refl k e)

    pub streams_refused : IsRefusal (streams_described d name columns start) k → IsRefusal (create_at_width d name columns) k
    streams_refused (inl memory) = inl memory
    streams_refused (inr e) =
        bind_err (stream_with d columns_name c_rows start) second_step k e refused_one (λ c c_is e.
        let c_step = stepped d columns_name c_rows start c c_is in
        bind_err (stream_with d tables_name t_rows c.1) (third_step c.0) k e (refused_second c c_step) (λ t t_is e.
        let t_step = stepped d tables_name t_rows c.1 t t_is in
        bind_err (stream_with d validation_name v_rows t.1) (ends c.0 t.0) k e (refused_third c c_step t t_step) (λ v v_is e. absurd cc)))

module _ (pool : Pool) (tables : List TableDef) (streams : Streams) (kept : AreKept pool tables streams true) (name : List ℕ) (columns : List ColumnDef) where
  abbrev old : Kept
  old = kept_of pool tables streams

  abbrev was : Database
  was = database_kept pool tables streams

  module _ (passed : first_refusal (sound_refusal was ++ table_refusals was name columns) ≡ None) (c t v : TableCells) (c_at : table_at columns_name was ≡ Some c) (t_at : table_at tables_name was ≡ Some t) (v_at : table_at validation_name was ≡ Some v)
      (one two three : List (List ValueRef) × PoolInUse)
      (p₁ : first_refusal (row_refusals pool.places c (column_rows name columns)) ≡ None) (e₁ : cells_added pool.long c.columns (pool_of (no_change was)) (rows_of c) (column_rows name columns) ≡ Some one)
      (p₂ : first_refusal (row_refusals one.1.places t (tables_row name ∷ [])) ≡ None) (e₂ : cells_added pool.long t.columns one.1 (rows_of t) (tables_row name ∷ []) ≡ Some two)
      (p₃ : first_refusal (row_refusals two.1.places v (validation_rows name columns)) ≡ None) (e₃ : cells_added pool.long v.columns two.1 (rows_of v) (validation_rows name columns) ≡ Some three) where
    abbrev made_of : List Stored
    made_of = record { name = table_key columns_name; bytes = stream_of_rows pool.long c.columns one.0 }
        ∷ record { name = table_key tables_name; bytes = stream_of_rows pool.long t.columns two.0 }
        ∷ record { name = table_key validation_name; bytes = stream_of_rows pool.long v.columns three.0 }
        ∷ stream_gone name ∷ []

    abbrev after : Change
    after = with_new_table name columns (third was name columns c t v c_at t_at v_at one two three)

    made : create_at_width was name columns ≡ Ok after
    made = create_by_steps was name columns c t v c_at t_at v_at one two three passed p₁ e₁ p₂ e₂ p₃ e₃

    edits : made_of ≡ tables_stored after.database after.stored
    edits = sym (created_stored was name columns c.columns t.columns v.columns one.0 two.0 three.0 one.1 two.1 three.1
        (created_apart was (describes old kept.kept (known_sound pool tables streams kept)) name columns after made))

    pub creates_made : Creates old name columns made_of three.1
    creates_made = record {
      makes = λ new new_is. subst (λ (ts : List TableDef). MakesAt old (create_at_width was name columns) new (with_table_kept (new_table was name columns) ts) made_of) (sym (listed_kept pool tables streams kept.as_long))
          (create_makes pool tables streams kept name columns c t v c_at t_at v_at one two three passed p₁ e₁ p₂ e₂ p₃ e₃ new made_of new_is refl);
      tells = subst (λ (r : Result Change ErrorKind). TellsUse r three.1.is_used) (sym made) refl;
      own = subst HaveOwnNames (sym edits) (change_own_names old after kept.kept (known_sound pool tables streams kept) (inr (created name columns made)));
    }

  module _ (passed : first_refusal (sound_refusal was ++ table_refusals was name columns) ≡ None) where
    by_steps : (c : Stored × PoolInUse) → Stepped was columns_name (column_rows name columns) (pool_of (no_change was)) c → (t : Stored × PoolInUse) → Stepped was tables_name (tables_row name ∷ []) c.1 t
        → (v : Stored × PoolInUse) → Stepped was validation_name (validation_rows name columns) t.1 v → Creates old name columns (c.0 ∷ t.0 ∷ v.0 ∷ stream_gone name ∷ []) v.1
    by_steps c c_step t t_step v v_step =
        let c_pool : c_step.r.1 ≡ c.1 = ap (λ (x : Stored × PoolInUse). x.1) c_step.is in
        let t_pool : t_step.r.1 ≡ t.1 = ap (λ (x : Stored × PoolInUse). x.1) t_step.is in
        let result : Creates old name columns _ v_step.r.1 = creates_made passed c_step.t t_step.t v_step.t c_step.at t_step.at v_step.at c_step.r t_step.r v_step.r c_step.passed c_step.added
        (ap (λ (p : PoolInUse). first_refusal (row_refusals p.places t_step.t (tables_row name ∷ []))) c_pool ∙ t_step.passed)
        (ap (λ (p : PoolInUse). cells_added pool.long t_step.t.columns p (rows_of t_step.t) (tables_row name ∷ [])) c_pool ∙ t_step.added)
        (ap (λ (p : PoolInUse). first_refusal (row_refusals p.places v_step.t (validation_rows name columns))) t_pool ∙ v_step.passed)
        (ap (λ (p : PoolInUse). cells_added pool.long v_step.t.columns p (rows_of v_step.t) (validation_rows name columns)) t_pool ∙ v_step.added) in
        let same : ◌≡◌ {A = List Stored × PoolInUse} _ (c.0 ∷ t.0 ∷ v.0 ∷ stream_gone name ∷ [], v.1) = λ i. ((c_step.is i).0 ∷ (t_step.is i).0 ∷ (v_step.is i).0 ∷ stream_gone name ∷ [], (v_step.is i).1) in
        subst (λ (x : List Stored × PoolInUse). Creates old name columns x.0 x.1) same result

    pub creates_old : (es : List Stored) (used : PoolInUse) → streams_described was name columns (pool_of (no_change was)) ≡ Ok (es, used) → Creates old name columns es used
    creates_old es used e =
        let start : PoolInUse = pool_of (no_change was) in
        bind_ok (stream_with was columns_name (column_rows name columns) start) (second_step was name columns passed) (es, used) e (λ c c_is e.
        bind_ok (stream_with was tables_name (tables_row name ∷ []) c.1) (third_step was name columns passed c.0) (es, used) e (λ t t_is e.
        bind_ok (stream_with was validation_name (validation_rows name columns) t.1) (ends was name columns passed c.0 t.0) (es, used) e (λ v v_is e.
        subst (λ (x : List Stored × PoolInUse). Creates old name columns x.0 x.1) (same_Ok (c.0 ∷ t.0 ∷ v.0 ∷ stream_gone name ∷ [], v.1) (es, used) e)
        (by_steps c (stepped was columns_name (column_rows name columns) start c c_is) t (stepped was tables_name (tables_row name ∷ []) c.1 t t_is) v (stepped was validation_name (validation_rows name columns) t.1 v v_is)))))

-- OF ANY KEPT DATABASE

pub creates_at : (k : Kept) → IsKeptDatabase k → (sound : is_sound k.database ≡ true) (name : List ℕ) (columns : List ColumnDef) → first_refusal (sound_refusal k.database ++ table_refusals k.database name columns) ≡ None
    → (es : List Stored) (used : PoolInUse) → streams_described k.database name columns (pool_of (no_change k.database)) ≡ Ok (es, used) → Creates k name columns es used
creates_at k kept sound name columns =
    let parts = own_parts k kept sound in
    subst (λ (x : Kept). first_refusal (sound_refusal x.database ++ table_refusals x.database name columns) ≡ None → (es : List Stored) (used : PoolInUse) → streams_described x.database name columns (pool_of (no_change x.database)) ≡ Ok (es, used) → Creates x name columns es used)
    parts.0 (creates_old k.database.pool (tables_listed k.database) k.streams parts.1 name columns)
