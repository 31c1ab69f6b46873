-- A drop: what a call has in hand at its end is what the drop leaves.
use Rattle.std.proofs.Common.{◌≡◌, ℕ, ◌≤◌, length, Bool, true, false, not, List, [], ◌∷◌, ◌++◌, filter, Option, Some, None, Result, Ok, refl, sym, ap, ap₂, subst, ◌∙◌, inr}
use Rattle.std.specs.Option.{option_map_or}
use Rattle.msi_base.specs.declared.errors.ErrorKind.{ErrorKind}
use Rattle.msi_base.proofs.OptionLemmas.{map_some}
use Rattle.std.proofs.lemmas.Bool.{leb-true}
use Rattle.msi_pool.specs.FirstFit.{most_places}
use Rattle.msi_pool.specs.Pool.{Pool}
use Rattle.msi_table_cells.specs.declared.cell.ValueRef.{ValueRef}
use Rattle.msi_table.specs.Tables.{TableDef, CanStore}
use Rattle.msi_table_values.specs.Columns.{types_of}
use Rattle.msi_table_cells.specs.Fitting.{FitsTable}
use Rattle.msi_table_cells.specs.TableCells.{TableCells}
use Rattle.msi_database_schema.specs.Keys.{is_table_name, table_key}
use Rattle.msi_database_schema.specs.System.{is_system_table, tables_name, columns_name, validation_name, tables_columns, columns_columns}
use Rattle.msi_database_changes.specs.Database.{Database, is_sound, table_at, rows_of}
use Rattle.msi_database_changes.specs.Changes.{Change, no_change, pool_of}
use Rattle.msi_database_changes.specs.Texts.{PoolInUse, UsedPool, in_use, rows_released, settled}
use Rattle.msi_database_changes.specs.Insert.{table_with}
use Rattle.msi_database_changes.specs.Drop.{drop_table, is_row_about}
use Rattle.msi_database_changes.proofs.steps.AtWidthLemmas.{dropped}
use Rattle.msi_database_changes.proofs.describing.DescribingLemmas.{describing}
use Rattle.msi_database_changes.proofs.describing.SchemaKeptLemmas.{shown_table}
use Rattle.msi_database_storage.specs.Streams.{Streams, stream_of_rows}
use Rattle.msi_database_changes.specs.declared.storing.Stored.{Stored}
use Rattle.msi_database_changes.specs.Storing.{HaveOwnNames}
use Rattle.msi_database_storage.specs.Storing.{tables_stored}
use Rattle.msi_database_storage.specs.Kept.{Kept, kept_of, database_kept, without_table_kept}
use Rattle.msi_database.specs.Keeping.{AreKept, IsKeptDatabase, HasFittingRows}
use Rattle.msi_database.specs.Listed.{IsKnown, tables_listed}
use Rattle.msi_database.specs.Making.{Makes, TellsUse}
use Rattle.msi_database.proofs.keeping.KeepingLemmas.{change_comes}
use Rattle.msi_database.proofs.widths.TablesAtBothWidthsLemmas.{MakesAt, lift_same, settled_same}
use Rattle.msi_database.proofs.soundness.SoundLemmas.{sound_is}
use Rattle.msi_database.specs.Dropping.{about_given_back, own_stream, rows_given_back, system_stream}
use Rattle.msi_database.proofs.keeping.WholeTableLemmas.{found_holds}
use Rattle.msi_database.proofs.keeping.AcceptedChangeLemmas.{describes}
use Rattle.msi_database.proofs.keeping.OwnNamesLemmas.{change_own_names}
use Rattle.msi_database.proofs.keeping.TablesKeptLemmas.{listed_kept}
use Rattle.msi_database_storage.proofs.EditLemmas.{dropped_stored, dropped_unvalidated}
use Rattle.msi_database.proofs.calls.FinishedChangeLemmas.{known_sound}
use Rattle.msi_database.proofs.table_changes.TableChangeStepsLemmas.{drop_by_steps, drop_by_two_steps, drop_passes, dropped_apart}
use Rattle.msi_database.proofs.calls.StorableLemmas.{fewer_can_store}
use Rattle.msi_database.proofs.calls.RowCallLemmas.{began_as, known_cells, rows_released_as_many}
use Rattle.msi_database.proofs.table_changes.TableCallLemmas.{drop_makes, drop_makes_unvalidated}

-- WHAT CAN BE STORED

-- some of a known table's rows, and none
pub held_fit : (k : Kept) → IsKeptDatabase k → (t : TableDef) → t.long ≡ k.database.pool.long → (held : List (List ValueRef)) → table_at t.name k.database ≡ Some (table_with t.columns held) → FitsTable t.long (types_of t.columns) held
held_fit k kept t long held at = subst (λ long. FitsTable long (types_of t.columns) held) (sym long)
    (found_holds (HasFittingRows k.database.pool.long) t.name k.database.tables (table_with t.columns held) kept.rows at)

pub fewer_fit : (k : Kept) → IsKeptDatabase k → (t : TableDef) → t.long ≡ k.database.pool.long → (held : List (List ValueRef)) → table_at t.name k.database ≡ Some (table_with t.columns held) → (p : List ValueRef → Bool)
    → (rows : List (List ValueRef)) → rows ≡ filter p held → CanStore t rows
fewer_fit k kept t long held at p rows is = subst (CanStore t) (sym is) (fewer_can_store t.long t.columns held p (held_fit k kept t long held at))

nothing : (rows : List (List ValueRef)) → filter (λ row. false) rows ≡ []
nothing [] = refl
nothing (row ∷ rows) = nothing rows

pub none_fit : (k : Kept) → IsKeptDatabase k → (t : TableDef) → t.long ≡ k.database.pool.long → (held : List (List ValueRef)) → table_at t.name k.database ≡ Some (table_with t.columns held)
    → (rows : List (List ValueRef)) → rows ≡ [] → CanStore t rows
none_fit k kept t long held at rows is = fewer_fit k kept t long held at (λ row. false) rows (is ∙ sym (nothing held))

-- THE STEPS

abbrev pub all_given_back : Database → List ℕ → PoolInUse
all_given_back d name = about_given_back d name tables_name (about_given_back d name columns_name (about_given_back d name validation_name (rows_given_back d name (pool_of (no_change d)))))

abbrev pub all_streams : Database → List ℕ → List Stored
all_streams d name = ((own_stream name ++ system_stream d name validation_name) ++ system_stream d name columns_name) ++ system_stream d name tables_name

given_first : (d : Database) (name : List ℕ) (used : PoolInUse) (t : TableCells) → table_at name d ≡ Some t → rows_given_back d name used ≡ rows_released used (rows_of t)
given_first d name used t e = ap (λ (o : Option TableCells). option_map_or (λ t. rows_released used (rows_of t)) o used) e

given_with : (d : Database) (name system : List ℕ) (used : PoolInUse) (o : Option TableCells) → table_at system d ≡ o
    → about_given_back d name system used ≡ option_map_or (λ t. rows_released used (filter (is_row_about d.pool.places name) (rows_of t))) o used
given_with d name system used o e = ap (λ (o : Option TableCells). option_map_or (λ t. rows_released used (filter (is_row_about d.pool.places name) (rows_of t))) o used) e

abbrev other_rows : Database → List ℕ → List ℕ → TableCells → List Stored
other_rows d name system t = record { name = table_key system; bytes = stream_of_rows d.pool.long t.columns (filter (λ row. not (is_row_about d.pool.places name row)) (rows_of t)) } ∷ []

stream_with : (d : Database) (name system : List ℕ) (o : Option TableCells) → table_at system d ≡ o → system_stream d name system ≡ option_map_or (other_rows d name system) o []
stream_with d name system o e = ap (λ (o : Option TableCells). option_map_or (other_rows d name system) o []) e

-- of a system table the stream is that of its other rows
pub forgot : (d : Database) (name system : List ℕ) (t : TableDef) → IsKnown d system t → (held rows : List (List ValueRef)) → table_at t.name d ≡ Some (table_with t.columns held) → (pool : Pool) → pool ≡ d.pool
    → rows ≡ filter (λ row. not (is_row_about pool.places name row)) held → (e : Stored) → e.name ≡ table_key t.name → e.bytes ≡ stream_of_rows t.long t.columns rows → e ∷ [] ≡ system_stream d name system
forgot d name system t known held rows at pool pool_is is e name_is bytes_is =
    let alike : stream_of_rows t.long t.columns rows ≡ stream_of_rows d.pool.long t.columns (filter (λ row. not (is_row_about d.pool.places name row)) held) =
    ap₂ (λ long rows. stream_of_rows long t.columns rows) known.long (is ∙ ap (λ (p : Pool). filter (λ row. not (is_row_about p.places name row)) held) pool_is) in
    (λ i. record { name = (name_is ∙ ap table_key known.named) i; bytes = (bytes_is ∙ alike) i } ∷ [])
    ∙ sym (stream_with d name system (Some (table_with t.columns held)) (known_cells d system t (table_with t.columns held) known at))

-- how far a drop has gone: the pool, and the streams to be stored
pub record Went (d : Database) (after : UsedPool) (es : List Stored) (used : PoolInUse) (all : List Stored) : Type 0 where
  pub pool : in_use after ≡ used
  pub page : after.pool.page ≡ d.pool.page
  pub long : after.pool.long ≡ d.pool.long
  pub stored : es ≡ all

pub went_on : (d : Database) (name system : List ℕ) (u v : UsedPool) (es fs : List Stored) (used : PoolInUse) (all : List Stored) → Went d u es used all
    → in_use v ≡ about_given_back d name system (in_use u) → v.pool.page ≡ u.pool.page → v.pool.long ≡ u.pool.long → fs ≡ es ++ system_stream d name system
    → Went d v fs (about_given_back d name system used) (all ++ system_stream d name system)
went_on d name system u v es fs used all went pool page long more = record {
  pool = pool ∙ ap (about_given_back d name system) went.pool;
  page = page ∙ went.page;
  long = long ∙ went.long;
  stored = more ∙ ap (λ (es : List Stored). es ++ system_stream d name system) went.stored;
}

-- the table that is known is there, by its name
known_there : (d : Database) (name : List ℕ) (t : TableDef) → IsKnown d name t → (gone : TableCells) × (table_at name d ≡ Some gone)
known_there d name t known =
    let found = map_some (table_at t.name d) (λ (u : TableCells). record { name = t.name; columns = u.columns; long = d.pool.long }) t known.listed in
    (found.0, ap (λ n. table_at n d) (sym known.named) ∙ found.1)

pub began_by : (k : Kept) (pool cloned : Pool) → cloned ≡ pool → pool ≡ k.database.pool → (u v : UsedPool) → u ≡ record { pool = cloned; is_used = false } → (name : List ℕ) (t : TableDef) → IsKnown k.database name t → (es fs : List Stored)
    → in_use v ≡ rows_given_back k.database t.name (in_use u) → v.pool.page ≡ u.pool.page → v.pool.long ≡ u.pool.long → es ≡ [] → fs ≡ es ++ own_stream t.name
    → Went k.database v fs (rows_given_back k.database name (pool_of (no_change k.database))) (own_stream name)
began_by k pool cloned cloned_is pool_is u v u_is name t known es fs given page long empty more =
    let began : u ≡ record { pool = k.database.pool; is_used = false } = began_as k.database.pool u cloned u_is (cloned_is ∙ pool_is) in record {
      pool = given ∙ ap₂ (λ n (u : UsedPool). rows_given_back k.database n (in_use u)) known.named began;
      page = page ∙ ap (λ (u : UsedPool). u.pool.page) began;
      long = long ∙ ap (λ (u : UsedPool). u.pool.long) began;
      stored = more ∙ ap₂ (λ (es : List Stored) n. es ++ own_stream n) empty known.named;
    }

-- WHAT THEY MAKE

pub record DropMade (k : Kept) (name : List ℕ) (new : Pool) (tables : List TableDef) (es : List Stored) (used : Bool) : Type 0 where
  pub makes : MakesAt k (drop_table k.database name) new tables es
  pub tells : TellsUse (drop_table k.database name) used
  pub names : HaveOwnNames es

module _ (pool : Pool) (tables : List TableDef) (streams : Streams) (kept : AreKept pool tables streams true) (name : List ℕ) where
  abbrev old : Kept
  old = kept_of pool tables streams

  abbrev d : Database
  d = database_kept pool tables streams

  sound : is_sound d ≡ true
  sound = known_sound pool tables streams kept

  made_of : (new : Pool) (es : List Stored) (used : Bool) (c : Change) → drop_table d name ≡ Ok c → MakesAt old (drop_table d name) new (without_table_kept name tables) es → used ≡ c.is_pool_used → es ≡ tables_stored c.database c.stored
      → DropMade old name new (without_table_kept name tables) es used
  made_of new es used c made makes used_is edit = record {
    makes = makes;
    tells = subst (λ (r : Result Change ErrorKind). TellsUse r used) (sym made) used_is;
    names = subst HaveOwnNames (sym edit) (change_own_names old c kept.kept sound (inr (dropped name made)));
  }

  module _ (gone c t : TableCells) (free : is_system_table name ≡ false) (named : is_table_name name ≡ true) (at : table_at name d ≡ Some gone) (c_at : table_at columns_name d ≡ Some c) (t_at : table_at tables_name d ≡ Some t)
      (new : Pool) (new_is : new ≡ record pool { places = (all_given_back d name).places }) where
    abbrev stay : TableCells → List (List ValueRef)
    stay s = filter (λ row. not (is_row_about pool.places name row)) (rows_of s)

    abbrev released : PoolInUse → TableCells → PoolInUse
    released used s = rows_released used (filter (is_row_about pool.places name) (rows_of s))

    abbrev began : PoolInUse
    began = rows_released (pool_of (no_change d)) (rows_of gone)

    by_schema : (used : PoolInUse) → about_given_back d name tables_name (about_given_back d name columns_name used) ≡ released (released used c) t
    by_schema used = given_with d name tables_name (about_given_back d name columns_name used) (Some t) t_at ∙ ap (λ (used : PoolInUse). released used t) (given_with d name columns_name used (Some c) c_at)

    pool_by : (used : PoolInUse) → all_given_back d name ≡ used → new ≡ record pool { places = used.places }
    pool_by used is = new_is ∙ ap (λ (used : PoolInUse). record pool { places = used.places }) is

    by_validation : (o : Option TableCells) → table_at validation_name d ≡ o → DropMade old name new (without_table_kept name tables) (all_streams d name) (all_given_back d name).is_used
    by_validation (Some v) v_at =
        let used : all_given_back d name ≡ released (released (released began v) c) t =
        ap (λ (used : PoolInUse). about_given_back d name tables_name (about_given_back d name columns_name used))
        (given_with d name validation_name (rows_given_back d name (pool_of (no_change d))) (Some v) v_at ∙ ap (λ (used : PoolInUse). released used v) (given_first d name (pool_of (no_change d)) gone at))
        ∙ by_schema (released began v) in
        let es : all_streams d name ≡ ((own_stream name ++ other_rows d name validation_name v) ++ other_rows d name columns_name c) ++ other_rows d name tables_name t = λ i.
        ((own_stream name ++ stream_with d name validation_name (Some v) v_at i) ++ stream_with d name columns_name (Some c) c_at i) ++ stream_with d name tables_name (Some t) t_at i in
        let passed = drop_passes d name sound free named in
        let apart = dropped_apart d name gone c t passed free at c_at t_at in
        let edit = dropped_stored d name gone c.columns t.columns v.columns (stay c) (stay t) (stay v) (released (released began v) c) (released (released (released began v) c) t) (released began v) apart.0 apart.1 apart.2 in
        made_of new (all_streams d name) (all_given_back d name).is_used _ (drop_by_steps d name gone c t passed free at c_at t_at v v_at)
        (drop_makes pool tables streams kept name gone c t free named at c_at t_at v v_at new (all_streams d name) (pool_by _ used) es)
        (ap (λ (used : PoolInUse). used.is_used) used) (es ∙ sym edit)
    by_validation None v_none =
        let used : all_given_back d name ≡ released (released began c) t =
        ap (λ (used : PoolInUse). about_given_back d name tables_name (about_given_back d name columns_name used))
        (given_with d name validation_name (rows_given_back d name (pool_of (no_change d))) None v_none ∙ given_first d name (pool_of (no_change d)) gone at)
        ∙ by_schema began in
        let es : all_streams d name ≡ (own_stream name ++ other_rows d name columns_name c) ++ other_rows d name tables_name t = λ i.
        ((own_stream name ++ stream_with d name validation_name None v_none i) ++ stream_with d name columns_name (Some c) c_at i) ++ stream_with d name tables_name (Some t) t_at i in
        let passed = drop_passes d name sound free named in
        let apart = dropped_apart d name gone c t passed free at c_at t_at in
        let edit = dropped_unvalidated d name gone c.columns t.columns [] (stay c) (stay t) [] (released began c) (released (released began c) t) began apart.0 apart.1 apart.2 in
        made_of new (all_streams d name) (all_given_back d name).is_used _ (drop_by_two_steps d name gone c t passed free at c_at t_at v_none)
        (drop_makes_unvalidated pool tables streams kept name gone c t free named at c_at t_at v_none new (all_streams d name) (pool_by _ used) es)
        (ap (λ (used : PoolInUse). used.is_used) used) (es ∙ sym edit)

  -- the two tables that are always there
  pub drop_made : (gone : TableCells) → is_system_table name ≡ false → is_table_name name ≡ true → table_at name d ≡ Some gone → (new : Pool) → new ≡ record pool { places = (all_given_back d name).places }
      → DropMade old name new (without_table_kept name tables) (all_streams d name) (all_given_back d name).is_used
  drop_made gone free named at new new_is =
      let before = describes old kept.kept sound in
      let c = shown_table d (describing d) before columns_name columns_columns refl in
      let t = shown_table d (describing d) before tables_name tables_columns refl in
      by_validation gone c.0 t.0 free named at c.1 t.1 new new_is (table_at validation_name d) refl

-- THE SAME, FROM WHAT A CALL KNOWS

module _ (pool : Pool) (tables : List TableDef) (streams : Streams) (known : Bool) (kept : AreKept pool tables streams known) (k : Kept) (view : kept_of pool tables streams ≡ k) (name : List ℕ) where
  made_in : is_sound k.database ≡ true → (gone : TableCells) → is_system_table name ≡ false → is_table_name name ≡ true → table_at name k.database ≡ Some gone
      → (new : Pool) → new ≡ record k.database.pool { places = (all_given_back k.database name).places }
      → DropMade k name new (without_table_kept name (tables_listed k.database)) (all_streams k.database name) (all_given_back k.database name).is_used
  made_in = subst (λ (k : Kept). is_sound k.database ≡ true → (gone : TableCells) → is_system_table name ≡ false → is_table_name name ≡ true → table_at name k.database ≡ Some gone
      → (new : Pool) → new ≡ record k.database.pool { places = (all_given_back k.database name).places }
      → DropMade k name new (without_table_kept name (tables_listed k.database)) (all_streams k.database name) (all_given_back k.database name).is_used) view
      (λ sound gone free named at new new_is. subst (λ (ts : List TableDef). DropMade (kept_of pool tables streams) name new (without_table_kept name ts) (all_streams (database_kept pool tables streams) name) (all_given_back (database_kept pool tables streams) name).is_used)
      (sym (listed_kept pool tables streams kept.as_long))
      (drop_made pool tables streams (subst (AreKept pool tables streams) (kept.known ∙ sound) kept) name gone free named at new new_is))

  -- by the pool and the streams at the end
  called_at : is_sound k.database ≡ true → is_system_table name ≡ false → is_table_name name ≡ true → (t : TableDef) → IsKnown k.database name t → (after : UsedPool) (es : List Stored)
      → Went k.database after es (all_given_back k.database name) (all_streams k.database name)
      → (new : Pool) → new ≡ after.pool → (now : List TableDef) → now ≡ without_table_kept name (tables_listed k.database) → (used : Bool) → used ≡ after.is_used
      → DropMade k name new now es used
  called_at sound free named t is_known after es went new new_is now now_is used used_is =
      let whole : after.pool ≡ record k.database.pool { places = (all_given_back k.database name).places } = λ i. record {
        page = went.page i;
        long = went.long i;
        places = ap (λ (u : PoolInUse). u.places) went.pool i;
      } in
      let gone = known_there k.database name t is_known in
      let base = made_in sound gone.0 free named gone.1 new (new_is ∙ whole) in
      subst (λ (ts : List TableDef). DropMade k name new ts es used) (sym now_is)
      (subst (λ (es : List Stored). DropMade k name new (without_table_kept name (tables_listed k.database)) es used) (sym went.stored)
      (subst (DropMade k name new (without_table_kept name (tables_listed k.database)) (all_streams k.database name)) (sym (used_is ∙ ap (λ (u : PoolInUse). u.is_used) went.pool)) base))

  given_many : (o : Option TableCells) (f : TableCells → List (List ValueRef)) (used : PoolInUse) → length (option_map_or (λ t. rows_released used (f t)) o used).places ≡ length used.places
  given_many None f used = refl
  given_many (Some t) f used = rows_released_as_many used (f t)

  -- no place goes
  all_many : length (all_given_back k.database name).places ≡ length k.database.pool.places
  all_many =
      let d = k.database in
      let about = λ (t : TableCells). filter (is_row_about d.pool.places name) (rows_of t) in
      let u0 = rows_given_back d name (pool_of (no_change d)) in
      let u1 = about_given_back d name validation_name u0 in
      let u2 = about_given_back d name columns_name u1 in
      given_many (table_at tables_name d) about u2 ∙ given_many (table_at columns_name d) about u1 ∙ given_many (table_at validation_name d) about u0 ∙ given_many (table_at name d) rows_of (pool_of (no_change d))

  pub record DropLeft (new : Pool) (now : List TableDef) (es : List Stored) (used : Bool) : Type 0 where
    pub makes : Makes k (drop_table k.database name) k new now es
    pub tells : TellsUse (drop_table k.database name) used
    pub names : HaveOwnNames es

  pub drop_called : is_sound k.database ≡ true → is_system_table name ≡ false → is_table_name name ≡ true → (t : TableDef) → IsKnown k.database name t → (after : UsedPool) (es : List Stored)
      → Went k.database after es (all_given_back k.database name) (all_streams k.database name)
      → (new : Pool) → new ≡ settled after.pool → (now : List TableDef) → now ≡ without_table_kept name (tables_listed k.database) → (used : Bool) → used ≡ after.is_used
      → DropLeft new now es used
  drop_called sound free named t is_known after es went new new_is now now_is used used_is =
      let many : length after.pool.places ≡ length k.database.pool.places = ap (λ (u : PoolInUse). length u.places) went.pool ∙ all_many in
      let fits : length k.database.pool.places ≤ most_places k.database.pool.long = leb-true (length k.database.pool.places) (most_places k.database.pool.long) (sound_is k.database sound).fits in
      let few : length after.pool.places ≤ most_places after.pool.long = subst (λ l. length after.pool.places ≤ most_places l) (sym went.long) (subst (λ n. n ≤ most_places k.database.pool.long) (sym many) fits) in
      let made = called_at sound free named t is_known after es went new (new_is ∙ settled_same after.pool few) now now_is used used_is in record {
        makes = lift_same k new now es (drop_table k.database name) (λ c e. (change_comes k c (subst IsKeptDatabase view kept.kept) sound (inr (dropped name e))).tracks.long) made.makes;
        tells = made.tells;
        names = made.names;
      }
