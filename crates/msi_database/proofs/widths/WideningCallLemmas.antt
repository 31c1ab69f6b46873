-- The steps by which a database with wider references is made, table by table.
use Rattle.std.proofs.Common.{◌≡◌, ℕ, ◌+◌, ◌<◌, Bool, true, false, Result, Ok, Err, inl, inr, List, [], ◌∷◌, ◌++◌, length, map, take, fold, get_or, Some, None, option_map, refl, sym, ap, ◌∙◌, subst}
use Rattle.std.specs.Prelude.{MatchBool}
use Rattle.std.specs.FinMap.{find}
use Rattle.msi_base.specs.declared.errors.ErrorKind.{ErrorKind}
use Rattle.msi_base.specs.declared.errors.ErrorKind.TheVariants.{InvalidData, OutOfMemory}
use Rattle.msi_base.specs.Refusals.{IsRefusal, or_refused}
use Rattle.msi_database_schema.specs.System.{validation_columns, validation_name}
use Rattle.std.proofs.lemmas.List.{get_or-map, length-map, take_more}
use Rattle.std.proofs.Math.Seq.{take-length}
use Rattle.std.proofs.lemmas.Option.{same_Some}
use Rattle.msi_base.specs.Lists.{list_cmp}
use Rattle.msi_table_cells.specs.declared.cell.ValueRef.{ValueRef}
use Rattle.msi_table.specs.Tables.{CanStore, TableDef, long_table_of}
use Rattle.msi_pool.specs.Pool.{Pool}
use Rattle.msi_table_cells.proofs.SortedRowsLemmas.{all_at}
use Rattle.msi_table_values.specs.Columns.{ColumnDef, types_of}
use Rattle.msi_table_cells.specs.Fitting.{FitsTable}
use Rattle.msi_table_cells.specs.TableCells.{TableCells}
use Rattle.msi_container_format.specs.Names.{is_name_length}
use Rattle.msi_database_schema.specs.Keys.{is_table_name, table_key}
use Rattle.msi_database_changes.specs.Database.{Database, Tables, has_table, is_sound, table_at}
use Rattle.msi_database_changes.specs.Insert.{table_with}
use Rattle.msi_database_storage.specs.Streams.{Streams, stored_rows}
use Rattle.msi_database_changes.specs.Widening.{widened}
use Rattle.msi_database_storage.specs.Kept.{AreAsLong, Kept, kept_widened, schema_listed}
use Rattle.msi_database_storage.specs.Widening.{streams_widened, unlisted_table, with_long_rows}
use Rattle.msi_database.specs.Keeping.{AreParts, IsKeptDatabase}
use Rattle.msi_database.specs.Listed.{table_def_at, tables_listed}
use Rattle.msi_database.proofs.keeping.AcceptedChangeLemmas.{regular}
use Rattle.msi_database_schema.proofs.KeyLemmas.{table_key_is_name, validation_accepted}
use Rattle.msi_database.proofs.soundness.SoundLemmas.{sound_names}
use Rattle.msi_database_storage.proofs.StreamLemmas.{tables_found}
use Rattle.msi_database.proofs.widths.WideRefusalLemmas.{long_pool}
use Rattle.msi_database.proofs.widths.WideningLemmas.{unlisted_fits, widened_parts}

fold_pushed : {A B : Type 0} (f : B → A → B) (b : B) (xs : List A) (x : A) → fold f b (xs ++ x ∷ []) ≡ f (fold f b xs) x
fold_pushed f b [] x = refl
fold_pushed f b (y ∷ xs) x = fold_pushed f (f b y) xs x

module _ (k : Kept) (kept : IsKeptDatabase k) (sound : is_sound k.database ≡ true) (ts : List TableDef) (ts_are : ts ≡ tables_listed k.database) (i : ℕ) (t : TableDef) (inside : i < length ts) (is : t ≡ get_or ts i t) where
  abbrev d : Database
  d = k.database

  abbrev def_of : List ℕ × TableCells → TableDef
  def_of e = record { name = e.0; columns = e.1.columns; long = d.pool.long }

  abbrev none : List ℕ × TableCells
  none = (t.name, record { columns = []; rows = None })

  abbrev e : List ℕ × TableCells
  e = get_or d.tables i none

  within : i < length d.tables
  within = subst (λ n. i < n) (ap length ts_are ∙ length-map d.tables def_of) inside

  t_is : t ≡ def_of e
  t_is = is ∙ ap (λ (us : List TableDef). get_or us i t) ts_are ∙ get_or-map def_of d.tables i none t within

  found_there : table_at e.0 d ≡ Some e.1
  found_there = all_at (λ e. find list_cmp e.0 d.tables ≡ Some e.1) d.tables i none (tables_found d.tables (regular k kept sound).well.in_order) within

  name_is : t.name ≡ e.0
  name_is = ap (λ (t : TableDef). t.name) t_is

  found : table_at t.name d ≡ Some e.1
  found = ap (λ (n : List ℕ). table_at n d) name_is ∙ found_there

  -- it is listed
  pub listed_def : table_def_at t.name d ≡ Some t
  listed_def = ap (option_map (λ (c : TableCells). record { name = t.name; columns = c.columns; long = d.pool.long })) found
      ∙ ap (λ (n : List ℕ). Some (record { name = n; columns = e.1.columns; long = d.pool.long })) name_is ∙ ap Some (sym t_is)

  -- its stream can have a name
  pub listed_named : is_name_length (length (table_key t.name)) ≡ true
  listed_named = ap (λ (n : List ℕ). is_name_length (length (table_key n))) name_is
      ∙ table_key_is_name e.0 (all_at (λ t. is_table_name t.0 ≡ true) d.tables i none (sound_names d sound) within)

  module _ (rows : List (List ValueRef)) (at : table_at t.name d ≡ Some (table_with t.columns rows)) where
    -- its rows fit it
    pub listed_fits : CanStore t rows
    listed_fits = subst (λ long. FitsTable long (types_of t.columns) rows) (ap (λ (t : TableDef). t.long) (sym t_is))
        ((regular k kept sound).fit t.name (table_with t.columns rows) at)

    e_is : e ≡ (t.name, table_with t.columns rows)
    e_is j = (sym name_is j, same_Some e.1 (table_with t.columns rows) (sym found ∙ at) j)

    -- one more table is stored
    pub listed_more : (first old new : Streams) → old ≡ fold with_long_rows first (take i d.tables) → new ≡ with_long_rows old (t.name, table_with t.columns rows)
        → new ≡ fold with_long_rows first (take (i + 1) d.tables)
    listed_more first old new so_far step =
        step ∙ (λ j. with_long_rows (so_far j) (sym e_is j))
        ∙ sym (ap (fold with_long_rows first) (take_more d.tables i none within) ∙ fold_pushed with_long_rows first (take i d.tables) e)

pub listed_all : (d : Database) (ts : List TableDef) (i : ℕ) (first : Streams) → ts ≡ tables_listed d → i ≡ length ts → fold with_long_rows first (take i d.tables) ≡ fold with_long_rows first d.tables
listed_all d ts i first ts_are done =
    ap (λ (n : ℕ). fold with_long_rows first (take n d.tables)) (done ∙ ap length ts_are ∙ length-map d.tables (λ t. record { name = t.0; columns = t.1.columns; long = d.pool.long }))
    ∙ ap (fold with_long_rows first) (take-length d.tables)

-- THE WHOLE DATABASE

long_listed : (long : Bool) (ts : Tables) → schema_listed (map long_table_of (map (λ t. record { name = t.0; columns = t.1.columns; long = long }) ts)) ≡ map (λ t. (t.0, t.1.columns)) ts
long_listed long [] = refl
long_listed long (t ∷ ts) = ap (λ (l : List (List ℕ × List ColumnDef)). (t.0, t.1.columns) ∷ l) (long_listed long ts)

all_long : (ts : List TableDef) → AreAsLong true (map long_table_of ts)
all_long [] = tt
all_long (t ∷ ts) = (refl, all_long ts)

pub wide_parts : (k : Kept) → IsKeptDatabase k → is_sound k.database ≡ true → (old : Pool) → old ≡ k.database.pool → (pool : Pool) → pool ≡ long_pool old → (tables : List TableDef) → tables ≡ map long_table_of (tables_listed k.database)
    → (streams : Streams) → streams ≡ streams_widened k.database k.streams → AreParts (kept_widened k) pool tables streams
wide_parts k kept sound old old_is pool pool_is tables tables_are streams streams_are =
    subst (λ (p : Pool). AreParts (kept_widened k) p tables streams) (sym (pool_is ∙ ap long_pool old_is))
    (subst (λ (ts : List TableDef). AreParts (kept_widened k) (widened k.database).pool ts streams) (sym tables_are)
    (subst (λ (s : Streams). AreParts (kept_widened k) (widened k.database).pool (map long_table_of (tables_listed k.database)) s) (sym streams_are)
    (widened_parts k kept sound (map long_table_of (tables_listed k.database)) (long_listed k.database.pool.long k.database.tables) (all_long (tables_listed k.database)))))

-- THE STREAM OF `_Validation` THAT IS NO TABLE

module _ (k : Kept) (kept : IsKeptDatabase k) where
  pub unlisted_none : (b : Bool) → b ≡ has_table validation_name k.database → b ≡ true → (streams : Streams) → streams ≡ with_long_rows streams (unlisted_table k.database)
  unlisted_none b b_is listed streams =
      let none : k.database.unlisted_validation ≡ [] =
      subst (λ b. MatchBool b (k.database.unlisted_validation ≡ []) (stored_rows k.streams k.database.pool.long validation_columns validation_name ≡ Some k.database.unlisted_validation)) (sym b_is ∙ listed) kept.spelled.unlisted in
      ap (λ (rows : List (List ValueRef)). with_long_rows streams (validation_name, table_with validation_columns rows)) (sym none)

  module _ (sound : is_sound k.database ≡ true) (b : Bool) (b_is : b ≡ has_table validation_name k.database) (unlisted : b ≡ false) (v : TableDef)
      (v_is : v ≡ record { name = validation_name; columns = validation_columns; long = k.database.pool.long }) where
    not_listed : has_table validation_name k.database ≡ false
    not_listed = sym b_is ∙ unlisted

    spelled_there : stored_rows k.streams v.long v.columns v.name ≡ Some k.database.unlisted_validation
    spelled_there = ap (λ (v : TableDef). stored_rows k.streams v.long v.columns v.name) v_is
        ∙ subst (λ b. MatchBool b (k.database.unlisted_validation ≡ []) (stored_rows k.streams k.database.pool.long validation_columns validation_name ≡ Some k.database.unlisted_validation)) not_listed kept.spelled.unlisted

    pub unlisted_memory : (streams : Streams) → streams ≡ k.streams → (kind : ErrorKind) → IsRefusal (or_refused InvalidData (stored_rows streams v.long v.columns v.name)) kind → kind ≡ OutOfMemory
    unlisted_memory streams same kind (inl memory) = memory
    unlisted_memory streams same kind (inr e) =
        let there : or_refused InvalidData (stored_rows streams v.long v.columns v.name) ≡ Ok k.database.unlisted_validation =
        ap (λ (s : Streams). or_refused InvalidData (stored_rows s v.long v.columns v.name)) same ∙ ap (or_refused InvalidData) spelled_there in
        absurd (ok_err (sym there ∙ e))
      where
        ok_err : {A : Type 0} {x : A} {l : ErrorKind} → ◌≡◌ {A = Result A ErrorKind} (Ok x) (Err l) → ⊥
        ok_err e = cc

    pub unlisted_named : is_name_length (length (table_key v.name)) ≡ true
    unlisted_named = ap (λ (v : TableDef). is_name_length (length (table_key v.name))) v_is ∙ table_key_is_name validation_name validation_accepted

    module _ (streams : Streams) (same : streams ≡ k.streams) (rows : List (List ValueRef)) (rows_are : stored_rows streams v.long v.columns v.name ≡ Some rows) where
      rows_here : rows ≡ k.database.unlisted_validation
      rows_here = same_Some rows k.database.unlisted_validation (sym rows_are ∙ ap (λ (s : Streams). stored_rows s v.long v.columns v.name) same ∙ spelled_there)

      pub unlisted_store : CanStore v rows
      unlisted_store = subst (λ (v : TableDef). CanStore v rows) (sym v_is)
          (subst (λ (rows : List (List ValueRef)). FitsTable k.database.pool.long (types_of validation_columns) rows) (sym rows_here) (unlisted_fits k kept sound not_listed))

      pub unlisted_is : (s : Streams) → with_long_rows s (v.name, table_with v.columns rows) ≡ with_long_rows s (unlisted_table k.database)
      unlisted_is s = λ i. with_long_rows s ((v_is i).name, table_with (v_is i).columns (rows_here i))
