-- A change of a table's rows that widens references where it has to: what is stored over which database.
use Rattle.std.proofs.Common.{◌≡◌, ℕ, ◌≤◌, Bool, true, false, not, ◌&&◌, ◌||◌, List, [], ◌∷◌, length, map, nat_lt, Option, Some, None, Result, Ok, refl, sym, ap, subst, ◌∙◌, arith, inl}
use Rattle.std.specs.Prelude.{if◌then◌else◌}
use Rattle.std.proofs.lemmas.Bool.{true≢false}
use Rattle.std.proofs.lemmas.Bool.Decides.{nat_tests}
use Rattle.msi_base.specs.declared.errors.ErrorKind.{ErrorKind}
use Rattle.msi_pool.specs.FirstFit.{most_places}
use Rattle.msi_pool.specs.Pool.{Pool}
use Rattle.msi_database.proofs.soundness.GivenBackLemmas.{given_back_gives}
use Rattle.msi_pool.proofs.TakenLemmas.{taken_takes}
use Rattle.msi_table_cells.specs.declared.cell.ValueRef.{ValueRef}
use Rattle.msi_table_values.specs.Columns.{ColumnDef, types_of}
use Rattle.msi_table_cells.specs.Fitting.{FitsTable}
use Rattle.msi_table.specs.Tables.{TableDef}
use Rattle.msi_database_schema.specs.Keys.{table_key}
use Rattle.msi_database_changes.specs.Texts.{PoolInUse, UsedPool, in_use, settled}
use Rattle.msi_database_changes.specs.Database.{Database, Tables, is_sound}
use Rattle.msi_database_changes.specs.Changes.{Change, no_change, with_stored}
use Rattle.msi_database_changes.specs.Widening.{needs_three_bytes, widened, widening}
use Rattle.msi_database_changes.proofs.steps.AtWidthLemmas.{IsChangeAtWidth, sound_widened}
use Rattle.msi_database_changes.proofs.soundness.LawLemmas.{changes_keep_soundness}
use Rattle.msi_database_changes.specs.declared.storing.Stored.{Stored}
use Rattle.msi_database_storage.specs.Storing.{stored_in}
use Rattle.msi_database_storage.specs.Streams.{stream_of_rows}
use Rattle.msi_database_storage.specs.Kept.{AreAsLong, Kept, after_change, base_of, database_kept, kept_widened, schema_listed, with_change}
use Rattle.msi_database.specs.Keeping.{AreParts, IsKeptDatabase}
use Rattle.msi_database.specs.Listed.{tables_listed}
use Rattle.msi_database.specs.Making.{MakesRows, RowsBecome, TellsUse, base_with, wide_for}
use Rattle.msi_database.proofs.calls.CanStoreLemmas.{stored_can_store}
use Rattle.msi_database.proofs.keeping.AcceptedChangeLemmas.{regular}
use Rattle.msi_database.proofs.calls.FinishedChangeLemmas.{rows_made}
use Rattle.msi_database.proofs.keeping.KeepingLemmas.{same_base, wide_base}
use Rattle.msi_database.proofs.keeping.KeptPartsLemmas.{kept_parts}
use Rattle.msi_database.proofs.soundness.SoundLemmas.{sound_pool}
use Rattle.msi_database.proofs.widths.WideningLemmas.{widened_kept}

-- THE PARTS OF ANY KEPT DATABASE

listed_columns : (long : Bool) (ts : Tables) → schema_listed (map (λ t. record { name = t.0; columns = t.1.columns; long = long }) ts) ≡ map (λ t. (t.0, t.1.columns)) ts
listed_columns long [] = refl
listed_columns long (t ∷ ts) = ap (λ (l : List (List ℕ × List ColumnDef)). (t.0, t.1.columns) ∷ l) (listed_columns long ts)

listed_long : (long : Bool) (ts : Tables) → AreAsLong long (map (λ t. record { name = t.0; columns = t.1.columns; long = long }) ts)
listed_long long [] = tt
listed_long long (t ∷ ts) = (refl, listed_long long ts)

module _ (k : Kept) (kept : IsKeptDatabase k) (sound : is_sound k.database ≡ true) where
  abbrev listed : List TableDef
  listed = tables_listed k.database

  pub own_parts : AreParts k k.database.pool listed k.streams
  own_parts = kept_parts k listed kept sound (listed_columns k.database.pool.long k.database.tables) (listed_long k.database.pool.long k.database.tables)

  -- a change of rows with references of the width that there is
  module _ (name : List ℕ) (columns : List ColumnDef) (rows : List (List ValueRef)) (used : PoolInUse) where
    row_fits : IsChangeAtWidth k.database (with_stored name columns rows used (no_change k.database)) → FitsTable k.database.pool.long (types_of columns) rows
    row_fits = subst (λ (x : Kept). IsChangeAtWidth x.database (with_stored name columns rows used (no_change x.database)) → FitsTable x.database.pool.long (types_of columns) rows) own_parts.0
        (λ change. stored_can_store k.database.pool listed k.streams own_parts.1 (with_stored name columns rows used (no_change (database_kept k.database.pool listed k.streams))) (inl change) name columns rows used refl)

    row_parts : (e : Stored) → e.name ≡ table_key name → e.bytes ≡ stream_of_rows k.database.pool.long columns rows → IsChangeAtWidth k.database (with_stored name columns rows used (no_change k.database))
        → AreParts (with_change k (with_stored name columns rows used (no_change k.database))) (record k.database.pool { places = used.places }) listed (stored_in (e ∷ []) k.streams)
    row_parts e name_is = subst (λ (x : Kept). e.bytes ≡ stream_of_rows x.database.pool.long columns rows → IsChangeAtWidth x.database (with_stored name columns rows used (no_change x.database))
        → AreParts (with_change x (with_stored name columns rows used (no_change x.database))) (record x.database.pool { places = used.places }) listed (stored_in (e ∷ []) x.streams)) own_parts.0
        (λ bytes_is change. rows_made k.database.pool listed k.streams own_parts.1 (with_stored name columns rows used (no_change (database_kept k.database.pool listed k.streams))) change name columns rows used refl
        (record k.database.pool { places = used.places }) e refl name_is bytes_is)

-- AT BOTH WIDTHS

module _ (k : Kept) (kept : IsKeptDatabase k) (sound : is_sound k.database ≡ true) (change : Database → Result Change ErrorKind) (is_change : (d : Database) (c : Change) → change d ≡ Ok c → IsChangeAtWidth d c)
    (name : List ℕ) (columns : List ColumnDef) (rows : List (List ValueRef)) (used : UsedPool) (becomes : RowsBecome change k.database name columns rows used) where
  abbrev d : Database
  d = k.database

  abbrev many : Bool
  many = nat_lt (most_places false) (length used.pool.places)

  abbrev c_wide : Change
  c_wide = with_stored name columns rows (in_use used) (no_change (widened d))

  abbrev c_same : Change
  c_same = with_stored name columns rows (in_use used) (no_change d)

  wide_sound : is_sound (widened d) ≡ true
  wide_sound = sound_widened d sound

  wide_is_kept : IsKeptDatabase (kept_widened k)
  wide_is_kept = widened_kept k kept sound

  few : length used.pool.places ≤ 16777215
  few = sound_pool c_wide.database (changes_keep_soundness taken_takes given_back_gives (widened d) c_wide (is_change (widened d) c_wide becomes.wide) (regular (kept_widened k) wide_is_kept wide_sound).well wide_sound)

  -- the width that is settled
  settled_is : (l m : Bool) → d.pool.long ≡ l → many ≡ m → (settled used.pool).long ≡ (l || m)
  settled_is l m is_long is_many = λ i. (becomes.long ∙ is_long) i || is_many i

  wide_is : (l m : Bool) → d.pool.long ≡ l → many ≡ m → wide_for used k ≡ (if (l || m) && not l then Some (kept_widened k) else None)
  wide_is l m is_long is_many = λ i. if ((becomes.long ∙ is_long) i || is_many i) && not ((becomes.long ∙ is_long) i) then Some (kept_widened k) else None

  widens_is : (l m : Bool) → d.pool.long ≡ l → many ≡ m → widening change d ≡ (if (true && not l) && m then change (widened d) else change d)
  widens_is l m is_long is_many =
      let needs : needs_three_bytes (change (widened d)) ≡ m = ap needs_three_bytes becomes.wide ∙ is_many in
      λ i. if (sound i && not (is_long i)) && needs i then change (widened d) else change d

  enough : (l m : Bool) → (l ≡ false → m ≡ false) → d.pool.long ≡ l → many ≡ m → length used.pool.places ≤ most_places d.pool.long
  enough true m short is_long is_many = subst (λ l. length used.pool.places ≤ most_places l) (sym is_long) few
  enough false m short is_long is_many =
      let none : nat_lt 65535 (length used.pool.places) ≡ false = is_many ∙ short refl in
      subst (λ l. length used.pool.places ≤ most_places l) (sym is_long) (grind (arith, nat_tests))

  pub record Anew (r : Result Change ErrorKind) : Type 0 where
    pub fits : FitsTable (settled used.pool).long (types_of columns) rows
    pub makes : (e : Stored) → e.name ≡ table_key name → e.bytes ≡ stream_of_rows (settled used.pool).long columns rows → MakesRows k r (base_with (wide_for used k) k) (settled used.pool) e
    pub uses : TellsUse r used.is_used

  -- with the width that there is
  same_anew : (r : Result Change ErrorKind) → r ≡ change d → length used.pool.places ≤ most_places d.pool.long → (settled used.pool).long ≡ d.pool.long → wide_for used k ≡ None → Anew r
  same_anew r r_is suffices settles none =
      let made : r ≡ Ok c_same = r_is ∙ becomes.same suffices in
      let at : IsChangeAtWidth d c_same = is_change d c_same (becomes.same suffices) in
      let base : base_of k c_same ≡ k = same_base k c_same refl in
      let pool : record d.pool { places = used.pool.places } ≡ settled used.pool = λ i. record { page = sym becomes.page i; long = sym settles i; places = used.pool.places } in
      subst Anew (sym made) (record {
        fits = subst (λ long. FitsTable long (types_of columns) rows) (sym settles) (row_fits k kept sound name columns rows (in_use used) at);
        makes = λ e name_is bytes_is.
            let parts = row_parts k kept sound name columns rows (in_use used) e name_is (bytes_is ∙ ap (λ long. stream_of_rows long columns rows) settles) at in
            subst (λ (wide : Option Kept). MakesRows k (Ok c_same) (base_with wide k) (settled used.pool) e) (sym none) (
              sym base,
              subst (λ (p : Pool). AreParts (after_change k c_same) p (tables_listed d) (stored_in (e ∷ []) k.streams)) pool
                  (subst (λ (b : Kept). AreParts (with_change b c_same) (record d.pool { places = used.pool.places }) (tables_listed d) (stored_in (e ∷ []) k.streams)) (sym base) parts),
              sound,
            );
        uses = refl;
      })

  -- with the wider one
  wide_anew : d.pool.long ≡ false → many ≡ true → Anew (widening change d)
  wide_anew short is_many =
      let made : widening change d ≡ Ok c_wide = widens_is false true short is_many ∙ becomes.wide in
      let at : IsChangeAtWidth (widened d) c_wide = is_change (widened d) c_wide becomes.wide in
      let base : base_of k c_wide ≡ kept_widened k = wide_base k c_wide refl short in
      let settles : (settled used.pool).long ≡ true = settled_is false true short is_many in
      let some : wide_for used k ≡ Some (kept_widened k) = wide_is false true short is_many in
      let pool : record (widened d).pool { places = used.pool.places } ≡ settled used.pool = λ i. record { page = sym becomes.page i; long = sym settles i; places = used.pool.places } in
      subst Anew (sym made) (record {
        fits = subst (λ long. FitsTable long (types_of columns) rows) (sym settles) (row_fits (kept_widened k) wide_is_kept wide_sound name columns rows (in_use used) at);
        makes = λ e name_is bytes_is.
            let parts = row_parts (kept_widened k) wide_is_kept wide_sound name columns rows (in_use used) e name_is (bytes_is ∙ ap (λ long. stream_of_rows long columns rows) settles) at in
            subst (λ (wide : Option Kept). MakesRows k (Ok c_wide) (base_with wide k) (settled used.pool) e) (sym some) (
              sym base,
              subst (λ (p : Pool). AreParts (after_change k c_wide) p (tables_listed (widened d)) (stored_in (e ∷ []) (kept_widened k).streams)) pool
                  (subst (λ (b : Kept). AreParts (with_change b c_wide) (record (widened d).pool { places = used.pool.places }) (tables_listed (widened d)) (stored_in (e ∷ []) (kept_widened k).streams)) (sym base) parts),
              wide_sound,
            );
        uses = refl;
      })

  -- a change that may widen references
  anew_by : (l m : Bool) → d.pool.long ≡ l → many ≡ m → Anew (widening change d)
  anew_by true m is_long is_many = same_anew (widening change d) (widens_is true m is_long is_many) (enough true m (λ e. absurd (true≢false e)) is_long is_many) (settled_is true m is_long is_many ∙ sym is_long) (wide_is true m is_long is_many)
  anew_by false true is_long is_many = wide_anew is_long is_many
  anew_by false false is_long is_many =
      same_anew (widening change d) (widens_is false false is_long is_many) (enough false false (λ e. refl) is_long is_many) (settled_is false false is_long is_many ∙ sym is_long) (wide_is false false is_long is_many)

  pub anew : Anew (widening change d)
  anew = anew_by d.pool.long many refl refl

  -- and one that takes no text
  still_by : (l m : Bool) → d.pool.long ≡ l → many ≡ m → length used.pool.places ≤ most_places d.pool.long → Anew (change d)
  still_by true m is_long is_many suffices = same_anew (change d) refl suffices (settled_is true m is_long is_many ∙ sym is_long) (wide_is true m is_long is_many)
  still_by false false is_long is_many suffices = same_anew (change d) refl suffices (settled_is false false is_long is_many ∙ sym is_long) (wide_is false false is_long is_many)
  still_by false true is_long is_many suffices =
      let within : length used.pool.places ≤ 65535 = subst (λ l. length used.pool.places ≤ most_places l) is_long suffices in
      absurd (grind (arith, nat_tests))

  pub anew_still : length used.pool.places ≤ most_places d.pool.long → Anew (change d)
  anew_still suffices = still_by d.pool.long many refl refl suffices
