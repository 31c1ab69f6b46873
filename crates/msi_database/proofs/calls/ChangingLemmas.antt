-- Rows of a table of a sound database, and the end of a change.
use Rattle.std.proofs.Common.{◌≡◌, Bool, true, List, map, Option, Some, None, is_some, Result, Ok, Err, sym, ap, subst, ◌∙◌, option_map, inl, inr, IfErr}
use Rattle.std.specs.FinMap.{entries}
use Rattle.msi_container_format.specs.Streams as maps
use Rattle.msi_base.specs.declared.errors.ErrorKind.{ErrorKind}
use Rattle.msi_base.specs.declared.errors.ErrorKind.TheVariants.{InvalidData}
use Rattle.msi_base.specs.Results.{OnlyMemory}
use Rattle.msi_pool.specs.Pool.{Pool}
use Rattle.msi_table_cells.specs.declared.cell.ValueRef.{ValueRef}
use Rattle.msi_table.specs.Tables.{TableDef}
use Rattle.msi_base.specs.Refusals.{IsRefusal, or_refused}
use Rattle.msi_database_changes.specs.Database.{is_sound, table_at}
use Rattle.msi_database_changes.specs.Insert.{table_with}
use Rattle.msi_database_storage.specs.Streams.{Streams, stored_rows}
use Rattle.msi_database_changes.specs.declared.storing.Stored.{Stored}
use Rattle.msi_database_changes.specs.Storing.{stored_all}
use Rattle.msi_database_storage.specs.Storing.{stored_in}
use Rattle.msi_database_storage.specs.Kept.{Kept, kept_of, table_kept, table_kept_at, database_kept, AreAsLong}
use Rattle.msi_database_storage.proofs.TableAtLemmas.{table_at_kept}
use Rattle.msi_database.specs.Keeping.{AreKept}
use Rattle.msi_database.specs.Listed.{table_def_at, tables_listed}
use Rattle.msi_database.proofs.keeping.StreamEntriesLemmas.{entries_stored}
use Rattle.msi_database.proofs.soundness.SoundLemmas.{sound_rows}
use Rattle.msi_database.proofs.keeping.TablesKeptLemmas.{listed_kept, table_def_kept}
use Rattle.msi_database.proofs.keeping.WholeTableLemmas.{found_holds, rows_found}

-- ROWS OF A SOUND DATABASE

no_other : {A : Type 0} (r : Result A ErrorKind) (o : Option (List (List ValueRef))) → is_some o ≡ true → IfErr r (IsRefusal (or_refused InvalidData o)) → OnlyMemory r
no_other (Ok x) o some h = tt
no_other (Err k) None some h = cc
no_other (Err k) (Some rows) some (inl m) = m
no_other (Err k) (Some rows) some (inr e) = cc

module _ (pool : Pool) (tables : List TableDef) (streams : Streams) (as_long : AreAsLong pool.long tables) (t : TableDef) (listed : table_def_at t.name (database_kept pool tables streams) ≡ Some t) where
  here : table_kept_at t.name tables ≡ Some t
  here = sym (table_def_kept pool tables streams t.name as_long) ∙ listed

  as_kept : table_at t.name (database_kept pool tables streams) ≡ Some (record { columns = t.columns; rows = stored_rows streams t.long t.columns t.name })
  as_kept = table_at_kept pool tables streams t.name ∙ ap (option_map (λ (t : TableDef). (table_kept streams pool.long t).1)) here
      ∙ ap (λ (o : Option (List (List ValueRef))). Some (record { columns = t.columns; rows = o })) (rows_found streams pool.long t.name tables t as_long here)

  pub found_with : (rows : List (List ValueRef)) → stored_rows streams t.long t.columns t.name ≡ Some rows → table_at t.name (database_kept pool tables streams) ≡ Some (table_with t.columns rows)
  found_with rows e = as_kept ∙ ap (λ (o : Option (List (List ValueRef))). Some (record { columns = t.columns; rows = o })) e

  pub only_memory : {A : Type 0} (r : Result A ErrorKind) → is_sound (database_kept pool tables streams) ≡ true → IfErr r (IsRefusal (or_refused InvalidData (stored_rows streams t.long t.columns t.name))) → OnlyMemory r
  only_memory r sound h = no_other r (stored_rows streams t.long t.columns t.name)
      (found_holds (λ u. is_some u.rows ≡ true) t.name (map (table_kept streams pool.long) tables) (record { columns = t.columns; rows = stored_rows streams t.long t.columns t.name }) (sound_rows (database_kept pool tables streams) sound) as_kept) h

-- THE END OF A CHANGE

pub streams_stored : (m n : maps.Streams) (es items : List Stored) → n ≡ stored_all m items → items ≡ es → entries n ≡ stored_in es (entries m)
streams_stored m n es items stored same = ap entries (stored ∙ ap (stored_all m) same) ∙ entries_stored m es

pub record Finished (new : Pool) (tables : List TableDef) (streams : Streams) (sound : Bool) (k : Kept) : Type 0 where
  pub kept : AreKept new tables streams sound
  pub same : kept_of new tables streams ≡ k

-- the tables stay
pub rows_moved_in : (pool new : Pool) (tables : List TableDef) (m n : maps.Streams) (es : List Stored) (sound : Bool) (k : Kept) → kept_of pool tables (entries m) ≡ k → AreKept pool tables (entries m) sound
    → is_sound k.database ≡ true → AreKept new (tables_listed k.database) (stored_in es k.streams) true → entries n ≡ stored_in es (entries m)
    → Finished new tables (entries n) sound (kept_of new (tables_listed k.database) (stored_in es k.streams))
rows_moved_in pool new tables m n es sound k view old was kept stored =
    let listed : tables_listed k.database ≡ tables = ap (λ (k : Kept). tables_listed k.database) (sym view) ∙ listed_kept pool tables (entries m) old.as_long in
    let streams : stored_in es k.streams ≡ entries n = ap (λ (k : Kept). stored_in es k.streams) (sym view) ∙ sym stored in
    let known : true ≡ sound = sym (old.known ∙ ap (λ (k : Kept). is_sound k.database) view ∙ was) in record {
      kept = subst (AreKept new tables (entries n)) known (subst (λ (s : Streams). AreKept new tables s true) streams (subst (λ (ts : List TableDef). AreKept new ts (stored_in es k.streams) true) listed kept));
      same = ap (λ (ts : List TableDef). kept_of new ts (entries n)) (sym listed) ∙ ap (kept_of new (tables_listed k.database)) (sym streams);
    }

-- other tables take their place
pub tables_moved_in : (pool new : Pool) (tables after : List TableDef) (m n : maps.Streams) (es : List Stored) (sound : Bool) (k : Kept) → kept_of pool tables (entries m) ≡ k → AreKept pool tables (entries m) sound
    → is_sound k.database ≡ true → AreKept new after (stored_in es k.streams) true → entries n ≡ stored_in es (entries m)
    → Finished new after (entries n) sound (kept_of new after (stored_in es k.streams))
tables_moved_in pool new tables after m n es sound k view old was kept stored =
    let streams : stored_in es k.streams ≡ entries n = ap (λ (k : Kept). stored_in es k.streams) (sym view) ∙ sym stored in
    let known : true ≡ sound = sym (old.known ∙ ap (λ (k : Kept). is_sound k.database) view ∙ was) in record {
      kept = subst (AreKept new after (entries n)) known (subst (λ (s : Streams). AreKept new after s true) streams kept);
      same = ap (kept_of new after) (sym streams);
    }
