-- What a call makes over the old database, or over that with wider references.
use Rattle.std.proofs.Common.{◌≡◌, ℕ, Bool, true, false, not, ◌&&◌, ◌||◌, List, length, Option, Some, None, refl, sym, ap, subst, ◌∙◌}
use Rattle.std.specs.Prelude.{if◌then◌else◌, nat_lt}
use Rattle.std.proofs.lemmas.Bool.{true≢false}
use Rattle.msi_container_format.specs.Names.{is_name_length}
use Rattle.msi_pool.specs.Pool.{Pool}
use Rattle.msi_table_cells.specs.declared.cell.ValueRef.{ValueRef}
use Rattle.msi_table_values.specs.Columns.{ColumnDef, types_of}
use Rattle.msi_table_cells.specs.Fitting.{FitsTable}
use Rattle.msi_table.specs.Tables.{CanStore, TableDef, long_table_of}
use Rattle.msi_database_schema.specs.Keys.{table_key}
use Rattle.msi_database_changes.specs.Texts.{UsedPool, settled, widens}
use Rattle.msi_database_changes.specs.declared.storing.Stored.{Stored}
use Rattle.msi_database_storage.specs.Kept.{Kept, kept_widened, with_table_kept}
use Rattle.msi_database_storage.specs.Streams.{stream_of_rows}
use Rattle.msi_database_changes.specs.Create.{SystemRows}
use Rattle.msi_database.specs.Creating.{CanHoldAll, IsCreated, new_table, streams_for}
use Rattle.msi_database.specs.Listed.{tables_listed}
use Rattle.msi_database.specs.Making.{IsAnew, base_with, wide_for}

long_where : (l m : Bool) → (l || m) && not l ≡ true → (l || m) ≡ true
long_where true m e = refl
long_where false true e = refl
long_where false false e = absurd (true≢false (sym e))

same_where : (l m : Bool) → (l || m) && not l ≡ false → (l || m) ≡ l
same_where true m e = refl
same_where false true e = absurd (true≢false e)
same_where false false e = refl

-- WHERE REFERENCES WIDEN

module _ (old : Kept) (used : UsedPool) (b : Bool) (b_is : b ≡ widens used.pool) (widened : b ≡ true) where
  settles_wide : (settled used.pool).long ≡ true
  settles_wide = long_where used.pool.long (nat_lt 65535 (length used.pool.places)) (sym b_is ∙ widened)

  pub wide_where : (wide : Kept) → wide ≡ kept_widened old → Some wide ≡ wide_for used old
  wide_where wide wide_is = ap Some wide_is ∙ (λ i. if (sym widened ∙ b_is) i then Some (kept_widened old) else None)

  module _ (t long : TableDef) (long_is : long ≡ long_table_of t) (rows : List (List ValueRef)) where
    pub wide_named : is_name_length (length (table_key t.name)) ≡ true → is_name_length (length (table_key long.name)) ≡ true
    wide_named named = ap (λ (t : TableDef). is_name_length (length (table_key t.name))) long_is ∙ named

    pub wide_stores : FitsTable (settled used.pool).long (types_of t.columns) rows → CanStore long rows
    wide_stores fits = subst (λ (t : TableDef). CanStore t rows) (sym long_is) (subst (λ l. FitsTable l (types_of t.columns) rows) settles_wide fits)

    pub wide_anew : (wide : Kept) → wide ≡ kept_widened old → (stream : Stored) → stream.name ≡ table_key long.name → stream.bytes ≡ stream_of_rows long.long long.columns rows
        → (new : Pool) → new ≡ settled used.pool → (is_pool_used : Bool) → is_pool_used ≡ used.is_used → IsAnew old t rows used (Some wide) stream new is_pool_used
    wide_anew wide wide_is stream name_is bytes_are new new_is is_pool_used uses = record {
      base = wide_where wide wide_is;
      name = name_is ∙ ap (λ (t : TableDef). table_key t.name) long_is;
      bytes = bytes_are ∙ (λ i. stream_of_rows (long_is i).long (long_is i).columns rows) ∙ (λ i. stream_of_rows (sym settles_wide i) t.columns rows);
      pool = new_is;
      uses = uses;
    }

  module _ (name : List ℕ) (columns : List ColumnDef) (rows : SystemRows) (wide : Kept) (wide_is : wide ≡ kept_widened old) where
    base_is : base_with (wide_for used old) old ≡ wide
    base_is = sym (ap (λ (w : Option Kept). base_with w old) (wide_where wide wide_is))

    pub wide_held : CanHoldAll (base_with (wide_for used old) old).database rows → CanHoldAll wide.database rows
    wide_held held = subst (λ (k : Kept). CanHoldAll k.database rows) base_is held

    pub wide_created : (streams given : List Stored) → given ≡ streams_for wide.database name rows → (after listed : List TableDef) → listed ≡ with_table_kept (new_table wide.database name columns) (tables_listed wide.database)
        → (over : Option Kept) → over ≡ Some wide → streams ≡ given → after ≡ listed → (new : Pool) → new ≡ settled used.pool → (is_pool_used : Bool) → is_pool_used ≡ used.is_used
        → IsCreated old name columns rows used over streams after new is_pool_used
    wide_created streams given given_are after listed listed_are over over_is streams_are after_is new new_is is_pool_used uses = record {
      base = over_is ∙ wide_where wide wide_is;
      stored = streams_are ∙ given_are ∙ ap (λ (k : Kept). streams_for k.database name rows) (sym base_is);
      tables = after_is ∙ listed_are ∙ ap (λ (k : Kept). with_table_kept (new_table k.database name columns) (tables_listed k.database)) (sym base_is);
      pool = new_is;
      uses = uses;
    }

-- WHERE THEY STAY

module _ (old : Kept) (used : UsedPool) (b : Bool) (b_is : b ≡ widens used.pool) (narrow : b ≡ false) where
  pub same_base_where : ◌≡◌ {A = Option Kept} None (wide_for used old)
  same_base_where = λ i. if (sym narrow ∙ b_is) i then Some (kept_widened old) else None

  module _ (t : TableDef) (rows : List (List ValueRef)) (long : used.pool.long ≡ t.long) where
    settles_same : (settled used.pool).long ≡ t.long
    settles_same = same_where used.pool.long (nat_lt 65535 (length used.pool.places)) (sym b_is ∙ narrow) ∙ long

    pub same_stores : FitsTable (settled used.pool).long (types_of t.columns) rows → CanStore t rows
    same_stores fits = subst (λ l. FitsTable l (types_of t.columns) rows) settles_same fits

    pub same_anew : (stream : Stored) → stream.name ≡ table_key t.name → stream.bytes ≡ stream_of_rows t.long t.columns rows
        → (new : Pool) → new ≡ settled used.pool → (is_pool_used : Bool) → is_pool_used ≡ used.is_used → IsAnew old t rows used None stream new is_pool_used
    same_anew stream name_is bytes_are new new_is is_pool_used uses = record {
      base = same_base_where;
      name = name_is;
      bytes = bytes_are ∙ (λ i. stream_of_rows (sym settles_same i) t.columns rows);
      pool = new_is;
      uses = uses;
    }

  module _ (name : List ℕ) (columns : List ColumnDef) (rows : SystemRows) where
    base_is_old : base_with (wide_for used old) old ≡ old
    base_is_old = sym (ap (λ (w : Option Kept). base_with w old) same_base_where)

    pub same_held : CanHoldAll (base_with (wide_for used old) old).database rows → CanHoldAll old.database rows
    same_held held = subst (λ (k : Kept). CanHoldAll k.database rows) base_is_old held

    pub same_created : (streams given : List Stored) → given ≡ streams_for old.database name rows → (after listed : List TableDef) → listed ≡ with_table_kept (new_table old.database name columns) (tables_listed old.database)
        → (over : Option Kept) → over ≡ None → streams ≡ given → after ≡ listed → (new : Pool) → new ≡ settled used.pool → (is_pool_used : Bool) → is_pool_used ≡ used.is_used
        → IsCreated old name columns rows used over streams after new is_pool_used
    same_created streams given given_are after listed listed_are over over_is streams_are after_is new new_is is_pool_used uses = record {
      base = over_is ∙ same_base_where;
      stored = streams_are ∙ given_are ∙ ap (λ (k : Kept). streams_for k.database name rows) (sym base_is_old);
      tables = after_is ∙ listed_are ∙ ap (λ (k : Kept). with_table_kept (new_table k.database name columns) (tables_listed k.database)) (sym base_is_old);
      pool = new_is;
      uses = uses;
    }
