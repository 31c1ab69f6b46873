-- The tables that a database keeps, as its contents have them.
use Rattle.std.proofs.Common.{◌≡◌, ℕ, Bool, true, false, List, [], ◌∷◌, map, Some, None, refl, sym, ap₂, cond, option_map, is_some}
use Rattle.std.specs.Prelude.{bytes_eq}
use Rattle.std.proofs.lemmas.Slice.Eq.{bytes_eq-Decides}
use Rattle.msi_pool.specs.Pool.{Pool}
use Rattle.msi_table.specs.Tables.{TableDef}
use Rattle.msi_database_changes.specs.Database.{has_table}
use Rattle.msi_database_storage.specs.Streams.{Streams}
use Rattle.msi_database_storage.specs.Kept.{table_kept, table_kept_at, database_kept, AreAsLong}
use Rattle.msi_database_storage.proofs.TableAtLemmas.{find_kept}
use Rattle.msi_database.specs.Listed.{table_def_at, tables_listed}

with_long : Bool → TableDef → TableDef
with_long long t = record t { long = long }

as_long : (t : TableDef) (long : Bool) → t.long ≡ long → with_long long t ≡ t
unfolding with_long
as_long t long e i = record { name = t.name; columns = t.columns; long = sym e i }

listed : (streams : Streams) (wide long : Bool) (tables : List TableDef) → AreAsLong long tables
    → map (λ t. record { name = t.0; columns = t.1.columns; long = long }) (map (table_kept streams wide) tables) ≡ tables
unfolding with_long
listed streams wide long [] all = refl
listed streams wide long (t ∷ ts) all = ap₂ (λ u us. u ∷ us) (as_long t long all.0) (listed streams wide long ts all.1)

pub listed_kept : (pool : Pool) (tables : List TableDef) (streams : Streams) → AreAsLong pool.long tables → tables_listed (database_kept pool tables streams) ≡ tables
listed_kept pool tables streams all = listed streams pool.long pool.long tables all

def_kept : (streams : Streams) (wide long : Bool) (name : List ℕ) (tables : List TableDef) → AreAsLong long tables
    → option_map (λ t. record { name = name; columns = t.columns; long = long }) (option_map (λ t. (table_kept streams wide t).1) (table_kept_at name tables)) ≡ table_kept_at name tables
def_kept streams wide long name [] all = refl
def_kept streams wide long name (t ∷ ts) all =
    elim (bytes_eq name t.name) as (λ b. (bytes_eq name t.name ≡ b) → option_map (λ t. record { name = name; columns = t.columns; long = long }) (option_map (λ t. (table_kept streams wide t).1) (cond b (Some t) (table_kept_at name ts))) ≡ cond b (Some t) (table_kept_at name ts)) [
      | true ↦ λ same i. Some (record { name = (bytes_eq-Decides name t.name).0 same i; columns = t.columns; long = sym all.0 i })
      | false ↦ λ _. def_kept streams wide long name ts all.1
    ] refl

pub table_def_kept : (pool : Pool) (tables : List TableDef) (streams : Streams) (name : List ℕ) → AreAsLong pool.long tables
    → table_def_at name (database_kept pool tables streams) ≡ table_kept_at name tables
table_def_kept pool tables streams name all =
    rw (find_kept streams pool.long name tables) (def_kept streams pool.long pool.long name tables all)

pub has_table_kept : (pool : Pool) (tables : List TableDef) (streams : Streams) (name : List ℕ)
    → has_table name (database_kept pool tables streams) ≡ is_some (table_kept_at name tables)
has_table_kept pool tables streams name = rw (find_kept streams pool.long name tables)
    (elim (table_kept_at name tables) as (λ o. is_some (option_map (λ t. (table_kept streams pool.long t).1) o) ≡ is_some o) [ None ↦ refl | Some t ↦ refl ])
