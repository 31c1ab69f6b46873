-- The table of a name, as a database has it.
use Rattle.std.proofs.Common.{◌≡◌, ℕ, Bool, true, false, List, [], ◌∷◌, map, Some, refl, cond, option_map}
use Rattle.std.specs.Prelude.{bytes_eq}
use Rattle.std.specs.FinMap.{find}
use Rattle.std.proofs.lemmas.Map.Text.{is_eq-slice_cmp}
use Rattle.msi_pool.specs.Pool.{Pool}
use Rattle.msi_base.specs.Lists.{list_cmp}
use Rattle.msi_table.specs.Tables.{TableDef}
use Rattle.msi_database_changes.specs.Database.{table_at}
use Rattle.msi_database_storage.specs.Streams.{Streams}
use Rattle.msi_database_storage.specs.Kept.{table_kept, table_kept_at, database_kept}

pub find_kept : (streams : Streams) (long : Bool) (name : List ℕ) (tables : List TableDef)
    → find list_cmp name (map (table_kept streams long) tables) ≡ option_map (λ t. (table_kept streams long t).1) (table_kept_at name tables)
find_kept streams long name [] = refl
find_kept streams long name (t ∷ ts) = rw (is_eq-slice_cmp name t.name)
    (elim (bytes_eq name t.name) as (λ b. cond b (Some (table_kept streams long t).1) (find list_cmp name (map (table_kept streams long) ts)) ≡ option_map (λ t. (table_kept streams long t).1) (cond b (Some t) (table_kept_at name ts)))
    [ true ↦ refl | false ↦ find_kept streams long name ts ])

pub table_at_kept : (pool : Pool) (tables : List TableDef) (streams : Streams) (name : List ℕ)
    → table_at name (database_kept pool tables streams) ≡ option_map (λ t. (table_kept streams pool.long t).1) (table_kept_at name tables)
table_at_kept pool tables streams name = find_kept streams pool.long name tables
