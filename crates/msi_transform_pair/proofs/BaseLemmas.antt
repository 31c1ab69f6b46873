-- The names of a database's tables.
use Rattle.std.proofs.Common.{◌≡◌, ℕ, Bool, List, [], ◌∷◌, map, refl, ap}
use Rattle.msi_table.specs.Tables.{TableDef}
use Rattle.msi_database_storage.specs.Kept.{table_kept}
use Rattle.msi_database_storage.specs.Streams.{Streams}

pub names_kept : (streams : Streams) (long : Bool) (tables : List TableDef) → map (λ t. t.name) tables ≡ map (λ t. t.0) (map (table_kept streams long) tables)
names_kept streams long [] = refl
names_kept streams long (t ∷ tables) = ap (λ (names : List (List ℕ)). t.name ∷ names) (names_kept streams long tables)
