-- The stream that lies open: it is no table's.
use Rattle.std.proofs.Common.{◌≡◌, ◌≢◌, ℕ, false, List, [], ◌∷◌, map, Option, Some, IfSome, sym, subst}
use Rattle.std.specs.List.{AllByRecursion}
use Rattle.msi_container_format.specs.StreamNames.{is_marked}
use Rattle.msi_database_schema.specs.Keys.{table_key, stream_key}
use Rattle.msi_database_schema.specs.System.{columns_name, tables_name, validation_name}
use Rattle.msi_database.specs.Database.{Database}
use Rattle.msi_database_storage.specs.Kept.{Kept}
use Rattle.msi_database.specs.Others.{IsOther}
use Rattle.msi_database_schema.proofs.KeyLemmas.{unmarked≢table_key, stream_key_unmarked}
use Rattle.msi.specs.Whole.{IsOpen}

apart : (key : List ℕ) (tables : List (List ℕ)) → is_marked key ≡ false → AllByRecursion (λ t. key ≢ table_key t) tables
apart key [] unmarked = tt
apart key (t ∷ ts) unmarked = (λ e. unmarked≢table_key t key unmarked (sym e), apart key ts unmarked)

pub unmarked_is_other : (d : Database) (key : List ℕ) → is_marked key ≡ false → IsOther d key
unmarked_is_other d key unmarked = apart key (validation_name ∷ columns_name ∷ tables_name ∷ map (λ t. t.0) d.tables) unmarked

pub open_is_other : (k : Kept) (name : List ℕ) → IsOpen k name → IsOther k.database name
open_is_other k name is = subst (IsOther k.database) (sym is.named)
    (unmarked_is_other k.database (stream_key is.text) (stream_key_unmarked is.text is.accepted))

pub open_there : (k : Kept) (o : Option (List ℕ)) (name : List ℕ) → o ≡ Some name → IfSome o (IsOpen k) → IsOpen k name
open_there k o name e h = subst (λ (o : Option (List ℕ)). IfSome o (IsOpen k)) e h
