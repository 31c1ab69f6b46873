-- Whole tables of a kept database.
use Rattle.std.proofs.Common.{◌≡◌, ℕ, Bool, true, false, List, [], ◌∷◌, Option, Some, None, Result, Ok, Err, refl, sym, ap, subst, ◌∙◌, cond, option_map}
use Rattle.std.specs.Prelude.{bytes_eq, IfErr, IsErrAnd}
use Rattle.std.specs.List.{AllByRecursion}
use Rattle.std.specs.FinMap.{find}
use Rattle.std.specs.Ordering.{eq_by_cmp}
use Rattle.msi_base.specs.declared.errors.ErrorKind.{ErrorKind}
use Rattle.msi_base.specs.declared.errors.ErrorKind.TheVariants.{InvalidData, NotFound}
use Rattle.msi_pool.specs.Pool.{Pool}
use Rattle.msi_base.specs.Lists.{list_cmp}
use Rattle.msi_table_cells.specs.declared.cell.ValueRef.{ValueRef}
use Rattle.msi_table_values.specs.Columns.{ColumnDef}
use Rattle.msi_table.specs.Tables.{TableDef}
use Rattle.msi_base.specs.Refusals.{or_refused, ◌>>=◌}
use Rattle.msi_table_cells.specs.TableCells.{TableCells}
use Rattle.msi_table.specs.Rows.{TableRows, table_rows}
use Rattle.msi_query.specs.Rows.{RelationCells, cells_of, whole_table}
use Rattle.msi_database_changes.specs.Database.{table_at, Tables}
use Rattle.msi_database_storage.specs.Streams.{Streams, stored_rows}
use Rattle.msi_database_storage.specs.Kept.{table_kept, table_kept_at, database_kept, AreAsLong}
use Rattle.msi_database_storage.proofs.TableAtLemmas.{table_at_kept}

abbrev pub relation_at : List ℕ → List ColumnDef → List (List ValueRef) → RelationCells
relation_at name columns rows = record { name = name; columns = columns; rows = rows }

-- the rows of a table that was found, as its own columns read them
pub rows_found : (streams : Streams) (long : Bool) (name : List ℕ) (tables : List TableDef) (t : TableDef) → AreAsLong long tables → table_kept_at name tables ≡ Some t
    → stored_rows streams long t.columns t.name ≡ stored_rows streams t.long t.columns t.name
rows_found streams long name [] t all e = cc
rows_found streams long name (u ∷ us) t all e =
    elim (bytes_eq name u.name) as (λ b. cond b (Some u) (table_kept_at name us) ≡ Some t → stored_rows streams long t.columns t.name ≡ stored_rows streams t.long t.columns t.name) [
      | true ↦ λ is. let same : u ≡ t = cc in subst (λ (t : TableDef). stored_rows streams long t.columns t.name ≡ stored_rows streams t.long t.columns t.name) same
          (ap (λ wide. stored_rows streams wide u.columns u.name) (sym all.0))
      | false ↦ λ is. rows_found streams long name us t all.1 is
    ] e

-- a whole table is that of its rows
pub whole_kept : (pool : Pool) (tables : List TableDef) (streams : Streams) (name : List ℕ) (t : TableDef) → AreAsLong pool.long tables → table_kept_at name tables ≡ Some t
    → whole_table (λ q. table_at q (database_kept pool tables streams)) name
    ≡ (or_refused InvalidData (stored_rows streams t.long t.columns t.name) >>= λ rows. Ok (relation_at name t.columns rows))
whole_kept pool tables streams name t all e =
    ap (λ (o : Option TableCells). or_refused NotFound o >>= λ t. or_refused InvalidData t.rows >>= λ rows. Ok (relation_at name t.columns rows))
    (table_at_kept pool tables streams name ∙ ap (option_map (λ t. (table_kept streams pool.long t).1)) e)
    ∙ ap (λ (o : Option (List (List ValueRef))). or_refused InvalidData o >>= λ rows. Ok (relation_at name t.columns rows)) (rows_found streams pool.long name tables t all e)

pub whole_none : (pool : Pool) (tables : List TableDef) (streams : Streams) (name : List ℕ) → table_kept_at name tables ≡ None
    → whole_table (λ q. table_at q (database_kept pool tables streams)) name ≡ Err NotFound
whole_none pool tables streams name e =
    ap (λ (o : Option TableCells). or_refused NotFound o >>= λ t. or_refused InvalidData t.rows >>= λ rows. Ok (relation_at name t.columns rows))
    (table_at_kept pool tables streams name ∙ ap (option_map (λ t. (table_kept streams pool.long t).1)) e)

in_place : (name : List ℕ) (columns : List ColumnDef) (o : Option (List (List ValueRef))) (stored : TableRows) → option_map (table_rows columns) o ≡ Some stored
    → (or_refused InvalidData o >>= λ rows. Ok (relation_at name columns rows)) ≡ Ok (cells_of name stored)
in_place name columns None stored e = cc
in_place name columns (Some rows) stored e = let same : table_rows columns rows ≡ stored = cc in ap (λ t. Ok (cells_of name t)) same

not_in_place : (name : List ℕ) (columns : List ColumnDef) (o : Option (List (List ValueRef))) → option_map (table_rows columns) o ≡ None
    → (or_refused InvalidData o >>= λ rows. Ok (relation_at name columns rows)) ≡ Err InvalidData
not_in_place name columns None e = refl
not_in_place name columns (Some rows) e = cc

-- where its rows stand
pub whole_in_place : (pool : Pool) (tables : List TableDef) (streams : Streams) (name : List ℕ) (t : TableDef) (stored : TableRows) → AreAsLong pool.long tables → table_kept_at name tables ≡ Some t
    → option_map (table_rows t.columns) (stored_rows streams t.long t.columns t.name) ≡ Some stored
    → whole_table (λ q. table_at q (database_kept pool tables streams)) name ≡ Ok (cells_of name stored)
whole_in_place pool tables streams name t stored all e is =
    whole_kept pool tables streams name t all e ∙ in_place name t.columns (stored_rows streams t.long t.columns t.name) stored is

-- and one that can't be read is refused
pub whole_refused : (pool : Pool) (tables : List TableDef) (streams : Streams) (name : List ℕ) (t : TableDef) → AreAsLong pool.long tables → table_kept_at name tables ≡ Some t
    → option_map (table_rows t.columns) (stored_rows streams t.long t.columns t.name) ≡ None
    → whole_table (λ q. table_at q (database_kept pool tables streams)) name ≡ Err InvalidData
whole_refused pool tables streams name t all e is =
    whole_kept pool tables streams name t all e ∙ not_in_place name t.columns (stored_rows streams t.long t.columns t.name) is

-- an error that is passed on
pub kind_passed : {A : Type 0} (P : ErrorKind → Type 0) (r : Result A ErrorKind) (kind : ErrorKind) → IsErrAnd r (λ e. e ≡ kind) → P kind → IfErr r P
kind_passed P (Ok x) kind d p = tt
kind_passed P (Err l) kind d p = subst P (sym d) p

pub found_holds : (P : TableCells → Type 0) (name : List ℕ) (tables : Tables) (t : TableCells) → AllByRecursion (λ e. P e.1) tables → find list_cmp name tables ≡ Some t → P t
found_holds P name [] t all e = cc
found_holds P name (u ∷ us) t all e =
    elim (eq_by_cmp list_cmp name u.0) as (λ b. cond b (Some u.1) (find list_cmp name us) ≡ Some t → P t) [
      | true ↦ λ is. let same : u.1 ≡ t = cc in subst P same all.0
      | false ↦ λ is. found_holds P name us t all.1 is
    ] e
