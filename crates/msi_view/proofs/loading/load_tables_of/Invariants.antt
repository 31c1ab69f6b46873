use Rattle.std.proofs.Common.{ℕ, List, map, take}
use Rattle.std.specs.FinMap.{entries}
use Rattle.std.specs.Prelude.{All}
use Rattle.msi_container_view.specs.Reading.{Tells}
use Rattle.msi_database_schema.specs.Keys.{table_key as key_of}
use Rattle.msi_view.specs.Looking.{AreStreamsOf, IsLoaded, ReadsStreams, root_in}
use Rattle.msi_view.proofs.loading.load_tables_of.Given as goal

abbrev pub invariant-loop-table : goal.invariant-loop-table
invariant-loop-table g l = record {
  reads : ReadsStreams l.fn.container l.container (map (λ table. key_of table.name) (take l.table-index l.tables));
  streams : (file : List ℕ) → Tells l.fn.container.held file
      → AreStreamsOf (root_in file l.fn.container) (entries l.fn.streams) → AreStreamsOf (root_in file l.fn.container) (entries l.streams);
  loaded : (file : List ℕ) → Tells l.fn.container.held file
      → AreStreamsOf (root_in file l.fn.container) (entries l.fn.streams)
      → All (λ table. IsLoaded (root_in file l.fn.container) (entries l.streams) (key_of table.name)) (take l.table-index l.tables);
  others : (file : List ℕ) → Tells l.fn.container.held file → (other : List ℕ)
      → IsLoaded (root_in file l.fn.container) (entries l.fn.streams) other → IsLoaded (root_in file l.fn.container) (entries l.streams) other;
}
