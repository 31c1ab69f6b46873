use Rattle.std.proofs.Common.{ℕ, List, map, take}
use Rattle.std.specs.FinMap.{entries}
use Rattle.std.specs.Prelude.{All}
use Rattle.msi_container_view.specs.Reading.{Tells}
use Rattle.msi_database_schema.specs.Keys.{table_key as key_of}
use Rattle.msi_view.specs.Looking.{AreStreamsOf, IsLoaded, ReadsStreams, root_in}
use Rattle.msi_view.proofs.loading.load_sides.Given as goal

abbrev pub invariant-loop-side : goal.invariant-loop-side
invariant-loop-side g l = record {
  reads : ReadsStreams l.fn.container l.container (map (λ side. key_of side.table) (take l.side-index l.sides));
  streams : (file : List ℕ) → Tells l.fn.container.held file
      → AreStreamsOf (root_in file l.fn.container) (entries l.fn.streams) → AreStreamsOf (root_in file l.fn.container) (entries l.streams);
  loaded : (file : List ℕ) → Tells l.fn.container.held file
      → AreStreamsOf (root_in file l.fn.container) (entries l.fn.streams)
      → All (λ side. IsLoaded (root_in file l.fn.container) (entries l.streams) (key_of side.table)) (take l.side-index l.sides);
  others : (file : List ℕ) → Tells l.fn.container.held file → (other : List ℕ)
      → IsLoaded (root_in file l.fn.container) (entries l.fn.streams) other → IsLoaded (root_in file l.fn.container) (entries l.streams) other;
}
