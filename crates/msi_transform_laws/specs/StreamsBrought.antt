-- The streams of a transform that is made: each record that has a stream finds it under the name of its row's stream.
use Rattle.std.specs.Prelude.{◌≡◌, ℕ, List, Some, Ok}
use Rattle.std.specs.List.{AllByRecursion}
use Rattle.msi_transform.specs.Transforms.{TransformDef}
use Rattle.msi_transform_rows.specs.RowStreams.{brought}
use Rattle.msi_transform_making.specs.Making.{Pair, ToldRecord, made, told_names, told_tables}
use Rattle.msi_transform_laws.specs.CarriedOut.{IsTellable}

-- the transform has a record's stream for the row of its key
abbrev pub HasItsStream : TransformDef → List ℕ → ToldRecord → Type 0
HasItsStream t table r = (bytes : List ℕ) → r.stream ≡ Some bytes → brought t table r.key ≡ Some bytes

-- so it is of a transform that is made
abbrev pub MadeStreamsAreBrought : Type 0
MadeStreamsAreBrought = (p : Pair) (t : TransformDef) → made p ≡ Ok t
    → AllByRecursion (IsTellable p.old p.new) (told_names p.new)
    → AllByRecursion (λ table. AllByRecursion (HasItsStream t table.name) table.records) (told_tables p.old p.new)
