-- The numbers of a vector of one of two widths.
use Rattle.std.specs.Prelude.{ℕ, List}
use Rattle.msi_pool_places.specs.declared.numbers.Vector.{Vector}
use Rattle.msi_pool_places.specs.declared.numbers.Vector.TheVariants.{Narrow, Wide}

-- whichever it is
abbrev pub numbers_of : Vector → List ℕ
numbers_of (Narrow numbers) = numbers.items
numbers_of (Wide numbers) = numbers.items
