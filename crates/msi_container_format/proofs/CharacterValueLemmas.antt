-- Which characters have values.
use Rattle.std.proofs.Common.{◌≡◌, ◌<◌, ℕ, Some, arith}
use Rattle.std.proofs.lemmas.Bool.Decides.{nat_tests}
use Rattle.msi_container_format.specs.StreamNames.{value_of, character_with}

-- a value is below 64, and its character has it alone
pub value_below : (c v : ℕ) → value_of c ≡ Some v → v < 64
value_below c v e = grind (arith, nat_tests)

pub value_tells : (c v : ℕ) → value_of c ≡ Some v → character_with v ≡ c
value_tells c v e = grind (arith, nat_tests)
