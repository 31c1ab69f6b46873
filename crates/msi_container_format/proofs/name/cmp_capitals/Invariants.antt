-- What is compared already is equal.
use Rattle.std.proofs.Common.{◌≡◌, drop}
use Rattle.std.specs.Cmp.Lexicographic.{slice_cmp}
use Rattle.std.specs.Ordering.{nat_cmp}
use Rattle.msi_container_format.specs.Names.{capitals}
use Rattle.msi_container_format.proofs.name.cmp_capitals.Given as goal

abbrev pub invariant-loop-i : goal.invariant-loop-i
invariant-loop-i l =
    slice_cmp nat_cmp (capitals l.a) (capitals l.b) ≡ slice_cmp nat_cmp (capitals (drop l.i l.a)) (capitals (drop l.i l.b))
