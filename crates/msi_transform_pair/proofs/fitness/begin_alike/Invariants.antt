use Rattle.std.proofs.Common.{◌≡◌, drop}
use Rattle.msi_transform_pair.specs.Pair.{begin_alike}
use Rattle.msi_transform_pair.proofs.fitness.begin_alike.Given as goal

abbrev pub invariant-loop-i : goal.invariant-loop-i
invariant-loop-i l = record { same : begin_alike (drop l.i l.rows) (drop l.i l.others) ≡ begin_alike l.rows l.others }
