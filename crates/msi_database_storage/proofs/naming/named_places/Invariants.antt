use Rattle.std.proofs.Common.{◌≡◌}
use Rattle.msi_base.specs.Lists.{tabulated}
use Rattle.msi_database_storage.specs.Naming.{is_named_in}
use Rattle.msi_database_storage.proofs.naming.named_places.Given as goal

abbrev pub invariant-loop-i : goal.invariant-loop-i
invariant-loop-i l = l.named.items ≡ tabulated l.i (is_named_in l.census l.other)
