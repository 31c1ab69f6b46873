use Rattle.std.proofs.Common.{◌≡◌, ◌+◌, true, drop, take}
use Rattle.std.specs.List.{list_all}
use Rattle.msi_exchange.specs.Places.{first_wrong}
use Rattle.msi_exchange.specs.Writing.{has_field}
use Rattle.msi_exchange.specs.WrongPlaces.{key_unwritable}
use Rattle.msi_exchange.proofs.writable.check_names.Given as goal

abbrev pub invariant-loop-i : goal.invariant-loop-i
invariant-loop-i l = (list_all has_field (take l.i l.names) ≡ true) × (first_wrong key_unwritable (l.before + 1 + l.i) (drop l.i l.names) ≡ first_wrong key_unwritable (l.before + 1) l.names)
