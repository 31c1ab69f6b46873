use Rattle.std.proofs.Common.{◌≡◌, ◌+◌, true, drop, take}
use Rattle.std.specs.List.{list_all}
use Rattle.msi_exchange.specs.Places.{first_wrong}
use Rattle.msi_exchange.specs.Writing.{has_column_fields}
use Rattle.msi_exchange.specs.WrongPlaces.{column_unwritable}
use Rattle.msi_exchange.proofs.writable.check_columns.Given as goal

abbrev pub invariant-loop-i : goal.invariant-loop-i
invariant-loop-i l = (list_all has_column_fields (take l.i l.columns) ≡ true) × (first_wrong column_unwritable (1 + l.i) (drop l.i l.columns) ≡ first_wrong column_unwritable 1 l.columns)
