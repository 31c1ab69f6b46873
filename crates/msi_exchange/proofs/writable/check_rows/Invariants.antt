use Rattle.std.proofs.Common.{◌≡◌, ◌+◌, true, drop, take}
use Rattle.std.specs.List.{list_all}
use Rattle.msi_exchange.specs.Places.{first_wrong}
use Rattle.msi_exchange.specs.Writing.{has_row_line}
use Rattle.msi_exchange.specs.WrongPlaces.{row_unwritable}
use Rattle.msi_exchange.proofs.writable.check_rows.Given as goal

abbrev pub invariant-loop-i : goal.invariant-loop-i
invariant-loop-i l = (list_all (has_row_line l.columns) (take l.i l.rows) ≡ true) × (first_wrong (row_unwritable l.columns) (4 + l.i) (drop l.i l.rows) ≡ first_wrong (row_unwritable l.columns) 4 l.rows)
