use Rattle.std.proofs.Common.{◌≡◌, ◌+◌, drop}
use Rattle.msi_exchange.specs.Places.{first_wrong_pair}
use Rattle.msi_exchange.specs.Writing.{has_row_fields}
use Rattle.msi_exchange.specs.WrongPlaces.{value_unwritable}
use Rattle.msi_exchange.proofs.writable.check_values.Given as goal

abbrev pub invariant-loop-i : goal.invariant-loop-i
invariant-loop-i l = (has_row_fields (drop l.i l.columns) (drop l.i l.row) ≡ has_row_fields l.columns l.row)
    × (first_wrong_pair (value_unwritable l.line) (1 + l.i) (drop l.i l.columns) (drop l.i l.row) ≡ first_wrong_pair (value_unwritable l.line) 1 l.columns l.row)
