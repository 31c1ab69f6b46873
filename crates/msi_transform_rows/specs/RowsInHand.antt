-- The rows of a table that are in hand, as definitions see them.
use Rattle.std.specs.Prelude.{List, ◌++◌}
use Rattle.std.specs.FinMap.{entries}
use Rattle.msi_table_values.specs.declared.value.Value.{Value}
use Rattle.msi_database_changes.specs.Texts.{in_use}
use Rattle.msi_database_changes.specs.declared.storing.Stored.{Stored}
use Rattle.msi_transform_rows.specs.RowChanges.{RowsInHand, with_row_at}
use Rattle.msi_transform_rows.specs.declared.row.RowInHand.{RowInHand}
use Rattle.msi_transform_rows.specs.declared.rows_in_hand.RowsInHand.{RowsInHand as Held}

abbrev pub hand : Held → RowsInHand
hand h = record { rows = entries h.rows; pool = in_use h.pool; streams = h.streams.items }

abbrev pub with_stored : List Stored → RowsInHand → RowsInHand
with_stored stored s = record { rows = s.rows; pool = s.pool; streams = s.streams ++ stored }

abbrev pub with_put : List Value → RowInHand → List Stored → RowsInHand → RowsInHand
with_put key row stored s =
    record { rows = with_row_at key row s.rows; pool = s.pool; streams = s.streams ++ stored }
