use Rattle.std.proofs.Common.{map}
use Rattle.msi_transform_rows.specs.RowStreams.{type_in}
use Rattle.msi_transform_rows.proofs.RowStreamsLemmas.{told_in_turn}
use Rattle.msi_transform_rows.proofs.row_streams.told_by_changes.Goals as goal

pub loop-place-init : goal.loop-place-init
loop-place-init c = record { whole = told_in_turn (map (λ e. (type_in c.args.columns.now e.0, e.1)) c.args.changes.now) }
