use Rattle.std.proofs.Common.{◌≤◌, ◌⊎◌, length, zip, arith, inl, inr}
use Rattle.std.proofs.lemmas.Bool.{cases_lt}
use Rattle.msi_table_values.specs.Columns.{types_of}
use Rattle.msi_transform_rows.specs.RowStreams.{told_by_row}
use Rattle.msi_transform_rows.proofs.RowStreamsLemmas.{told_in_turn, told_whole}
use Rattle.msi_transform_rows.proofs.row_streams.told_by_row.Goals as goal

pub loop-i-init : goal.loop-i-init
loop-i-init c = record { whole = told_in_turn (zip (types_of c.args.columns.now) c.args.cells.now) }

pub returns : goal.returns
returns c =
    let past : (length c.args.columns.now ≤ c.loop-i.i) ⊎ (length c.args.cells.now ≤ c.loop-i.i) =
    elim (cases_lt (length c.args.columns.now) (length c.args.cells.now)) [ inl f ↦ inl (omega arith) | inr g ↦ inr (omega arith) ] in
    told_whole c.args.columns.now c.args.cells.now c.loop-i.i c.loop-i.told (told_by_row c.args.columns.now c.args.cells.now) past c.loop-i.invariant.whole
