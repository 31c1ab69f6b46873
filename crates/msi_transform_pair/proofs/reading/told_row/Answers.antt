use Rattle.std.proofs.Common.{◌≡◌, ◌∙◌, ℕ, List, Option, ap}
use Rattle.msi_pool.specs.Pool.{Pool}
use Rattle.msi_table_cells.specs.CellValues.{row_values}
use Rattle.msi_table_cells.specs.KeyOrder.{key_of}
use Rattle.msi_database_changes.specs.Views.{seen_row}
use Rattle.msi_transform_pair.specs.Pair.{told_row_with, told_stream}
use Rattle.msi_transform_pair.proofs.reading.told_row.Goals as goal

pub returns-clause-key : goal.returns-clause-key
returns-clause-key c =
    let columns = c.args.columns.now in
    let cells = c.args.cells.now in
    let seen : seen_row c.as_slice.result.now ≡ row_values c.args.base.now.kept.database.pool.places cells =
    ap seen_row c.as_slice.ensures.value ∙ c.in_ok-views.ensures.ok ∙ ap (λ (p : Pool). row_values p.places cells) c.pool.ensures in
    c.in_ok-key.ensures.ok ∙ ap (key_of columns) seen

pub returns-clause-row : goal.returns-clause-row
returns-clause-row c =
    let columns = c.args.columns.now in
    let cells = c.args.cells.now in
    let values = row_values c.args.base.now.kept.database.pool.places cells in
    let told = told_stream c.args.base.now.kept c.args.table.now columns in
    let seen : seen_row c.as_slice.result.now ≡ values =
    ap seen_row c.as_slice.ensures.value ∙ c.in_ok-views.ensures.ok ∙ ap (λ (p : Pool). row_values p.places cells) c.pool.ensures in
    let again : seen_row c.as_slice-2.result.now ≡ values =
    ap seen_row c.as_slice-2.ensures.value ∙ c.in_ok-views.ensures.ok ∙ ap (λ (p : Pool). row_values p.places cells) c.pool.ensures in
    c.in_ok-row.ensures.ok
    ∙ ap (λ (s : Option (List ℕ)). told_row_with s columns c.args.added (seen_row c.as_slice-2.result.now)) (c.in_ok-stream.ensures.ok ∙ ap told (c.in_ok-key.ensures.ok ∙ ap (key_of columns) seen))
    ∙ ap (told_row_with (told (key_of columns values)) columns c.args.added) again
