use Rattle.std.proofs.Common.{sym, ap, ◌++◌, ◌∷◌, [], ◌∙◌}
use Rattle.msi_table.proofs.PlacesLemmas.{tabulated_more}
use Rattle.msi_table_cells.specs.Fitting.{cell_of}
use Rattle.msi_transform_records.proofs.row_cells.added_cells.Goals as goal

pub loop-i-preserved : goal.loop-i-preserved
loop-i-preserved c =
    let cell = cell_of c.as_slice-cells.result.now c.loop-i.i in
    c.in_ok-push.ensures.items ∙ ap (λ x. c.loop-i.row.items ++ x ∷ []) c.cell_in_row.ensures ∙ ap (λ row. row ++ cell ∷ []) c.loop-i.invariant
    ∙ sym (tabulated_more c.loop-i.i (cell_of c.as_slice-cells.result.now))
