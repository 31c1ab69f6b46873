use Rattle.std.proofs.Common.{◌++◌, List, map}
use Rattle.msi_base.specs.Refusals.{Refusals}
use Rattle.msi_database_changes.specs.Insert.{count_refusals, misfit_refusals, name_refusals, whole_row}
use Rattle.msi_database_changes.proofs.row_changes.NamedRowLemmas.{passed_in_turn, refused_in_turn}
use Rattle.msi_database_changes.proofs.naming.refuse_named_rows.Goals as goal

pub returns-in_err-refuse_names : goal.returns-in_err-refuse_names
returns-in_err-refuse_names c =
    let columns = c.args.columns.now in
    let names = c.args.names.now in
    let rows = c.args.rows.now in
    refused_in_turn (name_refusals columns names) (count_refusals names rows ++ misfit_refusals columns (map (whole_row columns names) rows))
    c.from_residual.result c.refuse_names.result c.in_err-refuse_names.field-0.0 c.refuse_names.ensures c.in_err-refuse_names.was c.from_residual.ensures.1

pub returns-in_err-refuse_counts : goal.returns-in_err-refuse_counts
returns-in_err-refuse_counts c =
    let columns = c.args.columns.now in
    let names = c.args.names.now in
    let rows = c.args.rows.now in
    let misfits : Refusals = misfit_refusals columns (map (whole_row columns names) rows) in
    passed_in_turn (name_refusals columns names) (count_refusals names rows ++ misfits)
    c.from_residual-in_err-refuse_counts.result c.refuse_names.result c.in_ok-refuse_names.field-0 c.refuse_names.ensures c.in_ok-refuse_names.was
    (refused_in_turn (count_refusals names rows) misfits
    c.from_residual-in_err-refuse_counts.result c.refuse_counts.result c.in_err-refuse_counts.field-0.0 c.refuse_counts.ensures c.in_err-refuse_counts.was
    c.from_residual-in_err-refuse_counts.ensures.1)

pub returns : goal.returns
returns c =
    let columns = c.args.columns.now in
    let names = c.args.names.now in
    let rows = c.args.rows.now in
    let misfits : Refusals = misfit_refusals columns (map (whole_row columns names) rows) in
    passed_in_turn (name_refusals columns names) (count_refusals names rows ++ misfits)
    c.refuse_named_misfits.result c.refuse_names.result c.in_ok-refuse_names.field-0 c.refuse_names.ensures c.in_ok-refuse_names.was
    (passed_in_turn (count_refusals names rows) misfits
    c.refuse_named_misfits.result c.refuse_counts.result c.in_ok-refuse_counts.field-0 c.refuse_counts.ensures c.in_ok-refuse_counts.was
    c.refuse_named_misfits.ensures)
