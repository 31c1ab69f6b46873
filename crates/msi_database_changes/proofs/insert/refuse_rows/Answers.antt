use Rattle.std.proofs.Common.{◌+◌, List, length, map, not, subst, sym, arith}
use Rattle.msi_base.specs.declared.errors.ErrorKind.{ErrorKind}
use Rattle.msi_base.specs.declared.errors.ErrorKind.TheVariants.{InvalidInput}
use Rattle.msi_pool.specs.Pool.{Place}
use Rattle.msi_base.specs.Refusals.{Refusals, IsRefusal, unless_refused}
use Rattle.msi_table_values.specs.declared.value.Value.{Value}
use Rattle.msi_table_cells.specs.declared.cell.ValueRef.{ValueRef}
use Rattle.msi_table_values.specs.Columns.{ColumnDef}
use Rattle.msi_base.proofs.RefusalLemmas.{err_passed}
use Rattle.msi_database_changes.specs.Insert.{keys_of, row_fits, row_refusals, table_with}
use Rattle.msi_table_cells.specs.KeyOrder.{key_of}
use Rattle.msi_database_changes.specs.KeySets.{clash_refusals}
use Rattle.msi_database_changes.proofs.row_changes.InsertingLemmas.{length_refusals, too_long, short_enough, refused_in_front, passed, refused_behind, none_refuses}
use Rattle.msi_database_changes.proofs.steps.RefusedLemmas.{refused_between}
use Rattle.msi_database_changes.proofs.insert.refuse_rows.Goals as goal

abbrev misfits : List ColumnDef → List (List Value) → Refusals
misfits columns new = map (λ row. (not (row_fits columns row), InvalidInput)) new

abbrev clashes : List Place → List ColumnDef → List (List ValueRef) → List (List Value) → Refusals
clashes places columns rows new = clash_refusals (keys_of places (table_with columns rows)) (map (key_of columns) new)

pub returns-in_err-refuse_misfits-clause-kind : goal.returns-in_err-refuse_misfits-clause-kind
returns-in_err-refuse_misfits-clause-kind c =
    let columns = c.args.columns.now in
    let rows = c.args.rows.now in
    let new = c.args.new_rows.now in
    err_passed c.from_residual.result c.in_err-refuse_misfits.field-0.0 _ c.from_residual.ensures.1
    (refused_in_front (misfits columns new) (clashes c.args.pool.now.places columns rows new) (length_refusals (length rows + length new)) tt c.in_err-refuse_misfits.field-0.0
    c.refuse_misfits.result c.refuse_misfits.ensures c.in_err-refuse_misfits.was)

pub returns-in_err-refuse_clashes-clause-kind : goal.returns-in_err-refuse_clashes-clause-kind
returns-in_err-refuse_clashes-clause-kind c =
    let columns = c.args.columns.now in
    let rows = c.args.rows.now in
    let new = c.args.new_rows.now in
    err_passed c.from_residual-in_err-refuse_clashes.result c.in_err-refuse_clashes.field-0.0 _ c.from_residual-in_err-refuse_clashes.ensures.1
    (refused_between (misfits columns new) (clashes c.args.pool.now.places columns rows new) (length_refusals (length rows + length new)) tt c.in_err-refuse_clashes.field-0.0
    (passed (misfits columns new) tt c.in_ok-refuse_misfits.field-0 c.refuse_misfits.result c.refuse_misfits.ensures c.in_ok-refuse_misfits.was)
    c.in_err-refuse_clashes.ensures.kind)

pub returns-then-saturating_add-gt-MAX_ROWS-clause-kind : goal.returns-then-saturating_add-gt-MAX_ROWS-clause-kind
returns-then-saturating_add-gt-MAX_ROWS-clause-kind c =
    let columns = c.args.columns.now in
    let rows = c.args.rows.now in
    let new = c.args.new_rows.now in
    let whole : Refusals = row_refusals c.args.pool.now.places (table_with columns rows) new in
    subst (λ (k : ErrorKind). IsRefusal {A = Unit {0}} (unless_refused whole tt) k) (sym c.new.ensures)
    (refused_behind (misfits columns new) (clashes c.args.pool.now.places columns rows new) (length_refusals (length rows + length new)) tt InvalidInput
    (passed (misfits columns new) tt c.in_ok-refuse_misfits.field-0 c.refuse_misfits.result c.refuse_misfits.ensures c.in_ok-refuse_misfits.was)
    c.in_ok-refuse_clashes.ensures.ok
    (too_long (length rows + length new) (omega (arith, c.saturating_add.ensures, c.if-saturating_add-gt-MAX_ROWS.true))))

pub returns-clause-ok : goal.returns-clause-ok
returns-clause-ok c =
    let columns = c.args.columns.now in
    let rows = c.args.rows.now in
    let new = c.args.new_rows.now in
    none_refuses (misfits columns new) (clashes c.args.pool.now.places columns rows new) (length_refusals (length rows + length new))
    (passed (misfits columns new) tt c.in_ok-refuse_misfits.field-0 c.refuse_misfits.result c.refuse_misfits.ensures c.in_ok-refuse_misfits.was)
    c.in_ok-refuse_clashes.ensures.ok
    (short_enough (length rows + length new) (omega (arith, c.saturating_add.ensures, c.if-saturating_add-gt-MAX_ROWS.false)))
