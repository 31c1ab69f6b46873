use Rattle.std.proofs.Common.{◌≡◌, ◌-◌, length, ap, sym, ◌∙◌, arith}
use Rattle.msi_table_cells.specs.CellValues.{row_values}
use Rattle.msi_query_expressions.specs.Conditions.{meets}
use Rattle.msi_query.specs.Rows.{rows_values}
use Rattle.msi_query.specs.Selection.{pairs_of}
use Rattle.msi_query.proofs.SelectionLemmas.{nulls_added, pairs_counted, pairs_stay}
use Rattle.msi_query_rows.proofs.joins.add_row.Goals as goal
use Rattle.msi_query_rows.proofs.joins.add_row.Goals.{then-keeps_alone+in_ok-with_nulls+in_ok-push, else-keeps_alone}

pub returns-clause-ok : goal.returns-clause-ok
returns-clause-ok c =
    let places = c.args.pool.now.places in
    let join = c.args.join.now in
    let old = c.args.rows.now.items in
    let mid = c.add_pairs.new.rows.items in
    let pairs = pairs_of (meets join.filter.now.columns join.filter.now.condition) (rows_values places c.args.right.now) (row_values places c.args.row.now) in
    let counted : c.len.result - c.len-before.result ≡ length pairs =
    omega (arith, c.len.ensures, c.len-before.ensures, pairs_counted places old mid pairs c.in_ok-add_pairs.ensures.ok) in
    elim c.if-keeps_alone.branch [
      | then-keeps_alone+in_ok-with_nulls+in_ok-push w ↦
          nulls_added join.kind places old mid c.if-keeps_alone.rows.items c.args.row.now w.in_ok-with_nulls.field-0 join.width _ pairs
          (sym c.keeps_alone.ensures ∙ w.if-keeps_alone.true) counted
          c.in_ok-add_pairs.ensures.ok w.in_ok-with_nulls.ensures.ok (ap (λ v. v.items) w.rows-is ∙ w.in_ok-push.ensures.items)
      | else-keeps_alone w ↦ rw w.rows-is (pairs_stay join.kind places old mid c.args.row.now join.width _ pairs
          (sym c.keeps_alone.ensures ∙ w.if-keeps_alone.false) counted c.in_ok-add_pairs.ensures.ok)
    ]
