use Rattle.std.proofs.Common.{◌≡◌, ap, ◌∙◌, [], is_some, List, Some, true}
use Rattle.std.proofs.lemmas.Result.{IfOk-weaker}
use Rattle.msi_table_cells.specs.declared.cell.ValueRef.{ValueRef}
use Rattle.msi_database_changes.specs.Insert.{cells_added}
use Rattle.msi_database_changes.specs.Texts.{in_use}
use Rattle.msi_database.proofs.FreshCallLemmas.{first_added, only_memory, still_some, taken_alike}
use Rattle.msi_database.proofs.fresh.first_cells.Goals as goal

pub returns-clause-ok : goal.returns-clause-ok
returns-clause-ok c =
    IfOk-weaker c.add_rows.result (λ all. cells_added true c.args.columns.now (in_use c.args.pool.now) [] c.args.rows.items ≡ Some (all.items, in_use c.add_rows.new.pool)) _
    (λ all e. taken_alike c.args.pool.now.pool.long c.args.columns.now (in_use c.args.pool.now) [] c.args.rows.items c.requires (all.items, in_use c.add_rows.new.pool) e)
    (first_added (λ all. all.items) c.add_rows.result true c.args.columns.now (in_use c.args.pool.now) _ c.new.result.items c.args.rows.items c.new.ensures.items c.add_rows.ensures.ok)

pub returns-clause-kind : goal.returns-clause-kind
returns-clause-kind c = only_memory c.add_rows.result _
    (still_some c.args.pool.now.pool.long c.args.columns.now (in_use c.args.pool.now) c.new.result.items c.args.rows.items
    (ap (λ (rows : List (List ValueRef)). is_some (cells_added c.args.pool.now.pool.long c.args.columns.now (in_use c.args.pool.now) rows c.args.rows.items)) c.new.ensures.items ∙ c.requires)) c.add_rows.ensures.kind
