use Rattle.std.proofs.Common.{true}
use Rattle.msi_database_changes.specs.Texts.{in_use}
use Rattle.msi_database_changes.proofs.row_changes.InsertingLemmas.{added_is}
use Rattle.msi_database_changes.proofs.insert.add_rows.Goals as goal

pub returns-clause-ok : goal.returns-clause-ok
returns-clause-ok c =
    added_is true c.args.columns.now (in_use c.args.pool.now) c.args.rows.items c.args.new_rows.items c.in_ok-cells.cells.items (in_use c.put_rows.new.self)
    c.pool.result.now.places c.append.new.self.items c.sort_by_keys.new.rows.items
    c.in_ok-cells.ensures.ok c.pool.ensures.places c.in_ok-append.ensures.items c.in_ok-sort_by_keys.ensures.ok
