use Rattle.std.proofs.Common.{◌∙◌, ap}
use Rattle.std.specs.FinMap.{entries}
use Rattle.msi_transform.proofs.WrittenLemmas.{inserted, table_not_put, table_put}
use Rattle.msi_transform.proofs.written.put_records.Goals as goal
use Rattle.msi_transform.proofs.written.put_records.Goals.{in-Some+in_ok-insert, in_default}

pub returns-clause-ok : goal.returns-clause-ok
returns-clause-ok c =
    let streams = entries c.args.streams.now in
    let name = c.args.name.now in
    elim c.match-table_key.branch [
      | in-Some+in_ok-insert w ↦
          ap entries w.streams-is
          ∙ table_put streams (entries w.insert.new.self) name c.args.records w.in-Some.key c.table_key.result c.table_key.ensures.value w.in-Some.is
          (inserted c.args.streams.now w.insert.new.self w.in-Some.key c.args.records w.in_ok-insert.ensures.ok)
      | in_default w ↦
          ap entries w.streams-is ∙ table_not_put streams name c.args.records c.table_key.result c.table_key.ensures.value w.in_default.is
    ]
