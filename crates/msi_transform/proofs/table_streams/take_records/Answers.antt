use Rattle.std.proofs.Common.{◌∙◌, List, ap}
use Rattle.std.proofs.lemmas.Result.{IfOk-weaker, on_ok_weaker}
use Rattle.std.specs.FinMap.{entries, entries_sorted}
use Rattle.msi_transform.specs.TableStreams.{records_taken, without_tables}
use Rattle.msi_transform.specs.declared.table_streams.TableStream.{TableStream}
use Rattle.msi_transform.proofs.TableStreamsLemmas.{left_are_others, taken_are_records}
use Rattle.msi_transform.proofs.table_streams.take_records.Goals as goal

pub returns-clause-tables : goal.returns-clause-tables
returns-clause-tables c =
    let streams = entries c.args.streams.now in
    let sorted = entries_sorted c.args.streams.now in
    IfOk-weaker c.take_each.result _ _ (λ tables is. is
    ∙ ap (λ (found : List TableStream). records_taken found streams) c.in_ok-found.ensures.ok ∙ taken_are_records streams sorted)
    c.take_each.ensures.tables

pub returns-clause-streams : goal.returns-clause-streams
returns-clause-streams c =
    let streams = entries c.args.streams.now in
    let sorted = entries_sorted c.args.streams.now in
    on_ok_weaker c.take_each.result (λ is. is
    ∙ ap (λ (found : List TableStream). without_tables found streams) c.in_ok-found.ensures.ok ∙ left_are_others streams sorted)
    c.take_each.ensures.streams
