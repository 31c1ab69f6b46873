use Rattle.std.proofs.Common.{◌≡◌, ◌+◌, List, rules, subst, IfOk}
use Rattle.std.proofs.lemmas.List.Elements.{filter_from_retain}
use borrow.Author.Tests.{tests}
use Rattle.msi_base.specs.Lists.{has_pair}
use Rattle.msi_table_values.specs.declared.value.Value.{Value}
use Rattle.msi_database_schema.specs.Schema.{counted, share_key}
use Rattle.msi_database_schema.proofs.OrderlessLemmas.{is_counted}
use Rattle.msi_database_schema.proofs.faults.repeats_counted.Goals as goal

pub returns-clause-ok : goal.returns-clause-ok
returns-clause-ok c =
    let e : c.retain.new.self.items ≡ counted c.args.rows.items = filter_from_retain _ is_counted (λ p x b q k. search (rules, tests)) _ _ _ c.retain.ensures.filtered in
    subst (λ (rows : List (List Value)). IfOk c.has_repeat.result (λ found. found ≡ has_pair (share_key (c.args.place + 1)) rows)) e c.has_repeat.ensures.ok
