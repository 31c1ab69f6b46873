use Rattle.std.proofs.Common.{rules, tests, lit<}
use Rattle.std.proofs.lemmas.Iterator.{items_from_collect}
use Rattle.std.proofs.lemmas.Iterator.Consumers.{YieldsList-from_filter_map, YieldsList-at}
use Rattle.std.proofs.lemmas.Iterator.Splits.{YieldsList-from_str_split}
use Rattle.msi_categories.specs.Numerals.{u16_in}
use Rattle.msi_summary.proofs.summary.template.languages_in.Goals as goal

pub returns-clause-ok : goal.returns-clause-ok
returns-clause-ok c =
    let parts = YieldsList-from_str_split 44 c.args.text.now (lit< tt) c.split.ensures.text c.split.ensures.has_more c.split.ensures.pattern in
    let found = items_from_collect c.collect.result c.collect.ensures.ran (YieldsList-from_filter_map _ u16_in (YieldsList-at c.filter_map.ensures.source parts) c.filter_map.ensures.closure (λ x r q k. search (rules, tests))) in
    rw c.in_ok-collect.was at found
