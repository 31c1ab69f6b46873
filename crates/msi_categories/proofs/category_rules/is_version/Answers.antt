use Rattle.std.proofs.Common.{arith, rules, is_some}
use Rattle.std.proofs.lemmas.Iterator.Consumers.{count_from_yields_List}
use Rattle.std.proofs.lemmas.Iterator.Splits.{YieldsList-from_str_split}
use Rattle.std.proofs.lemmas.Iterator.Search.{all_from_yields_List}
use borrow.Author.Tests.{tests}
use Rattle.msi_categories.specs.Numerals.{u16_in}
use Rattle.msi_categories.proofs.CategoryRulesLemmas.{version_few, version_many}
use Rattle.msi_categories.proofs.category_rules.is_version.Goals as goal

pub returns-then-count-le-MOST_VERSION_PARTS : goal.returns-then-count-le-MOST_VERSION_PARTS
returns-then-count-le-MOST_VERSION_PARTS c =
    version_few c.args.text.now c.count.result c.all.result
    (count_from_yields_List c.split.result _ c.count.ensures.ran (YieldsList-from_str_split 46 c.args.text.now (omega arith) c.split.ensures.text c.split.ensures.has_more c.split.ensures.pattern))
    c.if-count-le-MOST_VERSION_PARTS.true
    (all_from_yields_List (λ part. is_some (u16_in part)) _ _ c.all.result c.all.ensures.ran
    (YieldsList-from_str_split 46 c.args.text.now (omega arith) c.split-then-count-le-MOST_VERSION_PARTS.ensures.text c.split-then-count-le-MOST_VERSION_PARTS.ensures.has_more c.split-then-count-le-MOST_VERSION_PARTS.ensures.pattern)
    (λ x b q k. search (rules, tests)))

pub returns-else-count-le-MOST_VERSION_PARTS : goal.returns-else-count-le-MOST_VERSION_PARTS
returns-else-count-le-MOST_VERSION_PARTS c =
    version_many c.args.text.now c.count.result
    (count_from_yields_List c.split.result _ c.count.ensures.ran (YieldsList-from_str_split 46 c.args.text.now (omega arith) c.split.ensures.text c.split.ensures.has_more c.split.ensures.pattern))
    c.if-count-le-MOST_VERSION_PARTS.false
