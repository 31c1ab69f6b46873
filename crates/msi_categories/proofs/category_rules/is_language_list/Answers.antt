use Rattle.std.proofs.Common.{arith, rules, is_some}
use Rattle.std.proofs.lemmas.Iterator.Splits.{YieldsList-from_str_split}
use Rattle.std.proofs.lemmas.Iterator.Search.{all_from_yields_List}
use borrow.Author.Tests.{tests}
use Rattle.msi_categories.specs.Numerals.{u16_in}
use Rattle.msi_categories.proofs.category_rules.is_language_list.Goals as goal

pub returns : goal.returns
returns c =
    all_from_yields_List (λ part. is_some (u16_in part)) _ _ _ c.all.ensures.ran
    (YieldsList-from_str_split 44 c.args.text.now (omega arith) c.split.ensures.text c.split.ensures.has_more c.split.ensures.pattern) (λ x b q k. search (rules, tests))
