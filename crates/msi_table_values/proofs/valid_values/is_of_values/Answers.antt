use Rattle.std.proofs.Common.{bytes_eq, rules}
use Rattle.std.proofs.lemmas.Iterator.{YieldsList-from_slice}
use Rattle.std.proofs.lemmas.Iterator.Search.{any_from_yields_List}
use borrow.Author.Tests.{tests}
use Rattle.msi_table_values.proofs.ValidValuesLemmas.{listed_answer}
use Rattle.msi_table_values.proofs.valid_values.is_of_values.Goals as goal

pub returns-in-Some : goal.returns-in-Some
returns-in-Some c =
    listed_answer c.args.column.now.enum_values c.in-Some.listed.now c.args.text.now c.any.result c.in-Some.ensures
    (any_from_yields_List (bytes_eq c.args.text.now) _ _ c.any.result c.any.ensures.ran (YieldsList-from_slice c.in-Some.listed.now c.iter.ensures.rest) (λ x b q k. search (rules, tests)))
