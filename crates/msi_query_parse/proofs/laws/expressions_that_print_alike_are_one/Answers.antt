use Rattle.msi_query_parse.specs.Reading.{condition}
use Rattle.msi_query_parse.specs.Grammar.{SpellsExpression}
use Rattle.msi_query_parse.proofs.Agreed.{one_at_most, expressions_agree}
use Rattle.msi_query_parse.proofs.PrintedLemmas.{expressions_are_read_back}
use Rattle.msi_query_parse.proofs.laws.expressions_that_print_alike_are_one.Goals as goal

pub returns : goal.returns
returns c = λ a b text is_a is_b prints_a prints_b.
    one_at_most condition SpellsExpression expressions_agree text a b (expressions_are_read_back a text is_a prints_a) (expressions_are_read_back b text is_b prints_b)
