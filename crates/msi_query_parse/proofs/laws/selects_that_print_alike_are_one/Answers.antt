use Rattle.msi_query_parse.specs.Reading.{query}
use Rattle.msi_query_parse.specs.Grammar.{SpellsSelect}
use Rattle.msi_query_parse.proofs.Agreed.{one_at_most, selects_agree}
use Rattle.msi_query_parse.proofs.PrintedQueryLemmas.{selects_are_read_back}
use Rattle.msi_query_parse.proofs.laws.selects_that_print_alike_are_one.Goals as goal

pub returns : goal.returns
returns c = λ a b text is_a is_b prints_a prints_b.
    one_at_most (query 201) SpellsSelect selects_agree text a b (selects_are_read_back a text is_a prints_a) (selects_are_read_back b text is_b prints_b)
