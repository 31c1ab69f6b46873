use Rattle.std.proofs.Common.{◌∙◌}
use Rattle.msi_categories.proofs.CategoryRulesLemmas.{i16_answer}
use Rattle.msi_categories.proofs.category_rules.is_number_of_16_bits.Goals as goal

pub returns : goal.returns
returns c = c.is_ok.ensures.value ∙ i16_answer c.args.text.now _ c.parse.ensures.value.0
