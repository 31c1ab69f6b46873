use Rattle.std.proofs.Common.{◌∙◌}
use Rattle.msi_categories.proofs.CategoryRulesLemmas.{u16_answer}
use Rattle.msi_categories.proofs.category_rules.is_unsigned_number.Goals as goal

pub returns : goal.returns
returns c = c.is_ok.ensures.value ∙ u16_answer c.args.text.now _ c.parse.ensures.value.0
