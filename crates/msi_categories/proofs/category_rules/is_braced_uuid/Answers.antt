use Rattle.std.proofs.Common.{◌∙◌}
use Rattle.msi_categories.proofs.CategoryRulesLemmas.{braced_answer}
use Rattle.msi_categories.proofs.category_rules.is_braced_uuid.Goals as goal

pub returns-then-text-eq-BRACED_UUID_LEN : goal.returns-then-text-eq-BRACED_UUID_LEN
returns-then-text-eq-BRACED_UUID_LEN c =
    c.is_ok.ensures.value ∙ braced_answer c.args.text.now c.parse_str.result c.if-text-eq-BRACED_UUID_LEN.true c.parse_str.ensures.ok.0 c.parse_str.ensures.ok.1
