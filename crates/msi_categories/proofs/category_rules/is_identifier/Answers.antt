use Rattle.std.proofs.Common.{◌∙◌, arith, sym}
use Rattle.msi_categories.proofs.CategoryRulesLemmas.{identifier_after_first}
use Rattle.msi_categories.proofs.category_rules.is_identifier.Goals as goal

pub returns-then-starts_name : goal.returns-then-starts_name
returns-then-starts_name c =
    identifier_after_first c.args.text.now c.all_continue_name.result c.all_continue_name.ensures (omega arith) (sym c.starts_name.ensures ∙ c.if-starts_name.true)
