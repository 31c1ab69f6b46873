use Rattle.std.proofs.Common.{arith, sym, ◌∙◌}
use Rattle.msi_categories.proofs.LanguageRowsLemmas.{found_from, found_first, passed}
use Rattle.msi_categories.proofs.language.LanguageId.from_tag.Goals as goal

pub returns-in-Some : goal.returns-in-Some
returns-in-Some c =
    let split = found_from _ c.tables.result c.loop-rows.rows-index _ (omega arith) in
    found_first _ _ _ _ (sym c.id_in.ensures ∙ c.in-Some.is) (sym split ∙ c.loop-rows.invariant)

pub loop-rows-preserved : goal.loop-rows-preserved
loop-rows-preserved c =
    let split = found_from _ c.tables.result c.loop-rows.rows-index _ (omega arith) in
    passed _ _ _ (sym c.id_in.ensures ∙ c.in_default.is) (sym split ∙ c.loop-rows.invariant)
