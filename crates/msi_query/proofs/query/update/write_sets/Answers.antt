use Rattle.std.proofs.Common.{◌∙◌, map, Some, codes, refl, sym}
use Rattle.msi_query_expressions.specs.Assignments.{set_text}
use Rattle.msi_query.specs.QueryTexts.{listed}
use Rattle.msi_query.proofs.QueryTextLemmas.{failed_write, sets_text-some, two_writes}
use Rattle.msi_query.proofs.query.update.write_sets.Goals as goal

pub returns-in_err-write_str : goal.returns-in_err-write_str
returns-in_err-write_str g c = failed_write g.W.Write.write_str_gives _ _ _ _ c.from_residual.ensures.0

pub returns : goal.returns
returns g c =
    two_writes g.W.Write.write_str_gives c.args.f.now c.write_str.new.self c.write_list.new.f c.write_str.result c.write_list.result
    (Some (codes " SET ")) (listed (map set_text c.args.sets.now)) _
    (sets_text-some c.args.sets.now (sym c.is_empty.ensures ∙ c.if-is_empty.false))
    (rw c.in_ok-write_str.was refl) c.write_str.ensures.writes c.write_list.ensures
