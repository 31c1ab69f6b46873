use Rattle.std.proofs.Common.{Some, sym, subst}
use Rattle.std.specs.Prelude.{IfSome}
use Rattle.msi_query_expressions.specs.Conditions.{meets}
use Rattle.msi_query_expressions.specs.Equated.{PassesWithEqual}
use Rattle.msi_query_expressions.proofs.EquatedLemmas.{equated_passes}
use Rattle.msi_query_expressions.proofs.parts.equated_places.Goals as goal

pub returns-clause-equal : goal.returns-clause-equal
returns-clause-equal c =
    subst (λ o. IfSome o (PassesWithEqual (meets c.args.columns.now (Some c.args.condition.now)) c.args.width)) (sym c.equated_places.ensures)
    (equated_passes c.args.columns.now c.args.width c.args.condition.now)
