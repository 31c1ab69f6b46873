use Rattle.std.proofs.Common.{Some, sym, ◌∙◌}
use Rattle.msi_query_expressions.specs.Conditions.{meets}
use Rattle.msi_query_rows.proofs.IndexLemmas.{asked_pass}
use Rattle.msi_query_rows.proofs.index.places_asked.Goals as goal

pub returns-clause-equal : goal.returns-clause-equal
returns-clause-equal c = λ places. asked_pass places (meets c.args.columns.now (Some c.args.on.now)) c.args.width c.args.left.now c.equated_places.result
    (sym c.has_width.ensures ∙ c.if-not-has_width.false) c.equated_places.ensures.equal
