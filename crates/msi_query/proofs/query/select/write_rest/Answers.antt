use Rattle.std.proofs.Common.{ℕ, List, Option, Some, refl}
use Rattle.std.specs.Fmt.{◌++?◌}
use Rattle.std.specs.Prelude.{option_copied}
use Rattle.msi_query.specs.Queries.{Clauses}
use Rattle.msi_query.specs.QueryTexts.{order_text, where_text}
use Rattle.msi_query.proofs.QueryTextLemmas.{failed_write, two_writes}
use Rattle.msi_query.proofs.query.select.write_rest.Goals as goal

-- what is written behind the place that rows come from
abbrev rest : Clauses → Option (List ℕ)
rest clauses = where_text clauses.condition ++? Some (order_text clauses.order)

pub returns-in_err-write_condition : goal.returns-in_err-write_condition
returns-in_err-write_condition g c =
    failed_write g.W.Write.write_str_gives c.args.f.now c.write_condition.new.f c.from_residual.result (rest c.args.clauses.now) c.from_residual.ensures.0

pub returns : goal.returns
returns g c =
    two_writes g.W.Write.write_str_gives c.args.f.now c.write_condition.new.f c.write_order.new.f c.write_condition.result c.write_order.result
    (where_text (option_copied c.condition.result)) (Some (order_text c.order.result.now)) (rest c.args.clauses.now)
    (rw (c.condition.ensures, c.order.ensures) refl) (rw c.in_ok-write_condition.was refl)
    c.write_condition.ensures c.write_order.ensures
