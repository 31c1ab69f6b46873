use Rattle.std.proofs.Common.{ℕ, List, Some, codes, map, refl, sym, ◌∙◌}
use Rattle.msi_query_tokens.specs.Names.{name_text}
use Rattle.msi_query.specs.QueryTexts.{listed, order_text}
use Rattle.msi_query.proofs.QueryTextLemmas.{failed_write, order_text-some, two_writes}
use Rattle.msi_query.proofs.query.select.write_order.Goals as goal

pub returns-in_err-write_str : goal.returns-in_err-write_str
returns-in_err-write_str g c =
    failed_write g.W.Write.write_str_gives c.args.f.now c.write_str.new.self c.from_residual.result (Some (order_text c.args.names.now)) c.from_residual.ensures.0

pub returns : goal.returns
returns g c =
    two_writes g.W.Write.write_str_gives c.args.f.now c.write_str.new.self c.write_name_list.new.f c.write_str.result c.write_name_list.result
    (Some (codes " ORDER BY ")) (listed (map (λ (n : List ℕ). Some (name_text n)) c.args.names.now)) (Some (order_text c.args.names.now))
    (order_text-some c.args.names.now (sym c.is_empty.ensures ∙ c.if-is_empty.false)) (rw c.in_ok-write_str.was refl)
    c.write_str.ensures.writes c.write_name_list.ensures
