use Rattle.std.proofs.Common.{ℕ, map, suc, take, List, Option, Ok, arith}
use Rattle.std.specs.Fmt.{◌++?◌}
use Rattle.std.proofs.Output.{displays_on_IsOk_append, displays_on_ok_of_eq}
use Rattle.msi_query.specs.QueryTexts.{listed}
use Rattle.msi_query.proofs.ListedLemmas.{listed-more, separated}
use Rattle.msi_query.proofs.QueryTextLemmas.{failed_write}
use Rattle.msi_query.proofs.query.printing.write_list.Goals as goal

pub loop-item-preserved : goal.loop-item-preserved
loop-item-preserved g c =
    let took = g.W.Write.write_str_gives in
    let text = g.T.Display.output in
    let written : Option (List ℕ) = listed (map text (take (suc c.loop-item.item-index) c.args.items.now)) in
    let more : Option (List ℕ) = separated (text c.item-item.result) in
    displays_on_ok_of_eq took c.args.f.now c.write-in-loop-item.new.self (Ok c.in_ok-write-2.field-0) (written ++? more) _
    (listed-more text c.args.items.now c.in-Some.first.now c.in-Some.others.now c.loop-item.item-index c.item-item.result
    c.in-Some.ensures.cases.0 (omega (arith, c.loop-item-test.true)) c.item-item.is)
    (displays_on_IsOk_append took c.args.f.now c.loop-item.f c.write-in-loop-item.new.self (Ok c.in_ok-write-2.field-0) (Ok c.in_ok-write-2.field-0) written more
    (λ ok. ok) c.loop-item.invariant c.in_ok-write-2.ensures.writes)

pub returns-in_err-write : goal.returns-in_err-write
returns-in_err-write g c = failed_write g.W.Write.write_str_gives _ _ _ _ c.from_residual.ensures.0

pub returns-in_err-write-2 : goal.returns-in_err-write-2
returns-in_err-write-2 g c = failed_write g.W.Write.write_str_gives _ _ _ _ c.from_residual-in_err-write-2.ensures.0
