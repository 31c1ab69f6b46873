use Rattle.std.proofs.Common.{ℕ, map, suc, take, List, Option, Ok, Some, arith}
use Rattle.std.specs.Fmt.{◌++?◌}
use Rattle.std.proofs.Output.{displays_on_IsOk_append, displays_on_ok_of_eq}
use Rattle.msi_query_tokens.specs.Names.{name_text}
use Rattle.msi_query.specs.QueryTexts.{listed}
use Rattle.msi_query.proofs.ListedLemmas.{listed-more, separated}
use Rattle.msi_query.proofs.QueryTextLemmas.{failed_write}
use Rattle.msi_query.proofs.query.printing.write_name_list.Goals as goal

abbrev text : List ℕ → Option (List ℕ)
text name = Some (name_text name)

pub loop-name-preserved : goal.loop-name-preserved
loop-name-preserved g c =
    let took = g.W.Write.write_str_gives in
    let written : Option (List ℕ) = listed (map text (take (suc c.loop-name.name-index) c.args.names.now)) in
    let more : Option (List ℕ) = separated (text c.name-item.result) in
    displays_on_ok_of_eq took c.args.f.now c.write_named.new.f (Ok c.in_ok-write_named.field-0) (written ++? more) _
    (listed-more text c.args.names.now c.in-Some.first.now c.in-Some.others.now c.loop-name.name-index c.name-item.result
    c.in-Some.ensures.cases.0 (omega (arith, c.loop-name-test.true)) c.name-item.is)
    (displays_on_IsOk_append took c.args.f.now c.loop-name.f c.write_named.new.f (Ok c.in_ok-write_named.field-0) (Ok c.in_ok-write_named.field-0) written more
    (λ ok. ok) c.loop-name.invariant c.in_ok-write_named.ensures)

pub returns-in_err-write_name : goal.returns-in_err-write_name
returns-in_err-write_name g c = failed_write g.W.Write.write_str_gives _ _ _ _ c.from_residual.ensures.0

pub returns-in_err-write_named : goal.returns-in_err-write_named
returns-in_err-write_named g c = failed_write g.W.Write.write_str_gives _ _ _ _ c.from_residual-in_err-write_named.ensures.0
