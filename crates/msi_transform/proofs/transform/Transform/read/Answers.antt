use Rattle.std.proofs.Common.{List, ℕ, Ok, Vec, Global, ap, subst}
use Rattle.std.specs.Prelude.{IfErr, IfOk}
use Rattle.msi_transform.specs.TransformFiles.{IsReadRefusal, ReadsTo}
use Rattle.msi_transform.proofs.ReadStepLemmas.{passed_on}
use Rattle.msi_transform.proofs.TransformFileLemmas.{contents_stop, nothing_held, reads_to}
use Rattle.msi_transform.proofs.transform.Transform.read.Goals as goal

-- what a vector holds
abbrev held : Vec ℕ Global → List ℕ
held v = v.items

pub returns-in_err-contents-clause-kind : goal.returns-in_err-contents-clause-kind
returns-in_err-contents-clause-kind c = let kind = c.in_err-contents.field-0.0 in
    let whole = held c.in_ok-bytes.bytes.value in
    passed_on (IsReadRefusal c.args.bytes.items) c.from_residual-in_err-contents.result kind c.from_residual-in_err-contents.ensures.1
    (subst (λ (bytes : List ℕ). IsReadRefusal bytes kind) (ap held c.in_ok-bytes.ensures.ok)
    (nothing_held whole kind c.in_err-contents.ensures.only c.in_err-contents.ensures.kinds))

pub returns-clause-ok : goal.returns-clause-ok
returns-clause-ok c =
    let whole = held c.in_ok-bytes.bytes.value in
    subst (λ (bytes : List ℕ). IfOk c.of_contents.result (λ transform. ReadsTo bytes (Ok transform))) (ap held c.in_ok-bytes.ensures.ok)
    (reads_to whole c.in_ok-contents.contents c.of_contents.result c.in_ok-contents.ensures.found c.of_contents.ensures.ok)

pub returns-clause-kind : goal.returns-clause-kind
returns-clause-kind c =
    let whole = held c.in_ok-bytes.bytes.value in
    subst (λ (bytes : List ℕ). IfErr c.of_contents.result (IsReadRefusal bytes)) (ap held c.in_ok-bytes.ensures.ok)
    (contents_stop whole c.in_ok-contents.contents c.of_contents.result c.in_ok-contents.ensures.found c.of_contents.ensures.kind)
