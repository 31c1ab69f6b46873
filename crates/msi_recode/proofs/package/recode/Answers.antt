use Rattle.std.specs.Prelude.{Err}
use Rattle.std.proofs.Common.{ap}
use Rattle.std.proofs.lemmas.Result.{err_from_is_err_and}
use Rattle.msi_container_write.specs.Layout.{refuses}
use Rattle.msi_container_write.proofs.placing.LayoutLemmas.{not_true}
use Rattle.msi_recode.proofs.PackageLemmas.{file_made, file_only, file_refused, no_file, not_recoded, not_written}
use Rattle.msi_recode.proofs.package.recode.Goals as goal

pub returns-clause-ok : goal.returns-clause-ok
returns-clause-ok c =
    file_made c.args.given c.args.bytes.now c.in_ok-write.field-0.items c.in_ok-read.field-0 c.in_ok-contents.contents c.in_ok-read.ensures.found c.in_ok-contents.ensures.ok
    (not_true (refuses c.in_ok-contents.contents 0) (λ h. let e = c.in_ok-write.ensures.refused.1 h in absurd cc)) c.in_ok-write.ensures.ok c.in_ok-write.ensures.holds

pub returns-in_err-read-clause-only : goal.returns-in_err-read-clause-only
returns-in_err-read-clause-only c = λ after recoded.
    let p = err_from_is_err_and c.from_residual.result c.from_residual.ensures.1 in
    rw (p.1, p.2) (file_only c.args.given c.args.bytes.now after _ (no_file c.in_err-read.field-0.0 c.args.given c.args.bytes.now c.in_err-read.ensures.kinds c.in_err-read.ensures.only) recoded)

pub returns-in_err-read-clause-exact : goal.returns-in_err-read-clause-exact
returns-in_err-read-clause-exact c =
    let p = err_from_is_err_and c.from_residual.result c.from_residual.ensures.1 in
    rw (p.1, p.2) (no_file c.in_err-read.field-0.0 c.args.given c.args.bytes.now c.in_err-read.ensures.kinds c.in_err-read.ensures.only)

pub returns-in_err-read-clause-refused : goal.returns-in_err-read-clause-refused
returns-in_err-read-clause-refused c =
    let p = err_from_is_err_and c.from_residual.result c.from_residual.ensures.1 in
    rw (p.1, p.2) (file_refused c.args.given c.args.bytes.now _ (no_file c.in_err-read.field-0.0 c.args.given c.args.bytes.now c.in_err-read.ensures.kinds c.in_err-read.ensures.only))

pub returns-in_err-contents-clause-only : goal.returns-in_err-contents-clause-only
returns-in_err-contents-clause-only c = λ after recoded.
    let p = err_from_is_err_and c.from_residual-in_err-contents.result c.from_residual-in_err-contents.ensures.1 in
    rw (p.1, p.2) (file_only c.args.given c.args.bytes.now after c.in_err-contents.field-0.0 (not_recoded c.args.given c.args.bytes.now c.in_ok-read.field-0 c.in_err-contents.field-0.0 c.in_ok-read.ensures.found c.in_err-contents.ensures.exact) recoded)

pub returns-in_err-contents-clause-exact : goal.returns-in_err-contents-clause-exact
returns-in_err-contents-clause-exact c =
    let p = err_from_is_err_and c.from_residual-in_err-contents.result c.from_residual-in_err-contents.ensures.1 in
    rw (p.1, p.2) (not_recoded c.args.given c.args.bytes.now c.in_ok-read.field-0 c.in_err-contents.field-0.0 c.in_ok-read.ensures.found c.in_err-contents.ensures.exact)

pub returns-in_err-contents-clause-refused : goal.returns-in_err-contents-clause-refused
returns-in_err-contents-clause-refused c =
    let p = err_from_is_err_and c.from_residual-in_err-contents.result c.from_residual-in_err-contents.ensures.1 in
    rw (p.1, p.2) (file_refused c.args.given c.args.bytes.now c.in_err-contents.field-0.0 (not_recoded c.args.given c.args.bytes.now c.in_ok-read.field-0 c.in_err-contents.field-0.0 c.in_ok-read.ensures.found c.in_err-contents.ensures.exact))

pub returns-in_err-write-clause-only : goal.returns-in_err-write-clause-only
returns-in_err-write-clause-only c = λ after recoded.
    let p = err_from_is_err_and c.from_residual-in_err-write.result c.from_residual-in_err-write.ensures.1 in
    rw (p.1, p.2) (file_only c.args.given c.args.bytes.now after _ (not_written c.in_err-write.field-0.0 c.args.given c.args.bytes.now c.in_ok-read.field-0 c.in_ok-contents.contents
    c.in_err-write.ensures.kinds (λ invalid. c.in_err-write.ensures.refused.0 (ap Err invalid)) c.in_ok-read.ensures.found c.in_ok-contents.ensures.ok) recoded)

pub returns-in_err-write-clause-exact : goal.returns-in_err-write-clause-exact
returns-in_err-write-clause-exact c =
    let p = err_from_is_err_and c.from_residual-in_err-write.result c.from_residual-in_err-write.ensures.1 in
    rw (p.1, p.2) (not_written c.in_err-write.field-0.0 c.args.given c.args.bytes.now c.in_ok-read.field-0 c.in_ok-contents.contents
    c.in_err-write.ensures.kinds (λ invalid. c.in_err-write.ensures.refused.0 (ap Err invalid)) c.in_ok-read.ensures.found c.in_ok-contents.ensures.ok)

pub returns-in_err-write-clause-refused : goal.returns-in_err-write-clause-refused
returns-in_err-write-clause-refused c =
    let p = err_from_is_err_and c.from_residual-in_err-write.result c.from_residual-in_err-write.ensures.1 in
    rw (p.1, p.2) (file_refused c.args.given c.args.bytes.now _ (not_written c.in_err-write.field-0.0 c.args.given c.args.bytes.now c.in_ok-read.field-0 c.in_ok-contents.contents
    c.in_err-write.ensures.kinds (λ invalid. c.in_err-write.ensures.refused.0 (ap Err invalid)) c.in_ok-read.ensures.found c.in_ok-contents.ensures.ok))
