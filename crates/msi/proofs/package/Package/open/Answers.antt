use Rattle.std.proofs.Common.{refl}
use Rattle.msi.proofs.reading.FaultLemmas.{passed_faultless}
use Rattle.msi.proofs.reading.OpenStepLemmas.{opened_faultless, source_opens}
use Rattle.std.proofs.lemmas.Result.{err_from_is_err_and}
use Rattle.msi.proofs.package.Package.open.Goals as goal

pub returns-clause-ok : goal.returns-clause-ok
returns-clause-ok g c = source_opens (g.F.Source.held c.args.inner) (g.F.Source.held c.clear_failed.new.self) c.in_ok-bytes.bytes.items c.in_ok-bytes.bytes.items c.in_ok-opened.opened _
    c.clear_failed.ensures.held c.in_ok-bytes.ensures.ok refl c.in_ok-opened.ensures.ok c.opened.view_is

pub returns-in_err-opened-clause-faultless : goal.returns-in_err-opened-clause-faultless
returns-in_err-opened-clause-faultless g c = λ _.
    passed_faultless c.from_residual-in_err-opened.result c.in_err-opened.field-0.0 c.from_residual-in_err-opened.ensures.1
    (opened_faultless c.in_ok-bytes.bytes.items c.in_err-opened.field-0.0 c.in_err-opened.ensures.kind)

pub returns-in_err-bytes-clause-ok : goal.returns-in_err-bytes-clause-ok
returns-in_err-bytes-clause-ok g c = let p = err_from_is_err_and c.from_residual.result c.from_residual.ensures.1 in rw p.1 tt

pub returns-in_err-bytes-clause-bytes : goal.returns-in_err-bytes-clause-bytes
returns-in_err-bytes-clause-bytes g c = let p = err_from_is_err_and c.from_residual.result c.from_residual.ensures.1 in rw p.1 tt

pub returns-in_err-bytes-clause-failed : goal.returns-in_err-bytes-clause-failed
returns-in_err-bytes-clause-failed g c = let p = err_from_is_err_and c.from_residual.result c.from_residual.ensures.1 in rw p.1 tt

pub returns-in_err-bytes-clause-pending : goal.returns-in_err-bytes-clause-pending
returns-in_err-bytes-clause-pending g c = let p = err_from_is_err_and c.from_residual.result c.from_residual.ensures.1 in rw p.1 tt

pub returns-in_err-opened-clause-ok : goal.returns-in_err-opened-clause-ok
returns-in_err-opened-clause-ok g c = let p = err_from_is_err_and c.from_residual-in_err-opened.result c.from_residual-in_err-opened.ensures.1 in rw p.1 tt

pub returns-in_err-opened-clause-bytes : goal.returns-in_err-opened-clause-bytes
returns-in_err-opened-clause-bytes g c = let p = err_from_is_err_and c.from_residual-in_err-opened.result c.from_residual-in_err-opened.ensures.1 in rw p.1 tt

pub returns-in_err-opened-clause-failed : goal.returns-in_err-opened-clause-failed
returns-in_err-opened-clause-failed g c = let p = err_from_is_err_and c.from_residual-in_err-opened.result c.from_residual-in_err-opened.ensures.1 in rw p.1 tt

pub returns-in_err-opened-clause-pending : goal.returns-in_err-opened-clause-pending
returns-in_err-opened-clause-pending g c = let p = err_from_is_err_and c.from_residual-in_err-opened.result c.from_residual-in_err-opened.ensures.1 in rw p.1 tt
