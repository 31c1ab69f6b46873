use Rattle.std.proofs.Common.{◌∙◌, rules}
use Rattle.std.specs.Vec.Iter.{into_iter_items}
use Rattle.msi.specs.Renewing.{with_renewed}
use Rattle.msi.specs.Flushing.{root_contents, told}
use Rattle.msi.proofs.reading.FaultLemmas.{memory_faultless}
use Rattle.msi.proofs.writing.OverwritingLemmas.{memory_early}
use Rattle.msi.proofs.writing.RenewedLemmas.{restored}
use Rattle.msi.proofs.flushing.+write_with.Goals as goal

pub returns-in_err-before-clause-device : goal.returns-in_err-before-clause-device
returns-in_err-before-clause-device g t c =
    memory_early (root_contents c.args.root.kind c.args.root.has_storages (with_renewed (into_iter_items c.args.renewed) c.args.database.now.streams))
    (told (g.F.Source.held c.args.device.now) (g.F.Source.failed c.args.device.now)) c.from_residual.result c.from_residual.ensures.0 (search rules)

pub returns-in_err-before-clause-faultless : goal.returns-in_err-before-clause-faultless
returns-in_err-before-clause-faultless g t c = λ _ _. memory_faultless c.from_residual.result (search rules)

pub returns-in-Err-clause-same : goal.returns-in-Err-clause-same
returns-in-Err-clause-same g t c = restored c.args.database.now c.write_with.new.database c.put_back_stream.new.self c.in-Some.name c.duplicate.result c.in-Some.bytes c.in_ok-before.before
    c.kept.ensures.in_order (c.in-Err.ensures.same ∙ c.in_ok-before.ensures.ok) c.duplicate.ensures c.in_ok-before.ensures.held c.put_back_stream.ensures
