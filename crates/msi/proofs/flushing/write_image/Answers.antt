use Rattle.std.proofs.Common.{rules}
use Rattle.msi_container_write.specs.Borrowed.{contents_of}
use Rattle.msi.specs.Flushing.{told}
use Rattle.msi.proofs.writing.OverwritingLemmas.{fault_early, image_handed, image_refused}
use Rattle.msi.proofs.flushing.write_image.Goals as goal

pub returns-in_err-earlier_len-clause-device : goal.returns-in_err-earlier_len-clause-device
returns-in_err-earlier_len-clause-device g c =
    fault_early (contents_of c.args.contents.now) (told (g.F.Source.held c.args.device.now) (g.F.Source.failed c.args.device.now))
    (told (g.F.Source.held c.go_to_start.new.device) (g.F.Source.failed c.go_to_start.new.device)) c.from_residual.result c.from_residual.ensures.0
    (search rules) c.go_to_start.ensures.bytes c.in_err-earlier_len.ensures.failed

pub returns-in_err-image_to-clause-device : goal.returns-in_err-image_to-clause-device
returns-in_err-image_to-clause-device g c =
    image_refused (contents_of c.args.contents.now) c.in_ok-earlier_len.earlier_len (g.F.Source.held c.args.device.now) (g.F.Source.failed c.args.device.now)
    c.in_ok-earlier_len.ensures.count (g.F.Source.held c.go_to_start.new.device) (g.F.Source.held c.image_to.new.device) (g.F.Source.failed c.image_to.new.device)
    c.in_ok-earlier_len.ensures.held c.from_residual-in_err-image_to.result c.in_err-image_to.field-0.0 (search rules)
    c.in_err-image_to.ensures.part c.in_err-image_to.ensures.untouched c.in_err-image_to.ensures.refused c.in_err-image_to.ensures.failed c.in_err-image_to.ensures.kinds

pub returns-clause-device : goal.returns-clause-device
returns-clause-device g c =
    image_handed (contents_of c.args.contents.now) c.in_ok-earlier_len.earlier_len (g.F.Source.held c.args.device.now) (g.F.Source.failed c.args.device.now)
    c.in_ok-earlier_len.ensures.count (g.F.Source.held c.go_to_start.new.device) (g.F.Source.held c.image_to.new.device) (g.F.Source.failed c.image_to.new.device)
    c.in_ok-earlier_len.ensures.held (g.F.Source.held c.hand_on.new.device) (g.F.Source.failed c.hand_on.new.device)
    c.in_ok-image_to.ensures.ok c.in_ok-image_to.ensures.refused c.in_ok-image_to.ensures.failed c.hand_on.ensures.bytes c.hand_on.result c.hand_on.ensures.failed c.hand_on.ensures.kind
