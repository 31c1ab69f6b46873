use Rattle.std.proofs.Common.{refl}
use Rattle.msi_container_write.proofs.sectors.UnitLemmas.{unit_written}
use Rattle.msi_container_write.proofs.content.fill_unit.Goals as goal

pub returns : goal.returns
returns c =
    unit_written c.args.unit.now c.args.bytes.now c.copy_from_slice.new.self c.fill.new.self _ c.min-count.result _
    c.min-count.ensures
    c.copy_from_slice.ensures.after
    refl
    refl
    (c.fill.ensures.after (λ y e. e))
