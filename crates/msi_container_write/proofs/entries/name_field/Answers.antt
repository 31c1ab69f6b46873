use Rattle.std.proofs.Common.{◌*◌, arith, refl}
use Rattle.msi_container_write.proofs.directories.PutPiecesLemmas.{unit_put, name_put}
use Rattle.msi_container_write.proofs.entries.name_field.Goals as goal

pub loop-i-preserved : goal.loop-i-preserved
loop-i-preserved c =
    unit_put c.args.name.now _ c.loop-i.field _ c.loop-i.i 64 (2 * c.loop-i.i) c.loop-i-test.true (omega arith) refl c.to_le_bytes.ensures c.loop-i.invariant c.put.ensures

pub returns : goal.returns
returns c = name_put c.args.name.now c.loop-i.field c.loop-i.i c.loop-i-test.false c.loop-i.auto.i-end c.requires c.loop-i.invariant
