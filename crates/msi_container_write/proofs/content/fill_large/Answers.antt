use Rattle.std.proofs.Common.{arith}
use Rattle.msi_container_write.specs.Index.{streams_of}
use Rattle.msi_container_write.specs.Layout.{large_parts}
use Rattle.msi_container_write.proofs.sectors.RestLemmas.{unit_filled}
use Rattle.msi_container_write.proofs.content.fill_large.Goals as goal

pub returns : goal.returns
returns c =
    unit_filled 512 (large_parts (streams_of c.args.places.now)) c.args.m _ c.from_sector.result.now _ c.from_sector.ensures (omega arith) c.fill_unit.ensures
