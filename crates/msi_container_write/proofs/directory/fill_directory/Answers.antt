use Rattle.std.proofs.Common.{slice_index, arith}
use Rattle.msi_container_write.specs.Index.{streams_of}
use Rattle.msi_container_write.specs.Layout.{directory_of}
use Rattle.msi_container_write.proofs.directories.DirectorySectorLemmas.{entry_put, sector_put}
use Rattle.msi_container_write.proofs.directory.fill_directory.Goals as goal

pub loop-slot-preserved : goal.loop-slot-preserved
loop-slot-preserved c =
    let i = c.loop-slot.invariant in
    let more =
    entry_put (slice_index (directory_of c.args.clsid (streams_of c.args.places.now))) c.loop-slot.sector c.entry-entry.result c.put.new.bytes c.args.m c.loop-slot.slot c.loop-slot-test.true i.long i.filled c.entry-entry.ensures c.put.ensures in
    record { long = more.0; filled = more.1 }

pub returns : goal.returns
returns c =
    let i = c.loop-slot.invariant in
    sector_put (slice_index (directory_of c.args.clsid (streams_of c.args.places.now))) c.loop-slot.sector c.args.m c.loop-slot.slot (omega arith) i.long i.filled
