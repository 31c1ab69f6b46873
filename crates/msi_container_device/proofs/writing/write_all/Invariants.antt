use Rattle.std.proofs.Common.{◌≡◌, ◌-◌, ◌≤◌, length, take, option_map}
use Rattle.msi_container_device.specs.Held.{with_piece}
use Rattle.msi_container_device.proofs.writing.write_all.Given as goal

-- the bytes written so far were put over what was held
abbrev pub invariant-loop-written : goal.invariant-loop-written
invariant-loop-written g l = record {
  within : l.written ≤ length l.piece;
  held : g.W.Source.held l.device ≡ option_map (with_piece (take l.written l.piece)) (g.W.Source.held l.fn.device);
  failed : g.W.Source.failed l.device ≡ g.W.Source.failed l.fn.device;
}

abbrev pub decreases-loop-written : goal.decreases-loop-written
decreases-loop-written g l = length l.piece - l.written
