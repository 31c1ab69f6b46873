use Rattle.std.proofs.Common.{◌≤◌, length, take}
use Rattle.std.specs.Io.KnownBytes.{Appends}
use Rattle.msi_base.proofs.faults.write_fully.Given as goal

abbrev pub invariant-writes : goal.invariant-writes
invariant-writes g l = record {
  within : l.at ≤ length l.bytes;
  given : Appends (g.W.Write.contents l.initial.writer) (g.W.Write.contents l.writer) (take l.at l.bytes);
}
