use Rattle.std.proofs.Common.{◌≡◌, ◌++◌, List, ℕ}
use Rattle.std.specs.Io.KnownBytes.{Appends}
use Rattle.msi_summary_properties.proofs.writing.write_bytes.Given as goal

-- what is gone from the rest was written
abbrev pub invariant-writes : goal.invariant-writes
invariant-writes g l = (begun : List ℕ) × (l.fn.bytes ≡ begun ++ l.rest) × Appends (g.W.Write.contents l.initial.writer) (g.W.Write.contents l.writer) begun
