use Rattle.std.proofs.Common.{◌≡◌, drop}
use Rattle.std.specs.Prelude.{fold}
use Rattle.msi_transform_pair.specs.Fingerprints.{with_number}
use Rattle.msi_transform_pair.proofs.fingerprints.with_text.Given as goal

abbrev pub invariant-loop-byte : goal.invariant-loop-byte
invariant-loop-byte l = record { same : fold with_number l.print (drop l.byte-index l.text) ≡ fold with_number l.fn.print l.text }
