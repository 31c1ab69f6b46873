use Rattle.std.proofs.Common.{◌≡◌}
use Rattle.msi_code_pages.specs.Spelling.{bytes_written}
use Rattle.msi_code_pages.proofs.encoder.Encoder.bytes_written.Given as goal

abbrev pub invariant-loop-character : goal.invariant-loop-character
invariant-loop-character l = l.bytes.items ≡ bytes_written l.self l.yielded
