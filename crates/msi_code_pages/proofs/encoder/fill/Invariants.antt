use Rattle.msi_code_pages.specs.Spelling.{IsIndex}
use Rattle.msi_code_pages.proofs.encoder.fill.Given as goal

abbrev pub invariant-loop-number : goal.invariant-loop-number
invariant-loop-number l = IsIndex l.decoder l.number l.numbers
