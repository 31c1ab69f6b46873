use Rattle.std.proofs.Common.{◌≡◌, ◌+◌, length, option_map}
use Rattle.msi_code_pages.specs.Reading.{first_unmapped}
use Rattle.msi_code_pages.proofs.decoder.Decoder.first_unmapped.Given as goal

abbrev pub invariant-loop-rest : goal.invariant-loop-rest
invariant-loop-rest l = record {
  counted : l.place + length l.rest ≡ length l.bytes;
  found : first_unmapped l.self l.bytes ≡ option_map (λ n. l.place + n) (first_unmapped l.self l.rest);
}

abbrev pub decreases-loop-rest : goal.decreases-loop-rest
decreases-loop-rest l = length l.rest
