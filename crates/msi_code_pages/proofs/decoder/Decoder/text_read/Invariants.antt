use Rattle.std.proofs.Common.{◌≡◌, ◌++◌, map, length, string_bytes, encode_utf8_all}
use Rattle.msi_code_pages.specs.Sequences.{is_lead}
use Rattle.msi_code_pages.specs.Reading.{sequences, character_read}
use Rattle.msi_code_pages.proofs.decoder.Decoder.text_read.Given as goal

abbrev pub invariant-loop-rest : goal.invariant-loop-rest
invariant-loop-rest l =
    encode_utf8_all (map (character_read l.self) (sequences (is_lead l.self) l.bytes))
    ≡ string_bytes l.text ++ encode_utf8_all (map (character_read l.self) (sequences (is_lead l.self) l.rest))

abbrev pub decreases-loop-rest : goal.decreases-loop-rest
decreases-loop-rest l = length l.rest
