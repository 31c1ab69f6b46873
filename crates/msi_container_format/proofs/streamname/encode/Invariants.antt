use Rattle.std.proofs.Common.{◌≡◌, ◌++◌, length, chars, string_bytes, encode_utf8_all}
use denote.Text.{Utf8}
use denote.Shadow.{shadow}
use Rattle.msi_container_format.specs.StreamNames.{encoded_name, packed}
use Rattle.msi_container_format.proofs.streamname.encode.Given as goal

-- What is written, and what is to come, is the encoded name.
abbrev pub invariant-loop-c : goal.invariant-loop-c
invariant-loop-c l = record {
  utf8 : shadow (Utf8 l.rest);
  bytes : string_bytes l.encoded ++ encode_utf8_all (packed (chars l.rest)) ≡ encode_utf8_all (encoded_name l.fn.is_table (chars l.fn.name));
}

abbrev pub decreases-loop-c : goal.decreases-loop-c
decreases-loop-c l = length l.rest
