use Rattle.std.proofs.Common.{◌≡◌, flat_map, string_bytes, encode_utf8_all}
use Rattle.msi_container_format.specs.StreamNames.{unpacked}
use Rattle.msi_container_format.proofs.streamname.unpack.Given as goal

abbrev pub invariant-loop-c : goal.invariant-loop-c
invariant-loop-c l = string_bytes l.text ≡ encode_utf8_all (flat_map unpacked l.yielded)
