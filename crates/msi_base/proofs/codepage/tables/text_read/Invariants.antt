use Rattle.std.proofs.Common.{◌≡◌, map, take, string_bytes, encode_utf8_all}
use Rattle.msi_base.specs.PageTables.{character_read}
use Rattle.msi_base.proofs.codepage.tables.text_read.Given as goal

abbrev pub invariant-loop-byte : goal.invariant-loop-byte
invariant-loop-byte l = string_bytes l.text ≡ encode_utf8_all (map (character_read l.upper) (take l.byte-index l.bytes))
