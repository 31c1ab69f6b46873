use Rattle.std.proofs.Common.{◌≡◌, map}
use Rattle.msi_base.specs.PageTables.{byte_written}
use Rattle.msi_base.proofs.codepage.tables.bytes_written.Given as goal

abbrev pub invariant-loop-character : goal.invariant-loop-character
invariant-loop-character l = l.bytes.items ≡ map (byte_written l.upper) l.yielded
