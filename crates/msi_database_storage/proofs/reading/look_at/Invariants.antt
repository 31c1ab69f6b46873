use Rattle.std.specs.FinMap.{entries}
use Rattle.msi_database_storage.specs.StreamNames.{HaveShortNames, HoldBytes}
use Rattle.msi_database_storage.proofs.reading.look_at.Given as goal

abbrev pub invariant-loop-name : goal.invariant-loop-name
invariant-loop-name l = record {
  names : HaveShortNames l.name-iterator → HaveShortNames (entries l.streams);
  bytes : HoldBytes l.name-iterator → HoldBytes (entries l.streams);
}
