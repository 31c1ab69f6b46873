use Rattle.std.proofs.Common.{◌≡◌, map, take}
use Rattle.msi_database_changes.specs.Setting.{index_of}
use Rattle.msi_database_changes.proofs.setting.places_of.Given as goal

abbrev pub invariant-loop-set : goal.invariant-loop-set
invariant-loop-set l = record {
  places : l.places.items ≡ map (index_of l.columns) (take l.set-index l.sets);
}
