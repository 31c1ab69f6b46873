use Rattle.std.proofs.Common.{◌≡◌, ◌++◌, drop, map}
use Rattle.std.specs.Prelude.{filter}
use Rattle.msi_transform_making.specs.Making.{is_told, told_table}
use Rattle.msi_transform_pair.specs.Names.{names_in}
use Rattle.msi_transform_making.proofs.tables.push_told_tables.Given as goal

abbrev pub invariant-loop-name : goal.invariant-loop-name
invariant-loop-name l = record {
  whole : l.tables.items ++ filter is_told (map (told_table l.old.kept l.new.kept) (names_in (drop l.name-index l.names)))
      ≡ l.fn.tables.items ++ filter is_told (map (told_table l.old.kept l.new.kept) (names_in l.names));
}
