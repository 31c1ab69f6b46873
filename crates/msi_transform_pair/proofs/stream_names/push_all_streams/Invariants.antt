use Rattle.std.proofs.Common.{◌≡◌, ◌++◌, drop}
use Rattle.std.specs.List.{flat_map}
use Rattle.msi_transform_pair.specs.Pair.{streams_in}
use Rattle.msi_transform_pair.specs.Names.{names_in}
use Rattle.msi_transform_pair.proofs.stream_names.push_all_streams.Given as goal

abbrev pub invariant-loop-table : goal.invariant-loop-table
invariant-loop-table l = record {
  whole : l.texts.items ++ flat_map (streams_in l.base.kept) (names_in (drop l.table-index l.tables))
      ≡ l.fn.texts.items ++ flat_map (streams_in l.base.kept) (names_in l.tables);
}
