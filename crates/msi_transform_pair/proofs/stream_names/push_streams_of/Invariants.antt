use Rattle.std.proofs.Common.{◌≡◌, ◌++◌}
use Rattle.std.specs.FinMap.{entries}
use Rattle.std.specs.List.{flat_map}
use Rattle.msi_transform_pair.specs.Pair.{stream_texts}
use Rattle.msi_transform_pair.proofs.stream_names.push_streams_of.Given as goal

abbrev pub invariant-loop-key : goal.invariant-loop-key
invariant-loop-key l = record {
  whole : l.texts.items ++ flat_map (stream_texts l.table) l.key-iterator
      ≡ l.fn.texts.items ++ flat_map (stream_texts l.table) (entries l.rows);
}
