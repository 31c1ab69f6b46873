use Rattle.std.proofs.Common.{◌≡◌, ◌++◌, map}
use Rattle.std.specs.Prelude.{filter}
use Rattle.std.specs.FinMap.{entries}
use Rattle.msi_transform_pair.specs.Pair.{is_row_gone}
use Rattle.msi_transform_rows.specs.RowStreams.{stream_text}
use Rattle.msi_transform_pair.proofs.stream_names.push_streams_beside.Given as goal

abbrev pub invariant-loop-key : goal.invariant-loop-key
invariant-loop-key l = record {
  whole : l.texts.items ++ map (λ e. stream_text l.table e.0) (filter (is_row_gone (entries l.others)) l.key-iterator)
      ≡ l.fn.texts.items ++ map (λ e. stream_text l.table e.0) (filter (is_row_gone (entries l.others)) (entries l.rows));
}
