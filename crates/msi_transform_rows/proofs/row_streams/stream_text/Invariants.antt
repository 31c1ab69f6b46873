use Rattle.std.proofs.Common.{◌≡◌, ◌++◌, drop, string_bytes}
use Rattle.msi_database_changes.specs.Views.{seen_row}
use Rattle.msi_transform_rows.specs.RowStreams.{stream_text}
use Rattle.msi_transform_rows.proofs.RowStreamsLemmas.{key_texts}
use Rattle.msi_transform_rows.proofs.row_streams.stream_text.Given as goal

abbrev pub invariant-loop-value : goal.invariant-loop-value
invariant-loop-value l = record {
  whole : string_bytes l.text ++ key_texts (seen_row (drop l.value-index l.key)) ≡ stream_text l.table (seen_row l.key);
}
