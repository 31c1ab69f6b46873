use Rattle.std.proofs.Common.{◌≡◌, ◌≢◌, ◌==◌, ◌&&◌, ◌||◌, false, map, not, take}
use Rattle.std.specs.Io.KnownBytes.{Appends}
use Rattle.csv.specs.Writing.{fields_written, first_length, has_written, is_blank, row_body, text_written, writer_setup}
use Rattle.csv.specs.declared.writer.QuoteStyle.TheVariants.{NonNumeric}
use Rattle.msi_exchange.specs.CsvRows.{value_field}
use Rattle.msi_exchange.proofs.csv_rows.write_csv_row.Given as goal

abbrev pub invariant-loop-i : goal.invariant-loop-i
invariant-loop-i g l = record {
  setup : writer_setup l.writer ≡ writer_setup l.fn.writer;
  first : first_length l.writer ≡ first_length l.fn.writer;
  count : fields_written l.fn.writer ≡ 0 → fields_written l.writer ≡ l.i;
  written : fields_written l.fn.writer ≡ 0 → has_written l.fn.writer ≡ false → (writer_setup l.fn.writer).style ≢ NonNumeric
      → Appends (text_written g.W.Write.contents l.fn.writer) (text_written g.W.Write.contents l.writer) (row_body (writer_setup l.fn.writer) (take l.i (map value_field l.row.values)))
      × (fields_written l.writer ≡ l.i)
      × (is_blank (writer_setup l.fn.writer) (take l.i (map value_field l.row.values)) ≡ (not (has_written l.writer) && ((l.i == 0) || (l.i == 1))));
}
