use Rattle.std.proofs.Common.{◌∙◌, ap}
use Rattle.msi_table_values.specs.Columns.{ColumnDef, types_of}
use Rattle.msi_table_values.proofs.ColumnTypesLemmas.{below_types, type_at}
use Rattle.msi_table.proofs.ReadBackLemmas.{column_written}
use Rattle.msi_transform_rows.proofs.row_bytes.ordered_bytes.Goals as goal

pub loop-j-preserved : goal.loop-j-preserved
loop-j-preserved c =
    let t = type_at c.args.columns.now c.loop-j.j c.coltype.result c.index-columns-j.result c.loop-j-test.true (c.coltype.ensures ∙ ap (λ (x : ColumnDef). x.coltype) c.index-columns-j.is) in
    record {
      out = column_written c.args.long (types_of c.args.columns.now) c.args.rows.now c.loop-j.out.items c.write_column.new.out.items c.loop-j.j c.coltype.result
          (below_types c.args.columns.now c.loop-j.j c.loop-j-test.true) t c.in_ok-write_column.ensures.ok
          ∙ c.loop-j.invariant.out;
    }
