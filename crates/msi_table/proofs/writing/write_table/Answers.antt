use Rattle.std.proofs.Common.{◌≡◌, ◌≤◌, ◌∙◌, ◌++◌, List, ap, sym, arith, length, [], Some}
use Rattle.std.specs.Prelude.{slice_index_or}
use Rattle.std.proofs.lemmas.List.{append-nil, drop_all}
use Rattle.std.proofs.lemmas.Option.{slice_get-get_or}
use Rattle.msi_table_values.specs.declared.column.ColumnType.TheVariants as coltype
use Rattle.msi_table_values.specs.declared.column.ColumnType.{ColumnType}
use Rattle.msi_table.specs.Cells.{column_bytes, table_bytes, rows_in}
use Rattle.msi_table_values.specs.Columns.{ColumnDef, types_of}
use Rattle.msi_table_cells.specs.Fitting.{FitsRow}
use Rattle.msi_table_values.proofs.ColumnTypesLemmas.{below_types, length-types_of, type_at}
use Rattle.msi_table_cells.proofs.FittingLemmas.{fits_at}
use Rattle.msi_table.proofs.ReadBackLemmas.{column_written, rows_in-table_bytes}
use Rattle.msi_table_cells.proofs.SortedRowsLemmas.{all_at}
use Rattle.msi_table.proofs.writing.write_table.Goals as goal

pub write_column-requires : goal.write_column-requires
write_column-requires c = λ i h.
    let t = type_at c.args.columns.now c.loop-j.j c.coltype.result c.index-columns-j.result c.loop-j-test.true (c.coltype.ensures ∙ ap (λ (x : ColumnDef). x.coltype) c.index-columns-j.is) in
    fits_at c.args.long (types_of c.args.columns.now) (slice_index_or c.args.rows.now i []) c.loop-j.j c.coltype.result
    (all_at (FitsRow c.args.long (types_of c.args.columns.now)) c.args.rows.now i [] c.requires.each_row h)
    (slice_get-get_or (types_of c.args.columns.now) c.loop-j.j coltype.Int16 (below_types c.args.columns.now c.loop-j.j c.loop-j-test.true) ∙ ap Some (sym t))

pub loop-j-preserved : goal.loop-j-preserved
loop-j-preserved c =
    let t = type_at c.args.columns.now c.loop-j.j c.coltype.result c.index-columns-j.result c.loop-j-test.true (c.coltype.ensures ∙ ap (λ (x : ColumnDef). x.coltype) c.index-columns-j.is) in
    record {
      out = column_written c.args.long (types_of c.args.columns.now) c.args.rows.now c.loop-j.out.items c.write_column.new.out.items c.loop-j.j c.coltype.result
          (below_types c.args.columns.now c.loop-j.j c.loop-j-test.true) t c.in_ok-write_column.ensures.ok
          ∙ c.loop-j.invariant.out;
    }

pub returns-clause-reads_back : goal.returns-clause-reads_back
returns-clause-reads_back c =
    let h : length (types_of c.args.columns.now) ≤ c.loop-j.j = omega (arith, length-types_of c.args.columns.now) in
    let e : c.loop-j.out.items ≡ table_bytes c.args.long (types_of c.args.columns.now) c.args.rows.now =
    sym (append-nil c.loop-j.out.items)
    ∙ ap (λ (types : List ColumnType). c.loop-j.out.items ++ column_bytes c.args.long c.args.rows.now c.loop-j.j types) (sym (drop_all c.loop-j.j (types_of c.args.columns.now) h))
    ∙ c.loop-j.invariant.out in
    ap (rows_in c.args.long (types_of c.args.columns.now)) e ∙ rows_in-table_bytes c.args.long (types_of c.args.columns.now) c.args.rows.now c.requires
