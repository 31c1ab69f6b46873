use Rattle.std.proofs.Common.{◌∙◌, ap, arith}
use Rattle.msi_table_values.specs.Columns.{ColumnDef}
use Rattle.msi_table.specs.Cells.{width}
use Rattle.msi_table.proofs.CensusLemmas.{column_counted, column_within, columns_counted, nothing_more}
use Rattle.msi_table.proofs.PlacesLemmas.{start_more}
use Rattle.msi_table.proofs.census.Census.count_columns.Goals as goal

pub loop-column-init : goal.loop-column-init
loop-column-init c = record { counted = nothing_more c.args.self.now; start = omega arith }

pub count_column-requires : goal.count_column-requires
count_column-requires c =
    let type = c.coltype-coltype.ensures ∙ ap (λ (x : ColumnDef). x.coltype) c.column-item.is in
    column_within c.args.long c.args.columns.now c.args.bytes.now c.loop-column.start c.args.count c.loop-column.column-index (width c.args.long c.coltype-coltype.result) c.coltype-coltype.result c.column-item.result
    c.requires.count c.loop-column-test.true type (λ i. width c.args.long c.coltype-coltype.result) c.loop-column.invariant.start

pub overflow_mul-start : goal.overflow_mul-start
overflow_mul-start c =
    let type = c.coltype-coltype.ensures ∙ ap (λ (x : ColumnDef). x.coltype) c.column-item.is in
    let within = column_within c.args.long c.args.columns.now c.args.bytes.now c.loop-column.start c.args.count c.loop-column.column-index c.width.result c.coltype-coltype.result c.column-item.result
    c.requires.count c.loop-column-test.true type c.width.ensures.value c.loop-column.invariant.start in omega arith

pub overflow_add-start : goal.overflow_add-start
overflow_add-start c =
    let type = c.coltype-coltype.ensures ∙ ap (λ (x : ColumnDef). x.coltype) c.column-item.is in
    let within = column_within c.args.long c.args.columns.now c.args.bytes.now c.loop-column.start c.args.count c.loop-column.column-index c.width.result c.coltype-coltype.result c.column-item.result
    c.requires.count c.loop-column-test.true type c.width.ensures.value c.loop-column.invariant.start in omega arith

pub loop-column-preserved : goal.loop-column-preserved
loop-column-preserved c =
    let type = c.coltype-coltype.ensures ∙ ap (λ (x : ColumnDef). x.coltype) c.column-item.is in
    record {
      counted = column_counted c.args.long c.args.columns.now c.args.bytes.now c.loop-column.start c.args.count c.loop-column.column-index c.coltype-coltype.result c.column-item.result c.args.self.now c.loop-column.self c.count_column.new.self
          c.requires.count c.loop-column-test.true type c.loop-column.invariant.start c.loop-column.invariant.counted c.count_column.ensures;
      start = start_more c.args.long c.args.columns.now c.loop-column.start c.args.count c.loop-column.column-index c.width.result c.coltype-coltype.result c.column-item.result
          c.loop-column-test.true type c.width.ensures.value c.loop-column.invariant.start;
    }

pub returns : goal.returns
returns c = columns_counted c.args.long c.args.columns.now c.args.bytes.now c.args.count c.loop-column.column-index c.args.self.now c.loop-column.self (omega (arith, c.loop-column-test.false, c.loop-column.auto.column-index-end)) c.loop-column.invariant.counted
