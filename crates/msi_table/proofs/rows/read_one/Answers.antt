use Rattle.std.proofs.Common.{ℕ, ◌∙◌, ap, arith, refl}
use Rattle.msi_table.specs.Cells.{row_count}
use Rattle.msi_table_values.specs.Columns.{ColumnDef, types_of}
use Rattle.msi_table.proofs.PlacesLemmas.{cell_is_inside, cell_read}
use Rattle.msi_table.proofs.rows.read_one.Goals as goal

pub overflow_mul-i : goal.overflow_mul-i
overflow_mul-i c =
    let t = c.coltype-coltype.ensures ∙ ap (λ (x : ColumnDef). x.coltype) c.index-columns-j.is in
    let n : ℕ = row_count c.args.long (types_of c.args.columns.now) c.args.bytes.now in
    let b = cell_is_inside c.args.long c.args.columns.now c.args.bytes.now c.args.start n c.args.i c.args.j c.width.result c.coltype-coltype.result c.index-columns-j.result
    refl c.requires.row c.requires.column t c.width.ensures.value c.requires.start in omega arith

pub overflow_add-start : goal.overflow_add-start
overflow_add-start c =
    let t = c.coltype-coltype.ensures ∙ ap (λ (x : ColumnDef). x.coltype) c.index-columns-j.is in
    let n : ℕ = row_count c.args.long (types_of c.args.columns.now) c.args.bytes.now in
    let b = cell_is_inside c.args.long c.args.columns.now c.args.bytes.now c.args.start n c.args.i c.args.j c.width.result c.coltype-coltype.result c.index-columns-j.result
    refl c.requires.row c.requires.column t c.width.ensures.value c.requires.start in omega arith

pub read_cell-requires : goal.read_cell-requires
read_cell-requires c =
    let t = c.coltype-coltype.ensures ∙ ap (λ (x : ColumnDef). x.coltype) c.index-columns-j.is in
    let n : ℕ = row_count c.args.long (types_of c.args.columns.now) c.args.bytes.now in
    let b = cell_is_inside c.args.long c.args.columns.now c.args.bytes.now c.args.start n c.args.i c.args.j c.width.result c.coltype-coltype.result c.index-columns-j.result
    refl c.requires.row c.requires.column t c.width.ensures.value c.requires.start in omega arith

pub returns : goal.returns
returns c =
    let t = c.coltype-coltype.ensures ∙ ap (λ (x : ColumnDef). x.coltype) c.index-columns-j.is in
    cell_read c.args.long c.args.columns.now c.args.bytes.now c.args.start (row_count c.args.long (types_of c.args.columns.now) c.args.bytes.now) c.args.i c.args.j c.width.result c.coltype-coltype.result
    c.index-columns-j.result c.read_cell.result
    refl c.requires.column t c.width.ensures.value c.requires.start c.read_cell.ensures
