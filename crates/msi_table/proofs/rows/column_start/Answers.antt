use Rattle.std.proofs.Common.{◌*◌, ◌∙◌, ap, arith, sum, take}
use Rattle.std.proofs.lemmas.Option.{get_or_from_slice_get}
use Rattle.msi_table.specs.Cells.{widths}
use Rattle.msi_table_values.specs.Columns.{types_of}
use Rattle.msi_table.proofs.PlacesLemmas.{first_widths, start_within}
use Rattle.msi_table.proofs.ReadRowsLemmas.{length-starts, start_noted}
use Rattle.msi_table.proofs.rows.column_start.Goals as goal

pub index-requires : goal.index-requires
index-requires c =
    let are = rw (c.in-Some.is) at c.requires.noted in
    omega (arith, c.in-Some.noted.ok.0, c.requires.column, length-starts c.args.long c.args.columns.now c.args.count c.in-Some.noted.items are)

pub returns-in-Some : goal.returns-in-Some
returns-in-Some c =
    let are = rw (c.in-Some.is) at c.requires.noted in
    c.index.ensures ∙ get_or_from_slice_get c.in-Some.noted.items c.args.j (c.args.count * sum (take c.args.j (widths c.args.long (types_of c.args.columns.now)))) _
    (start_noted c.args.long c.args.columns.now c.args.count c.args.j c.in-Some.noted.items c.requires.column are)

pub overflow_mul-result : goal.overflow_mul-result
overflow_mul-result c =
    let s = ap (λ n. c.args.count * n) (c.row_width.ensures ∙ ap sum (first_widths c.args.long c.args.columns.now c.args.j)) in
    omega (arith, s, start_within c.args.long c.args.columns.now c.args.count c.args.j c.requires.column, c.requires.fits)

pub returns-in-None : goal.returns-in-None
returns-in-None c = ap (λ n. c.args.count * n) (c.row_width.ensures ∙ ap sum (first_widths c.args.long c.args.columns.now c.args.j))
