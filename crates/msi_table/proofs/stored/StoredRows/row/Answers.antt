use Rattle.std.proofs.Common.{◌≡◌, ◌<◌, ◌∙◌, Some, ap, arith, sym}
use Rattle.std.specs.Prelude.{slice_get}
use Rattle.std.proofs.lemmas.Result.{IfOk-weaker}
use Rattle.msi_base.specs.Lists.{tabulated}
use Rattle.msi_base.proofs.ListLemmas.{tabulated_at}
use Rattle.msi_table.specs.Cells.{row_in}
use Rattle.msi_table_values.specs.Columns.{types_of}
use Rattle.msi_table.proofs.ReadRowsLemmas.{length-tabulated}
use Rattle.msi_table.proofs.stored.StoredRows.row.Goals as goal

pub read_row-requires-clause-inside : goal.read_row-requires-clause-inside
read_row-requires-clause-inside c = let s = c.self.inside in let t = s.table.now in
    omega (arith, (rw (← c.self.view_is) at c.requires), length-tabulated s.count (row_in t.long (types_of t.columns) s.bytes.now))

pub returns-clause-ok : goal.returns-clause-ok
returns-clause-ok c = let s = c.self.inside in let t = s.table.now in let f = row_in t.long (types_of t.columns) s.bytes.now in
    let inside : c.args.at < s.count = omega (arith, (rw (← c.self.view_is) at c.requires), length-tabulated s.count f) in
    rw (← c.self.view_is) (IfOk-weaker c.read_row.result (λ row. row ≡ f c.args.at) (λ row. slice_get (tabulated s.count f) c.args.at ≡ Some row)
    (λ row e. tabulated_at f s.count c.args.at inside ∙ ap Some (sym e))
    (rw (← c.is_long.ensures, ← c.columns.ensures.columns) c.read_row.ensures.ok))
