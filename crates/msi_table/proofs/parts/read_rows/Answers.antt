use Rattle.std.proofs.Common.{◌≡◌, ◌<◌, length, Some, arith}
use Rattle.std.proofs.lemmas.Result.{IfOk-weaker}
use Rattle.msi_table.specs.Cells.{rows_in}
use Rattle.msi_table_values.specs.Columns.{types_of}
use Rattle.msi_table_cells.specs.Fitting.{FitsTable}
use Rattle.msi_table.specs.Rows.{AreAsWide}
use Rattle.msi_table.proofs.ReadRowsLemmas.{all_bytes, read_fits}
use Rattle.msi_table.proofs.parts.read_rows.Goals as goal

pub returns-clause-ok : goal.returns-clause-ok
returns-clause-ok c = rw (← c.is_long.ensures, ← c.columns.ensures.columns) c.read_rows.ensures.ok

pub returns-clause-wide : goal.returns-clause-wide
returns-clause-wide c =
    let t = c.args.table.now in
    IfOk-weaker c.read_rows.result (λ rows. rows_in t.long (types_of t.columns) c.args.bytes.now ≡ Some rows.items) (λ rows. AreAsWide t.columns rows.items)
    (λ rows e. (read_fits t.long t.columns c.args.bytes.now rows.items e).0)
    (rw (← c.is_long.ensures, ← c.columns.ensures.columns) c.read_rows.ensures.ok)

pub returns-clause-storable : goal.returns-clause-storable
returns-clause-storable c =
    let t = c.args.table.now in
    IfOk-weaker c.read_rows.result (λ rows. rows_in t.long (types_of t.columns) c.args.bytes.now ≡ Some rows.items) (λ rows. 0 < length t.columns → FitsTable t.long (types_of t.columns) rows.items)
    (λ rows e some. (read_fits t.long t.columns c.args.bytes.now rows.items e).1 some (all_bytes c.args.bytes.now (λ i. omega (arith, c.type_inv.bytes i))))
    (rw (← c.is_long.ensures, ← c.columns.ensures.columns) c.read_rows.ensures.ok)

pub returns-clause-kind : goal.returns-clause-kind
returns-clause-kind c = rw (← c.is_long.ensures, ← c.columns.ensures.columns) c.read_rows.ensures.kind
