use Rattle.std.proofs.Common.{◌≡◌, ◌∙◌, List, [], ap, refl, Some, None}
use Rattle.std.specs.Prelude.{Option, option_map, unwrap_or}
use Rattle.std.specs.FinMap.{entries}
use Rattle.msi_database_storage.specs.Streams.{stored_rows}
use Rattle.msi_table.specs.Rows as rows
use Rattle.msi_table_cells.specs.declared.cell.ValueRef.{ValueRef}
use Rattle.msi_table_values.specs.Columns.{ColumnDef}
use Rattle.msi_transform_schema.proofs.PackagePartsLemmas.{no_rows, rows_at, rows_found}
use Rattle.msi_transform_pair.specs.Pair.{Side}
use Rattle.msi_transform_pair.proofs.base.Base.stored_rows_of.Goals as goal

rows_back : (columns : List ColumnDef) (o : Option (List (List ValueRef))) (r : Option rows.TableRows) → r ≡ option_map (rows.table_rows columns) o → option_map (λ s. s.rows) r ≡ o
rows_back columns None r e = ap (option_map (λ (s : rows.TableRows). s.rows)) e
rows_back columns (Some read) r e = ap (option_map (λ (s : rows.TableRows). s.rows)) e

pub returns-in-Some : goal.returns-in-Some
returns-in-Some c = let p = c.self.inside in let t = c.in-Some.table.now in
    let o = stored_rows (entries p.streams.now) t.long t.columns t.name in
    ap (λ (o : Option (List (List ValueRef))). unwrap_or o []) (rows_back t.columns o c.table_rows.result c.table_rows.ensures)
    ∙ rows_found p.pool.now p.tables.now (entries p.streams.now) c.args.name.now t o c.self.invariant.1 c.in-Some.ensures.found refl
    ∙ ap (λ (s : Side). rows_at s.kept.database c.args.name.now) c.self.view_is

pub returns-in-None : goal.returns-in-None
returns-in-None c = let p = c.self.inside in
    no_rows p.pool.now p.tables.now (entries p.streams.now) c.args.name.now c.in-None.ensures.found
    ∙ ap (λ (s : Side). rows_at s.kept.database c.args.name.now) c.self.view_is
