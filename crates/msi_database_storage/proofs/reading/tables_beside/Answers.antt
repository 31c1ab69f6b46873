use Rattle.std.proofs.Common.{◌≡◌, ◌∙◌, ap, sym, Some, refl}
use Rattle.std.specs.Prelude.{map, option_map}
use Rattle.std.specs.FinMap.{entries}
use Rattle.msi_table_cells.specs.CellValues.{row_values}
use Rattle.msi_database_schema.specs.RowOrders.{rows_of}
use Rattle.msi_database_schema.specs.Schema.{SchemaRows, schema_of}
use Rattle.msi_database_schema.specs.System.{columns_columns, columns_name, tables_columns, tables_name, validation_columns, validation_name}
use Rattle.msi_database_storage.specs.Streams.{stored_rows}
use Rattle.msi_database_storage.specs.Agreement.{described_by, schema_in}
use Rattle.msi_database_storage.proofs.ReadingLemmas.{described_fails, schema_is, told_kind, told_long, told_ok}
use Rattle.msi_database_storage.proofs.PassedLemmas.{memory_refused, no_value}
use Rattle.msi_database_storage.proofs.reading.tables_beside.Goals as goal

pub returns-clause-ok : goal.returns-clause-ok
returns-clause-ok c = let streams = entries c.args.streams.now in let raw = c.args.pool.now in let values = map (row_values raw.places) in
    let tables : described_by streams raw tables_columns tables_name ≡ Some (values c.as_slice.result.now) =
    ap (option_map values) (ap (λ columns. stored_rows streams raw.long columns tables_name) (sym c.in_ok-tables_columns.ensures.ok) ∙ c.in_ok-tables.ensures.ok ∙ ap Some (sym c.as_slice.ensures.value)) in
    let columns : described_by streams raw columns_columns columns_name ≡ Some (values c.as_slice-2.result.now) =
    ap (option_map values) (ap (λ columns. stored_rows streams raw.long columns columns_name) (sym c.in_ok-columns_columns.ensures.ok) ∙ c.in_ok-columns.ensures.ok ∙ ap Some (sym c.as_slice-2.ensures.value)) in
    let validation : described_by streams raw validation_columns validation_name ≡ Some (values c.args.validation.now) =
    ap (option_map values) c.requires.validation in
    let s : SchemaRows = rows_of (values c.as_slice.result.now) (values c.as_slice-2.result.now) (values c.args.validation.now) in
    let is : schema_in streams raw ≡ schema_of s =
    schema_is streams raw (values c.as_slice.result.now) (values c.as_slice-2.result.now) (values c.args.validation.now) tables columns validation in
    told_ok streams raw c.tables_of_cells.result raw.long s refl is c.tables_of_cells.ensures

pub returns-clause-long : goal.returns-clause-long
returns-clause-long c = let streams = entries c.args.streams.now in let raw = c.args.pool.now in let values = map (row_values raw.places) in
    let s : SchemaRows = rows_of (values c.as_slice.result.now) (values c.as_slice-2.result.now) (values c.args.validation.now) in
    told_long streams raw c.tables_of_cells.result raw.long s refl c.tables_of_cells.ensures

pub returns-clause-kind : goal.returns-clause-kind
returns-clause-kind c = let streams = entries c.args.streams.now in let raw = c.args.pool.now in let values = map (row_values raw.places) in
    let tables : described_by streams raw tables_columns tables_name ≡ Some (values c.as_slice.result.now) =
    ap (option_map values) (ap (λ columns. stored_rows streams raw.long columns tables_name) (sym c.in_ok-tables_columns.ensures.ok) ∙ c.in_ok-tables.ensures.ok ∙ ap Some (sym c.as_slice.ensures.value)) in
    let columns : described_by streams raw columns_columns columns_name ≡ Some (values c.as_slice-2.result.now) =
    ap (option_map values) (ap (λ columns. stored_rows streams raw.long columns columns_name) (sym c.in_ok-columns_columns.ensures.ok) ∙ c.in_ok-columns.ensures.ok ∙ ap Some (sym c.as_slice-2.ensures.value)) in
    let validation : described_by streams raw validation_columns validation_name ≡ Some (values c.args.validation.now) =
    ap (option_map values) c.requires.validation in
    let s : SchemaRows = rows_of (values c.as_slice.result.now) (values c.as_slice-2.result.now) (values c.args.validation.now) in
    let is : schema_in streams raw ≡ schema_of s =
    schema_is streams raw (values c.as_slice.result.now) (values c.as_slice-2.result.now) (values c.args.validation.now) tables columns validation in
    told_kind streams raw c.tables_of_cells.result raw.long s refl is
    (described_fails streams raw c.requires.bytes (values c.as_slice.result.now) (values c.as_slice-2.result.now) (values c.args.validation.now) tables columns)
    c.tables_of_cells.ensures

pub returns-in_err-tables_columns-clause-ok : goal.returns-in_err-tables_columns-clause-ok
returns-in_err-tables_columns-clause-ok c = no_value _ c.from_residual.result c.in_err-tables_columns.field-0.0 c.from_residual.ensures.1

pub returns-in_err-tables_columns-clause-long : goal.returns-in_err-tables_columns-clause-long
returns-in_err-tables_columns-clause-long c = no_value _ c.from_residual.result c.in_err-tables_columns.field-0.0 c.from_residual.ensures.1

pub returns-in_err-tables_columns-clause-kind : goal.returns-in_err-tables_columns-clause-kind
returns-in_err-tables_columns-clause-kind c = memory_refused c.from_residual.result c.in_err-tables_columns.field-0.0 _ c.from_residual.ensures.1 c.in_err-tables_columns.ensures.kind

pub returns-in_err-tables-clause-ok : goal.returns-in_err-tables-clause-ok
returns-in_err-tables-clause-ok c = no_value _ c.from_residual-in_err-tables.result c.in_err-tables.field-0.0 c.from_residual-in_err-tables.ensures.1

pub returns-in_err-tables-clause-long : goal.returns-in_err-tables-clause-long
returns-in_err-tables-clause-long c = no_value _ c.from_residual-in_err-tables.result c.in_err-tables.field-0.0 c.from_residual-in_err-tables.ensures.1

pub returns-in_err-columns_columns-clause-ok : goal.returns-in_err-columns_columns-clause-ok
returns-in_err-columns_columns-clause-ok c = no_value _ c.from_residual-in_err-columns_columns.result c.in_err-columns_columns.field-0.0 c.from_residual-in_err-columns_columns.ensures.1

pub returns-in_err-columns_columns-clause-long : goal.returns-in_err-columns_columns-clause-long
returns-in_err-columns_columns-clause-long c = no_value _ c.from_residual-in_err-columns_columns.result c.in_err-columns_columns.field-0.0 c.from_residual-in_err-columns_columns.ensures.1

pub returns-in_err-columns_columns-clause-kind : goal.returns-in_err-columns_columns-clause-kind
returns-in_err-columns_columns-clause-kind c = memory_refused c.from_residual-in_err-columns_columns.result c.in_err-columns_columns.field-0.0 _ c.from_residual-in_err-columns_columns.ensures.1 c.in_err-columns_columns.ensures.kind

pub returns-in_err-columns-clause-ok : goal.returns-in_err-columns-clause-ok
returns-in_err-columns-clause-ok c = no_value _ c.from_residual-in_err-columns.result c.in_err-columns.field-0.0 c.from_residual-in_err-columns.ensures.1

pub returns-in_err-columns-clause-long : goal.returns-in_err-columns-clause-long
returns-in_err-columns-clause-long c = no_value _ c.from_residual-in_err-columns.result c.in_err-columns.field-0.0 c.from_residual-in_err-columns.ensures.1
