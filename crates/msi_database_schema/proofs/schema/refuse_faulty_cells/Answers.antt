use Rattle.std.proofs.Common.{◌∙◌, List, IfErr, ap, map, subst}
use Rattle.msi_base.specs.Results.{FailsAs}
use Rattle.msi_pool.specs.Pool.{Place}
use Rattle.msi_table_cells.specs.CellValues.{row_values}
use Rattle.msi_database_schema.specs.RowOrders.{rows_of}
use Rattle.msi_database_schema.specs.Schema.{SchemaRows, tables_of}
use Rattle.msi_database_schema.proofs.schema.refuse_faulty_cells.Goals as goal

pub returns-clause-kind : goal.returns-clause-kind
returns-clause-kind c = λ long. subst (λ (s : SchemaRows). IfErr c.refuse_faults.result (λ kind. FailsAs kind (tables_of long s)))
    ((λ i. rows_of (c.in_ok-tables.ensures.ok i) (c.in_ok-columns.ensures.ok i) (c.in_ok-validation.ensures.ok i))
    ∙ ap (λ (places : List Place). rows_of (map (row_values places) c.args.tables.now) (map (row_values places) c.args.columns.now) (map (row_values places) c.args.validation.now)) c.none-copies.ensures)
    (c.refuse_faults.ensures.kind long)
