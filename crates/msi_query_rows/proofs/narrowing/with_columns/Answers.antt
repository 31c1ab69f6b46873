use Rattle.std.proofs.Common.{◌∙◌, sym}
use Rattle.msi_query.specs.Rows.{relation_values}
use Rattle.msi_query.proofs.SelectionLemmas.{all_projected, some_projected}
use Rattle.msi_query_rows.proofs.narrowing.with_columns.Goals as goal

pub returns-then-is_empty-clause-ok : goal.returns-then-is_empty-clause-ok
returns-then-is_empty-clause-ok c = λ places. all_projected c.args.names.now (relation_values places c.args.relation) (sym c.is_empty.ensures ∙ c.if-is_empty.true)

pub returns-clause-ok : goal.returns-clause-ok
returns-clause-ok c =
    some_projected c.args.names.now c.args.relation c.columns.result.now c.rows.result.now c.projected.result
    (sym c.is_empty.ensures ∙ c.if-is_empty.false) c.columns.ensures c.rows.ensures c.projected.ensures.ok
