use Rattle.std.proofs.Common.{◌≡◌, ◌∙◌, ap, subst, IfOk, bytes_eq, codes}
use Rattle.msi_table_values.specs.Columns.{ColumnDef}
use Rattle.msi_database_schema.specs.Schema.{both_set, category_named, number_of, text_at, text_of, value_at, values_in}
use Rattle.msi_database_schema.proofs.ReadColumnLemmas.{row_describes, row_parts, with_category, with_foreign_key, with_nullable, with_range}
use Rattle.std.proofs.lemmas.Result.{err_from_is_err_and}
use Rattle.msi_database_schema.proofs.columns.described_column.Goals as goal
use Rattle.msi_database_schema.proofs.columns.described_column.Goals.{In_ok-builder}

-- the parts, one after the other
made : (c : In_ok-builder) → c.in_ok-builder.builder ≡ row_parts c.args.name c.args.row.now
made c =
    let row = c.args.row.now in
    c.in_ok-builder.ensures.ok ∙ ap (with_foreign_key (both_set text_of number_of (value_at 5 row) (value_at 6 row)))
    (c.with_category-builder.ensures ∙ ap (with_category (category_named (text_at 7 row)))
    (c.with_range.ensures ∙ ap (with_range (both_set number_of number_of (value_at 3 row) (value_at 4 row)))
    (c.with_nullable-builder.ensures ∙ ap (with_nullable (bytes_eq (text_at 2 row) (codes "Y"))) c.in_ok-build.ensures.ok)))

pub returns-clause-ok : goal.returns-clause-ok
returns-clause-ok c = subst (λ (b : ColumnDef). IfOk c.with_values.result (λ builder. builder ≡ b))
    (ap (λ (b : ColumnDef). record b { enum_values = values_in (value_at 8 c.args.row.now) }) (made (goal.at.returns-clause-ok c).In_ok-builder) ∙ row_describes c.args.name c.args.row.now) c.with_values.ensures.ok

pub returns-in_err-build-clause-ok : goal.returns-in_err-build-clause-ok
returns-in_err-build-clause-ok c = let p = err_from_is_err_and c.from_residual.result c.from_residual.ensures.1 in rw p.1 tt

pub returns-in_err-builder-clause-ok : goal.returns-in_err-builder-clause-ok
returns-in_err-builder-clause-ok c = let p = err_from_is_err_and c.from_residual-in_err-builder.result c.from_residual-in_err-builder.ensures.1 in rw p.1 tt
