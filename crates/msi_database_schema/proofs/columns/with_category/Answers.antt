use Rattle.std.proofs.Common.{◌∙◌, ap, sym, Option}
use Rattle.msi_categories.specs.declared.category.Category.{Category}
use Rattle.msi_categories.specs.Categories.{category_in}
use Rattle.msi_database_schema.specs.Schema.{text_at}
use Rattle.msi_database_schema.proofs.ReadColumnLemmas.{category_is, with_category}
use Rattle.msi_database_schema.proofs.columns.with_category.Goals as goal

pub returns-in-Ok : goal.returns-in-Ok
returns-in-Ok c = c.category.ensures
    ∙ sym (ap (λ (o : Option Category). with_category o c.args.builder) (category_is (text_at 7 c.args.row.now) ∙ ap category_in (sym c.text_at.ensures) ∙ c.in-Ok.ensures.value.0))

pub returns-in-Err : goal.returns-in-Err
returns-in-Err c =
    sym (ap (λ (o : Option Category). with_category o c.args.builder) (category_is (text_at 7 c.args.row.now) ∙ ap category_in (sym c.text_at.ensures) ∙ c.in-Err.ensures.value.1.0))
