use Rattle.std.proofs.Common.{◌∙◌, inr, sym}
use Rattle.msi_base.proofs.RefusalLemmas.{err_passed, first_answered, none_answered}
use Rattle.msi_database_changes.specs.Recounting.{counting_refusals, early_recount_refusals, recount}
use Rattle.msi_database_changes.proofs.steps.RefusedLemmas.{behind_passed, not_refused, refused_first}
use Rattle.msi_database.proofs.CellsCensusLemmas.{counts_are}
use Rattle.msi_database_storage.proofs.PassedLemmas.{memory_refused, no_value}
use Rattle.msi_database.proofs.keeping.RecountingLemmas.{refused_early, refused_late}
use Rattle.msi_database.proofs.database.Database.accepted_census.Goals as goal

pub returns-clause-counts : goal.returns-clause-counts
returns-clause-counts c = counts_are c.args.self.now.database c.in_ok-census.census c.in_ok-census.ensures.ok c.in_ok-check_cells.ensures.fits

pub returns-in_err-check_countable-clause-ok : goal.returns-in_err-check_countable-clause-ok
returns-in_err-check_countable-clause-ok c = no_value _ c.from_residual.result c.in_err-check_countable.field-0.0 c.from_residual.ensures.1

pub returns-in_err-check_countable-clause-counts : goal.returns-in_err-check_countable-clause-counts
returns-in_err-check_countable-clause-counts c = no_value _ c.from_residual.result c.in_err-check_countable.field-0.0 c.from_residual.ensures.1

pub returns-in_err-columns-clause-ok : goal.returns-in_err-columns-clause-ok
returns-in_err-columns-clause-ok c = no_value _ c.from_residual-in_err-columns.result c.in_err-columns.field-0.0 c.from_residual-in_err-columns.ensures.1

pub returns-in_err-columns-clause-counts : goal.returns-in_err-columns-clause-counts
returns-in_err-columns-clause-counts c = no_value _ c.from_residual-in_err-columns.result c.in_err-columns.field-0.0 c.from_residual-in_err-columns.ensures.1

pub returns-in_err-columns-clause-kind : goal.returns-in_err-columns-clause-kind
returns-in_err-columns-clause-kind c = memory_refused c.from_residual-in_err-columns.result c.in_err-columns.field-0.0 _ c.from_residual-in_err-columns.ensures.1 c.in_err-columns.ensures.kind

pub returns-in_err-standard-clause-ok : goal.returns-in_err-standard-clause-ok
returns-in_err-standard-clause-ok c = no_value _ c.from_residual-in_err-standard.result c.in_err-standard.field-0.0 c.from_residual-in_err-standard.ensures.1

pub returns-in_err-standard-clause-counts : goal.returns-in_err-standard-clause-counts
returns-in_err-standard-clause-counts c = no_value _ c.from_residual-in_err-standard.result c.in_err-standard.field-0.0 c.from_residual-in_err-standard.ensures.1

pub returns-in_err-standard-clause-kind : goal.returns-in_err-standard-clause-kind
returns-in_err-standard-clause-kind c = memory_refused c.from_residual-in_err-standard.result c.in_err-standard.field-0.0 _ c.from_residual-in_err-standard.ensures.1 c.in_err-standard.ensures.kind

pub returns-in_err-census-clause-ok : goal.returns-in_err-census-clause-ok
returns-in_err-census-clause-ok c = no_value _ c.from_residual-in_err-census.result c.in_err-census.field-0.0 c.from_residual-in_err-census.ensures.1

pub returns-in_err-census-clause-counts : goal.returns-in_err-census-clause-counts
returns-in_err-census-clause-counts c = no_value _ c.from_residual-in_err-census.result c.in_err-census.field-0.0 c.from_residual-in_err-census.ensures.1

pub returns-in_err-census-clause-kind : goal.returns-in_err-census-clause-kind
returns-in_err-census-clause-kind c = memory_refused c.from_residual-in_err-census.result c.in_err-census.field-0.0 _ c.from_residual-in_err-census.ensures.1 c.in_err-census.ensures.kind

pub returns-in_err-check_cells-clause-ok : goal.returns-in_err-check_cells-clause-ok
returns-in_err-check_cells-clause-ok c = no_value _ c.from_residual-in_err-check_cells.result c.in_err-check_cells.field-0.0 c.from_residual-in_err-check_cells.ensures.1

pub returns-in_err-check_cells-clause-counts : goal.returns-in_err-check_cells-clause-counts
returns-in_err-check_cells-clause-counts c = no_value _ c.from_residual-in_err-check_cells.result c.in_err-check_cells.field-0.0 c.from_residual-in_err-check_cells.ensures.1

pub returns-clause-kind : goal.returns-clause-kind
returns-clause-kind c = tt

pub returns-in_err-check_countable-clause-kind : goal.returns-in_err-check_countable-clause-kind
returns-in_err-check_countable-clause-kind c = let d = c.args.self.now.database in
    err_passed c.from_residual.result c.in_err-check_countable.field-0.0 (recount d) c.from_residual.ensures.1 (inr (refused_early d c.in_err-check_countable.field-0.0 c.in_err-check_countable.ensures))

pub returns-in_err-check_countable-clause-early : goal.returns-in_err-check_countable-clause-early
returns-in_err-check_countable-clause-early c = let d = c.args.self.now.database in
    first_answered (early_recount_refusals d) c.from_residual.result c.in_err-check_countable.field-0.0 c.from_residual.ensures.1 (refused_first (early_recount_refusals d) tt c.in_err-check_countable.field-0.0 (sym c.in_err-check_countable.ensures))

pub returns-in_err-columns-clause-early : goal.returns-in_err-columns-clause-early
returns-in_err-columns-clause-early c = let d = c.args.self.now.database in
    none_answered (early_recount_refusals d) c.from_residual-in_err-columns.result (not_refused (early_recount_refusals d) tt c.in_ok-check_countable.field-0 (sym c.in_ok-check_countable.ensures)).0

pub returns-in_err-standard-clause-early : goal.returns-in_err-standard-clause-early
returns-in_err-standard-clause-early c = let d = c.args.self.now.database in
    none_answered (early_recount_refusals d) c.from_residual-in_err-standard.result (not_refused (early_recount_refusals d) tt c.in_ok-check_countable.field-0 (sym c.in_ok-check_countable.ensures)).0

pub returns-in_err-census-clause-early : goal.returns-in_err-census-clause-early
returns-in_err-census-clause-early c = let d = c.args.self.now.database in
    none_answered (early_recount_refusals d) c.from_residual-in_err-census.result (not_refused (early_recount_refusals d) tt c.in_ok-check_countable.field-0 (sym c.in_ok-check_countable.ensures)).0

pub returns-in_err-check_cells-clause-early : goal.returns-in_err-check_cells-clause-early
returns-in_err-check_cells-clause-early c = let d = c.args.self.now.database in
    none_answered (early_recount_refusals d) c.from_residual-in_err-check_cells.result (not_refused (early_recount_refusals d) tt c.in_ok-check_countable.field-0 (sym c.in_ok-check_countable.ensures)).0

pub returns-in_err-check_cells-clause-kind : goal.returns-in_err-check_cells-clause-kind
returns-in_err-check_cells-clause-kind c = let d = c.args.self.now.database in
    err_passed c.from_residual-in_err-check_cells.result c.in_err-check_cells.field-0.0 (recount d) c.from_residual-in_err-check_cells.ensures.1
    (inr (refused_late d c.in_err-check_cells.field-0.0 (not_refused (early_recount_refusals d) tt c.in_ok-check_countable.field-0 (sym c.in_ok-check_countable.ensures)).0 c.in_err-check_cells.ensures.answer))

pub returns-clause-ok : goal.returns-clause-ok
returns-clause-ok c = let d = c.args.self.now.database in
    behind_passed (early_recount_refusals d) (counting_refusals d) (not_refused (early_recount_refusals d) tt c.in_ok-check_countable.field-0 (sym c.in_ok-check_countable.ensures)).0
    ∙ (not_refused (counting_refusals d) tt c.in_ok-check_cells.field-0 (sym c.in_ok-check_cells.ensures.answer)).0

pub returns-clause-early : goal.returns-clause-early
returns-clause-early c = let d = c.args.self.now.database in
    none_answered (early_recount_refusals d) _ (not_refused (early_recount_refusals d) tt c.in_ok-check_countable.field-0 (sym c.in_ok-check_countable.ensures)).0
