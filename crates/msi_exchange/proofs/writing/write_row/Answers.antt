use Rattle.std.proofs.Common.{cond, ap, sym, ◌∙◌}
use Rattle.msi_base.specs.declared.errors.ErrorKind.TheVariants.{InvalidInput, OutOfMemory}
use Rattle.msi_exchange.specs.Places.{no_memory}
use Rattle.msi_exchange.proofs.PlaceLemmas.{kind_is, no_place, placed_err, placed_on}
use Rattle.msi_exchange.proofs.writing.write_row.Goals as goal

pub returns-in_err-check_row-clause-kind : goal.returns-in_err-check_row-clause-kind
returns-in_err-check_row-clause-kind c =
    kind_is c.from_residual.result c.in_err-check_row.field-0.0 _ c.from_residual.ensures.1
    (c.in_err-check_row.ensures.kind.0 ∙ sym (ap (λ b. cond b OutOfMemory InvalidInput) c.in_err-check_row.ensures.kind.1))

pub returns-in_err-check_row-clause-place : goal.returns-in_err-check_row-clause-place
returns-in_err-check_row-clause-place c =
    placed_err c.from_residual.result _ (placed_on c.from_residual.result c.in_err-check_row.field-0.0 _ c.from_residual.ensures.1 c.in_err-check_row.ensures.place)

pub returns-in_err-push_row-clause-kind : goal.returns-in_err-push_row-clause-kind
returns-in_err-push_row-clause-kind c =
    kind_is c.from_residual-in_err-push_row.result no_memory _ c.from_residual-in_err-push_row.ensures.1 (sym (ap (λ b. cond b OutOfMemory InvalidInput) c.in_ok-check_row.ensures.kind))

pub returns-in_err-push_row-clause-place : goal.returns-in_err-push_row-clause-place
returns-in_err-push_row-clause-place c = placed_err c.from_residual-in_err-push_row.result _ (no_place c.from_residual-in_err-push_row.result _ c.from_residual-in_err-push_row.ensures.1)
