use Rattle.std.proofs.Common.{cond, ap, subst, sym, ◌∙◌}
use Rattle.msi_base.specs.declared.errors.ErrorKind.TheVariants.{InvalidInput, OutOfMemory}
use Rattle.msi_exchange.specs.Places.{no_memory}
use Rattle.msi_exchange.specs.TextArchives.{Means}
use Rattle.msi_exchange.proofs.PlaceLemmas.{kind_is, no_place, placed_err, placed_on}
use Rattle.msi_exchange.proofs.WrittenLemmas.{written_means}
use Rattle.msi_exchange.proofs.writing.write.Goals as goal

pub returns-clause-reads_back : goal.returns-clause-reads_back
returns-clause-reads_back c = subst (λ text. Means text c.args.archive.now) (sym c.in_ok-text.ensures) (written_means c.args.archive.now c.in_ok-check_archive.ensures.kind)

pub returns-in_err-check_archive-clause-place : goal.returns-in_err-check_archive-clause-place
returns-in_err-check_archive-clause-place c =
    placed_err c.from_residual.result _ (placed_on c.from_residual.result c.in_err-check_archive.field-0.0 _ c.from_residual.ensures.1 c.in_err-check_archive.ensures.place)

pub returns-in_err-text-clause-place : goal.returns-in_err-text-clause-place
returns-in_err-text-clause-place c = placed_err c.from_residual-in_err-text.result _ (no_place c.from_residual-in_err-text.result _ c.from_residual-in_err-text.ensures.1)

pub returns-in_err-check_archive-clause-kind : goal.returns-in_err-check_archive-clause-kind
returns-in_err-check_archive-clause-kind c =
    kind_is c.from_residual.result c.in_err-check_archive.field-0.0 _ c.from_residual.ensures.1
    (c.in_err-check_archive.ensures.kind.0 ∙ sym (ap (λ b. cond b OutOfMemory InvalidInput) c.in_err-check_archive.ensures.kind.1))

pub returns-in_err-text-clause-kind : goal.returns-in_err-text-clause-kind
returns-in_err-text-clause-kind c =
    kind_is c.from_residual-in_err-text.result no_memory _ c.from_residual-in_err-text.ensures.1 (sym (ap (λ b. cond b OutOfMemory InvalidInput) c.in_ok-check_archive.ensures.kind))
