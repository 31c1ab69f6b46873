use Rattle.std.proofs.Common.{◌∙◌}
use Rattle.msi_base.proofs.RefusalLemmas.{accepted_first, err_passed, first_passed}
use Rattle.msi_database.specs.RecountedDatabases.{early_recount_refusals}
use Rattle.msi.proofs.packages.ChangeLemmas.{answered_behind, held_sound}
use Rattle.msi.proofs.packages.RecountingLemmas.{recount_answered, recount_left, recount_refused}
use Rattle.msi.proofs.package.Package.recount.Goals as goal

pub invariant_of-self-2 : goal.invariant_of-self-2
invariant_of-self-2 g c = held_sound c.recount.new.self c.settle.new.name _ c.settle.ensures.taken c.in_ok-changed.ensures.sound

pub note_change-requires : goal.note_change-requires
note_change-requires g c = λ used. c.in_ok-changed.ensures.sound

pub returns-in_err-changed-clause-kind : goal.returns-in_err-changed-clause-kind
returns-in_err-changed-clause-kind g c =
    err_passed c.from_residual-in_err-changed.result c.in_err-changed.field-0.0 _ c.from_residual-in_err-changed.ensures.1
    (recount_refused _ c.args.self.now c.self.view_is c.in_ok-check_storages.ensures c.settle.new.database c.settle.ensures.database _ c.in_err-changed.ensures.kind)

pub returns-in_err-changed-clause-early : goal.returns-in_err-changed-clause-early
returns-in_err-changed-clause-early g c = let d = c.settle.new.database in let r = c.from_residual-in_err-changed.result in
    answered_behind _ c.args.self.now c.self.view_is early_recount_refusals c.in_ok-check_storages.ensures d c.settle.ensures.database r
    (first_passed _ (early_recount_refusals d.database) c.in_err-changed.field-0.0 r c.from_residual-in_err-changed.ensures.1 c.in_err-changed.ensures.early)

pub returns-clause-ok : goal.returns-clause-ok
returns-clause-ok g c = recount_answered _ c.args.self.now c.self.view_is c.in_ok-check_storages.ensures c.settle.new.database c.settle.ensures.database _ c.in_ok-changed.ensures.ok

pub returns-clause-left : goal.returns-clause-left
returns-clause-left g c = c.note_change.ensures
    ∙ recount_left _ c.args.self.now c.self.view_is c.in_ok-check_storages.ensures c.settle.new.database c.settle.ensures.database
    c.recount.new.self c.settle.new.name c.settle.new.current.bytes c.in_ok-changed.changed c.settle.ensures.taken c.in_ok-changed.ensures.left c.in_ok-changed.ensures.ok

pub returns-clause-early : goal.returns-clause-early
returns-clause-early g c = let d = c.settle.new.database in
    answered_behind _ c.args.self.now c.self.view_is early_recount_refusals c.in_ok-check_storages.ensures d c.settle.ensures.database _
    (accepted_first (early_recount_refusals d.database) c.in_ok-changed.changed _ c.in_ok-changed.ensures.early)
