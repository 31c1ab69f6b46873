use Rattle.msi_base.proofs.RefusalLemmas.{accepted_first, err_passed, first_passed}
use Rattle.std.proofs.Common.{true, refl, sym, subst}
use Rattle.msi_database.specs.AddColumn.{add_column, early_column_refusals}
use Rattle.msi_database.specs.Database.{Database}
use Rattle.msi.specs.State.{parts_of}
use Rattle.msi.specs.Steps.{changing}
use Rattle.msi.specs.Whole.{Leaves}
use Rattle.msi.proofs.packages.ChangeLemmas.{after_column, answered_behind, change_left, change_refused}
use Rattle.std.proofs.lemmas.Result.{err_from_is_err_and}
use Rattle.msi.proofs.package.Package.add_column.Goals as goal

pub invariant_of-self-2 : goal.invariant_of-self-2
invariant_of-self-2 g c =
    after_column c.settle.new.database c.add_column.new.self c.settle.new.name _ c.settle.ensures.taken c.settle.ensures.kept
    c.args.table.now c.args.column c.in_ok-is_pool_used.ensures.ok

pub returns-in_err-is_pool_used-clause-kind : goal.returns-in_err-is_pool_used-clause-kind
returns-in_err-is_pool_used-clause-kind g c =
    err_passed c.from_residual-in_err-is_pool_used.result c.in_err-is_pool_used.field-0.0 _ c.from_residual-in_err-is_pool_used.ensures.1
    (change_refused _ c.args.self.now c.self.view_is (λ (d : Database). add_column d c.args.table.now c.args.column)
    c.in_ok-check_storages.ensures c.settle.new.database _ c.settle.ensures.database c.in_err-is_pool_used.ensures.kind)

pub returns-clause-ok : goal.returns-clause-ok
returns-clause-ok g c =
    subst (Leaves c.args.self.now (changing (parts_of c.args.self.now.state) (λ (d : Database). add_column d c.args.table.now c.args.column))) (sym c.note_change.ensures)
    (change_left _ c.args.self.now c.self.view_is (λ (d : Database). add_column d c.args.table.now c.args.column) c.in_ok-check_storages.ensures
    c.settle.new.database c.add_column.new.self c.settle.new.name c.settle.new.current.bytes c.in_ok-is_pool_used.is_pool_used
    c.settle.ensures.database c.settle.ensures.taken c.in_ok-is_pool_used.ensures.ok c.in_ok-is_pool_used.ensures.used)

pub note_change-requires : goal.note_change-requires
note_change-requires g c = λ used.
    (after_column c.settle.new.database c.add_column.new.self c.settle.new.name true c.settle.ensures.taken c.settle.ensures.kept
    c.args.table.now c.args.column c.in_ok-is_pool_used.ensures.ok).changed refl

pub returns-in_err-is_pool_used-clause-early : goal.returns-in_err-is_pool_used-clause-early
returns-in_err-is_pool_used-clause-early g c = let d = c.settle.new.database in let r = c.from_residual-in_err-is_pool_used.result in
    answered_behind _ c.args.self.now c.self.view_is (λ (d : Database). early_column_refusals d c.args.table.now c.args.column) c.in_ok-check_storages.ensures d c.settle.ensures.database r
    (first_passed _ (early_column_refusals d.database c.args.table.now c.args.column) c.in_err-is_pool_used.field-0.0 r c.from_residual-in_err-is_pool_used.ensures.1 c.in_err-is_pool_used.ensures.early)

pub returns-clause-early : goal.returns-clause-early
returns-clause-early g c = let d = c.settle.new.database in
    answered_behind _ c.args.self.now c.self.view_is (λ (d : Database). early_column_refusals d c.args.table.now c.args.column) c.in_ok-check_storages.ensures d c.settle.ensures.database _
    (accepted_first (early_column_refusals d.database c.args.table.now c.args.column) c.in_ok-is_pool_used.is_pool_used _ c.in_ok-is_pool_used.ensures.early)

pub returns-in_err-check_storages-clause-ok : goal.returns-in_err-check_storages-clause-ok
returns-in_err-check_storages-clause-ok g c = let p = err_from_is_err_and c.from_residual.result c.from_residual.ensures.1 in rw p.1 tt

pub returns-in_err-is_pool_used-clause-ok : goal.returns-in_err-is_pool_used-clause-ok
returns-in_err-is_pool_used-clause-ok g c = let p = err_from_is_err_and c.from_residual-in_err-is_pool_used.result c.from_residual-in_err-is_pool_used.ensures.1 in rw p.1 tt
