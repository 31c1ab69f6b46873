use Rattle.std.proofs.Common.{◌≡◌, Ok, Result, subst, sym}
use Rattle.std.specs.Prelude.{IfErr, IfOk}
use Rattle.msi_base.specs.declared.errors.ErrorKind.{ErrorKind}
use Rattle.msi_base.specs.Refusals.{IsRefusal}
use Rattle.msi_transform.specs.Transforms.{TransformDef}
use Rattle.msi.proofs.packages.TransformMakingLemmas.{made_is, at_fault_is, both_are_installers, new_is_other, old_is_other}
use Rattle.msi.proofs.package.Package.transform_to.Goals as goal

pub returns-clause-ok : goal.returns-clause-ok
returns-clause-ok g c = subst (λ (r : Result TransformDef ErrorKind). IfOk c.transform_to.result (λ t. r ≡ Ok t))
    (sym (made_is c.args.self.now c.args.new.now _ c.self.view_is _ c.new.view_is c.settle.new.database c.settle-2.new.database c.settle.ensures.database c.settle-2.ensures.database
    c.stored_page-page_id.result c.stored_page-new_page_id.result c.stored_page-page_id.ensures c.stored_page-new_page_id.ensures c.in_ok-check_installer.ensures c.in_ok-check_installer-2.ensures))
    c.transform_to.ensures.ok

pub returns-clause-kind : goal.returns-clause-kind
returns-clause-kind g c = subst (λ (r : Result TransformDef ErrorKind). IfErr c.transform_to.result (λ refusal. IsRefusal r refusal.kind))
    (sym (made_is c.args.self.now c.args.new.now _ c.self.view_is _ c.new.view_is c.settle.new.database c.settle-2.new.database c.settle.ensures.database c.settle-2.ensures.database
    c.stored_page-page_id.result c.stored_page-new_page_id.result c.stored_page-page_id.ensures c.stored_page-new_page_id.ensures c.in_ok-check_installer.ensures c.in_ok-check_installer-2.ensures))
    c.transform_to.ensures.kind

pub returns-clause-table : goal.returns-clause-table
returns-clause-table g c = at_fault_is c.args.self.now c.args.new.now _ c.self.view_is _ c.new.view_is c.settle.new.database c.settle-2.new.database c.settle.ensures.database c.settle-2.ensures.database
    c.stored_page-page_id.result c.stored_page-new_page_id.result c.stored_page-page_id.ensures c.stored_page-new_page_id.ensures c.transform_to.result c.transform_to.ensures.table

pub returns-in_err-check_installer-clause-early : goal.returns-in_err-check_installer-clause-early
returns-in_err-check_installer-clause-early g c = old_is_other c.args.self.now c.args.new.now _ c.self.view_is c.from_residual.result c.in_err-check_installer.field-0.0
    c.in_err-check_installer.ensures c.from_residual.ensures.1

pub returns-in_err-check_installer-2-clause-early : goal.returns-in_err-check_installer-2-clause-early
returns-in_err-check_installer-2-clause-early g c = new_is_other c.args.self.now c.args.new.now _ c.self.view_is c.from_residual-in_err-check_installer-2.result _ c.new.view_is
    _ c.in_ok-check_installer.ensures c.in_err-check_installer-2.field-0.0 c.in_err-check_installer-2.ensures c.from_residual-in_err-check_installer-2.ensures.1

pub returns-clause-early : goal.returns-clause-early
returns-clause-early g c = both_are_installers c.args.self.now c.args.new.now _ c.self.view_is c.transform_to.result _ c.new.view_is
    _ _ c.in_ok-check_installer.ensures c.in_ok-check_installer-2.ensures c.settle.new.database c.settle-2.new.database c.settle.ensures.database c.settle-2.ensures.database c.transform_to.ensures.early
