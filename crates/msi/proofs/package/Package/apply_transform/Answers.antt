use Rattle.std.proofs.Common.{Ok, subst}
use Rattle.msi_container_write.specs.LayoutLaw.{HaveNames}
use Rattle.msi.proofs.packages.ChangeLemmas.{held_sound}
use Rattle.msi.proofs.packages.TransformingLemmas.{applied_first, has_storages, left_kept, refused_on, transform_left, transform_refused, unapplied_first}
use Rattle.msi.proofs.package.Package.apply_transform.Goals as goal

pub invariant_of-self-2 : goal.invariant_of-self-2
invariant_of-self-2 g c = held_sound c.in_ok-database.database c.settle.new.name _ c.settle.ensures.taken c.in_ok-database.ensures.sound

pub returns-in_err-database-clause-kind : goal.returns-in_err-database-clause-kind
returns-in_err-database-clause-kind g c = let refusal = c.in_err-database.field-0.0 in
    refused_on c.from_residual-in_err-database.result refusal _ c.from_residual-in_err-database.ensures.1
    (transform_refused c.args.self.now c.args.transform.now c.args.passing _ c.self.view_is c.in_ok-check_storages.ensures
    c.settle.new.database c.settle.ensures.database c.stored_page-page_id.result c.stored_page-page_id.ensures refusal c.in_err-database.ensures.kind)

pub returns-clause-ok : goal.returns-clause-ok
returns-clause-ok g c =
    transform_left c.args.self.now c.args.transform.now c.args.passing _ c.self.view_is c.in_ok-check_storages.ensures
    c.settle.new.database c.settle.ensures.database c.stored_page-page_id.result c.stored_page-page_id.ensures
    c.in_ok-database.database c.settle.new.name c.settle.new.current.bytes c.settle.ensures.taken c.in_ok-database.ensures.ok

pub returns-clause-kept : goal.returns-clause-kept
returns-clause-kept g c =
    left_kept c.in_ok-database.database c.settle.new.name c.settle.new.current.bytes c.settle.ensures.taken
    (subst HaveNames c.streams.ensures c.look_at_names.ensures) c.kept.ensures

pub returns-in_err-check_storages-clause-early : goal.returns-in_err-check_storages-clause-early
returns-in_err-check_storages-clause-early g c = has_storages c.args.self.now c.from_residual.result c.in_err-check_storages.field-0.0 c.in_err-check_storages.ensures c.from_residual.ensures.1

pub returns-in_err-database-clause-early : goal.returns-in_err-database-clause-early
returns-in_err-database-clause-early g c = unapplied_first c.args.self.now c.from_residual-in_err-database.result _ c.self.view_is _ c.in_ok-check_storages.ensures
    c.settle.new.database c.settle.ensures.database c.in_err-database.field-0.0 c.in_err-database.ensures.early c.from_residual-in_err-database.ensures.1

pub returns-clause-early : goal.returns-clause-early
returns-clause-early g c = applied_first c.args.self.now (Ok tt) _ c.self.view_is _ c.in_ok-check_storages.ensures
    c.settle.new.database c.settle.ensures.database c.in_ok-database.database c.in_ok-database.ensures.early
