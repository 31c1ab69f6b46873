use Rattle.std.specs.Prelude.{None}
use Rattle.msi_base.specs.declared.errors.ErrorKind.{ErrorKind}
use Rattle.msi_database_changes.specs.Changes.{sound_refusal}
use Rattle.msi_transform_pair.specs.MakingRefusals.{MakingRefusal}
use Rattle.msi_database.specs.TransformMaking.{side}
use Rattle.msi_database.proofs.calls.EarlyTransformLemmas.{passed_last, passed_on, stopped_at, stopped_last}
use Rattle.msi_database.proofs.TransformMakingLemmas.{at_fault_between, made_between, refused_between}
use Rattle.msi_database.proofs.database.Database.transform_to.Goals as goal

pub returns-clause-ok : goal.returns-clause-ok
returns-clause-ok c = made_between (side c.args.page_id c.args.self.now) (side c.args.new_page_id c.args.new.now) c.base-old_base.result c.base-new_base.result c.base-old_base.ensures c.base-new_base.ensures
    c.in_ok-check_sound_side.ensures c.in_ok-check_sound_side-2.ensures c.make.result c.make.ensures.ok

pub returns-clause-kind : goal.returns-clause-kind
returns-clause-kind c = refused_between (side c.args.page_id c.args.self.now) (side c.args.new_page_id c.args.new.now) c.base-old_base.result c.base-new_base.result c.base-old_base.ensures c.base-new_base.ensures
    c.in_ok-check_sound_side.ensures c.in_ok-check_sound_side-2.ensures c.make.result c.make.ensures.kind

pub returns-clause-table : goal.returns-clause-table
returns-clause-table c = at_fault_between (side c.args.page_id c.args.self.now) (side c.args.new_page_id c.args.new.now) c.base-old_base.result c.base-new_base.result c.base-old_base.ensures c.base-new_base.ensures
    c.in_ok-check_sound_side.ensures c.in_ok-check_sound_side-2.ensures c.make.result c.make.ensures.table

abbrev tableless : ErrorKind → MakingRefusal
tableless kind = record { kind = kind; table = None }

pub returns-in_err-check_sound_side-clause-early : goal.returns-in_err-check_sound_side-clause-early
returns-in_err-check_sound_side-clause-early c =
    stopped_at tableless c.from_residual.result (sound_refusal c.args.self.now.database) (sound_refusal c.args.new.now.database) c.in_err-check_sound_side.field-0.0
    c.in_err-check_sound_side.ensures c.from_residual.ensures.1

pub returns-in_err-check_sound_side-2-clause-early : goal.returns-in_err-check_sound_side-2-clause-early
returns-in_err-check_sound_side-2-clause-early c =
    passed_on tableless c.from_residual-in_err-check_sound_side-2.result (sound_refusal c.args.self.now.database) (sound_refusal c.args.new.now.database) _ c.in_ok-check_sound_side.ensures
    (stopped_last tableless c.from_residual-in_err-check_sound_side-2.result (sound_refusal c.args.new.now.database) c.in_err-check_sound_side-2.field-0.0
    c.in_err-check_sound_side-2.ensures c.from_residual-in_err-check_sound_side-2.ensures.1)

pub returns-clause-early : goal.returns-clause-early
returns-clause-early c =
    passed_on tableless c.make.result (sound_refusal c.args.self.now.database) (sound_refusal c.args.new.now.database) _ c.in_ok-check_sound_side.ensures
    (passed_last tableless c.make.result (sound_refusal c.args.new.now.database) _ c.in_ok-check_sound_side-2.ensures)
