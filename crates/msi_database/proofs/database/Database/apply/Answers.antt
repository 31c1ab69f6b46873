use Rattle.std.proofs.Common.{◌≡◌, Ok, Result, subst, sym}
use Rattle.std.specs.Prelude.{IfErr, IfOk, None}
use Rattle.msi_base.specs.declared.errors.ErrorKind.{ErrorKind}
use Rattle.msi_database_changes.specs.Changes.{sound_refusal}
use Rattle.msi_database_storage.specs.Kept.{Kept}
use Rattle.msi_transform_applying.specs.LeftInHand.{left_in_hand}
use Rattle.msi_transform_rows.specs.RecordRefusals.{IsRefused, Refusal}
use Rattle.msi_database.proofs.TransformingLemmas.{applied_opened}
use Rattle.msi_database.proofs.calls.EarlyTransformLemmas.{passed_last, stopped_last}
use Rattle.msi_database.proofs.database.Database.apply.Goals as goal

pub returns-clause-ok : goal.returns-clause-ok
returns-clause-ok c = subst (λ (r : Result Kept Refusal). IfOk c.opened.result (λ d. r ≡ Ok d))
    (sym (applied_opened c.args.self.now c.args.page_id c.args.transform.now c.args.passing c.in_ok-check_sound.ensures (left_in_hand c.in_ok-left.left) c.in_ok-left.ensures.ok)) c.opened.ensures.ok

pub returns-clause-kind : goal.returns-clause-kind
returns-clause-kind c = subst (λ (r : Result Kept Refusal). IfErr c.opened.result (IsRefused r))
    (sym (applied_opened c.args.self.now c.args.page_id c.args.transform.now c.args.passing c.in_ok-check_sound.ensures (left_in_hand c.in_ok-left.left) c.in_ok-left.ensures.ok)) c.opened.ensures.kind

abbrev placeless : ErrorKind → Refusal
placeless kind = record { kind = kind; place = None }

pub returns-in_err-check_sound-clause-early : goal.returns-in_err-check_sound-clause-early
returns-in_err-check_sound-clause-early c =
    stopped_last placeless c.from_residual.result (sound_refusal c.args.self.now.database) c.in_err-check_sound.field-0.0 c.in_err-check_sound.ensures c.from_residual.ensures.1

pub returns-in_err-left-clause-early : goal.returns-in_err-left-clause-early
returns-in_err-left-clause-early c = passed_last placeless c.from_residual-in_err-left.result (sound_refusal c.args.self.now.database) _ c.in_ok-check_sound.ensures

pub returns-clause-early : goal.returns-clause-early
returns-clause-early c = passed_last placeless c.opened.result (sound_refusal c.args.self.now.database) _ c.in_ok-check_sound.ensures
