use Rattle.std.proofs.Common.{◌≡◌, Ok, Result, subst, sym}
use Rattle.std.specs.Prelude.{IfErr, IfOk}
use Rattle.std.specs.FinMap.{entries}
use Rattle.msi_transform_applying.specs.AnewInHand.{changed_in_hand}
use Rattle.msi_transform_applying.specs.Applying.{Left}
use Rattle.msi_transform_applying.specs.LeftInHand.{left_in_hand}
use Rattle.msi_transform_rows.specs.RecordRefusals.{IsRefused, Refusal}
use Rattle.msi_database.proofs.TransformingLemmas.{applied_is, change_is}
use Rattle.msi_database.proofs.database.Database.left_by.Goals as goal

pub returns-clause-ok : goal.returns-clause-ok
returns-clause-ok c = let k = c.args.self.now in let t = c.args.transform.now in let d = c.self.inside in let change = c.new-change.result in
    subst (λ (r : Result Left Refusal). IfOk c.leave.result (λ left. r ≡ Ok (left_in_hand left)))
    (sym (applied_is k c.args.page_id t c.args.passing change
    (change_is change d.pool d.tables c.as_slice-tables.result.now (entries d.streams) k t c.args.passing c.self.view_is c.as_slice-tables.ensures c.new-change.ensures)
    (changed_in_hand c.in_ok-changed.changed) c.in_ok-changed.ensures.ok)) c.leave.ensures.ok

pub returns-clause-kind : goal.returns-clause-kind
returns-clause-kind c = let k = c.args.self.now in let t = c.args.transform.now in let d = c.self.inside in let change = c.new-change.result in
    subst (λ (r : Result Left Refusal). IfErr c.leave.result (IsRefused r))
    (sym (applied_is k c.args.page_id t c.args.passing change
    (change_is change d.pool d.tables c.as_slice-tables.result.now (entries d.streams) k t c.args.passing c.self.view_is c.as_slice-tables.ensures c.new-change.ensures)
    (changed_in_hand c.in_ok-changed.changed) c.in_ok-changed.ensures.ok)) c.leave.ensures.kind
