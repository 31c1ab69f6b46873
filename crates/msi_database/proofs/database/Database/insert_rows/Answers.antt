use Rattle.std.proofs.Common.{◌≡◌, ◌∷◌, [], subst, sym}
use Rattle.std.proofs.lemmas.Result.{IfOk-weaker, on_ok_weaker}
use Rattle.msi_query.specs.Queries.{InsertQuery}
use Rattle.msi_base.proofs.RefusalLemmas.{accepted_first, first_passed}
use Rattle.msi_base.specs.Refusals.{AnswersFirst}
use Rattle.msi_database_changes.specs.Insert.{early_insert_refusals, insert_rows}
use Rattle.msi_database_storage.specs.Kept.{kept_of}
use Rattle.msi_database_storage.specs.Storing.{stored_in}
use Rattle.msi_database.specs.Listed.{tables_listed}
use Rattle.msi_database.specs.Making.{Leaves, TellsUse, base_with, insert_of}
use Rattle.msi_database.proofs.calls.RowCallLemmas.{makes_kept, makes_leaves, makes_sound}
use Rattle.msi_database.proofs.database.Database.insert_rows.Goals as goal

pub finish_rows-requires-clause-kept : goal.finish_rows-requires-clause-kept
finish_rows-requires-clause-kept c = let old = c.args.self.now in
    makes_kept old (insert_rows old.database (insert_of c.insert_parts.result)) (base_with c.in_ok-new.new.wide old) c.in_ok-new.new.pool (tables_listed (base_with c.in_ok-new.new.wide old).database) (c.in_ok-new.new.stored ∷ []) c.in_ok-new.ensures.ok

pub returns-clause-ok : goal.returns-clause-ok
returns-clause-ok c = let old = c.args.self.now in let new = c.finish_rows.new.self in
    let same : insert_of c.insert_parts.result ≡ c.args.query = λ i. record { table = c.insert_parts.ensures.table i; columns = c.insert_parts.ensures.columns i; rows = c.insert_parts.ensures.rows i } in
    on_ok_weaker {P = new ≡ kept_of c.in_ok-new.new.pool (tables_listed (base_with c.in_ok-new.new.wide old).database) (stored_in (c.in_ok-new.new.stored ∷ []) (base_with c.in_ok-new.new.wide old).streams)} c.finish_rows.result
    (λ e. subst (λ (q : InsertQuery). Leaves old (insert_rows old.database q) new) same
    (makes_leaves old new (insert_rows old.database (insert_of c.insert_parts.result)) (base_with c.in_ok-new.new.wide old) c.in_ok-new.new.pool (tables_listed (base_with c.in_ok-new.new.wide old).database) (c.in_ok-new.new.stored ∷ []) c.in_ok-new.ensures.ok e))
    c.finish_rows.ensures.ok

pub returns-clause-used : goal.returns-clause-used
returns-clause-used c = let old = c.args.self.now in
    let same : insert_of c.insert_parts.result ≡ c.args.query = λ i. record { table = c.insert_parts.ensures.table i; columns = c.insert_parts.ensures.columns i; rows = c.insert_parts.ensures.rows i } in
    IfOk-weaker c.finish_rows.result (λ used. used ≡ c.in_ok-new.new.is_pool_used) _
    (λ used e. subst (λ (q : InsertQuery). TellsUse (insert_rows old.database q) used) same
    (subst (TellsUse (insert_rows old.database (insert_of c.insert_parts.result))) (sym e) c.in_ok-new.ensures.used))
    c.finish_rows.ensures.used

pub finish_rows-requires-clause-sound : goal.finish_rows-requires-clause-sound
finish_rows-requires-clause-sound c = let old = c.args.self.now in
    makes_sound old (insert_rows old.database (insert_of c.insert_parts.result)) (base_with c.in_ok-new.new.wide old) c.in_ok-new.new.pool (tables_listed (base_with c.in_ok-new.new.wide old).database) (c.in_ok-new.new.stored ∷ []) c.in_ok-new.ensures.ok

pub returns-in_err-new-clause-early : goal.returns-in_err-new-clause-early
returns-in_err-new-clause-early c = let d = c.args.self.now.database in
    let same : insert_of c.insert_parts.result ≡ c.args.query = λ i. record { table = c.insert_parts.ensures.table i; columns = c.insert_parts.ensures.columns i; rows = c.insert_parts.ensures.rows i } in
    subst (λ (q : InsertQuery). AnswersFirst (early_insert_refusals d q) c.from_residual.result) same
    (first_passed _ (early_insert_refusals d (insert_of c.insert_parts.result)) c.in_err-new.field-0.0 c.from_residual.result c.from_residual.ensures.1 c.in_err-new.ensures.early)

pub returns-clause-early : goal.returns-clause-early
returns-clause-early c = let d = c.args.self.now.database in
    let same : insert_of c.insert_parts.result ≡ c.args.query = λ i. record { table = c.insert_parts.ensures.table i; columns = c.insert_parts.ensures.columns i; rows = c.insert_parts.ensures.rows i } in
    subst (λ (q : InsertQuery). AnswersFirst (early_insert_refusals d q) c.finish_rows.result) same
    (accepted_first (early_insert_refusals d (insert_of c.insert_parts.result)) c.in_ok-new.new c.finish_rows.result c.in_ok-new.ensures.early)
