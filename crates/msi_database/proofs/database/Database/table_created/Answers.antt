use Rattle.std.proofs.Common.{List, ap, subst, sym, ◌∙◌}
use Rattle.std.proofs.lemmas.Result.{IfOk-weaker}
use Rattle.msi_table_values.specs.Columns.{ColumnDef}
use Rattle.msi_base.specs.Refusals.{first_refusal}
use Rattle.msi_base.proofs.RefusalLemmas.{err_passed, first_answered, none_answered}
use Rattle.msi_database_storage.specs.Kept.{Kept}
use Rattle.msi_database.specs.Creating.{IsCreated, create_refusals}
use Rattle.msi_database.specs.Keeping.{IsKeptDatabase}
use Rattle.msi_database.proofs.calls.EarlyCallLemmas.{first_where_err, none_where_ok}
use Rattle.msi_database.proofs.widths.CreatingAtBothWidthsLemmas.{create_barred_either, create_called, made_with, named_with, rows_refused, told_with}
use Rattle.msi_database_storage.proofs.PassedLemmas.{memory_refuses, no_value}
use Rattle.msi_database.proofs.database.Database.table_created.Goals as goal

pub returns-in_err-refuse_create-clause-kind : goal.returns-in_err-refuse_create-clause-kind
returns-in_err-refuse_create-clause-kind c = let k = c.in_err-refuse_create.field-0.0 in
    err_passed c.from_residual.result k _ c.from_residual.ensures.1
    (create_barred_either c.args.self.now.database c.args.name.now c.args.columns c.as_slice.result.now c.as_slice.ensures k c.in_err-refuse_create.ensures.value)

pub returns-in_err-rows-clause-kind : goal.returns-in_err-rows-clause-kind
returns-in_err-rows-clause-kind c = let d = c.self.inside in let k = c.in_err-rows.field-0.0 in
    err_passed c.from_residual-in_err-rows.result k _ c.from_residual-in_err-rows.ensures.1
    (rows_refused c.args.self.now (subst IsKeptDatabase c.self.view_is c.self.invariant.kept) c.in_ok-refuse_create.ensures.sound d.pool (ap (λ (k : Kept). k.database.pool) c.self.view_is)
    c.in_ok-clone.field-0 (c.in_ok-clone.ensures.ok) c.new-pool.result c.new-pool.ensures c.args.name.now c.args.columns c.as_slice.result.now c.as_slice.ensures
    c.in_ok-refuse_create.field-0 c.in_ok-refuse_create.ensures.value c.as_slice-2.result.now c.as_slice-2.ensures k c.in_err-rows.ensures.kind)

pub created_over-requires-clause-held : goal.created_over-requires-clause-held
created_over-requires-clause-held c = let d = c.self.inside in
    (create_called c.args.self.now (subst IsKeptDatabase c.self.view_is c.self.invariant.kept) c.in_ok-refuse_create.ensures.sound d.pool (ap (λ (k : Kept). k.database.pool) c.self.view_is)
    c.in_ok-clone.field-0 (c.in_ok-clone.ensures.ok) c.new-pool.result c.new-pool.ensures c.args.name.now c.args.columns c.as_slice.result.now c.as_slice.ensures
    c.in_ok-refuse_create.field-0 c.in_ok-refuse_create.ensures.value c.as_slice-2.result.now c.as_slice-2.ensures c.in_ok-rows.rows c.rows_described.new.pool c.in_ok-rows.ensures.page c.in_ok-rows.ensures.long c.in_ok-rows.ensures.ok).held

pub returns-clause-ok : goal.returns-clause-ok
returns-clause-ok c = let d = c.self.inside in let old = c.args.self.now in
    IfOk-weaker c.created_over.result (λ made. IsCreated old c.args.name.now c.args.columns c.in_ok-rows.rows c.rows_described.new.pool made.new.wide made.new.stored.items made.new.tables made.new.pool made.is_pool_used) _
    (λ made is. made_with old c.args.name.now c.args.columns c.in_ok-rows.rows c.rows_described.new.pool
    (create_called c.args.self.now (subst IsKeptDatabase c.self.view_is c.self.invariant.kept) c.in_ok-refuse_create.ensures.sound d.pool (ap (λ (k : Kept). k.database.pool) c.self.view_is)
    c.in_ok-clone.field-0 (c.in_ok-clone.ensures.ok) c.new-pool.result c.new-pool.ensures c.args.name.now c.args.columns c.as_slice.result.now c.as_slice.ensures
    c.in_ok-refuse_create.field-0 c.in_ok-refuse_create.ensures.value c.as_slice-2.result.now c.as_slice-2.ensures c.in_ok-rows.rows c.rows_described.new.pool c.in_ok-rows.ensures.page c.in_ok-rows.ensures.long c.in_ok-rows.ensures.ok)
    made.new.wide made.new.stored.items made.new.tables made.new.pool made.is_pool_used is)
    c.created_over.ensures.ok

pub returns-clause-used : goal.returns-clause-used
returns-clause-used c = let d = c.self.inside in let old = c.args.self.now in
    IfOk-weaker c.created_over.result (λ made. IsCreated old c.args.name.now c.args.columns c.in_ok-rows.rows c.rows_described.new.pool made.new.wide made.new.stored.items made.new.tables made.new.pool made.is_pool_used) _
    (λ made is. told_with old c.args.name.now c.args.columns c.in_ok-rows.rows c.rows_described.new.pool
    (create_called c.args.self.now (subst IsKeptDatabase c.self.view_is c.self.invariant.kept) c.in_ok-refuse_create.ensures.sound d.pool (ap (λ (k : Kept). k.database.pool) c.self.view_is)
    c.in_ok-clone.field-0 (c.in_ok-clone.ensures.ok) c.new-pool.result c.new-pool.ensures c.args.name.now c.args.columns c.as_slice.result.now c.as_slice.ensures
    c.in_ok-refuse_create.field-0 c.in_ok-refuse_create.ensures.value c.as_slice-2.result.now c.as_slice-2.ensures c.in_ok-rows.rows c.rows_described.new.pool c.in_ok-rows.ensures.page c.in_ok-rows.ensures.long c.in_ok-rows.ensures.ok)
    made.new.wide made.new.stored.items made.new.tables made.new.pool made.is_pool_used is)
    c.created_over.ensures.ok

pub returns-clause-names : goal.returns-clause-names
returns-clause-names c = let d = c.self.inside in let old = c.args.self.now in
    IfOk-weaker c.created_over.result (λ made. IsCreated old c.args.name.now c.args.columns c.in_ok-rows.rows c.rows_described.new.pool made.new.wide made.new.stored.items made.new.tables made.new.pool made.is_pool_used) _
    (λ made is. named_with old c.args.name.now c.args.columns c.in_ok-rows.rows c.rows_described.new.pool
    (create_called c.args.self.now (subst IsKeptDatabase c.self.view_is c.self.invariant.kept) c.in_ok-refuse_create.ensures.sound d.pool (ap (λ (k : Kept). k.database.pool) c.self.view_is)
    c.in_ok-clone.field-0 (c.in_ok-clone.ensures.ok) c.new-pool.result c.new-pool.ensures c.args.name.now c.args.columns c.as_slice.result.now c.as_slice.ensures
    c.in_ok-refuse_create.field-0 c.in_ok-refuse_create.ensures.value c.as_slice-2.result.now c.as_slice-2.ensures c.in_ok-rows.rows c.rows_described.new.pool c.in_ok-rows.ensures.page c.in_ok-rows.ensures.long c.in_ok-rows.ensures.ok)
    made.new.wide made.new.stored.items made.new.tables made.new.pool made.is_pool_used is)
    c.created_over.ensures.ok

pub returns-in_err-refuse_create-clause-early : goal.returns-in_err-refuse_create-clause-early
returns-in_err-refuse_create-clause-early c = let d = c.args.self.now.database in let name = c.args.name.now in let k = c.in_err-refuse_create.field-0.0 in
    first_answered (create_refusals d name c.args.columns) c.from_residual.result k c.from_residual.ensures.1
    (ap (λ (cs : List ColumnDef). first_refusal (create_refusals d name cs)) (sym c.as_slice.ensures) ∙ first_where_err (create_refusals d name c.as_slice.result.now) tt k c.in_err-refuse_create.ensures.value)

pub returns-in_err-clone-clause-early : goal.returns-in_err-clone-clause-early
returns-in_err-clone-clause-early c = let d = c.args.self.now.database in let name = c.args.name.now in
    none_answered (create_refusals d name c.args.columns) _
    (ap (λ (cs : List ColumnDef). first_refusal (create_refusals d name cs)) (sym c.as_slice.ensures) ∙ none_where_ok (create_refusals d name c.as_slice.result.now) tt c.in_ok-refuse_create.field-0 c.in_ok-refuse_create.ensures.value)

pub returns-in_err-rows-clause-early : goal.returns-in_err-rows-clause-early
returns-in_err-rows-clause-early c = let d = c.args.self.now.database in let name = c.args.name.now in
    none_answered (create_refusals d name c.args.columns) _
    (ap (λ (cs : List ColumnDef). first_refusal (create_refusals d name cs)) (sym c.as_slice.ensures) ∙ none_where_ok (create_refusals d name c.as_slice.result.now) tt c.in_ok-refuse_create.field-0 c.in_ok-refuse_create.ensures.value)

pub returns-clause-early : goal.returns-clause-early
returns-clause-early c = let d = c.args.self.now.database in let name = c.args.name.now in
    none_answered (create_refusals d name c.args.columns) _
    (ap (λ (cs : List ColumnDef). first_refusal (create_refusals d name cs)) (sym c.as_slice.ensures) ∙ none_where_ok (create_refusals d name c.as_slice.result.now) tt c.in_ok-refuse_create.field-0 c.in_ok-refuse_create.ensures.value)

pub returns-in_err-refuse_create-clause-ok : goal.returns-in_err-refuse_create-clause-ok
returns-in_err-refuse_create-clause-ok c = no_value _ c.from_residual.result c.in_err-refuse_create.field-0.0 c.from_residual.ensures.1

pub returns-in_err-refuse_create-clause-used : goal.returns-in_err-refuse_create-clause-used
returns-in_err-refuse_create-clause-used c = no_value _ c.from_residual.result c.in_err-refuse_create.field-0.0 c.from_residual.ensures.1

pub returns-in_err-refuse_create-clause-names : goal.returns-in_err-refuse_create-clause-names
returns-in_err-refuse_create-clause-names c = no_value _ c.from_residual.result c.in_err-refuse_create.field-0.0 c.from_residual.ensures.1

pub returns-in_err-rows-clause-ok : goal.returns-in_err-rows-clause-ok
returns-in_err-rows-clause-ok c = no_value _ c.from_residual-in_err-rows.result c.in_err-rows.field-0.0 c.from_residual-in_err-rows.ensures.1

pub returns-in_err-rows-clause-used : goal.returns-in_err-rows-clause-used
returns-in_err-rows-clause-used c = no_value _ c.from_residual-in_err-rows.result c.in_err-rows.field-0.0 c.from_residual-in_err-rows.ensures.1

pub returns-in_err-rows-clause-names : goal.returns-in_err-rows-clause-names
returns-in_err-rows-clause-names c = no_value _ c.from_residual-in_err-rows.result c.in_err-rows.field-0.0 c.from_residual-in_err-rows.ensures.1

pub returns-clause-kind : goal.returns-clause-kind
returns-clause-kind c = memory_refuses c.created_over.result _ c.created_over.ensures.kind
