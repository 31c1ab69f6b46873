use Rattle.std.proofs.Common.{◌≡◌, Some, refl, rules, subst}
use Rattle.std.specs.Vec.Iter.{into_iter_items}
use Rattle.msi_base.specs.declared.errors.ErrorKind.TheVariants.{InvalidInput}
use Rattle.msi_pool.specs.Pool.{Pool}
use Rattle.msi_base.specs.Refusals.{AnswersFirst, IsRefusal, or_refused}
use Rattle.msi_base.proofs.RefusalLemmas.{accepted_first, first_passed}
use Rattle.msi_database_storage.specs.Streams.{Streams}
use Rattle.msi.specs.Renewing.{renewed_over, text_refusals, with_renewed}
use Rattle.msi.specs.Flushing.{Overwrites, root_contents, told, unwritten_of}
use Rattle.msi.proofs.reading.FaultLemmas.{passed_faultless, unwritten_faultless}
use Rattle.msi.proofs.writing.FlushStepLemmas.{flush_refused_as, flush_written, left_streams, over_cleared}
use Rattle.msi.proofs.writing.RenewedLemmas.{renewed_are_others}
use Rattle.msi.proofs.flushing.write_parts.Goals as goal

pub write_with-requires : goal.write_with-requires
write_with-requires g c =
    renewed_are_others c.args.database.now.database c.args.is_summary_lent c.args.is_pool_changed c.in_ok-renewed.renewed.items (into_iter_items c.into_iter.result)
    c.requires c.in_ok-renewed.ensures.names c.into_iter.ensures.rest

pub returns-in_err-renewed-clause-flushed : goal.returns-in_err-renewed-clause-flushed
returns-in_err-renewed-clause-flushed g c =
    let s = unwritten_of c.args.root.kind c.args.root.has_storages c.args.summary.now c.args.is_summary_lent c.args.database.now c.args.is_pool_changed in
    flush_refused_as s (g.F.Source.held c.args.device.now) (g.F.Source.held c.clear_failed.new.self) (g.F.Source.failed c.args.device.now) (g.F.Source.failed c.clear_failed.new.self)
    (g.F.Source.pending c.args.device.now) (g.F.Source.pending c.clear_failed.new.self) c.args.database.now c.from_residual.result c.in_err-renewed.field-0.0 (search rules) refl
    c.clear_failed.ensures.held c.clear_failed.ensures.cleared
    (subst (λ (pool : Pool). IsRefusal (or_refused InvalidInput (renewed_over c.args.is_summary_lent c.args.summary.now c.args.is_pool_changed pool c.args.database.now.streams)) c.in_err-renewed.field-0.0)
    c.pool.ensures (c.in_err-renewed.ensures.kind c.args.database.now.streams))
    (subst (λ (pool : Pool). AnswersFirst (text_refusals c.args.is_summary_lent c.args.summary.now c.args.is_pool_changed pool) c.from_residual.result) c.pool.ensures
    (first_passed _ (text_refusals c.args.is_summary_lent c.args.summary.now c.args.is_pool_changed c.pool.result.now) c.in_err-renewed.field-0.0 c.from_residual.result
    c.from_residual.ensures.1 c.in_err-renewed.ensures.early))

pub returns-in_err-renewed-clause-faultless : goal.returns-in_err-renewed-clause-faultless
returns-in_err-renewed-clause-faultless g c = λ _ _.
    passed_faultless c.from_residual.result c.in_err-renewed.field-0.0 c.from_residual.ensures.1
    (unwritten_faultless _ c.in_err-renewed.field-0.0 (c.in_err-renewed.ensures.kind c.args.database.now.streams))

pub returns-clause-flushed : goal.returns-clause-flushed
returns-clause-flushed g c =
    let s = unwritten_of c.args.root.kind c.args.root.has_storages c.args.summary.now c.args.is_summary_lent c.args.database.now c.args.is_pool_changed in
    let streams : Streams = with_renewed c.in_ok-renewed.renewed.items c.args.database.now.streams in
    flush_written s streams c.write_with.new.database
    (g.F.Source.held c.args.device.now) (g.F.Source.held c.write_with.new.device) (g.F.Source.failed c.args.device.now) (g.F.Source.failed c.write_with.new.device)
    (g.F.Source.pending c.args.device.now) (g.F.Source.pending c.write_with.new.device) c.write_with.result
    refl
    (subst (λ (pool : Pool). renewed_over c.args.is_summary_lent c.args.summary.now c.args.is_pool_changed pool c.args.database.now.streams
    ≡ Some streams) c.pool.ensures (c.in_ok-renewed.ensures.ok c.args.database.now.streams))
    (left_streams c.write_with.result c.write_with.new.database c.args.database.now (into_iter_items c.into_iter.result) c.in_ok-renewed.renewed.items c.write_with.ensures.ok c.into_iter.ensures.rest)
    (over_cleared (root_contents c.args.root.kind c.args.root.has_storages streams) (g.F.Source.held c.args.device.now) (g.F.Source.held c.clear_failed.new.self)
    (g.F.Source.failed c.clear_failed.new.self) c.write_with.result (told (g.F.Source.held c.write_with.new.device) (g.F.Source.failed c.write_with.new.device))
    c.clear_failed.ensures.held c.clear_failed.ensures.cleared
    (subst (λ (rs : Streams). Overwrites (root_contents c.args.root.kind c.args.root.has_storages (with_renewed rs c.args.database.now.streams))
    (told (g.F.Source.held c.clear_failed.new.self) (g.F.Source.failed c.clear_failed.new.self)) c.write_with.result
    (told (g.F.Source.held c.write_with.new.device) (g.F.Source.failed c.write_with.new.device)))
    c.into_iter.ensures.rest c.write_with.ensures.device))

pub returns-in_err-renewed-clause-early : goal.returns-in_err-renewed-clause-early
returns-in_err-renewed-clause-early g c =
    let r = c.from_residual.result in
    subst (λ (pool : Pool). AnswersFirst (text_refusals c.args.is_summary_lent c.args.summary.now c.args.is_pool_changed pool) r) c.pool.ensures
    (first_passed _ (text_refusals c.args.is_summary_lent c.args.summary.now c.args.is_pool_changed c.pool.result.now) c.in_err-renewed.field-0.0 r
    c.from_residual.ensures.1 c.in_err-renewed.ensures.early)

pub returns-clause-early : goal.returns-clause-early
returns-clause-early g c =
    let r = c.write_with.result in
    subst (λ (pool : Pool). AnswersFirst (text_refusals c.args.is_summary_lent c.args.summary.now c.args.is_pool_changed pool) r) c.pool.ensures
    (accepted_first (text_refusals c.args.is_summary_lent c.args.summary.now c.args.is_pool_changed c.pool.result.now) c.in_ok-renewed.renewed r
    c.in_ok-renewed.ensures.early)
