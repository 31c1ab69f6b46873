use Rattle.std.proofs.Common.{◌≡◌, ◌∙◌, Some, ap, inr, rules, subst, sym}
use Rattle.std.specs.Prelude.{IfErr, IfOk, Ok}
use Rattle.msi_base.specs.declared.errors.ErrorKind.TheVariants.{InvalidInput}
use Rattle.msi_pool.specs.Pool.{Pool}
use Rattle.msi_container_write.specs.Borrowed.{contents_of}
use Rattle.msi_base.specs.Refusals.{AnswersFirst, IsRefusal, or_refused}
use Rattle.msi_base.proofs.RefusalLemmas.{accepted_first, first_passed}
use Rattle.msi_database_storage.specs.Streams.{Streams}
use Rattle.std.specs.FinMap.{entries}
use Rattle.std.specs.Vec.Iter.{into_iter_items}
use Rattle.msi.specs.State.{State}
use Rattle.msi.specs.Steps.{image_of, streams_written}
use Rattle.msi.specs.Renewing.{opened, renewed_over, text_refusals, with_renewed}
use Rattle.msi.specs.Whole.{Whole, state_of, with_open}
use Rattle.msi.proofs.packages.CreatingLemmas.{err_as}
use Rattle.msi.proofs.writing.ImagingLemmas.{all_put, answer_done, answer_failed, image_stored, image_unwritten, texts_first}
use Rattle.msi.proofs.writing.RenewedLemmas.{root_contents_are}
use Rattle.msi.proofs.package.Package.image.Goals as goal

pub returns-in_err-check_storages-clause-kind : goal.returns-in_err-check_storages-clause-kind
returns-in_err-check_storages-clause-kind g c =
    err_as c.from_residual.result (IsRefusal (image_of c.args.self.now.state c.args.earlier_len)) c.in_err-check_storages.field-0.0
    (inr (image_stored c.args.self.now.state c.args.earlier_len c.in_err-check_storages.field-0.0 (sym c.in_err-check_storages.ensures)))
    (search rules)

pub returns-in_err-renewed-clause-kind : goal.returns-in_err-renewed-clause-kind
returns-in_err-renewed-clause-kind g c =
    let p = c.self.inside in
    let kept : Streams = opened p.open p.current.bytes p.database.streams in
    let s : State = state_of p.kind p.summary (with_open p.open p.current.bytes p.database) p.has_storages p.is_unwritten p.is_summary_lent p.is_pool_changed in
    err_as c.from_residual-in_err-renewed.result (IsRefusal (image_of c.args.self.now.state c.args.earlier_len)) c.in_err-renewed.field-0.0
    (subst (λ (w : Whole). IsRefusal (image_of w.state c.args.earlier_len) c.in_err-renewed.field-0.0) c.self.view_is
    (image_unwritten s c.args.earlier_len c.in_err-renewed.field-0.0
    (subst (λ (pool : Pool). IsRefusal (or_refused InvalidInput (renewed_over p.is_summary_lent p.summary p.is_pool_changed pool kept)) c.in_err-renewed.field-0.0)
    c.pool.ensures (c.in_err-renewed.ensures.kind kept))))
    (search rules)

pub returns-clause-ok : goal.returns-clause-ok
returns-clause-ok g c =
    let p = c.self.inside in
    let kept : Streams = opened p.open p.current.bytes p.database.streams in
    let s : State = state_of p.kind p.summary (with_open p.open p.current.bytes p.database) p.has_storages p.is_unwritten p.is_summary_lent p.is_pool_changed in
    let all : Streams = with_renewed c.in_ok-renewed.renewed.items kept in
    let written : streams_written s ≡ Some all =
    subst (λ (pool : Pool). renewed_over p.is_summary_lent p.summary p.is_pool_changed pool kept ≡ Some all) c.pool.ensures (c.in_ok-renewed.ensures.ok kept) in
    subst (λ (w : Whole). IfOk c.image_of.result (λ bytes. image_of w.state c.args.earlier_len ≡ Ok bytes.items)) c.self.view_is
    (answer_done s all c.args.earlier_len written
    (contents_of c.contents_under-contents.result)
    (c.contents_under-contents.ensures
    ∙ root_contents_are p.kind p.has_storages c.clsid.result c.put_all.new.streams all c.clsid.ensures
    (all_put c.put_all.new.streams c.in_ok-streams.streams (into_iter_items c.into_iter.result) c.in_ok-renewed.renewed.items (opened p.open p.current.bytes (entries c.streams.result.now)) kept
    c.in_ok-put_all.ensures.ok c.into_iter.ensures.rest c.in_ok-streams.ensures.ok (ap (opened p.open p.current.bytes) c.streams.ensures)))
    (λ bytes. bytes.items) c.image_of.result c.image_of.ensures.ok c.image_of.ensures.refused)

pub returns-clause-kind : goal.returns-clause-kind
returns-clause-kind g c =
    let p = c.self.inside in
    let kept : Streams = opened p.open p.current.bytes p.database.streams in
    let s : State = state_of p.kind p.summary (with_open p.open p.current.bytes p.database) p.has_storages p.is_unwritten p.is_summary_lent p.is_pool_changed in
    let all : Streams = with_renewed c.in_ok-renewed.renewed.items kept in
    let written : streams_written s ≡ Some all =
    subst (λ (pool : Pool). renewed_over p.is_summary_lent p.summary p.is_pool_changed pool kept ≡ Some all) c.pool.ensures (c.in_ok-renewed.ensures.ok kept) in
    subst (λ (w : Whole). IfErr c.image_of.result (IsRefusal (image_of w.state c.args.earlier_len))) c.self.view_is
    (answer_failed s all c.args.earlier_len written
    (contents_of c.contents_under-contents.result)
    (c.contents_under-contents.ensures
    ∙ root_contents_are p.kind p.has_storages c.clsid.result c.put_all.new.streams all c.clsid.ensures
    (all_put c.put_all.new.streams c.in_ok-streams.streams (into_iter_items c.into_iter.result) c.in_ok-renewed.renewed.items (opened p.open p.current.bytes (entries c.streams.result.now)) kept
    c.in_ok-put_all.ensures.ok c.into_iter.ensures.rest c.in_ok-streams.ensures.ok (ap (opened p.open p.current.bytes) c.streams.ensures)))
    c.image_of.result c.image_of.ensures.refused c.image_of.ensures.kinds)

pub returns-in_err-renewed-clause-early : goal.returns-in_err-renewed-clause-early
returns-in_err-renewed-clause-early g c =
    let p = c.self.inside in
    let r = c.from_residual-in_err-renewed.result in
    texts_first _ c.args.self.now c.self.view_is c.in_ok-check_storages.ensures r
    (subst (λ (pool : Pool). AnswersFirst (text_refusals p.is_summary_lent p.summary p.is_pool_changed pool) r) c.pool.ensures
    (first_passed _ (text_refusals p.is_summary_lent p.summary p.is_pool_changed c.pool.result.now) c.in_err-renewed.field-0.0 r
    c.from_residual-in_err-renewed.ensures.1 c.in_err-renewed.ensures.early))

pub returns-in_err-streams-clause-early : goal.returns-in_err-streams-clause-early
returns-in_err-streams-clause-early g c =
    let p = c.self.inside in
    let r = c.from_residual-in_err-streams.result in
    texts_first _ c.args.self.now c.self.view_is c.in_ok-check_storages.ensures r
    (subst (λ (pool : Pool). AnswersFirst (text_refusals p.is_summary_lent p.summary p.is_pool_changed pool) r) c.pool.ensures
    (accepted_first (text_refusals p.is_summary_lent p.summary p.is_pool_changed c.pool.result.now) c.in_ok-renewed.renewed r c.in_ok-renewed.ensures.early))

pub returns-in_err-put_all-clause-early : goal.returns-in_err-put_all-clause-early
returns-in_err-put_all-clause-early g c =
    let p = c.self.inside in
    let r = c.from_residual-in_err-put_all.result in
    texts_first _ c.args.self.now c.self.view_is c.in_ok-check_storages.ensures r
    (subst (λ (pool : Pool). AnswersFirst (text_refusals p.is_summary_lent p.summary p.is_pool_changed pool) r) c.pool.ensures
    (accepted_first (text_refusals p.is_summary_lent p.summary p.is_pool_changed c.pool.result.now) c.in_ok-renewed.renewed r c.in_ok-renewed.ensures.early))

pub returns-clause-early : goal.returns-clause-early
returns-clause-early g c =
    let p = c.self.inside in
    let r = c.image_of.result in
    texts_first _ c.args.self.now c.self.view_is c.in_ok-check_storages.ensures r
    (subst (λ (pool : Pool). AnswersFirst (text_refusals p.is_summary_lent p.summary p.is_pool_changed pool) r) c.pool.ensures
    (accepted_first (text_refusals p.is_summary_lent p.summary p.is_pool_changed c.pool.result.now) c.in_ok-renewed.renewed r c.in_ok-renewed.ensures.early))
