use Rattle.std.proofs.Common.{◌∙◌, ap, inl}
use Rattle.std.proofs.lemmas.Result.{err_from_is_err_and}
use Rattle.msi_recode.specs.declared.errors.RecodeError.TheVariants as error
use Rattle.msi_recode.specs.Readers.{page_of}
use Rattle.msi_recode.proofs.RecodedLemmas.{recoded, head_error, place_error, pool_only, pool_refused}
use Rattle.msi_recode.proofs.pool.recode_pool.Goals as goal

pub returns-in_err-head-clause-only : goal.returns-in_err-head-clause-only
returns-in_err-head-clause-only c = λ entries texts is.
    let p = err_from_is_err_and c.from_residual.result c.from_residual.ensures.1 in
    rw (p.1, p.2) (pool_only c.args.given c.args.pool_stream.now c.args.data_stream.now entries texts _ (head_error c.in_err-head.field-0.0 c.args.given c.args.pool_stream.now c.args.data_stream.now c.in_err-head.ensures.kinds c.in_err-head.ensures.only) is)

pub returns-in_err-head-clause-exact : goal.returns-in_err-head-clause-exact
returns-in_err-head-clause-exact c =
    let p = err_from_is_err_and c.from_residual.result c.from_residual.ensures.1 in
    rw (p.1, p.2) (head_error c.in_err-head.field-0.0 c.args.given c.args.pool_stream.now c.args.data_stream.now c.in_err-head.ensures.kinds c.in_err-head.ensures.only)

pub returns-in_err-head-clause-refused : goal.returns-in_err-head-clause-refused
returns-in_err-head-clause-refused c =
    let p = err_from_is_err_and c.from_residual.result c.from_residual.ensures.1 in
    rw (p.1, p.2) (pool_refused c.args.given c.args.pool_stream.now c.args.data_stream.now _ (head_error c.in_err-head.field-0.0 c.args.given c.args.pool_stream.now c.args.data_stream.now c.in_err-head.ensures.kinds c.in_err-head.ensures.only))

pub returns-in_err-reader-clause-exact : goal.returns-in_err-reader-clause-exact
returns-in_err-reader-clause-exact c =
    let p = err_from_is_err_and c.from_residual-in_err-reader.result c.from_residual-in_err-reader.ensures.1 in
    rw (p.1, p.2) (inl (ap (λ k. error.Package k) c.in_err-reader.ensures.kind))

pub returns-in_err-reader-clause-refused : goal.returns-in_err-reader-clause-refused
returns-in_err-reader-clause-refused c =
    let p = err_from_is_err_and c.from_residual-in_err-reader.result c.from_residual-in_err-reader.ensures.1 in
    rw (p.1, p.2, c.in_err-reader.ensures.kind) (λ is. cc)

pub returns-in_err-push_places-clause-only : goal.returns-in_err-push_places-clause-only
returns-in_err-push_places-clause-only c = λ entries texts is.
    let p = err_from_is_err_and c.from_residual-in_err-push_places.result c.from_residual-in_err-push_places.ensures.1 in
    rw (p.1, p.2) (pool_only c.args.given c.args.pool_stream.now c.args.data_stream.now entries texts c.in_err-push_places.field-0.0
    (place_error c.in_err-push_places.field-0.0 c.args.given c.args.pool_stream.now c.args.data_stream.now c.in_ok-head.head (page_of c.in_ok-reader.reader) c.entries.result.now
    (c.in_ok-reader.ensures.ok ∙ c.page.ensures) c.entries.ensures c.in_ok-head.ensures.found c.in_err-push_places.ensures.err) is)

pub returns-in_err-push_places-clause-exact : goal.returns-in_err-push_places-clause-exact
returns-in_err-push_places-clause-exact c =
    let p = err_from_is_err_and c.from_residual-in_err-push_places.result c.from_residual-in_err-push_places.ensures.1 in
    rw (p.1, p.2) (place_error c.in_err-push_places.field-0.0 c.args.given c.args.pool_stream.now c.args.data_stream.now c.in_ok-head.head (page_of c.in_ok-reader.reader) c.entries.result.now
    (c.in_ok-reader.ensures.ok ∙ c.page.ensures) c.entries.ensures c.in_ok-head.ensures.found c.in_err-push_places.ensures.err)

pub returns-in_err-push_places-clause-refused : goal.returns-in_err-push_places-clause-refused
returns-in_err-push_places-clause-refused c =
    let p = err_from_is_err_and c.from_residual-in_err-push_places.result c.from_residual-in_err-push_places.ensures.1 in
    rw (p.1, p.2) (pool_refused c.args.given c.args.pool_stream.now c.args.data_stream.now c.in_err-push_places.field-0.0
    (place_error c.in_err-push_places.field-0.0 c.args.given c.args.pool_stream.now c.args.data_stream.now c.in_ok-head.head (page_of c.in_ok-reader.reader) c.entries.result.now
    (c.in_ok-reader.ensures.ok ∙ c.page.ensures) c.entries.ensures c.in_ok-head.ensures.found c.in_err-push_places.ensures.err))

pub returns-clause-ok : goal.returns-clause-ok
returns-clause-ok c =
    recoded c.args.given c.args.pool_stream.now c.args.data_stream.now c.in_ok-head.head (page_of c.in_ok-reader.reader) c.entries.result.now c.is_long.result
    c.in_ok-pool.pool.entries.items c.in_ok-pool.pool.texts.items c.push_places.new.self.entries.items c.push_places.new.self.texts.items
    c.in_ok-head.ensures.found (c.in_ok-reader.ensures.ok ∙ c.page.ensures) c.entries.ensures c.is_long.ensures c.in_ok-pool.ensures.entries c.in_ok-pool.ensures.texts c.in_ok-push_places.ensures.ok
