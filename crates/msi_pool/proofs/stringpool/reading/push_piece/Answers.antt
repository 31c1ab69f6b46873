use Rattle.std.proofs.Common.{Some, sym, ap, ◌∙◌}
use Rattle.std.proofs.lemmas.Result.{err_from_is_err_and}
use Rattle.msi_base.specs.Pages.{text_in}
use Rattle.msi_pool_places.specs.TextJoining.{places_read}
use Rattle.msi_pool.proofs.PoolPiecesLemmas.{failed_as, memory_failed, unread, piece_put}
use Rattle.msi_pool.proofs.stringpool.reading.push_piece.Goals as goal

pub returns-then-reads_as_utf8-clause-ok : goal.returns-then-reads_as_utf8-clause-ok
returns-then-reads_as_utf8-clause-ok c = λ entry next.
    piece_put c.push.result c.args.codepage c.args.piece.now entry.count (places_read c.args.joiner.now) (places_read c.push.new.self) c.as_ref.result.now
    (c.reads_as_utf8.ensures c.if-reads_as_utf8.true ∙ ap Some (sym (c.as_ref.ensures.value ∙ c.in_ok-text.ensures.text)))
    (c.push.ensures.read entry next)

pub returns-then-reads_as_utf8-clause-err : goal.returns-then-reads_as_utf8-clause-err
returns-then-reads_as_utf8-clause-err c = memory_failed c.push.result (text_in c.args.codepage c.args.piece.now) c.push.ensures.kind

pub returns-in_err-text-2-clause-joining : goal.returns-in_err-text-2-clause-joining
returns-in_err-text-2-clause-joining c = let p = err_from_is_err_and c.from_residual-in_err-text-2.result c.from_residual-in_err-text-2.ensures.1 in rw p.1 tt

pub returns-in_err-text-2-clause-ok : goal.returns-in_err-text-2-clause-ok
returns-in_err-text-2-clause-ok c = λ entry next. let p = err_from_is_err_and c.from_residual-in_err-text-2.result c.from_residual-in_err-text-2.ensures.1 in rw p.1 tt

pub returns-in_err-text-2-clause-err : goal.returns-in_err-text-2-clause-err
returns-in_err-text-2-clause-err c =
    let read = text_in c.args.codepage c.args.piece.now in
    failed_as c.from_residual-in_err-text-2.result c.in_err-text-2.field-0.0 read c.from_residual-in_err-text-2.ensures.1
    (unread read c.in_err-text-2.field-0.0 c.in_err-text-2.ensures.kind)

pub returns-clause-ok : goal.returns-clause-ok
returns-clause-ok c = λ entry next.
    piece_put c.push-2.result c.args.codepage c.args.piece.now entry.count (places_read c.args.joiner.now) (places_read c.push-2.new.self) c.as_str.result.now
    (c.in_ok-text-2.ensures.ok ∙ ap Some (sym c.as_str.ensures.value))
    (c.push-2.ensures.read entry next)

pub returns-clause-err : goal.returns-clause-err
returns-clause-err c = memory_failed c.push-2.result (text_in c.args.codepage c.args.piece.now) c.push-2.ensures.kind
