use Rattle.std.proofs.Common.{ℕ, refl, ◌≤◌, length, take, drop, sym, ap, subst, ◌∙◌, arith}
use Rattle.std.proofs.lemmas.Result.{err_from_is_err_and}
use Rattle.msi_base.specs.declared.errors.ErrorKind.{ErrorKind}
use Rattle.msi_base.specs.Results.{FailsAs}
use Rattle.msi_pool_places.specs.TextJoining.{places_read}
use Rattle.msi_pool_places.specs.PoolReading.{place_in_front}
use Rattle.msi_pool.proofs.PoolPiecesLemmas.{failed_as, too_short, front_unread, front_put}
use Rattle.msi_pool.proofs.stringpool.reading.push_text.Goals as goal

pub returns-then-bytes-len-clause-err : goal.returns-then-bytes-len-clause-err
returns-then-bytes-len-clause-err c =
    let e = c.args.entry in
    let bytes = c.args.bytes.now in
    subst (λ (k : ErrorKind). FailsAs k (place_in_front c.args.codepage e bytes)) (sym c.new.ensures) (too_short c.args.codepage e bytes (omega arith))

pub returns-in_err-push_piece-clause-joining : goal.returns-in_err-push_piece-clause-joining
returns-in_err-push_piece-clause-joining c = let p = err_from_is_err_and c.from_residual.result c.from_residual.ensures.1 in rw p.1 tt

pub returns-in_err-push_piece-clause-ok : goal.returns-in_err-push_piece-clause-ok
returns-in_err-push_piece-clause-ok c = let p = err_from_is_err_and c.from_residual.result c.from_residual.ensures.1 in rw p.1 tt

pub returns-in_err-push_piece-clause-err : goal.returns-in_err-push_piece-clause-err
returns-in_err-push_piece-clause-err c =
    let e = c.args.entry in
    let bytes = c.args.bytes.now in
    let long : e.len ≤ length bytes = omega arith in
    let is = c.split_at.ensures.front ∙ ap (λ (n : ℕ). take n bytes) c.len-len.ensures in
    failed_as c.from_residual.result c.in_err-push_piece.field-0.0 (place_in_front c.args.codepage e bytes) c.from_residual.ensures.1
    (front_unread c.args.codepage e bytes c.in_err-push_piece.field-0.0 c.split_at.result.0.now long is c.in_err-push_piece.ensures.err)

pub returns-clause-ok : goal.returns-clause-ok
returns-clause-ok c =
    let e = c.args.entry in
    let bytes = c.args.bytes.now in
    let long : e.len ≤ length bytes = omega arith in
    let is = c.split_at.ensures.front ∙ ap (λ (n : ℕ). take n bytes) c.len-len.ensures in
    let rest_is = c.split_at.ensures.back ∙ ap (λ (n : ℕ). drop n bytes) c.len-len.ensures in
    front_put c.args.codepage e bytes c.split_at.result.0.now c.split_at.result.1.now e.count
    (places_read c.args.joiner.now) (places_read c.push_piece.new.joiner) long is rest_is refl (c.in_ok-push_piece.ensures.ok e c.requires.next)
