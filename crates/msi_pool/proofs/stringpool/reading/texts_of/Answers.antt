use Rattle.std.proofs.Common.{Some, ap, sym, ◌∙◌}
use Rattle.std.proofs.lemmas.Result.{err_from_is_err_and}
use Rattle.msi_pool_places.specs.JoinedTexts.{places_joined}
use Rattle.msi_pool_places.specs.TextJoining.{entries_left, places_read}
use Rattle.msi_pool.proofs.PoolPiecesLemmas.{gives_failed, fault_kind}
use Rattle.msi_pool.proofs.ReadTextsLemmas.{none_left, texts_start, texts_next, texts_done, texts_only, texts_cut}
use Rattle.msi_pool.proofs.stringpool.reading.texts_of.Goals as goal

pub loop-entry-init : goal.loop-entry-init
loop-entry-init c = record {
  joining = c.in_ok-joiner.ensures.joining;
  read = rw (c.in_ok-joiner.ensures.left, c.in_ok-joiner.ensures.read) (texts_start c.args.codepage c.args.entries c.args.bytes.now);
}

pub loop-entry-preserved : goal.loop-entry-preserved
loop-entry-preserved c =
    let put = c.in_ok-rest.ensures.ok in
    record {
      joining = c.in_ok-rest.ensures.joining;
      read = rw (c.in_ok-rest.ensures.left, put.2) (texts_next c.args.codepage c.args.entries c.args.bytes.now (entries_left c.loop-entry.joiner) (places_read c.loop-entry.joiner) c.loop-entry.rest.now c.in-Some.entry put.0 c.in_ok-rest.rest.now c.loop-entry.invariant.read (sym c.next_entry.ensures ∙ c.in-Some.is) put.1);
    }

pub finish-requires-clause-left : goal.finish-requires-clause-left
finish-requires-clause-left c = none_left (entries_left c.loop-entry.joiner) (sym c.next_entry.ensures ∙ c.in_default.is)

pub returns-clause-found : goal.returns-clause-found
returns-clause-found c =
    rw c.finish.ensures.places (texts_done c.args.codepage c.args.entries c.args.bytes.now (entries_left c.loop-entry.joiner) (places_read c.loop-entry.joiner) c.loop-entry.rest.now c.loop-entry.invariant.read (sym c.next_entry.ensures ∙ c.in_default.is))

pub returns-clause-only : goal.returns-clause-only
returns-clause-only c = λ ps spelled.
    ap Some (texts_only c.args.codepage c.args.entries c.args.bytes.now (entries_left c.loop-entry.joiner) (places_read c.loop-entry.joiner) c.loop-entry.rest.now ps c.loop-entry.invariant.read (sym c.next_entry.ensures ∙ c.in_default.is) spelled ∙ sym c.finish.ensures.places)

pub returns-in_err-rest-clause-only : goal.returns-in_err-rest-clause-only
returns-in_err-rest-clause-only c = λ ps spelled.
    gives_failed places_joined c.from_residual-in_err-rest.result c.in_err-rest.field-0.0 (Some ps) c.from_residual-in_err-rest.ensures.1
    (texts_cut c.in_err-rest.field-0.0 c.args.codepage c.args.entries c.args.bytes.now (entries_left c.loop-entry.joiner) (places_read c.loop-entry.joiner) c.loop-entry.rest.now c.in-Some.entry ps c.loop-entry.invariant.read (sym c.next_entry.ensures ∙ c.in-Some.is) c.in_err-rest.ensures.err spelled)

pub returns-in_err-rest-clause-kinds : goal.returns-in_err-rest-clause-kinds
returns-in_err-rest-clause-kinds c =
    let p = err_from_is_err_and c.from_residual-in_err-rest.result c.from_residual-in_err-rest.ensures.1 in
    let kinds = fault_kind c.in_err-rest.field-0.0 _ c.in_err-rest.ensures.err in
    rw (p.1, p.2) kinds
