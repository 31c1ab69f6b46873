use Rattle.std.proofs.Common.{arith, sym, ◌<◌, ◌≤◌, length}
use Rattle.std.proofs.lemmas.Result.{err_from_is_err_and}
use Rattle.msi_pool.proofs.ReadStreamLemmas.{stream_found, stream_only, no_header, no_page, cut_entries, too_many}
use Rattle.msi_pool.proofs.stringpool.reading.pool_builder_of.Goals as goal

pub returns-in_err-header-clause-only : goal.returns-in_err-header-clause-only
returns-in_err-header-clause-only c = λ stream is.
    let p = err_from_is_err_and c.from_residual.result c.from_residual.ensures.1 in
    rw (p.1, p.2) (no_header c.in_err-header.field-0.0 c.args.bytes.now stream c.in_err-header.ensures is)

pub returns-in_err-codepage-clause-only : goal.returns-in_err-codepage-clause-only
returns-in_err-codepage-clause-only c = λ stream is.
    let p = err_from_is_err_and c.from_residual-in_err-codepage.result c.from_residual-in_err-codepage.ensures.1 in
    rw (p.1, p.2) (no_page c.in_err-codepage.field-0.0 c.args.bytes.now c.in_ok-header.header c.in_ok-header.rest.now stream c.in_ok-header.ensures c.in_err-codepage.ensures is)

pub returns-in_err-entries-clause-only : goal.returns-in_err-entries-clause-only
returns-in_err-entries-clause-only c = λ stream is.
    let p = err_from_is_err_and c.from_residual-in_err-entries.result c.from_residual-in_err-entries.ensures.1 in
    rw (p.1, p.2) (cut_entries c.in_err-entries.field-0.0 c.args.bytes.now c.in_ok-header.header c.in_ok-header.rest.now stream c.in_ok-header.ensures c.in_err-entries.ensures.only is)

pub returns-then-len-gt-MAX_PLACES-clause-only : goal.returns-then-len-gt-MAX_PLACES-clause-only
returns-then-len-gt-MAX_PLACES-clause-only c = λ stream is.
    let entries = c.in_ok-entries.entries in
    let many : 16777215 < length entries = omega (arith, c.len.ensures, c.if-len-gt-MAX_PLACES.true) in
    absurd (too_many c.args.bytes.now c.in_ok-header.header c.in_ok-header.rest.now entries stream c.in_ok-header.ensures c.in_ok-entries.ensures.found many is)

pub returns-clause-found : goal.returns-clause-found
returns-clause-found c =
    let entries = c.in_ok-entries.entries in
    let few : length entries ≤ 16777215 = omega (arith, c.len.ensures, c.if-len-gt-MAX_PLACES.false) in
    stream_found c.args.bytes.now c.in_ok-header.header c.in_ok-header.rest.now c.in_ok-codepage.codepage c.in_ok-codepage.long entries (λ i. omega (arith, c.type_inv.bytes i)) c.in_ok-header.ensures c.in_ok-codepage.ensures c.in_ok-entries.ensures.found few

pub returns-clause-only : goal.returns-clause-only
returns-clause-only c = λ stream is.
    sym (stream_only c.args.bytes.now c.in_ok-header.header c.in_ok-header.rest.now c.in_ok-codepage.codepage c.in_ok-codepage.long c.in_ok-entries.entries stream c.in_ok-header.ensures c.in_ok-codepage.ensures c.in_ok-entries.ensures.found is)
