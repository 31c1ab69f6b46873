use Rattle.std.proofs.Common.{Some, ap, arith}
use Rattle.std.proofs.lemmas.Result.{err_from_is_err_and}
use Rattle.std.specs.Prelude.{List}
use Rattle.msi_pool_places.specs.Pool.{Entry}
use Rattle.msi_pool_places.proofs.ReadEntriesLemmas.{front_start, front_next, front_done, front_only, front_cut, entry_shorter}
use Rattle.msi_pool_places.specs.TextJoining.{entries_with}
use Rattle.msi_pool_places.specs.declared.count.Count.{Count}
use Rattle.msi_pool_places.proofs.TextJoiningLemmas.{unread_many, unread_more, entries_more}
use Rattle.msi_pool_places.proofs.entries.Entries.read.Goals as goal

pub loop-rest-init : goal.loop-rest-init
loop-rest-init c = rw (c.in_ok-lens.ensures.ok, c.in_ok-counts.ensures.items) (record { front = front_start c.args.bytes.now (λ i. omega (arith, c.type_inv.bytes i)); unread = tt })

pub loop-rest-preserved : goal.loop-rest-preserved
loop-rest-preserved c =
    let lens = c.loop-rest.lens in
    let counts = c.loop-rest.counts.items in
    let old = c.loop-rest.invariant in
    let more = entries_more lens counts c.len.result c.new.result (unread_many lens counts old.unread) in
    rw (c.in_ok-push.ensures.ok, c.in_ok-push-2.ensures.items) (record {
      front = rw (more, c.new.ensures, c.len.ensures, c.count.ensures) (front_next c.args.bytes.now (entries_with lens counts) c.loop-rest.rest.now c.in_ok-entry.entry c.in_ok-entry.after.now old.front c.loop-rest-test.true c.in_ok-entry.ensures);
      unread = unread_more lens counts c.len.result c.new.result c.len.type_inv (ap (λ (n : Count). n.is_forgotten) c.new.ensures) (rw c.new.ensures c.count.type_inv) old.unread;
    })

pub loop-rest-smaller : goal.loop-rest-smaller
loop-rest-smaller c = entry_shorter c.loop-rest.rest.now c.in_ok-entry.entry c.in_ok-entry.after.now c.loop-rest.invariant.front.fits c.in_ok-entry.ensures

pub returns-in_err-entry-clause-only : goal.returns-in_err-entry-clause-only
returns-in_err-entry-clause-only c = λ entries spelled.
    let p = err_from_is_err_and c.from_residual-in_err-entry.result c.from_residual-in_err-entry.ensures.1 in
    rw (p.1, p.2) (front_cut c.in_err-entry.field-0.0 c.args.bytes.now (entries_with c.loop-rest.lens c.loop-rest.counts.items) c.loop-rest.rest.now entries c.loop-rest.invariant.front c.loop-rest-test.true c.in_err-entry.ensures spelled)

pub returns-clause-found : goal.returns-clause-found
returns-clause-found c = front_done c.args.bytes.now (entries_with c.loop-rest.lens c.loop-rest.counts.items) c.loop-rest.rest.now c.loop-rest.invariant.front c.loop-rest-test.false

pub returns-clause-only : goal.returns-clause-only
returns-clause-only c = λ entries spelled. ap (λ (es : List Entry). Some es) (front_only c.args.bytes.now (entries_with c.loop-rest.lens c.loop-rest.counts.items) c.loop-rest.rest.now entries c.loop-rest.invariant.front c.loop-rest-test.false spelled)
