use Rattle.std.proofs.Common.{◌≡◌, [], ◌∷◌, ◌<◌, ◌++◌, ◌∙◌, sym, ap, refl, arith, append_assoc, append-nil}
use Rattle.std.proofs.lemmas.Result.{err_from_is_err_and}
use Rattle.msi_container_format.specs.Container.{left, right, entry_count}
use Rattle.msi_container_format.specs.Format.{NO_ENTRY}
use Rattle.msi_container_tables.specs.Claims.{IsFree}
use Rattle.msi_container_tables.proofs.chains.ClaimLemmas.{claim_lacked_memory}
use Rattle.msi_container_tables.proofs.parts.TreeLemmas.{completes_start, remains_start, completes_skip, remains_skip, completes_step, remains_step, completes_end, free_link}
use Rattle.msi_container_tables.proofs.chains.RoomLemmas.{fewer_left}
use Rattle.msi_container_tables.proofs.directory.reach_more.Goals as goal

pub loop-link-init : goal.loop-link-init
loop-link-init c =
    let bytes = c.args.directory.now.bytes.now in
    let sectors = c.args.directory.now.sectors.now in
    let child = c.args.child in
    let pending : c.push.new.self.items ≡ child ∷ [] = c.in_ok-push.ensures.items ∙ ap (λ xs. xs ++ child ∷ []) c.new-pending.ensures.items in
    record {
      same = sym (ap (λ xs. c.args.claims.now.list.items ++ xs) c.new-reached.ensures.items ∙ append-nil c.args.claims.now.list.items);
      limit = c.requires;
      whole = rw (c.new-reached.ensures.items, pending) (completes_start (left bytes sectors) (right bytes sectors) (entry_count bytes sectors) child);
      only = rw (c.new-reached.ensures.items, pending) (remains_start (left bytes sectors) (right bytes sectors) (entry_count bytes sectors) child);
    }

pub loop-link-preserved-then-link : goal.loop-link-preserved-then-link
loop-link-preserved-then-link c =
    let i = c.loop-link.invariant in
    let bytes = c.args.directory.now.bytes.now in
    let sectors = c.args.directory.now.sectors.now in
    let list = c.loop-link.reached.items in
    let rest = c.pop.new.self.items in
    let popped : c.loop-link.pending.items ≡ rest ++ NO_ENTRY ∷ [] = c.in-Some.ensures.items ∙ ap (λ k. rest ++ k ∷ []) c.if-link.true in
    record {
      same = i.same;
      limit = i.limit;
      whole = completes_skip (left bytes sectors) (right bytes sectors) (entry_count bytes sectors) c.args.child list rest (rw popped at i.whole);
      only = remains_skip (left bytes sectors) (right bytes sectors) (entry_count bytes sectors) c.args.child list rest (rw popped at i.only);
    }

pub loop-link-preserved : goal.loop-link-preserved
loop-link-preserved c =
    let i = c.loop-link.invariant in
    let bytes = c.args.directory.now.bytes.now in
    let sectors = c.args.directory.now.sectors.now in
    let link = c.in-Some.link in
    let list = c.loop-link.reached.items in
    let rest = c.pop.new.self.items in
    let popped : c.loop-link.pending.items ≡ rest ++ link ∷ [] = c.in-Some.ensures.items in
    let there : link < entry_count bytes sectors = omega (arith, c.in_ok-claim.ensures.ok.0.below, i.limit) in
    let joined = c.in_ok-push-2.ensures.items in
    let first = c.in_ok-push-3.ensures.items in
    let second = c.in_ok-push-4.ensures.items in
    let pushed : c.push-in-Some-3.new.self.items ≡ (rest ++ right bytes sectors link ∷ []) ++ left bytes sectors link ∷ [] = second ∙ rw (first, c.right.ensures, c.left.ensures) refl in
    record {
      same = c.in_ok-claim.ensures.ok.1 ∙ ap (λ xs. xs ++ link ∷ []) i.same ∙ append_assoc c.args.claims.now.list.items list (link ∷ []) ∙ ap (λ xs. c.args.claims.now.list.items ++ xs) (sym joined);
      limit = c.in_ok-claim.ensures.limit ∙ i.limit;
      whole = rw (joined, pushed) (completes_step (left bytes sectors) (right bytes sectors) (entry_count bytes sectors) c.args.child link list rest c.if-link.false there (rw popped at i.whole));
      only = rw (joined, pushed) (remains_step (left bytes sectors) (right bytes sectors) (entry_count bytes sectors) c.args.child link list rest c.if-link.false (rw popped at i.only));
    }

pub returns-in_err-claim-clause-only : goal.returns-in_err-claim-clause-only
returns-in_err-claim-clause-only c = λ tree spelled can.
    let i = c.loop-link.invariant in
    let bytes = c.args.directory.now.bytes.now in
    let sectors = c.args.directory.now.sectors.now in
    let link = c.in-Some.link in
    let list = c.loop-link.reached.items in
    let rest = c.pop.new.self.items in
    let refused = c.in_err-claim.ensures in
    let p = err_from_is_err_and c.from_residual-in_err-claim.result c.from_residual-in_err-claim.ensures.1 in
    let popped : c.loop-link.pending.items ≡ rest ++ link ∷ [] = c.in-Some.ensures.items in
    let used = c.args.claims.now.list.items in
    let free : IsFree (entry_count bytes sectors) c.loop-link.claims.list.items link = rw i.same (free_link (left bytes sectors) (right bytes sectors) (entry_count bytes sectors) c.args.child link used list rest tree c.if-link.false (rw popped at i.only) spelled can.distinct) in
    rw (p.1, p.2) (claim_lacked_memory (entry_count bytes sectors) link c.loop-link.claims.list.items c.in_err-claim.field-0.0 refused.kinds (rw i.limit at refused.invalid) free)

pub returns-clause-found : goal.returns-clause-found
returns-clause-found c =
    let bytes = c.args.directory.now.bytes.now in
    let sectors = c.args.directory.now.sectors.now in
    let list = c.loop-link.reached.items in
    let whole = completes_end (left bytes sectors) (right bytes sectors) (entry_count bytes sectors) c.args.child list c.loop-link.pending.items list (omega (arith, c.in_default.ensures.cases.0)) refl c.loop-link.invariant.whole in
    (whole.0, whole.1, whole.2, c.loop-link.invariant.same)

pub right-requires : goal.right-requires
right-requires c = rw c.loop-link.invariant.limit at c.in_ok-claim.ensures.ok.0.below

pub left-requires : goal.left-requires
left-requires c = rw c.loop-link.invariant.limit at c.in_ok-claim.ensures.ok.0.below

pub loop-link-smaller : goal.loop-link-smaller
loop-link-smaller c =
    let after = c.claim.new.self in
    fewer_left _ c.loop-link.claims.list after.list c.loop-link.pending c.pop.new.self c.push-in-Some-2.new.self c.push-in-Some-3.new.self after.marks _ _ _
    c.in_ok-claim.ensures.ok.1 after.counted (c.in_ok-claim.ensures.limit ∙ c.loop-link.invariant.limit) c.in-Some.ensures.items c.in_ok-push-3.ensures.items c.in_ok-push-4.ensures.items
