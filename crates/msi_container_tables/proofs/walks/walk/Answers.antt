use Rattle.std.proofs.Common.{List, arith, ◌≡◌, ℕ, ◌++◌, length, get_or, take, vec_len, ◌∙◌, sym, ap, Some, refl, inl, inr}
use Rattle.std.proofs.lemmas.Result.{IfOk-from_err, err_from_is_err_and}
use Rattle.std.proofs.lemmas.List.{append_assoc, take_all}
use Rattle.std.proofs.lemmas.Option.{none-some}
use Rattle.msi_container_tables.specs.Claims.{IsFree}
use Rattle.msi_container_tables.specs.Walks.{follower}
use Rattle.msi_container_format.specs.Container.{successor}
use Rattle.msi_container_tables.proofs.chains.ClaimLemmas.{claim_lacked_memory}
use Rattle.msi_container_tables.proofs.chains.ChainLemmas.{chain_push, same_push, follower_is, next_is, free_at}
use Rattle.msi_container_tables.proofs.chains.ChainStepLemmas.{used_more, used_one_more, used_same, used_most}
use Rattle.msi_base.specs.declared.errors.ErrorKind.TheVariants.{OutOfMemory}
use Rattle.msi_container_tables.proofs.chains.ChainPassedLemmas.{kind_passed, memory_viewed}
use Rattle.msi_container_tables.proofs.walks.walk.Goals as goal

pub returns-in_err-sector-clause-only : goal.returns-in_err-sector-clause-only
returns-in_err-sector-clause-only c = λ chain is can.
    let next = successor c.args.table.now.bytes.now c.args.table.now.sectors.now in
    let there : follower next c.args.start c.loop.chain.items ≡ Some (get_or chain c.loop.counter 0) =
    ap (follower next c.args.start) (c.loop.invariant.only chain is can)
    ∙ follower_is next c.args.start c.args.count c.loop.counter chain is c.loop-test.true in
    absurd (none-some _ (sym (rw c.deref.ensures.value at c.in_err-sector.ensures.value.1) ∙ there))

pub returns-in_err-claim-clause-only : goal.returns-in_err-claim-clause-only
returns-in_err-claim-clause-only c = λ chain is can.
    let p = err_from_is_err_and c.from_residual-in_err-claim.result c.from_residual-in_err-claim.ensures.1 in
    let next = successor c.args.table.now.bytes.now c.args.table.now.sectors.now in
    let i = c.loop.invariant in
    let n = c.loop.counter in
    let used = c.args.claims.now.list.items in
    let follows : follower next c.args.start c.loop.chain.items ≡ Some c.in_ok-sector.sector =
    rw c.deref.ensures.value at c.in_ok-sector.ensures.value in
    let same = next_is next c.args.start c.args.count n c.in_ok-sector.sector _ chain is c.loop-test.true (i.only chain is can) follows in
    let claimed : c.loop.claims.list.items ≡ used ++ take n chain = rw (← i.only chain is can) i.claimed in
    let free : IsFree (vec_len c.loop.claims.marks) c.loop.claims.list.items c.in_ok-sector.sector =
    rw (i.limit, claimed, ← same) (free_at _ n used chain can (omega (arith, is.long))) in
    rw (p.1, p.2) (claim_lacked_memory _ _ _ _ c.in_err-claim.ensures.kinds c.in_err-claim.ensures.invalid free)

pub loop-preserved : goal.loop-preserved
loop-preserved c =
    let next = successor c.args.table.now.bytes.now c.args.table.now.sectors.now in
    let i = c.loop.invariant in
    let xs = c.loop.chain.items in
    let s = c.in_ok-sector.sector in
    let pushed = c.in_ok-push.ensures.items in
    let follows : follower next c.args.start xs ≡ Some s = rw c.deref.ensures.value at c.in_ok-sector.ensures.value in
    record {
      so_far = rw pushed (chain_push next c.args.start c.loop.counter s xs i.so_far follows);
      claimed = rw pushed (c.in_ok-claim.ensures.ok.1 ∙ rw i.claimed (append_assoc c.args.claims.now.list.items xs _));
      limit = c.in_ok-claim.ensures.limit ∙ i.limit;
      only = λ chain is can. rw pushed (same_push next c.args.start c.args.count c.loop.counter s xs chain is c.loop-test.true (i.only chain is can) follows);
      steps = omega (arith, i.so_far.long, c.in_ok-sector.ensures.step, ap (λ (q : List ℕ). length q) c.deref.ensures.value);
    }

pub next_member-requires : goal.next_member-requires
next_member-requires c =
    let now = c.loop.claims in
    let i = c.loop.invariant in
    omega (arith, used_more c.args.claims.now.list now.list c.loop.chain i.claimed, used_most now.marks now.list now.counted, i.so_far.long, c.loop.chain.ok, i.limit, i.steps, c.requires)

pub returns-in_err-sector-clause-bounded : goal.returns-in_err-sector-clause-bounded
returns-in_err-sector-clause-bounded c =
    let i = c.loop.invariant in
    let step = ap (λ (q : List ℕ). length q) c.deref.ensures.value in
    omega (arith, used_more c.args.claims.now.list c.loop.claims.list c.loop.chain i.claimed, i.so_far.long, c.loop.chain.ok, i.steps, step, c.in_err-sector.ensures.step)

pub returns-in_err-claim-clause-bounded : goal.returns-in_err-claim-clause-bounded
returns-in_err-claim-clause-bounded c =
    let i = c.loop.invariant in
    let step = ap (λ (q : List ℕ). length q) c.deref.ensures.value in
    let same = used_same c.loop.claims.list c.claim.new.self.list c.in_err-claim.ensures.err in
    omega (arith, used_more c.args.claims.now.list c.loop.claims.list c.loop.chain i.claimed, same, i.so_far.long, c.loop.chain.ok, i.steps, step, c.in_ok-sector.ensures.step)

pub returns-in_err-push-clause-bounded : goal.returns-in_err-push-clause-bounded
returns-in_err-push-clause-bounded c =
    let i = c.loop.invariant in
    let step = ap (λ (q : List ℕ). length q) c.deref.ensures.value in
    let more = used_one_more c.loop.claims.list c.claim.new.self.list c.in_ok-sector.sector c.in_ok-claim.ensures.ok.1 in
    omega (arith, used_more c.args.claims.now.list c.loop.claims.list c.loop.chain i.claimed, more, i.so_far.long, c.loop.chain.ok, i.steps, step, c.in_ok-sector.ensures.step)

pub returns-clause-found : goal.returns-clause-found
returns-clause-found c =
    let all : c.loop.counter ≡ c.args.count = omega arith in
    (rw all at c.loop.invariant.so_far, c.loop.invariant.claimed)

pub returns-clause-only : goal.returns-clause-only
returns-clause-only c = λ chain is can. c.loop.invariant.only chain is can ∙ take_all c.loop.counter chain (omega (arith, is.long))

pub returns-clause-bounded : goal.returns-clause-bounded
returns-clause-bounded c =
    let i = c.loop.invariant in
    omega (arith, used_more c.args.claims.now.list c.loop.claims.list c.loop.chain i.claimed, i.so_far.long, c.loop.chain.ok, i.steps)

pub returns-clause-exact : goal.returns-clause-exact
returns-clause-exact c = omega (arith, c.loop.invariant.steps, c.loop.invariant.so_far.long)

pub returns-in_err-sector-clause-found : goal.returns-in_err-sector-clause-found
returns-in_err-sector-clause-found c = IfOk-from_err c.from_residual.result _ c.from_residual.ensures.0

pub returns-in_err-sector-clause-exact : goal.returns-in_err-sector-clause-exact
returns-in_err-sector-clause-exact c = IfOk-from_err c.from_residual.result _ c.from_residual.ensures.0

pub returns-in_err-sector-clause-kinds : goal.returns-in_err-sector-clause-kinds
returns-in_err-sector-clause-kinds c = kind_passed c.from_residual.result c.in_err-sector.field-0.0 c.from_residual.ensures.1 (inl c.in_err-sector.ensures.value.0)

pub returns-in_err-sector-clause-limit : goal.returns-in_err-sector-clause-limit
returns-in_err-sector-clause-limit c = c.loop.invariant.limit

pub returns-in_err-sector-clause-grows : goal.returns-in_err-sector-clause-grows
returns-in_err-sector-clause-grows c = omega (arith, c.loop.invariant.steps, c.in_err-sector.ensures.step)

pub returns-in_err-claim-clause-found : goal.returns-in_err-claim-clause-found
returns-in_err-claim-clause-found c = IfOk-from_err c.from_residual-in_err-claim.result _ c.from_residual-in_err-claim.ensures.0

pub returns-in_err-claim-clause-exact : goal.returns-in_err-claim-clause-exact
returns-in_err-claim-clause-exact c = IfOk-from_err c.from_residual-in_err-claim.result _ c.from_residual-in_err-claim.ensures.0

pub returns-in_err-claim-clause-kinds : goal.returns-in_err-claim-clause-kinds
returns-in_err-claim-clause-kinds c = kind_passed c.from_residual-in_err-claim.result c.in_err-claim.field-0.0 c.from_residual-in_err-claim.ensures.1 c.in_err-claim.ensures.kinds

pub returns-in_err-claim-clause-limit : goal.returns-in_err-claim-clause-limit
returns-in_err-claim-clause-limit c = c.in_err-claim.ensures.limit ∙ c.loop.invariant.limit

pub returns-in_err-claim-clause-grows : goal.returns-in_err-claim-clause-grows
returns-in_err-claim-clause-grows c = omega (arith, c.loop.invariant.steps, c.in_ok-sector.ensures.step)

pub returns-in_err-push-clause-found : goal.returns-in_err-push-clause-found
returns-in_err-push-clause-found c = IfOk-from_err c.from_residual-in_err-push.result _ c.from_residual-in_err-push.ensures.0

pub returns-in_err-push-clause-exact : goal.returns-in_err-push-clause-exact
returns-in_err-push-clause-exact c = IfOk-from_err c.from_residual-in_err-push.result _ c.from_residual-in_err-push.ensures.0

pub returns-in_err-push-clause-kinds : goal.returns-in_err-push-clause-kinds
returns-in_err-push-clause-kinds c = kind_passed c.from_residual-in_err-push.result OutOfMemory c.from_residual-in_err-push.ensures.1 (inr refl)

pub returns-in_err-push-clause-limit : goal.returns-in_err-push-clause-limit
returns-in_err-push-clause-limit c = c.in_ok-claim.ensures.limit ∙ c.loop.invariant.limit

pub returns-in_err-push-clause-grows : goal.returns-in_err-push-clause-grows
returns-in_err-push-clause-grows c = omega (arith, c.loop.invariant.steps, c.in_ok-sector.ensures.step)

pub returns-in_err-push-clause-only : goal.returns-in_err-push-clause-only
returns-in_err-push-clause-only c = λ chain is can. memory_viewed _ c.from_residual-in_err-push.result _ c.from_residual-in_err-push.ensures.1

pub returns-clause-limit : goal.returns-clause-limit
returns-clause-limit c = c.loop.invariant.limit

pub returns-clause-grows : goal.returns-clause-grows
returns-clause-grows c = omega (arith, c.loop.invariant.steps)
