use Rattle.std.proofs.Common.{arith, ◌≡◌, [], ◌∷◌, ◌++◌, length, take, vec_len, ◌∙◌, sym, ap, Some, refl, inr}
use Rattle.std.proofs.lemmas.Result.{IfOk-from_err, err_from_is_err_and}
use Rattle.std.proofs.lemmas.Option.{none-some}
use Rattle.std.proofs.lemmas.List.{append_assoc}
use Rattle.msi_base.specs.declared.errors.ErrorKind.TheVariants.{OutOfMemory}
use Rattle.msi_container_tables.specs.Claims.{IsFree}
use Rattle.msi_container_format.specs.Container.{successor}
use Rattle.msi_container_tables.proofs.chains.ClaimLemmas.{claim_lacked_memory}
use Rattle.msi_container_tables.proofs.chains.ChainLemmas.{chain_push, follower_more, next_is, free_at}
use Rattle.msi_container_tables.proofs.chains.WholeChainLemmas.{more_left, none_left, none_from_end, front_push, follower_push, some_follows}
use Rattle.msi_container_tables.proofs.chains.ChainStepLemmas.{used_more, used_one_more, used_same, used_most}
use Rattle.msi_container_tables.proofs.chains.ChainPassedLemmas.{kind_passed, memory_viewed}
use Rattle.msi_container_tables.proofs.walks.walk_to_end.Goals as goal

pub returns-in_err-claim-clause-only : goal.returns-in_err-claim-clause-only
returns-in_err-claim-clause-only c = λ chain whole can.
    let p = err_from_is_err_and c.from_residual.result c.from_residual.ensures.1 in
    let next = successor c.args.table.now.bytes.now c.args.table.now.sectors.now in
    let i = c.loop-link.invariant in
    let xs = c.loop-link.chain.items in
    let link = c.loop-link.link in
    let used = c.args.claims.now.list.items in
    let front = i.only chain whole can in
    let left = more_left next c.args.start link chain xs whole front i.follows c.loop-link-test.true in
    let same = next_is next c.args.start (length chain) (length xs) link xs chain whole.chain left front.front i.follows in
    let claimed : c.loop-link.claims.list.items ≡ used ++ take (length xs) chain = i.claimed ∙ ap (λ ys. used ++ ys) front.front in
    let free : IsFree (vec_len c.loop-link.claims.marks) c.loop-link.claims.list.items link =
    rw (i.limit, claimed, ← same) (free_at _ (length xs) used chain can left) in
    rw (p.1, p.2) (claim_lacked_memory _ _ _ _ c.in_err-claim.ensures.kinds c.in_err-claim.ensures.invalid free)

pub loop-link-preserved : goal.loop-link-preserved
loop-link-preserved c =
    let next = successor c.args.table.now.bytes.now c.args.table.now.sectors.now in
    let i = c.loop-link.invariant in
    let xs = c.loop-link.chain.items in
    let link = c.loop-link.link in
    let pushed = c.in_ok-push.ensures.items in
    let long = c.in_ok-push.ensures.len in
    record {
      so_far = rw (pushed, long) (chain_push next c.args.start (vec_len c.loop-link.chain) link xs i.so_far i.follows);
      follows = rw pushed (follower_push next c.args.start link xs ∙ sym c.in-Some.ensures.value);
      filled = λ _. omega (arith, long);
      claimed = rw pushed (c.in_ok-claim.ensures.ok.1 ∙ rw i.claimed (append_assoc c.args.claims.now.list.items xs _));
      limit = c.in_ok-claim.ensures.limit ∙ i.limit;
      only = λ chain whole can.
          let front = i.only chain whole can in
          let left = more_left next c.args.start link chain xs whole front i.follows c.loop-link-test.true in
          rw pushed (front_push next c.args.start link chain xs whole front i.follows left);
      counted = omega (arith, i.counted, c.in-Some.ensures.step, long);
    }

pub returns-in-None-clause-only : goal.returns-in-None-clause-only
returns-in-None-clause-only c = λ chain whole can.
    let next = successor c.args.table.now.bytes.now c.args.table.now.sectors.now in
    let i = c.loop-link.invariant in
    let xs = c.loop-link.chain.items in
    let link = c.loop-link.link in
    let front = i.only chain whole can in
    let left = more_left next c.args.start link chain xs whole front i.follows c.loop-link-test.true in
    let longer = front_push next c.args.start link chain xs whole front i.follows left in
    let some = some_follows next c.args.start chain (xs ++ link ∷ []) whole longer in
    absurd (none-some some.0 (c.in-None.ensures.value ∙ sym (follower_push next c.args.start link xs) ∙ some.1))

pub returns-clause-only : goal.returns-clause-only
returns-clause-only c = λ chain whole can.
    let next = successor c.args.table.now.bytes.now c.args.table.now.sectors.now in
    let i = c.loop-link.invariant in
    let ended = i.follows ∙ ap Some c.loop-link-test.false in
    none_left next c.args.start _ c.args.claims.now.list.items chain c.loop-link.chain.items whole can c.requires.regular (i.only chain whole can) ended

pub returns-in_err-claim-clause-steps : goal.returns-in_err-claim-clause-steps
returns-in_err-claim-clause-steps c =
    let i = c.loop-link.invariant in
    let same = used_same c.loop-link.claims.list c.claim.new.self.list c.in_err-claim.ensures.err in
    omega (arith, used_more c.args.claims.now.list c.loop-link.claims.list c.loop-link.chain i.claimed, same, i.counted)

pub returns-in_err-push-clause-steps : goal.returns-in_err-push-clause-steps
returns-in_err-push-clause-steps c =
    let i = c.loop-link.invariant in
    let more = used_one_more c.loop-link.claims.list c.claim.new.self.list c.loop-link.link c.in_ok-claim.ensures.ok.1 in
    omega (arith, used_more c.args.claims.now.list c.loop-link.claims.list c.loop-link.chain i.claimed, more, i.counted)

pub successor-requires : goal.successor-requires
successor-requires c =
    let now = c.loop-link.claims in
    let i = c.loop-link.invariant in
    omega (arith, used_more c.args.claims.now.list now.list c.loop-link.chain i.claimed, used_most now.marks now.list now.counted, i.limit, i.counted, c.requires.steps)

pub loop-link-smaller : goal.loop-link-smaller
loop-link-smaller c =
    let after = c.claim.new.self in
    let more = used_one_more c.loop-link.claims.list after.list c.loop-link.link c.in_ok-claim.ensures.ok.1 in
    omega (arith, more, used_most after.marks after.list after.counted, c.in_ok-claim.ensures.limit)

pub returns-in-None-clause-steps : goal.returns-in-None-clause-steps
returns-in-None-clause-steps c =
    let i = c.loop-link.invariant in
    let more = used_one_more c.loop-link.claims.list c.claim.new.self.list c.loop-link.link c.in_ok-claim.ensures.ok.1 in
    omega (arith, used_more c.args.claims.now.list c.loop-link.claims.list c.loop-link.chain i.claimed, more, i.counted, c.in-None.ensures.step)

pub returns-clause-found : goal.returns-clause-found
returns-clause-found c =
    let next = successor c.args.table.now.bytes.now c.args.table.now.sectors.now in
    let i = c.loop-link.invariant in
    let long = c.loop-link.chain.ok.0 in
    let link = c.loop-link-test.false in (
      record {
        chain = rw long at i.so_far;
        filled = omega (arith, long, i.filled link);
        ended = sym (follower_more next c.args.start c.loop-link.chain.items (omega (arith, long, i.filled link))) ∙ i.follows ∙ ap Some link;
      },
      i.claimed,
    )

pub returns-clause-steps : goal.returns-clause-steps
returns-clause-steps c =
    let i = c.loop-link.invariant in
    omega (arith, used_more c.args.claims.now.list c.loop-link.claims.list c.loop-link.chain i.claimed, i.counted)

pub returns-then-start-eq-END_OF_CHAIN-clause-only : goal.returns-then-start-eq-END_OF_CHAIN-clause-only
returns-then-start-eq-END_OF_CHAIN-clause-only c = λ chain whole can.
    absurd (none_from_end _ c.args.start _ c.args.claims.now.list.items chain whole can c.requires.regular c.if-start-eq-END_OF_CHAIN.true)

pub returns-in_err-claim-clause-found : goal.returns-in_err-claim-clause-found
returns-in_err-claim-clause-found c = IfOk-from_err c.from_residual.result _ c.from_residual.ensures.0

pub returns-in_err-claim-clause-exact : goal.returns-in_err-claim-clause-exact
returns-in_err-claim-clause-exact c = IfOk-from_err c.from_residual.result _ c.from_residual.ensures.0

pub returns-in_err-claim-clause-kinds : goal.returns-in_err-claim-clause-kinds
returns-in_err-claim-clause-kinds c = kind_passed c.from_residual.result c.in_err-claim.field-0.0 c.from_residual.ensures.1 c.in_err-claim.ensures.kinds

pub returns-in_err-claim-clause-limit : goal.returns-in_err-claim-clause-limit
returns-in_err-claim-clause-limit c = c.in_err-claim.ensures.limit ∙ c.loop-link.invariant.limit

pub returns-in_err-claim-clause-grows : goal.returns-in_err-claim-clause-grows
returns-in_err-claim-clause-grows c = omega (arith, c.loop-link.invariant.counted)

pub returns-in_err-push-clause-found : goal.returns-in_err-push-clause-found
returns-in_err-push-clause-found c = IfOk-from_err c.from_residual-in_err-push.result _ c.from_residual-in_err-push.ensures.0

pub returns-in_err-push-clause-exact : goal.returns-in_err-push-clause-exact
returns-in_err-push-clause-exact c = IfOk-from_err c.from_residual-in_err-push.result _ c.from_residual-in_err-push.ensures.0

pub returns-in_err-push-clause-kinds : goal.returns-in_err-push-clause-kinds
returns-in_err-push-clause-kinds c = kind_passed c.from_residual-in_err-push.result OutOfMemory c.from_residual-in_err-push.ensures.1 (inr refl)

pub returns-in_err-push-clause-limit : goal.returns-in_err-push-clause-limit
returns-in_err-push-clause-limit c = c.in_ok-claim.ensures.limit ∙ c.loop-link.invariant.limit

pub returns-in_err-push-clause-grows : goal.returns-in_err-push-clause-grows
returns-in_err-push-clause-grows c = omega (arith, c.loop-link.invariant.counted)

pub returns-in_err-push-clause-only : goal.returns-in_err-push-clause-only
returns-in_err-push-clause-only c = λ chain whole can. memory_viewed _ c.from_residual-in_err-push.result _ c.from_residual-in_err-push.ensures.1

pub returns-in-None-clause-found : goal.returns-in-None-clause-found
returns-in-None-clause-found c = tt

pub returns-in-None-clause-exact : goal.returns-in-None-clause-exact
returns-in-None-clause-exact c = tt

pub returns-in-None-clause-limit : goal.returns-in-None-clause-limit
returns-in-None-clause-limit c = c.in_ok-claim.ensures.limit ∙ c.loop-link.invariant.limit

pub returns-in-None-clause-grows : goal.returns-in-None-clause-grows
returns-in-None-clause-grows c = omega (arith, c.loop-link.invariant.counted, c.in-None.ensures.step)

pub returns-clause-limit : goal.returns-clause-limit
returns-clause-limit c = c.loop-link.invariant.limit

pub returns-clause-exact : goal.returns-clause-exact
returns-clause-exact c = c.loop-link.invariant.counted

pub returns-clause-grows : goal.returns-clause-grows
returns-clause-grows c = omega (arith, c.loop-link.invariant.counted)
