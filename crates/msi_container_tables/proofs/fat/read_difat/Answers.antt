use Rattle.std.proofs.Common.{arith, ◌≡◌, ◌<◌, ◌-◌, ◌/◌, ◌++◌, take, vec_len, ◌∙◌, sym, Some, refl, inr}
use Rattle.std.specs.Int.{div_ceil}
use Rattle.std.proofs.lemmas.Result.{IfOk-from_err, err_from_is_err_and}
use Rattle.std.proofs.lemmas.List.{append_assoc, take_all}
use Rattle.msi_container_format.specs.Bytes.{number32}
use Rattle.msi_container_tables.specs.Claims.{IsFree}
use Rattle.msi_container_tables.specs.Walks.{follower}
use Rattle.msi_container_format.specs.Container.{next_difat, fat_count, sector_size}
use Rattle.msi_container_tables.proofs.chains.ClaimLemmas.{claim_lacked_memory}
use Rattle.msi_container_tables.proofs.chains.ChainLemmas.{chain_push, same_push, next_is, free_at}
use Rattle.msi_base.specs.declared.errors.ErrorKind.TheVariants.{OutOfMemory}
use Rattle.msi_container_tables.proofs.chains.ChainPassedLemmas.{kind_passed, memory_viewed}
use Rattle.msi_container_tables.proofs.chains.FatLemmas.{difat_count_is}
use Rattle.msi_container_tables.proofs.fat.read_difat.Goals as goal

pub returns-in_err-claim-clause-only : goal.returns-in_err-claim-clause-only
returns-in_err-claim-clause-only c = λ difat is can.
    let p = err_from_is_err_and c.from_residual.result c.from_residual.ensures.1 in
    let bytes = c.args.bytes.now in
    let next = next_difat bytes in
    let start = number32 bytes 68 in
    let count = div_ceil (fat_count bytes - 109) (sector_size bytes / 4 - 1) in
    let i = c.loop.invariant in
    let n = c.loop.counter in
    let s = c.next_sector-sector.result in
    let used = c.args.claims.now.list.items in
    let end = difat_count_is bytes _ _ _ _ c.div_ceil-end.ensures c.saturating_sub-listed.ensures c.number32.ensures c.sector_size-size.ensures.value in
    let within : n < count = rw (← end) c.loop-test.true in
    let follows : follower next start c.loop.difat.items ≡ Some s = rw c.deref.ensures.value at (sym c.next_sector-sector.ensures) in
    let same = next_is next start count n s _ difat is within (i.only difat is can) follows in
    let claimed : c.loop.claims.list.items ≡ used ++ take n difat = rw (← i.only difat is can) i.claimed in
    let free : IsFree (vec_len c.loop.claims.marks) c.loop.claims.list.items s =
    rw (i.limit, claimed, ← same) (free_at _ n used difat can (omega (arith, is.long))) in
    rw (p.1, p.2) (claim_lacked_memory _ _ _ _ c.in_err-claim.ensures.kinds c.in_err-claim.ensures.invalid free)

pub loop-preserved : goal.loop-preserved
loop-preserved c =
    let bytes = c.args.bytes.now in
    let next = next_difat bytes in
    let start = number32 bytes 68 in
    let count = div_ceil (fat_count bytes - 109) (sector_size bytes / 4 - 1) in
    let i = c.loop.invariant in
    let xs = c.loop.difat.items in
    let s = c.next_sector-sector.result in
    let pushed = c.in_ok-push.ensures.items in
    let end = difat_count_is bytes _ _ _ _ c.div_ceil-end.ensures c.saturating_sub-listed.ensures c.number32.ensures c.sector_size-size.ensures.value in
    let within : c.loop.counter < count = rw (← end) c.loop-test.true in
    let follows : follower next start xs ≡ Some s = rw c.deref.ensures.value at (sym c.next_sector-sector.ensures) in
    record {
      so_far = rw pushed (chain_push next start c.loop.counter s xs i.so_far follows);
      claimed = rw pushed (c.in_ok-claim.ensures.ok.1 ∙ rw i.claimed (append_assoc c.args.claims.now.list.items xs _));
      limit = c.in_ok-claim.ensures.limit ∙ i.limit;
      only = λ difat is can. rw pushed (same_push next start count c.loop.counter s xs difat is within (i.only difat is can) follows);
    }

pub returns-clause-found : goal.returns-clause-found
returns-clause-found c =
    let bytes = c.args.bytes.now in
    let count = div_ceil (fat_count bytes - 109) (sector_size bytes / 4 - 1) in
    let end = difat_count_is bytes _ _ _ _ c.div_ceil-end.ensures c.saturating_sub-listed.ensures c.number32.ensures c.sector_size-size.ensures.value in
    let all : c.loop.counter ≡ c.div_ceil-end.result = omega arith in
    (rw (all, end) at c.loop.invariant.so_far, c.loop.invariant.claimed)

pub returns-clause-only : goal.returns-clause-only
returns-clause-only c = λ difat is can.
    let bytes = c.args.bytes.now in
    let count = div_ceil (fat_count bytes - 109) (sector_size bytes / 4 - 1) in
    let end = difat_count_is bytes _ _ _ _ c.div_ceil-end.ensures c.saturating_sub-listed.ensures c.number32.ensures c.sector_size-size.ensures.value in
    let all : c.loop.counter ≡ c.div_ceil-end.result = omega arith in
    c.loop.invariant.only difat is can ∙ take_all c.loop.counter difat (omega (arith, is.long, end, all))

pub returns-in_err-claim-clause-found : goal.returns-in_err-claim-clause-found
returns-in_err-claim-clause-found c = IfOk-from_err c.from_residual.result _ c.from_residual.ensures.0

pub returns-in_err-claim-clause-kinds : goal.returns-in_err-claim-clause-kinds
returns-in_err-claim-clause-kinds c = kind_passed c.from_residual.result c.in_err-claim.field-0.0 c.from_residual.ensures.1 c.in_err-claim.ensures.kinds

pub returns-in_err-claim-clause-limit : goal.returns-in_err-claim-clause-limit
returns-in_err-claim-clause-limit c = c.in_err-claim.ensures.limit ∙ c.loop.invariant.limit

pub returns-in_err-push-clause-found : goal.returns-in_err-push-clause-found
returns-in_err-push-clause-found c = IfOk-from_err c.from_residual-in_err-push.result _ c.from_residual-in_err-push.ensures.0

pub returns-in_err-push-clause-kinds : goal.returns-in_err-push-clause-kinds
returns-in_err-push-clause-kinds c = kind_passed c.from_residual-in_err-push.result OutOfMemory c.from_residual-in_err-push.ensures.1 (inr refl)

pub returns-in_err-push-clause-limit : goal.returns-in_err-push-clause-limit
returns-in_err-push-clause-limit c = c.in_ok-claim.ensures.limit ∙ c.loop.invariant.limit

pub returns-in_err-push-clause-only : goal.returns-in_err-push-clause-only
returns-in_err-push-clause-only c = λ difat is can. memory_viewed _ c.from_residual-in_err-push.result _ c.from_residual-in_err-push.ensures.1

pub returns-clause-limit : goal.returns-clause-limit
returns-clause-limit c = c.loop.invariant.limit
