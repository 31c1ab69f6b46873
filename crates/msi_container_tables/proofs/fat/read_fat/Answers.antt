use Rattle.std.proofs.Common.{arith, ◌≡◌, ◌∷◌, [], ◌++◌, vec_len, ◌∙◌, ap, sym, map, refl, inr}
use Rattle.std.specs.List.{range_with_len}
use Rattle.std.proofs.lemmas.Result.{IfOk-from_err, err_from_is_err_and}
use Rattle.std.proofs.lemmas.List.{append_assoc, append-nil}
use Rattle.std.proofs.lemmas.List.FromFn.{map-range_with_len_more}
use Rattle.msi_base.specs.declared.errors.ErrorKind.TheVariants.{OutOfMemory}
use Rattle.msi_container_tables.specs.Claims.{IsFree}
use Rattle.msi_container_format.specs.Container.{listed, fat_count}
use Rattle.msi_container_tables.proofs.chains.ClaimLemmas.{claim_lacked_memory}
use Rattle.msi_container_tables.proofs.chains.FatLemmas.{fat_sector_free}
use Rattle.msi_container_tables.proofs.chains.ChainPassedLemmas.{kind_passed, memory_viewed}
use Rattle.msi_container_tables.proofs.fat.read_fat.Goals as goal

pub returns-in_err-claim-clause-only : goal.returns-in_err-claim-clause-only
returns-in_err-claim-clause-only c = λ can.
    let p = err_from_is_err_and c.from_residual.result c.from_residual.ensures.1 in
    let k = c.loop-place.place in
    let i = c.loop-place.invariant in
    let free : IsFree (vec_len c.loop-place.claims.marks) c.loop-place.claims.list.items c.listed-sector.result =
    rw (i.limit, i.claimed, i.so_far, c.listed-sector.ensures) (fat_sector_free c.args.bytes.now c.args.difat.now _ k c.args.claims.now.list.items can (omega arith)) in
    rw (p.1, p.2) (claim_lacked_memory _ _ _ _ c.in_err-claim.ensures.kinds c.in_err-claim.ensures.invalid free)

pub loop-place-preserved : goal.loop-place-preserved
loop-place-preserved c =
    let i = c.loop-place.invariant in
    let number = listed c.args.bytes.now c.args.difat.now in
    let k = c.loop-place.place in
    let pushed = c.in_ok-push.ensures.items in
    record {
      so_far = pushed ∙ ap (λ xs. xs ++ c.listed-sector.result ∷ []) i.so_far
          ∙ ap (λ n. map number (range_with_len 0 k) ++ n ∷ []) c.listed-sector.ensures
          ∙ sym (map-range_with_len_more number 0 k k (omega arith));
      claimed = rw pushed (c.in_ok-claim.ensures.ok.1 ∙ rw i.claimed (append_assoc c.args.claims.now.list.items c.loop-place.fat.items _));
      limit = c.in_ok-claim.ensures.limit ∙ i.limit;
    }

pub returns-in_err-claim-clause-found : goal.returns-in_err-claim-clause-found
returns-in_err-claim-clause-found c = IfOk-from_err c.from_residual.result _ c.from_residual.ensures.0

pub returns-in_err-claim-clause-kinds : goal.returns-in_err-claim-clause-kinds
returns-in_err-claim-clause-kinds c = kind_passed c.from_residual.result c.in_err-claim.field-0.0 c.from_residual.ensures.1 c.in_err-claim.ensures.kinds

pub returns-in_err-claim-clause-limit : goal.returns-in_err-claim-clause-limit
returns-in_err-claim-clause-limit c = c.in_err-claim.ensures.limit ∙ c.loop-place.invariant.limit

pub returns-in_err-push-clause-found : goal.returns-in_err-push-clause-found
returns-in_err-push-clause-found c = IfOk-from_err c.from_residual-in_err-push.result _ c.from_residual-in_err-push.ensures.0

pub returns-in_err-push-clause-kinds : goal.returns-in_err-push-clause-kinds
returns-in_err-push-clause-kinds c = kind_passed c.from_residual-in_err-push.result OutOfMemory c.from_residual-in_err-push.ensures.1 (inr refl)

pub returns-in_err-push-clause-limit : goal.returns-in_err-push-clause-limit
returns-in_err-push-clause-limit c = c.in_ok-claim.ensures.limit ∙ c.loop-place.invariant.limit

pub returns-in_err-push-clause-only : goal.returns-in_err-push-clause-only
returns-in_err-push-clause-only c = λ can. memory_viewed _ c.from_residual-in_err-push.result _ c.from_residual-in_err-push.ensures.1

pub listed-sector-requires-clause-difat : goal.listed-sector-requires-clause-difat
listed-sector-requires-clause-difat c = c.requires

pub loop-place-init : goal.loop-place-init
loop-place-init c = record {
  so_far = c.new-fat.ensures.items;
  claimed = rw c.new-fat.ensures.items (sym (append-nil _));
  limit = refl;
}

pub returns-clause-found : goal.returns-clause-found
returns-clause-found c =
    let all : c.loop-place.place ≡ fat_count c.args.bytes.now = omega arith in
    (c.loop-place.invariant.so_far ∙ ap (λ n. map (listed c.args.bytes.now c.args.difat.now) (range_with_len 0 n)) all, c.loop-place.invariant.claimed)

pub returns-clause-only : goal.returns-clause-only
returns-clause-only c = λ can.
    let all : c.loop-place.place ≡ fat_count c.args.bytes.now = omega arith in
    c.loop-place.invariant.so_far ∙ ap (λ n. map (listed c.args.bytes.now c.args.difat.now) (range_with_len 0 n)) all

pub returns-clause-limit : goal.returns-clause-limit
returns-clause-limit c = c.loop-place.invariant.limit
