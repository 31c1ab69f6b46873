use Rattle.std.proofs.Common.{arith, rules, ◌≡◌, ◌<◌, ℕ, [], ◌∷◌, ◌++◌, length, get_or, vec_len, ◌∙◌, ap, Vec, Global}
use Rattle.std.proofs.lemmas.Result.{err_from_is_err_and}
use Rattle.std.proofs.lemmas.List.{append_assoc, length-take-le, take_more, take_all, map_push}
use Rattle.std.proofs.lemmas.List.Sums.{sum_by_push}
use Rattle.std.proofs.lemmas.Slice.Zip.{all_zipped_more, AllZip-long}
use Rattle.msi_container_tables.specs.Claims.{CanClaim}
use Rattle.msi_container_format.specs.Container.{sectors_in, mini_sectors_in, all_sectors, all_mini_sectors}
use Rattle.msi_container_tables.specs.Reading.{views}
use Rattle.msi_container_tables.specs.Counts.{links}
use Rattle.msi_container_tables.proofs.parts.ListLemmas.{paired_at}
use Rattle.msi_container_tables.proofs.chains.StreamChainLemmas.{flat_map_zip_none, flat_map_zip_push, can_claim_next}
use Rattle.msi_container_tables.proofs.streams.walk_each.Goals as goal

pub loop-entry-init : goal.loop-entry-init
loop-entry-init c =
    let bytes = c.args.directory.now.bytes.now in
    let directory = c.args.directory.now.sectors.now in
    let none = c.new-chains.ensures.items in
    record {
      so_far = search rules;
      sectors = rw none (flat_map_zip_none (sectors_in bytes directory) _ c.args.entries.now);
      mini_sectors = rw none (flat_map_zip_none (mini_sectors_in bytes directory) _ c.args.entries.now);
      limit = search rules;
      mini_limit = search rules;
      only = search rules;
      bounded = omega arith;
      exact = rw none (omega arith);
    }

pub returns-in_err-chain-clause-only : goal.returns-in_err-chain-clause-only
returns-in_err-chain-clause-only c = λ chains are can can_mini.
    let bytes = c.args.directory.now.bytes.now in
    let directory = c.args.directory.now.sectors.now in
    let entries = c.args.entries.now in
    let so_far = c.loop-entry.invariant in
    let i = c.loop-entry.entry-index in
    let here = c.loop-entry-test.true in
    let there : i < length chains = omega (arith, AllZip-long _ _ _ are) in
    let chain = get_or chains i [] in
    let front = so_far.only chains are can can_mini in
    let free = can_claim_next (sectors_in bytes directory) _ i c.args.uses.now.sectors.list.items entries _ chains can front here there in
    let mini_free = can_claim_next (mini_sectors_in bytes directory) _ i c.args.uses.now.mini_sectors.list.items entries _ chains can_mini front here there in
    let room : CanClaim (vec_len c.loop-entry.uses.sectors.marks) c.loop-entry.uses.sectors.list.items (sectors_in bytes directory (get_or entries i 0, chain)) = rw (so_far.limit, so_far.sectors) free in
    let mini_room : CanClaim (vec_len c.loop-entry.uses.mini_sectors.marks) c.loop-entry.uses.mini_sectors.list.items (mini_sectors_in bytes directory (get_or entries i 0, chain)) = rw (so_far.mini_limit, so_far.mini_sectors) mini_free in
    let failed = err_from_is_err_and c.from_residual.result c.from_residual.ensures.1 in
    rw (failed.1, failed.2) (c.in_err-chain.ensures.only chain (paired_at _ _ chains i 0 [] are here) room mini_room)

pub loop-entry-preserved : goal.loop-entry-preserved
loop-entry-preserved c =
    let bytes = c.args.directory.now.bytes.now in
    let directory = c.args.directory.now.sectors.now in
    let entries = c.args.entries.now in
    let used = c.args.uses.now.sectors.list.items in
    let mini_used = c.args.uses.now.mini_sectors.list.items in
    let so_far = c.loop-entry.invariant in
    let done = views c.loop-entry.chains.items in
    let i = c.loop-entry.entry-index in
    let here = c.loop-entry-test.true in
    let chain = c.in_ok-chain.chain.items in
    let found = c.in_ok-chain.ensures in
    let pushed : views c.push.new.self.items ≡ done ++ chain ∷ [] =
    ap views c.in_ok-push.ensures.items ∙ map_push (λ (v : Vec ℕ Global). v.items) c.loop-entry.chains.items c.in_ok-chain.chain in
    let long : length done ≡ i = AllZip-long _ _ _ so_far.so_far ∙ length-take-le i entries (omega arith) in
    record {
      so_far = rw (pushed, take_more entries i 0 here) (all_zipped_more _ _ _ _ _ so_far.so_far found.members);
      sectors = rw (pushed, flat_map_zip_push (sectors_in bytes directory) entries done i chain long here)
          (found.sectors ∙ ap (λ xs. xs ++ sectors_in bytes directory (get_or entries i 0, chain)) so_far.sectors ∙ append_assoc used (all_sectors bytes directory entries done) _);
      mini_sectors = rw (pushed, flat_map_zip_push (mini_sectors_in bytes directory) entries done i chain long here)
          (found.mini_sectors ∙ ap (λ xs. xs ++ mini_sectors_in bytes directory (get_or entries i 0, chain)) so_far.mini_sectors ∙ append_assoc mini_used (all_mini_sectors bytes directory entries done) _);
      limit = found.limit ∙ so_far.limit;
      mini_limit = found.mini_limit ∙ so_far.mini_limit;
      only = λ chains are can can_mini.
          let there : i < length chains = omega (arith, AllZip-long _ _ _ are) in
          let front = so_far.only chains are can can_mini in
          let next = get_or chains i [] in
          let free = can_claim_next (sectors_in bytes directory) _ i used entries done chains can front here there in
          let mini_free = can_claim_next (mini_sectors_in bytes directory) _ i mini_used entries done chains can_mini front here there in
          let room : CanClaim (vec_len c.loop-entry.uses.sectors.marks) c.loop-entry.uses.sectors.list.items (sectors_in bytes directory (get_or entries i 0, next)) = rw (so_far.limit, so_far.sectors) free in
          let mini_room : CanClaim (vec_len c.loop-entry.uses.mini_sectors.marks) c.loop-entry.uses.mini_sectors.list.items (mini_sectors_in bytes directory (get_or entries i 0, next)) = rw (so_far.mini_limit, so_far.mini_sectors) mini_free in
          let same = found.only next (paired_at _ _ chains i 0 [] are here) room mini_room in
          rw (pushed, take_more chains i [] there, front, same);
      bounded = omega (arith, so_far.bounded, found.bounded);
      exact = rw pushed (omega (arith, so_far.exact, found.exact, sum_by_push links done chain));
    }

pub returns-clause-only : goal.returns-clause-only
returns-clause-only c = λ chains are can can_mini.
    c.loop-entry.invariant.only chains are can can_mini ∙ take_all c.loop-entry.entry-index chains (omega (arith, AllZip-long _ _ _ are))

pub returns-clause-members : goal.returns-clause-members
returns-clause-members c = rw (take_all c.loop-entry.entry-index c.args.entries.now c.loop-entry-test.false) at c.loop-entry.invariant.so_far
