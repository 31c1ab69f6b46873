use Rattle.std.proofs.Common.{ℕ, List, [], ◌∷◌, ◌<◌, ◌≤◌, ◌++◌, length, sym, ◌∙◌, ap, subst, arith, refl}
use Rattle.std.proofs.lemmas.List.{length-append}
use Rattle.std.proofs.lemmas.Result.{err_from_is_err_and}
use Rattle.msi_container_format.specs.Chains.{AreDistinct}
use Rattle.msi_container_format.specs.Container.{entry_count}
use Rattle.msi_container_read.specs.StorageLists.{AreAllStorages}
use Rattle.msi_container_read.proofs.plans.PlanPartsLemmas.{memory_left}
use Rattle.msi_container_tables.proofs.chains.ClaimedLemmas.{few_claimed}
use Rattle.msi_container_read.proofs.plans.StorageListLemmas.{below_root, looked_none, looked_few, looked_more, looked_next, looked_all, looked_only, looked_long, looked_named}
use Rattle.msi_container_read.proofs.storages.find_all.Goals as goal

pub loop-number-init : goal.loop-number-init
loop-number-init c =
    let bytes = c.args.directory.now.bytes.now in
    let sectors = c.args.directory.now.sectors.now in
    let f = c.in_ok-found.ensures in
    let used = c.in_ok-claim.ensures.ok.1 ∙ ap (λ xs. xs ++ 0 ∷ []) c.in_ok-claims.ensures.none in
    record {
      limit = c.in_ok-claim.ensures.limit ∙ c.in_ok-claims.ensures.limit ∙ c.entry_count.ensures;
      below = rw f.entries (below_root (entry_count bytes sectors) c.requires);
      within = omega arith;
      looked = ([], looked_none bytes sectors _ _ _ _ _ f.entries f.homes f.streams f.storages used);
    }

pub loop-number-preserved : goal.loop-number-preserved
loop-number-preserved c =
    let bytes = c.args.directory.now.bytes.now in
    let sectors = c.args.directory.now.sectors.now in
    let i = c.loop-number.invariant in
    let f = c.loop-number.found in
    let there : c.loop-number.number < length f.entries.items = omega (arith, c.loop-number-test.true, c.len.ensures, f.entries.ok.0) in
    let more = c.in_ok-look_into.ensures.ok in
    let grown = ap (λ (xs : List ℕ). length xs) more.3 in
    record {
      limit = c.in_ok-look_into.ensures.limit ∙ i.limit;
      below = c.in_ok-look_into.ensures.below;
      within = omega (arith, there, grown, length-append f.entries.items);
      looked = (
        i.looked.0 ++ more.0 ∷ [],
        looked_more bytes sectors i.looked.0 _ _ _ _ _ c.loop-number.number i.looked.1 more.0 _ _ _ _ _ there more.1 more.2 more.3 more.4 more.5 more.6,
      );
    }

pub loop-number-smaller : goal.loop-number-smaller
loop-number-smaller c =
    let bytes = c.args.directory.now.bytes.now in
    let sectors = c.args.directory.now.sectors.now in
    let i = c.loop-number.invariant in
    let f = c.loop-number.found in
    let claims = c.loop-number.claims in
    let there : c.loop-number.number < length f.entries.items = omega (arith, c.loop-number-test.true, c.len.ensures, f.entries.ok.0) in
    let few = looked_few bytes sectors i.looked.0 _ _ _ _ _ c.loop-number.number i.looked.1 in
    let room : c.loop-number.number < entry_count bytes sectors = omega (arith, there, few, few_claimed claims.marks claims.list claims.counted, i.limit, claims.list.ok.0) in
    omega arith

pub returns-in_err-look_into-clause-only : goal.returns-in_err-look_into-clause-only
returns-in_err-look_into-clause-only c = λ trees h.
    let bytes = c.args.directory.now.bytes.now in
    let sectors = c.args.directory.now.sectors.now in
    let i = c.loop-number.invariant in
    let f = c.loop-number.found in
    let there : c.loop-number.number < length f.entries.items = omega (arith, c.loop-number-test.true, c.len.ensures, f.entries.ok.0) in
    let p = err_from_is_err_and c.from_residual-in_err-look_into.result c.from_residual-in_err-look_into.ensures.1 in
    let next = looked_next bytes sectors i.looked.0 _ _ _ _ _ c.loop-number.number i.looked.1 trees there h.turns h.once in
    rw (p.1, p.2) (memory_left _ c.in_err-look_into.ensures.kinds (λ d. c.in_err-look_into.ensures.invalid d next.0 next.1 (rw i.limit next.2)))

pub returns-clause-found : goal.returns-clause-found
returns-clause-found c =
    let bytes = c.args.directory.now.bytes.now in
    let sectors = c.args.directory.now.sectors.now in
    let f = c.loop-number.found in
    let ts = c.loop-number.invariant.looked.0 in
    let looked = c.loop-number.invariant.looked.1 in
    let ended : length f.entries.items ≤ c.loop-number.number = omega (arith, c.loop-number-test.false, c.len.ensures, f.entries.ok.0) in
    let all : AreAllStorages bytes sectors ts = record {
      root = sym c.kind.ensures ∙ c.if-kind-ne-ROOT.false;
      turns = looked_all bytes sectors ts _ _ _ _ _ c.loop-number.number looked ended;
      once = subst AreDistinct looked.used c.loop-number.claims.distinct;
    } in
    (ts, all, rw (looked.found, looked.homed, looked.streamed, looked.stored) refl)

pub returns-clause-homes : goal.returns-clause-homes
returns-clause-homes c =
    let f = c.loop-number.found in
    let ended : length f.entries.items ≤ c.loop-number.number = omega (arith, c.loop-number-test.false, c.len.ensures, f.entries.ok.0) in
    let long = looked_long c.args.directory.now.bytes.now c.args.directory.now.sectors.now c.loop-number.invariant.looked.0 _ _ _ _ _ c.loop-number.number c.loop-number.invariant.looked.1 ended in
    omega (arith, long.0, f.homes.ok.0, f.entries.ok.0)

pub returns-clause-named : goal.returns-clause-named
returns-clause-named c =
    let f = c.loop-number.found in
    let ended : length f.entries.items ≤ c.loop-number.number = omega (arith, c.loop-number-test.false, c.len.ensures, f.entries.ok.0) in
    looked_named c.args.directory.now.bytes.now c.args.directory.now.sectors.now c.loop-number.invariant.looked.0 _ _ _ _ _ c.loop-number.number c.loop-number.invariant.looked.1 ended

pub returns-clause-only : goal.returns-clause-only
returns-clause-only c = λ trees h.
    let bytes = c.args.directory.now.bytes.now in
    let sectors = c.args.directory.now.sectors.now in
    let f = c.loop-number.found in
    let ts = c.loop-number.invariant.looked.0 in
    let looked = c.loop-number.invariant.looked.1 in
    let ended : length f.entries.items ≤ c.loop-number.number = omega (arith, c.loop-number-test.false, c.len.ensures, f.entries.ok.0) in
    let same = looked_only bytes sectors ts _ _ _ _ _ c.loop-number.number looked ended trees h.turns in
    rw (looked.found, looked.homed, looked.streamed, looked.stored, same) refl
