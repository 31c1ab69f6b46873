use Rattle.std.proofs.Common.{◌≡◌, ℕ, List, ◌∷◌, [], ◌++◌, length, replicate, sym, ◌∙◌, ap, subst, arith}
use Rattle.std.proofs.lemmas.Grind.{get_or_default_zero}
use Rattle.msi_container_format.specs.Chains.{AreBelow}
use Rattle.msi_container_format.specs.Trees.{members}
use Rattle.msi_container_format.specs.Container.{entry_count, streams_among}
use Rattle.msi_container_tables.specs.Reading.{storages_among}
use Rattle.msi_container_tables.specs.Paths.{IsStorageTree}
use Rattle.msi_container_read.specs.StorageLists.{stream_count}
use Rattle.msi_container_tables.proofs.chains.ClaimedLemmas.{below_both}
use Rattle.msi_container_read.proofs.storages.look_into.Goals as goal

pub returns-clause-ok : goal.returns-clause-ok
returns-clause-ok c =
    let bytes = c.args.directory.now.bytes.now in
    let sectors = c.args.directory.now.sectors.now in
    let old = c.args.found.now in
    let found = c.in_ok-entries.ensures.found in
    let tree = found.0 in
    let stored : c.deref-3.result.now ≡ storages_among bytes sectors (members tree) =
    c.deref-3.ensures.value ∙ c.in_ok-storages.ensures.ok ∙ ap (storages_among bytes sectors) (c.deref.ensures.value ∙ sym found.2) in
    let streamed : c.in_ok-streams.streams.items ≡ streams_among bytes sectors (members tree) =
    c.in_ok-streams.ensures.ok ∙ ap (streams_among bytes sectors) (c.deref-2.ensures.value ∙ sym found.2) in
    let counted : c.len.result ≡ stream_count bytes sectors tree = omega (arith, c.len.ensures, c.in_ok-streams.streams.ok.0, ap (λ (xs : List ℕ). length xs) streamed) in (
      tree,
      subst (λ k. IsStorageTree bytes sectors k tree) (c.index.ensures ∙ get_or_default_zero old.entries.items c.args.number c.index.result.now c.requires.there) found.1,
      found.3 ∙ ap (λ xs. c.args.claims.now.list.items ++ xs) (sym found.2),
      c.in_ok-add.ensures.entries ∙ ap (λ xs. old.entries.items ++ xs) stored,
      c.in_ok-add.ensures.homes ∙ ap (λ (xs : List ℕ). old.homes.items ++ replicate (length xs) c.args.number) stored,
      c.in_ok-add.ensures.streams ∙ ap (λ n. old.streams.items ++ n ∷ []) counted,
      c.in_ok-add.ensures.storages ∙ ap (λ (xs : List ℕ). old.storages.items ++ length xs ∷ []) stored,
    )

pub returns-clause-below : goal.returns-clause-below
returns-clause-below c =
    let count = entry_count c.args.directory.now.bytes.now c.args.directory.now.sectors.now in
    let new : AreBelow count c.deref-3.result.now = rw c.deref-3.ensures.value c.in_ok-storages.ensures.below in
    subst (AreBelow count) (sym c.in_ok-add.ensures.entries) (below_both count c.args.found.now.entries.items c.deref-3.result.now c.requires.below new)
