use Rattle.std.proofs.Common.{refl, inr, sym}
use Rattle.std.proofs.lemmas.Result.{IfOk-from_err}
use Rattle.msi_container_format.specs.Container.{has_storage, streams_among}
use Rattle.msi_container_tables.specs.Reading.{storages_among}
use Rattle.msi_container_tables.proofs.parts.PassedLemmas.{kind_passed, memory_viewed, kind_of}
use Rattle.msi_container_tables.proofs.parts.ListingLemmas.{made_of, both_are}
use Rattle.msi_container_tables.proofs.streams.read_entries.Goals as goal

pub returns-in_err-entries-clause-found : goal.returns-in_err-entries-clause-found
returns-in_err-entries-clause-found c = IfOk-from_err c.from_residual.result _ c.from_residual.ensures.0

pub returns-in_err-entries-clause-storages : goal.returns-in_err-entries-clause-storages
returns-in_err-entries-clause-storages c = IfOk-from_err c.from_residual.result _ c.from_residual.ensures.0

pub returns-in_err-entries-clause-below : goal.returns-in_err-entries-clause-below
returns-in_err-entries-clause-below c = IfOk-from_err c.from_residual.result _ c.from_residual.ensures.0

pub returns-in_err-entries-clause-kinds : goal.returns-in_err-entries-clause-kinds
returns-in_err-entries-clause-kinds c = kind_passed c.from_residual.result c.in_err-entries.field-0.0 c.from_residual.ensures.1 c.in_err-entries.ensures.kinds

pub returns-in_err-entries-clause-only : goal.returns-in_err-entries-clause-only
returns-in_err-entries-clause-only c = λ tree listing. memory_viewed _ c.from_residual.result _ c.in_err-entries.field-0.0 c.from_residual.ensures.1 (c.in_err-entries.ensures.only tree listing)

pub returns-in_err-storages-clause-found : goal.returns-in_err-storages-clause-found
returns-in_err-storages-clause-found c = IfOk-from_err c.from_residual-in_err-storages.result _ c.from_residual-in_err-storages.ensures.0

pub returns-in_err-storages-clause-storages : goal.returns-in_err-storages-clause-storages
returns-in_err-storages-clause-storages c = IfOk-from_err c.from_residual-in_err-storages.result _ c.from_residual-in_err-storages.ensures.0

pub returns-in_err-storages-clause-below : goal.returns-in_err-storages-clause-below
returns-in_err-storages-clause-below c = IfOk-from_err c.from_residual-in_err-storages.result _ c.from_residual-in_err-storages.ensures.0

pub returns-in_err-storages-clause-kinds : goal.returns-in_err-storages-clause-kinds
returns-in_err-storages-clause-kinds c = kind_passed c.from_residual-in_err-storages.result c.in_err-storages.field-0.0 c.from_residual-in_err-storages.ensures.1 (inr (kind_of c.in_err-storages.field-0.0 _ (c.in_err-storages.ensures.memory refl)))

pub returns-in_err-storages-clause-only : goal.returns-in_err-storages-clause-only
returns-in_err-storages-clause-only c = λ tree listing. memory_viewed _ c.from_residual-in_err-storages.result _ c.in_err-storages.field-0.0 c.from_residual-in_err-storages.ensures.1 (kind_of c.in_err-storages.field-0.0 _ (c.in_err-storages.ensures.memory refl))

pub returns-in_err-streams-clause-found : goal.returns-in_err-streams-clause-found
returns-in_err-streams-clause-found c = IfOk-from_err c.from_residual-in_err-streams.result _ c.from_residual-in_err-streams.ensures.0

pub returns-in_err-streams-clause-storages : goal.returns-in_err-streams-clause-storages
returns-in_err-streams-clause-storages c = IfOk-from_err c.from_residual-in_err-streams.result _ c.from_residual-in_err-streams.ensures.0

pub returns-in_err-streams-clause-below : goal.returns-in_err-streams-clause-below
returns-in_err-streams-clause-below c = IfOk-from_err c.from_residual-in_err-streams.result _ c.from_residual-in_err-streams.ensures.0

pub returns-in_err-streams-clause-kinds : goal.returns-in_err-streams-clause-kinds
returns-in_err-streams-clause-kinds c = kind_passed c.from_residual-in_err-streams.result c.in_err-streams.field-0.0 c.from_residual-in_err-streams.ensures.1 (inr (kind_of c.in_err-streams.field-0.0 _ (c.in_err-streams.ensures.memory refl)))

pub returns-in_err-streams-clause-only : goal.returns-in_err-streams-clause-only
returns-in_err-streams-clause-only c = λ tree listing. memory_viewed _ c.from_residual-in_err-streams.result _ c.in_err-streams.field-0.0 c.from_residual-in_err-streams.ensures.1 (kind_of c.in_err-streams.field-0.0 _ (c.in_err-streams.ensures.memory refl))

pub of_kind-requires : goal.of_kind-requires
of_kind-requires c = rw c.deref.ensures.value c.in_ok-entries.ensures.below

pub of_kind-requires-2 : goal.of_kind-requires-2
of_kind-requires-2 c = rw c.deref-2.ensures.value c.in_ok-entries.ensures.below

pub has_storage-has_storages-requires : goal.has_storage-has_storages-requires
has_storage-has_storages-requires c = rw c.deref-3.ensures.value c.in_ok-entries.ensures.below

pub returns-clause-found : goal.returns-clause-found
returns-clause-found c =
    let bytes = c.args.directory.now.bytes.now in
    let sectors = c.args.directory.now.sectors.now in
    let found = c.in_ok-entries.ensures.found in
    let all = sym found.2 in (
      found.0,
      found.1,
      made_of (has_storage bytes sectors) _ _ _ _ c.has_storage-has_storages.ensures c.deref-3.ensures.value all,
      made_of (storages_among bytes sectors) _ _ _ _ c.in_ok-storages.ensures.ok c.deref.ensures.value all,
      made_of (streams_among bytes sectors) _ _ _ _ c.in_ok-streams.ensures.ok c.deref-2.ensures.value all,
    )

pub returns-clause-only : goal.returns-clause-only
returns-clause-only c = λ tree listing.
    let bytes = c.args.directory.now.bytes.now in
    let sectors = c.args.directory.now.sectors.now in
    let all = c.in_ok-entries.ensures.only tree listing in
    let storages = made_of (storages_among bytes sectors) _ _ _ _ c.in_ok-storages.ensures.ok c.deref.ensures.value all in
    let streams = made_of (streams_among bytes sectors) _ _ _ _ c.in_ok-streams.ensures.ok c.deref-2.ensures.value all in
    both_are _ _ _ _ storages streams

pub returns-clause-storages : goal.returns-clause-storages
returns-clause-storages c = c.in_ok-storages.ensures.below

pub returns-clause-below : goal.returns-clause-below
returns-clause-below c = c.in_ok-streams.ensures.below

pub returns-clause-kinds : goal.returns-clause-kinds
returns-clause-kinds c = tt
