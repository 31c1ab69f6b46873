use Rattle.std.proofs.Common.{◌≡◌, ℕ, List, ◌∙◌, ap, refl}
use Rattle.std.proofs.lemmas.Result.{err_from_is_err_and}
use Rattle.msi_container_format.specs.Container.{contents_of, stream_entries, IsPlan}
use Rattle.msi_container_format.specs.Trees.{members}
use Rattle.msi_container_format.proofs.PlanOnceLemmas.{held_once}
use Rattle.msi_container_read.specs.Listings.{listing_of, sizes_of}
use Rattle.msi_container_tables.specs.Reading.{HaveNamesApart, storages_among}
use Rattle.msi_container_read.proofs.entry_names.NamedSizesLemmas.{plan_sizes}
use Rattle.msi_container_read.proofs.plans.PlanPartsLemmas.{memory_left}
use Rattle.msi_container_read.proofs.entry_names.SharedNamesLemmas.{plan_names}
use Rattle.msi_container_read.proofs.listing.list.Goals as goal

pub returns-in_err-outline-clause-only : goal.returns-in_err-outline-clause-only
returns-in_err-outline-clause-only c = λ contents (plan, h, e).
    let p = err_from_is_err_and c.from_residual.result c.from_residual.ensures.1 in
    rw (p.1, p.2) (c.in_err-outline.ensures.only plan h)

pub sizes_of-requires-clause-storages : goal.sizes_of-requires-clause-storages
sizes_of-requires-clause-storages c = rw (c.deref.ensures.value, c.deref-2.ensures.value) c.in_ok-outline.ensures.storages

pub sizes_of-requires-clause-below : goal.sizes_of-requires-clause-below
sizes_of-requires-clause-below c = rw (c.deref.ensures.value, c.deref-3.ensures.value) c.in_ok-outline.ensures.below

pub returns-in_err-sizes-clause-only : goal.returns-in_err-sizes-clause-only
returns-in_err-sizes-clause-only c = λ contents (plan, h, e).
    let p = err_from_is_err_and c.from_residual-in_err-sizes.result c.from_residual-in_err-sizes.ensures.1 in
    let same = c.in_ok-outline.ensures.only plan h in
    let directory : c.deref.result.now ≡ plan.directory = c.deref.ensures.value ∙ ap (λ (q : List ℕ × List ℕ × List ℕ). q.0) same in
    let storages : c.deref-2.result.now ≡ storages_among c.args.bytes.now plan.directory (members plan.tree) = c.deref-2.ensures.value ∙ ap (λ (q : List ℕ × List ℕ × List ℕ). q.1) same in
    let streams : c.deref-3.result.now ≡ stream_entries c.args.bytes.now plan = c.deref-3.ensures.value ∙ ap (λ (q : List ℕ × List ℕ × List ℕ). q.2) same in
    let names : HaveNamesApart c.args.bytes.now c.deref.result.now c.deref-2.result.now c.deref-3.result.now = rw (directory, storages, streams) (plan_names c.args.bytes.now plan h) in
    rw (p.1, p.2) (memory_left _ c.in_err-sizes.ensures.kinds (λ d. c.in_err-sizes.ensures.invalid d names))

pub returns-clause-found : goal.returns-clause-found
returns-clause-found c =
    let bytes = c.args.bytes.now in
    let found = c.in_ok-outline.ensures.found in
    let plan = found.0 in
    let o = found.3 in
    let directory : c.deref.result.now ≡ plan.directory = c.deref.ensures.value ∙ o.directories in
    let storages : c.deref-2.result.now ≡ storages_among bytes plan.directory (members plan.tree) = c.deref-2.ensures.value ∙ o.stored in
    let streams : c.deref-3.result.now ≡ stream_entries bytes plan = c.deref-3.ensures.value ∙ o.entries in
    let is_plan : IsPlan bytes plan = found.1 (rw (directory, storages, streams) at c.in_ok-sizes.ensures.names) in
    let sizes : c.in_ok-sizes.sizes ≡ sizes_of (contents_of bytes plan).streams = c.in_ok-sizes.ensures.ok ∙ rw (directory, streams) (plan_sizes bytes plan is_plan) in
    (contents_of bytes plan, (plan, is_plan, refl), rw (sizes, o.told) refl)

pub returns-clause-only : goal.returns-clause-only
returns-clause-only c = λ contents held.
    let found = returns-clause-found c in
    found.2 ∙ ap listing_of (held_once c.args.bytes.now found.0 contents found.1 held)
