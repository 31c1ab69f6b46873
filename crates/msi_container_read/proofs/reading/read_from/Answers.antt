use Rattle.std.proofs.Common.{◌≡◌, ℕ, List, ◌∙◌, ap, arith, refl}
use Rattle.std.proofs.lemmas.Result.{err_from_is_err_and}
use Rattle.msi_container_format.specs.Container.{stream_entries}
use Rattle.msi_container_format.specs.Trees.{members}
use Rattle.msi_container_tables.specs.Reading.{HaveNamesApart, storages_among}
use Rattle.msi_container_read.specs.Steps.{steps_of}
use Rattle.msi_container_read.specs.Storages.{IsPlanAt}
use Rattle.msi_container_read.proofs.plans.KeptBytesLemmas.{kept}
use Rattle.msi_container_read.proofs.plans.PlanPartsLemmas.{memory_left}
use Rattle.msi_container_tables.proofs.parts.PassedLemmas.{kind_passed_along, missing_passed, not_found_passed}
use Rattle.msi_container_read.proofs.plans.StorageLemmas.{held_at_once, plan_at_once}
use Rattle.msi_container_read.proofs.entry_names.SharedNamesLemmas.{plan_at_names}
use Rattle.msi_container_read.proofs.chains.StepLemmas.{within_from_none}
use Rattle.msi_container_read.proofs.reading.read_from.Goals as goal

pub returns-in_err-outline-clause-only : goal.returns-in_err-outline-clause-only
returns-in_err-outline-clause-only c = λ contents (storage, plan, h, e).
    let p = err_from_is_err_and c.from_residual.result c.from_residual.ensures.1 in
    rw (p.1, p.2) (c.in_err-outline.ensures.only storage plan h)

pub returns-in_err-streams-clause-bounded : goal.returns-in_err-streams-clause-bounded
returns-in_err-streams-clause-bounded c = within_from_none c.args.bytes.now c.new.result c.read_outline_at.new.steps c.new.ensures c.read_outline_at.ensures.bounded

pub returns-clause-bounded : goal.returns-clause-bounded
returns-clause-bounded c = within_from_none c.args.bytes.now c.new.result c.read_outline_at.new.steps c.new.ensures c.read_outline_at.ensures.bounded

pub collect-requires-clause-storages : goal.collect-requires-clause-storages
collect-requires-clause-storages c = rw (c.deref.ensures.value, c.deref-3.ensures.value) c.in_ok-outline.ensures.storages

pub collect-requires-clause-below : goal.collect-requires-clause-below
collect-requires-clause-below c = rw (c.deref.ensures.value, c.deref-4.ensures.value) c.in_ok-outline.ensures.below

pub collect-requires-clause-covered : goal.collect-requires-clause-covered
collect-requires-clause-covered c =
    rw (c.deref.ensures.value, c.deref-2.ensures.value, c.deref-4.ensures.value, c.deref-5.ensures.value) c.in_ok-outline.ensures.covered

pub returns-in_err-streams-clause-only : goal.returns-in_err-streams-clause-only
returns-in_err-streams-clause-only c = λ contents (storage, plan, h, e).
    let p = err_from_is_err_and c.from_residual-in_err-streams.result c.from_residual-in_err-streams.ensures.1 in
    let same = c.in_ok-outline.ensures.only storage plan h in
    let directory : c.deref.result.now ≡ plan.directory = c.deref.ensures.value ∙ ap (λ (q : List ℕ × List ℕ × List ℕ). q.0) same in
    let storages : c.deref-3.result.now ≡ storages_among c.args.bytes.now plan.directory (members plan.tree) = c.deref-3.ensures.value ∙ ap (λ (q : List ℕ × List ℕ × List ℕ). q.1) same in
    let streams : c.deref-4.result.now ≡ stream_entries c.args.bytes.now plan = c.deref-4.ensures.value ∙ ap (λ (q : List ℕ × List ℕ × List ℕ). q.2) same in
    let names : HaveNamesApart c.args.bytes.now c.deref.result.now c.deref-3.result.now c.deref-4.result.now = rw (directory, storages, streams) (plan_at_names c.args.bytes.now plan h) in
    rw (p.1, p.2) (memory_left _ c.in_err-streams.ensures.kinds (λ d. c.in_err-streams.ensures.invalid d names))

pub returns-clause-found : goal.returns-clause-found
returns-clause-found c =
    let bytes = c.args.bytes.now in
    let found = c.in_ok-outline.ensures.found in
    let storage = found.0 in
    let plan = found.1 in
    let o = found.5 in
    let directory : c.deref.result.now ≡ plan.directory = c.deref.ensures.value ∙ o.directories in
    let storages : c.deref-3.result.now ≡ storages_among bytes plan.directory (members plan.tree) = c.deref-3.ensures.value ∙ o.stored in
    let streams : c.deref-4.result.now ≡ stream_entries bytes plan = c.deref-4.ensures.value ∙ o.entries in
    let is_plan : IsPlanAt bytes c.args.path.now storage plan = found.3 (rw (directory, storages, streams) at c.in_ok-streams.ensures.names) in
    (storage, plan, is_plan, rw (o.rooted, o.told, c.in_ok-streams.ensures.ok, directory, c.deref-2.ensures.value ∙ o.mini_streams, streams, c.deref-5.ensures.value, o.chained) refl)

pub returns-clause-only : goal.returns-clause-only
returns-clause-only c = λ contents held. held_at_once c.args.bytes.now c.args.path.now _ contents (returns-clause-found c) held

pub returns-clause-exact : goal.returns-clause-exact
unfolding returns-clause-found
returns-clause-exact c = λ storage plan h.
    let found = c.in_ok-outline.ensures.found in
    let held = returns-clause-found c in
    let same : steps_of found.1 ≡ steps_of plan = ap steps_of (plan_at_once c.args.bytes.now c.args.path.now found.0 storage found.1 plan held.2 h).1 in
    omega (arith, found.4, c.new.ensures, same)

pub returns-clause-kept : goal.returns-clause-kept
returns-clause-kept c = kept c.args.bytes.now _ (returns-clause-found c)

pub returns-in_err-outline-clause-bounded : goal.returns-in_err-outline-clause-bounded
returns-in_err-outline-clause-bounded c = within_from_none c.args.bytes.now c.new.result c.read_outline_at.new.steps c.new.ensures c.read_outline_at.ensures.bounded

pub returns-in_err-outline-clause-missing : goal.returns-in_err-outline-clause-missing
returns-in_err-outline-clause-missing c = λ missing. not_found_passed c.from_residual.result c.in_err-outline.field-0.0 c.from_residual.ensures.1 (c.in_err-outline.ensures.missing missing)

pub returns-in_err-outline-clause-kinds : goal.returns-in_err-outline-clause-kinds
returns-in_err-outline-clause-kinds c = missing_passed _ _ c.from_residual.result c.in_err-outline.field-0.0 c.from_residual.ensures.1 (λ missing. missing) c.in_err-outline.ensures.kinds

pub returns-in_err-streams-clause-missing : goal.returns-in_err-streams-clause-missing
returns-in_err-streams-clause-missing c = λ missing. absurd (c.in_ok-outline.ensures.missing missing)

pub returns-in_err-streams-clause-kinds : goal.returns-in_err-streams-clause-kinds
returns-in_err-streams-clause-kinds c = kind_passed_along _ c.from_residual-in_err-streams.result c.in_err-streams.field-0.0 c.from_residual-in_err-streams.ensures.1 c.in_err-streams.ensures.kinds

pub returns-clause-missing : goal.returns-clause-missing
returns-clause-missing c = λ missing. absurd (c.in_ok-outline.ensures.missing missing)
