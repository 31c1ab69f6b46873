use Rattle.std.proofs.Common.{◌≡◌, ℕ, ◌<◌, ◌⊎◌, slice_index}
use Rattle.msi_container_format.specs.Container.{kind}
use Rattle.msi_container_tables.proofs.directory.check_kinds.Given as goal

abbrev pub invariant-loop-entry : goal.invariant-loop-entry
invariant-loop-entry l =
    let kind_of = kind l.directory.bytes.now l.directory.sectors.now in
    (k : ℕ) → k < l.entry-index → (kind_of (slice_index l.entries k) ≡ 1) ⊎ (kind_of (slice_index l.entries k) ≡ 2)
