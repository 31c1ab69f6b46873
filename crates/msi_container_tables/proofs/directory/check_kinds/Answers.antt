use Rattle.std.proofs.Common.{◌≡◌, slice_index, inl, inr, sym, ◌∙◌, arith, below_more}
use Rattle.msi_container_format.specs.Container.{kind}
use Rattle.msi_container_tables.proofs.directory.check_kinds.Goals as goal

pub loop-entry-preserved : goal.loop-entry-preserved
loop-entry-preserved c =
    let is_kind : kind c.args.directory.now.bytes.now c.args.directory.now.sectors.now (slice_index c.args.entries.now c.loop-entry.entry-index) ≡ c.kind-kind.result = sym c.kind-kind.ensures in
    below_more _ _ c.loop-entry.invariant
    (elim c.else-kind-ne-STORAGE.either [ inl stream ↦ inr (is_kind ∙ stream.1) | inr storage ↦ inl (is_kind ∙ storage) ])

pub returns-clause-ok : goal.returns-clause-ok
returns-clause-ok c = λ k l. c.loop-entry.invariant k (omega arith)
