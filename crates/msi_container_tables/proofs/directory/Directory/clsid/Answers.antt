use Rattle.std.proofs.Common.{◌+◌, slice_index, ap, ◌∙◌, arith}
use Rattle.std.proofs.lemmas.List.FromFn.{fill_by_all}
use Rattle.msi_container_format.specs.Container as container
use Rattle.msi_container_tables.proofs.directory.Directory.clsid.Goals as goal

pub returns : goal.returns
returns c =
    let bytes = c.args.self.now.bytes.now in
    let from = container.field bytes c.args.self.now.sectors.now c.args.entry 80 in
    fill_by_all (λ i. slice_index bytes (from + i)) c.loop-i.clsid 16 0 c.loop-i.invariant.long
    (λ k h. c.loop-i.invariant.filled k (omega arith) ∙ ap (λ p. slice_index bytes (p + k)) c.field-from.ensures.value)
