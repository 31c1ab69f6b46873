use Rattle.std.proofs.Common.{◌*◌, take, ◌∙◌, arith}
use Rattle.std.proofs.lemmas.List.{get_or-take, length-take-le}
use Rattle.std.proofs.lemmas.List.FromFn.{fill_by_all}
use Rattle.msi_container_format.specs.Bytes as spelled
use Rattle.msi_container_format.specs.Container as container
use Rattle.msi_container_tables.proofs.directory.Directory.units.Goals as goal

pub returns : goal.returns
returns c =
    let bytes = c.args.self.now.bytes.now in
    let sectors = c.args.self.now.sectors.now in
    let units = c.loop-i.units in
    let len = c.args.len in
    fill_by_all (λ i. spelled.number16 bytes (container.field bytes sectors c.args.entry (2 * i))) (take len units) len 0
    (length-take-le len units (omega (arith, c.loop-i.invariant.long)))
    (λ k h. get_or-take len units k 0 h ∙ c.loop-i.invariant.filled k (omega arith))
