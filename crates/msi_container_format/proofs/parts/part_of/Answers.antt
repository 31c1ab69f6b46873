use Rattle.std.proofs.Common.{◌≡◌, ◌+◌, ◌-◌, ap, ◌∙◌, arith}
use Rattle.msi_container_format.specs.Bytes.{bytes_at}
use Rattle.msi_container_format.proofs.ByteLemmas.{bytes_between}
use Rattle.msi_container_format.proofs.parts.part_of.Goals as goal

pub returns : goal.returns
returns c =
    let whole = c.args.whole.value.items in
    let start = c.args.start in
    let count : start + c.args.count - start ≡ c.args.count = omega arith in
    c.from_part.ensures ∙ c.new.ensures ∙ bytes_between whole start (start + c.args.count) (omega arith) c.requires ∙ ap (bytes_at whole start) count
