use Rattle.std.proofs.Common.{◌∙◌, sym, ap, Some}
use Rattle.msi_container_format.specs.Container.{next_difat, difat_start}
use Rattle.msi_container_tables.proofs.chains.ChainStepLemmas.{follower_last}
use Rattle.msi_container_tables.proofs.fat.next_sector.Goals as goal

pub returns-in-Some : goal.returns-in-Some
returns-in-Some c =
    ap Some (rw c.sector_size-size.ensures.value at c.number32-in-Some.ensures)
    ∙ sym (follower_last (next_difat c.args.bytes.now) (difat_start c.args.bytes.now) c.in-Some.last.now c.args.so_far.now c.in-Some.ensures.value)
