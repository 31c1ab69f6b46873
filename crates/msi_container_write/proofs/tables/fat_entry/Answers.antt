use Rattle.std.proofs.Common.{◌+◌, ℕ, List, cond, leb, length, ◌∙◌, ap}
use Rattle.msi_container_format.specs.Format.{END_OF_CHAIN}
use Rattle.msi_container_write.specs.Index.{streams_of}
use Rattle.msi_container_write.proofs.sectors.TableLemmas.{large_entry_is}
use Rattle.msi_container_write.proofs.tables.fat_entry.Goals as goal

pub returns-then-n-regions-2 : goal.returns-then-n-regions-2
returns-then-n-regions-2 c = λ parts stand.
    large_entry_is c.args.regions (streams_of c.args.places.now) parts c.args.total c.args.n c.unit_entry.result stand
    c.if-n-regions.false c.if-n-regions-2.true
    (c.unit_entry.ensures ∙ ap (λ (bs : List ℕ). cond (leb (length bs) 512) END_OF_CHAIN (c.args.n + 1)) c.from_sector.ensures)
