use Rattle.std.proofs.Common.{◌∙◌, ◌*◌, ◌+◌, ◌<◌, length, arith, refl}
use Rattle.std.proofs.lemmas.List.{length-set}
use Rattle.msi_container_write.specs.Image.{difat_entry}
use Rattle.msi_container_write.proofs.sectors.ImageLemmas.{difat_entry_is}
use Rattle.msi_container_write.proofs.placing.RangeLemmas.{table_filled, entry_more}
use Rattle.msi_container_write.proofs.tables.fill_difat.Goals as goal

pub loop-k-preserved : goal.loop-k-preserved
loop-k-preserved c =
    let within : c.loop-k.k < length c.loop-k.entries = omega (arith, c.loop-k.invariant.long) in
    record {
      long = length-set c.loop-k.entries c.loop-k.k c.difat_entry.result ∙ c.loop-k.invariant.long;
      filled = entry_more (λ j. difat_entry c.args.taken c.args.total (128 * c.args.m + j)) c.loop-k.entries c.loop-k.k c.difat_entry.result within
          (difat_entry_is c.args.taken c.args.total (128 * c.args.m + c.loop-k.k) c.difat_entry.result c.fat_run-fat.result c.difat_run-difat.result
          c.fat_run-fat.ensures.first c.fat_run-fat.ensures.count c.difat_run-difat.ensures
          c.difat_entry.ensures.next c.difat_entry.ensures.listed)
          c.loop-k.invariant.filled;
    }

pub returns : goal.returns
returns c =
    table_filled (difat_entry c.args.taken c.args.total) c.args.m 128 512 c.loop-k.entries _ refl c.loop-k.invariant.long
    (λ j l. c.loop-k.invariant.filled j (omega arith)) c.write_u32_into.ensures
