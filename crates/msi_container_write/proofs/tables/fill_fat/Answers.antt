use Rattle.std.proofs.Common.{◌∙◌, ◌*◌, ◌+◌, ◌<◌, length, arith, refl}
use Rattle.std.proofs.lemmas.List.{length-set}
use Rattle.msi_container_write.specs.Image.{fat_entry}
use Rattle.msi_container_write.proofs.placing.RangeLemmas.{table_filled, entry_more}
use Rattle.msi_container_write.proofs.tables.fill_fat.Goals as goal

pub loop-k-preserved : goal.loop-k-preserved
loop-k-preserved c =
    let within : c.loop-k.k < length c.loop-k.entries = omega (arith, c.loop-k.invariant.long) in
    record {
      long = length-set c.loop-k.entries c.loop-k.k c.fat_entry.result ∙ c.loop-k.invariant.long;
      filled = λ parts stand.
          entry_more (λ j. fat_entry parts c.args.total (128 * c.args.m + j)) c.loop-k.entries c.loop-k.k c.fat_entry.result within
          (c.fat_entry.ensures parts stand) (c.loop-k.invariant.filled parts stand);
    }

pub returns : goal.returns
returns c = λ parts stand.
    table_filled (fat_entry parts c.args.total) c.args.m 128 512 c.loop-k.entries _ refl c.loop-k.invariant.long
    (λ j l. c.loop-k.invariant.filled parts stand j (omega arith)) c.write_u32_into.ensures
