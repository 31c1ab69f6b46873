use Rattle.std.proofs.Common.{◌∙◌, ◌*◌, ◌+◌, ◌<◌, length, arith, refl}
use Rattle.std.proofs.lemmas.List.{length-set}
use Rattle.msi_container_write.specs.Index.{streams_of}
use Rattle.msi_container_write.specs.Layout.{mini_parts, mini_fat_entry}
use Rattle.msi_container_write.proofs.placing.RangeLemmas.{table_filled, entry_more}
use Rattle.msi_container_write.proofs.tables.fill_mini_fat.Goals as goal

pub loop-k-preserved : goal.loop-k-preserved
loop-k-preserved c =
    let within : c.loop-k.k < length c.loop-k.entries = omega (arith, c.loop-k.invariant.long) in
    record {
      long = length-set c.loop-k.entries c.loop-k.k c.mini_fat_entry.result ∙ c.loop-k.invariant.long;
      filled = entry_more (λ j. mini_fat_entry (mini_parts (streams_of c.args.places.now)) (128 * c.args.m + j)) c.loop-k.entries c.loop-k.k c.mini_fat_entry.result within
          c.mini_fat_entry.ensures c.loop-k.invariant.filled;
    }

pub returns : goal.returns
returns c =
    table_filled (mini_fat_entry (mini_parts (streams_of c.args.places.now))) c.args.m 128 512 c.loop-k.entries _ refl c.loop-k.invariant.long
    (λ j l. c.loop-k.invariant.filled j (omega arith)) c.write_u32_into.ensures
