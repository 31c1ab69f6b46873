use Rattle.std.proofs.Common.{◌<◌, length, ◌∙◌, ap, arith}
use Rattle.std.specs.List.{flat_map}
use Rattle.std.specs.Int.{to_le_bytes, w32}
use Rattle.std.proofs.lemmas.List.FromFn.{fill_by_all}
use Rattle.std.proofs.lemmas.List.{length-set}
use Rattle.msi_container_write.specs.Image.{listed_entry}
use Rattle.msi_container_write.proofs.placing.RangeLemmas.{entry_more}
use Rattle.msi_container_write.proofs.tables.fill_list.Goals as goal

pub loop-k-preserved : goal.loop-k-preserved
loop-k-preserved c =
    let within : c.loop-k.k < length c.loop-k.entries = omega (arith, c.loop-k.invariant.long) in
    record {
      long = length-set c.loop-k.entries c.loop-k.k c.listed_entry.result ∙ c.loop-k.invariant.long;
      filled = entry_more (listed_entry c.args.fat.first c.args.fat.count) c.loop-k.entries c.loop-k.k c.listed_entry.result within
          c.listed_entry.ensures c.loop-k.invariant.filled;
    }

pub returns : goal.returns
returns c =
    c.write_u32_into.ensures
    ∙ ap (flat_map (to_le_bytes w32)) (fill_by_all (listed_entry c.args.fat.first c.args.fat.count) c.loop-k.entries 109 0 c.loop-k.invariant.long (λ j l. c.loop-k.invariant.filled j (omega arith)))
