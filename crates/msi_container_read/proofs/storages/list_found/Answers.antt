use Rattle.std.proofs.Common.{◌+◌, map, ap, ◌∙◌, arith}
use Rattle.std.specs.List.{range_with_len}
use Rattle.msi_container_read.specs.StorageLists.{listed_at}
use Rattle.msi_container_read.proofs.plans.StorageListLemmas.{next_listed}
use Rattle.msi_container_read.proofs.storages.list_found.Goals as goal

pub loop-number-preserved : goal.loop-number-preserved
loop-number-preserved c =
    let f = c.args.found.now in
    let at = listed_at c.args.directory.now.bytes.now c.args.directory.now.sectors.now f.entries.items f.homes.items f.streams.items f.storages.items in
    let i = c.loop-number.invariant in
    record {
      some = omega arith;
      listed = next_listed at c.loop-number.number c.loop-number.list.items _ _ i.some i.listed c.in_ok-listed.ensures.ok c.in_ok-push.ensures.items;
    }

pub returns-clause-ok : goal.returns-clause-ok
returns-clause-ok c =
    let f = c.args.found.now in
    let at = listed_at c.args.directory.now.bytes.now c.args.directory.now.sectors.now f.entries.items f.homes.items f.streams.items f.storages.items in
    c.loop-number.invariant.listed ∙ ap (λ n. map (λ i. at (i + 1)) (range_with_len 0 n)) (omega (arith, c.loop-number.invariant.some, c.loop-number.auto, c.len-number-end.ensures, f.entries.ok.0))
