use Rattle.std.proofs.Common.{◌≡◌, ◌+◌, ◌-◌, ◌*◌, ◌/◌, ◌%◌, arith, ap, ◌∙◌}
use Rattle.std.proofs.lemmas.Nat.{div-add-mod'}
use Rattle.msi_container_format.specs.Bytes.{place}
use Rattle.msi_container_view.proofs.extent_lemmas.SectorRunLemmas.{Follow, run_of_part, run_place}
use Rattle.msi_container_view.proofs.extents.mini_extent.Goals as goal

pub returns-clause-run : goal.returns-clause-run
returns-clause-run c j l =
    let size = c.args.size in
    let sectors = c.args.mini_stream.now in
    let from = 64 * c.args.mini_sector in
    let run = c.run_len-run.result in
    let parts = div-add-mod' from size in
    let follow : Follow sectors c.from.result (from / size) run =
    run_of_part sectors c.from.result (from / size) (from / size + c.div_ceil-needed.result - from / size) run c.from.ensures c.run_len-run.ensures.within c.run_len-run.ensures.run in
    let stands = run_place size sectors c.from.result (from / size) run (from % size + j) (omega arith) follow (omega arith) in
    let at_place : from + j ≡ from / size * size + (from % size + j) = omega arith in
    ap (place size sectors) at_place ∙ stands ∙ omega arith
