use Rattle.std.proofs.Common.{◌≡◌, ◌+◌, ◌-◌, ◌*◌, ◌≤◌, inl, inr, drop, length, length-take, map, arith, ap, ◌∙◌}
use Rattle.std.specs.List.{range_with_len}
use Rattle.std.proofs.lemmas.Bool.{cases_lt}
use Rattle.msi_container_format.specs.Container.{sector_byte}
use Rattle.msi_container_view.specs.Extents.{bytes_of, size_of}
use Rattle.msi_container_view.proofs.extent_lemmas.ExtentLemmas.{bytes_of_more, size_of_more}
use Rattle.msi_container_view.proofs.extent_lemmas.SectorRunLemmas.{Follow, run_of_part, run_bytes_more}
use Rattle.msi_container_view.proofs.extents.sector_extents.Goals as goal

pub loop-left-preserved : goal.loop-left-preserved
loop-left-preserved c =
    let sectors = c.args.sectors.now in
    let at = c.loop-left.at in
    let left = c.loop-left.left in
    let run = c.run_len-run.result in
    let count = c.min-count.result in
    let most = c.min-most.result in
    let within : at + run ≤ length sectors = omega (arith, c.run_len-run.ensures.within, length-take (at + most - at) (drop at sectors)) in
    let follow : Follow sectors c.from.result at run =
    run_of_part sectors c.from.result at (at + most - at) run c.from.ensures c.run_len-run.ensures.within c.run_len-run.ensures.run in
    let before : at * c.args.size + left ≡ c.args.count = omega arith in
    let sum : size_of c.push.new.self.items ≡ size_of c.loop-left.extents.items + count =
    ap size_of c.in_ok-push.ensures.items ∙ size_of_more c.loop-left.extents.items _ in
    record {
      at = within;
      most = omega arith;
      whole = elim (cases_lt left (run * c.args.size)) [
        | inl h ↦ inl (omega arith)
        | inr h ↦ inr (omega arith)
      ];
      sized = omega arith;
      bytes = λ file sized.
          let done : at * c.args.size ≡ c.args.count - left = omega arith in
          let now : c.args.count - left + count ≡ c.args.count - (left - count) = omega arith in
          ap (bytes_of file) c.in_ok-push.ensures.items
          ∙ bytes_of_more file c.loop-left.extents.items _
          ∙ rw (c.loop-left.invariant.bytes file sized)
          (run_bytes_more file sectors c.args.size c.from.result at run count (c.args.count - left) sized (omega arith) follow (omega arith) done
          ∙ ap (λ n. map (sector_byte file sectors) (range_with_len 0 n)) now);
    }
