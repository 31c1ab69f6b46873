use Rattle.std.proofs.Common.{◌≡◌, ◌+◌, ◌-◌, ◌*◌, inl, inr, length, get_or, map, refl, arith, ap, ◌∙◌}
use Rattle.std.specs.List.{range_with_len}
use Rattle.std.proofs.lemmas.Bool.{cases_lt}
use Rattle.msi_container_format.specs.Container.{mini_sector_byte}
use Rattle.msi_container_view.specs.Extents.{bytes_of, size_of}
use Rattle.msi_container_view.proofs.extent_lemmas.ExtentLemmas.{bytes_of_more, size_of_more}
use Rattle.msi_container_view.proofs.extent_lemmas.MiniRunLemmas.{mini_run_within, mini_run_bytes_more}
use Rattle.msi_container_view.proofs.extent_lemmas.SectorRunLemmas.{Follow, run_within, run_of_part}
use Rattle.msi_container_view.proofs.extents.mini_extents.Goals as goal

pub mini_extent-extent-requires-clause-within : goal.mini_extent-extent-requires-clause-within
mini_extent-extent-requires-clause-within c =
    let mini_sectors = c.args.mini_sectors.now in
    let at = c.loop-left.at in
    let first = get_or mini_sectors at 0 in
    let run = c.run_len-run.result in
    let within = run_within mini_sectors at run c.loop-left.invariant.at c.run_len-run.ensures.within in
    let follow : Follow mini_sectors first at run =
    run_of_part mini_sectors first at (length mini_sectors - at) run refl c.run_len-run.ensures.within c.run_len-run.ensures.run in
    mini_run_within c.args.size (length c.args.mini_stream.now) mini_sectors first at run c.min.result
    c.requires.size c.requires.within follow c.run_len-run.ensures.some within (omega arith)

pub loop-left-preserved : goal.loop-left-preserved
loop-left-preserved c =
    let mini_stream = c.args.mini_stream.now in
    let mini_sectors = c.args.mini_sectors.now in
    let at = c.loop-left.at in
    let left = c.loop-left.left in
    let first = get_or mini_sectors at 0 in
    let run = c.run_len-run.result in
    let extent = c.mini_extent-extent.result in
    let within = run_within mini_sectors at run c.loop-left.invariant.at c.run_len-run.ensures.within in
    let follow : Follow mini_sectors first at run =
    run_of_part mini_sectors first at (length mini_sectors - at) run refl c.run_len-run.ensures.within c.run_len-run.ensures.run in
    let before : at * 64 + left ≡ c.args.count = omega arith in
    let sum : size_of c.push.new.self.items ≡ size_of c.loop-left.extents.items + extent.count =
    ap size_of c.in_ok-push.ensures.items ∙ size_of_more c.loop-left.extents.items extent in
    record {
      at = omega arith;
      most = omega arith;
      whole = elim (cases_lt extent.count left) [
        | inl h ↦ inr (omega arith)
        | inr h ↦ inl (omega arith)
      ];
      sized = omega arith;
      bytes = λ file sized.
          let done : at * 64 ≡ c.args.count - left = omega arith in
          let now : c.args.count - left + extent.count ≡ c.args.count - (left - extent.count) = omega arith in
          ap (bytes_of file) c.in_ok-push.ensures.items
          ∙ bytes_of_more file c.loop-left.extents.items extent
          ∙ rw (c.loop-left.invariant.bytes file sized)
          (mini_run_bytes_more file mini_stream mini_sectors c.args.size first at run extent.start extent.count (c.args.count - left)
          sized follow c.mini_extent-extent.ensures.run (omega arith) done
          ∙ ap (λ n. map (mini_sector_byte file mini_stream mini_sectors) (range_with_len 0 n)) now);
    }
