use Rattle.std.proofs.Common.{◌≡◌, ◌∙◌, ◌+◌, ap, sym, length, arith, false, cond}
use Rattle.msi_pool_places.proofs.RecountingLemmas.{changed_before-more, set_before-more}
use Rattle.msi_pool_places.proofs.places.set_counts.Goals as goal
use Rattle.msi_pool_places.proofs.places.set_counts.Goals.{then-set_count, else-set_count}

pub loop-i-preserved : goal.loop-i-preserved
loop-i-preserved c =
    let same : length c.args.counts.now ≡ length c.args.places.now.items = omega (arith, c.requires.many, c.args.places.now.ok.0) in
    let more = changed_before-more c.args.counts.now c.args.places.now.items c.loop-i.places.items c.loop-i.i 0 c.loop-i.changed c.index_mut.result.now c.set_count.result
    c.loop-i-test.true same c.loop-i.invariant.places c.index_mut.ensures.value c.set_count.ensures.changed c.loop-i.invariant.changed in
    record {
      places = set_before-more c.args.counts.now c.args.places.now.items c.loop-i.places.items c.loop-i.i 0 c.index_mut.result.now c.set_count.new.place
          c.loop-i-test.true same c.loop-i.invariant.places c.index_mut.ensures.value c.set_count.ensures.place;
      changed = elim c.if-set_count.branch [
        | then-set_count w ↦ w.changed-is ∙ ap (λ b. c.loop-i.changed + cond b 1 0) (sym w.if-set_count.true) ∙ more
        | else-set_count w ↦ w.changed-is ∙ (let same : c.loop-i.changed ≡ c.loop-i.changed + cond false 1 0 = omega arith in same) ∙ ap (λ b. c.loop-i.changed + cond b 1 0) (sym w.if-set_count.false) ∙ more
      ];
    }
