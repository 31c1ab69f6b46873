use Rattle.std.proofs.Common.{◌≡◌, ◌<◌, ◌+◌, ap, sym, length, take, get_or, arith, ◌∙◌, false, cond}
use Rattle.msi_pool_places.proofs.RecountingLemmas.{changed_before-more, set_before-more}
use Rattle.msi_pool_places.specs.JoinedTexts.{end_of, places_joined}
use Rattle.msi_pool_places.proofs.JoinedTextsLemmas.{cut_counted, length-cut, place_of, place_set}
use Rattle.msi_pool_places.proofs.joined.JoinedTexts.set_counts.Goals as goal
use Rattle.msi_pool_places.proofs.joined.JoinedTexts.set_counts.Goals.{then-set_count, else-set_count}

pub index_mut-requires : goal.index_mut-requires
index_mut-requires c =
    let texts = c.args.self.now in
    omega (arith, c.loop-i-test.true, c.requires.many, length-cut texts.whole 0 texts.ends texts.counts.items, texts.counts.ok.0, c.loop-i.invariant.many)

pub overflow_add-changed : goal.overflow_add-changed
overflow_add-changed c = omega (arith, c.loop-i.invariant.few, c.loop-i-test.true, c.requires.many, c.requires.most)

pub loop-i-preserved : goal.loop-i-preserved
loop-i-preserved c =
    let texts = c.args.self.now in
    let now = c.loop-i.self in
    let whole = now.whole in
    let ends = now.ends in
    let i = c.loop-i.i in
    let old = c.index_mut.result.now in
    let new = c.set_count.new.self in
    let place = place_of whole ends i in
    let inside : i < length now.counts.items = omega (arith, c.loop-i-test.true, c.requires.many, length-cut texts.whole 0 texts.ends texts.counts.items, texts.counts.ok.0, now.counts.ok.0, c.loop-i.invariant.many) in
    let is = place_set whole ends now.counts.items i old new inside c.index_mut.ensures.value (λ _. rw c.set_count.ensures.count (omega (arith, c.type_inv.counts i))) c.loop-i.invariant.joined in
    let more = changed_before-more c.args.counts.now (places_joined texts) (places_joined now) i 0 c.loop-i.changed (place old) c.set_count.result
    c.loop-i-test.true c.requires.many c.loop-i.invariant.places is.was c.set_count.ensures.changed c.loop-i.invariant.changed in
    record {
      joined = is.joined;
      many = c.loop-i.invariant.many;
      places = is.places ∙ set_before-more c.args.counts.now (places_joined texts) (places_joined now) i 0 (place old) (place new)
          c.loop-i-test.true c.requires.many c.loop-i.invariant.places is.was (ap place c.set_count.ensures.count ∙ cut_counted whole (end_of 0 (take i ends)) (get_or ends i 0) _ old);
      few = elim c.if-set_count.branch [
        | then-set_count w ↦ omega (arith, w.changed-is, c.loop-i.invariant.few)
        | else-set_count w ↦ omega (arith, w.changed-is, c.loop-i.invariant.few)
      ];
      changed = elim c.if-set_count.branch [
        | then-set_count w ↦ w.changed-is ∙ ap (λ b. c.loop-i.changed + cond b 1 0) (sym w.if-set_count.true) ∙ more
        | else-set_count w ↦ w.changed-is ∙ (let same : c.loop-i.changed ≡ c.loop-i.changed + cond false 1 0 = omega arith in same) ∙ ap (λ b. c.loop-i.changed + cond b 1 0) (sym w.if-set_count.false) ∙ more
      ];
    }
