use Rattle.std.proofs.Common.{◌<◌, ap, length, take, get_or, arith, ◌∙◌}
use Rattle.msi_pool_places.specs.JoinedTexts.{end_of, places_joined}
use Rattle.msi_pool_places.proofs.ForgettingLemmas.{gone_through-all, gone_through-more}
use Rattle.msi_pool_places.proofs.JoinedTextsLemmas.{cut_forgotten, length-cut, place_of, place_set}
use Rattle.msi_pool_places.proofs.joined.JoinedTexts.forget_texts.Goals as goal

pub index_mut-requires : goal.index_mut-requires
index_mut-requires c =
    let texts = c.args.self.now in
    omega (arith, c.loop-i-test.true, c.requires.named, length-cut texts.whole 0 texts.ends texts.counts.items, texts.counts.ok.0, c.loop-i.invariant.many)

pub loop-i-preserved : goal.loop-i-preserved
loop-i-preserved c =
    let texts = c.args.self.now in
    let now = c.loop-i.self in
    let whole = now.whole in
    let ends = now.ends in
    let i = c.loop-i.i in
    let old = c.index_mut.result.now in
    let new = c.forget_text.new.self in
    let place = place_of whole ends i in
    let inside : i < length now.counts.items = omega (arith, c.loop-i-test.true, c.requires.named, length-cut texts.whole 0 texts.ends texts.counts.items, texts.counts.ok.0, now.counts.ok.0, c.loop-i.invariant.many) in
    let is = place_set whole ends now.counts.items i old new inside c.index_mut.ensures.value (λ few. rw c.forget_text.ensures few) c.loop-i.invariant.joined in
    record {
      joined = is.joined;
      many = c.loop-i.invariant.many;
      places = is.places ∙ gone_through-more c.args.is_named.now (places_joined texts) (places_joined now) i _ (place old) (place new)
          c.loop-i-test.true c.requires.named c.loop-i.invariant.places is.was (ap place c.forget_text.ensures ∙ cut_forgotten whole (end_of 0 (take i ends)) (get_or ends i 0) _ old);
    }

pub returns-clause-places : goal.returns-clause-places
returns-clause-places c =
    c.loop-i.invariant.places ∙ gone_through-all c.args.is_named.now (places_joined c.args.self.now) c.loop-i.i c.requires.named c.loop-i-test.false
