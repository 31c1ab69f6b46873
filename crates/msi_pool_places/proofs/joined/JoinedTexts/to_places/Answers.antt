use Rattle.std.proofs.Common.{◌∙◌, refl}
use Rattle.msi_pool_places.specs.JoinedTexts.{places_joined}
use Rattle.msi_pool_places.proofs.PlaceLoopLemmas.{taken_more}
use Rattle.msi_pool_places.proofs.joined.JoinedTexts.to_places.Goals as goal

pub loop-at-preserved : goal.loop-at-preserved
loop-at-preserved c =
    taken_more (places_joined c.args.self.now) c.loop-at.places.items c.push.new.self.items c.loop-at.at c.new-in-loop-at.result
    (c.piece-start.ensures.place ∙ rw (c.new-in-loop-at.ensures, c.from_piece-text.ensures, c.new.ensures, c.in_ok-clone.ensures.cases, c.in_ok-whole.ensures.ok, c.in_ok-to_string.ensures.ok) refl)
    c.loop-at.invariant c.in_ok-push.ensures.items
