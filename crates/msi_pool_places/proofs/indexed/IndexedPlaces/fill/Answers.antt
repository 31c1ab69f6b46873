use Rattle.std.proofs.Common.{ap, refl, sym, ◌∙◌, length-set, length}
use Rattle.msi_pool_places.proofs.PlaceIndexLemmas.{after_fill}
use Rattle.msi_pool_places.proofs.indexed.IndexedPlaces.fill.Goals as goal

pub returns-clause-indexed : goal.returns-clause-indexed
returns-clause-indexed c =
    let old = c.args.self.now in
    let q = c.new-place.result in
    let is = after_fill old.places c.set.new.self c.args.at q.text q old.free c.remove.new.self old.texts c.insert_text.new.texts c.requires.free (ap (λ p. p.count) c.new-place.ensures) refl c.set.ensures.places c.requires.indexed.are_free c.requires.indexed.are_open c.remove.ensures.removed c.in_ok-insert_text.ensures.ok in
    record {
      many_is = c.requires.indexed.many_is ∙ sym (ap length c.set.ensures.places ∙ length-set old.places c.args.at q);
      are_free = is.are_free;
      are_open = is.are_open;
    }
