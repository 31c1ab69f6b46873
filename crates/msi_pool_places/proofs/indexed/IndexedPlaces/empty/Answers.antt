use Rattle.std.proofs.Common.{ap, sym, ◌∙◌, length-set, length}
use Rattle.msi_pool_places.proofs.PlaceIndexLemmas.{after_empty}
use Rattle.msi_pool_places.proofs.indexed.IndexedPlaces.empty.Goals as goal

pub returns-clause-indexed : goal.returns-clause-indexed
returns-clause-indexed c =
    let old = c.args.self.now in
    let q = c.new-place.result in
    let is = after_empty old.places c.set.new.self c.args.at c.args.text q old.free c.insert.new.self old.texts c.remove_text.new.texts c.requires.place (ap (λ p. p.count) c.new-place.ensures) c.set.ensures.places c.requires.indexed.are_free c.requires.indexed.are_open c.in_ok-insert.ensures.ok c.remove_text.ensures.removed in
    record {
      many_is = c.requires.indexed.many_is ∙ sym (ap length c.set.ensures.places ∙ length-set old.places c.args.at q);
      are_free = is.are_free;
      are_open = is.are_open;
    }
