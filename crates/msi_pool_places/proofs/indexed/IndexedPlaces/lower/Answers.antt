use Rattle.std.proofs.Common.{ap, sym, ◌∙◌, length-set, length}
use Rattle.msi_pool_places.proofs.PlaceIndexLemmas.{after_lower}
use Rattle.msi_pool_places.proofs.indexed.IndexedPlaces.lower.Goals as goal

pub returns-clause-indexed : goal.returns-clause-indexed
returns-clause-indexed c =
    let old = c.args.self.now in
    let is = after_lower old.places c.set.new.self c.args.at c.args.place old.free old.texts c.reopen.new.texts c.requires.place c.requires.used c.requires.fits c.set.ensures.places c.requires.indexed.are_free c.requires.indexed.are_open c.in_ok-reopen.ensures.ok in
    record {
      many_is = c.requires.indexed.many_is ∙ sym (ap length c.set.ensures.places ∙ length-set old.places c.args.at c.args.place);
      are_free = is.are_free;
      are_open = is.are_open;
    }
