use Rattle.std.proofs.Common.{ap, sym, ◌∙◌, length}
use Rattle.msi_pool_places.proofs.PlaceIndexLemmas.{after_forget, length-forgotten}
use Rattle.msi_pool_places.proofs.indexed.IndexedPlaces.forget_texts.Goals as goal

pub returns-clause-indexed : goal.returns-clause-indexed
returns-clause-indexed c =
    let old = c.args.self.now in
    let is = after_forget c.args.is_named.now old.places c.forget_texts.new.self old.free old.texts c.requires.named c.forget_texts.ensures c.requires.indexed.are_free c.requires.indexed.are_open in
    record {
      many_is = c.requires.indexed.many_is ∙ sym (ap length c.forget_texts.ensures ∙ length-forgotten c.args.is_named.now old.places c.requires.named);
      are_free = is.are_free;
      are_open = is.are_open;
    }
