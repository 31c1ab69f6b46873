use Rattle.std.proofs.Common.{◌≡◌, ℕ, ◌+◌, List, not, ◌&&◌, ◌==◌, ap, sym, ◌∙◌, length-set, length}
use Rattle.msi_pool_places.specs.TextIndexes.{is_entered, is_same}
use Rattle.msi_pool_places.specs.declared.texts.Entry.{Entry}
use Rattle.msi_pool_places.proofs.PlaceIndexLemmas.{after_raise, raised_is}
use Rattle.msi_pool_places.proofs.indexed.IndexedPlaces.raise.Goals as goal

pub returns-clause-ok : goal.returns-clause-ok
returns-clause-ok c = raised_is c.args.self.now.places c.set.new.self c.args.at c.args.text c.get-place.result.now c.new-raised.result c.get-place.ensures.place c.requires.room (ap (λ x. x.count) c.new-raised.ensures ∙ ap (λ n. n + 1) c.count.ensures) (ap (λ x. x.text) c.new-raised.ensures ∙ c.in_ok-shared_text.ensures.ok) c.set.ensures.places

pub returns-clause-indexed : goal.returns-clause-indexed
returns-clause-indexed c =
    let old = c.args.self.now in
    let p = c.get-place.result.now in
    let q = c.new-raised.result in
    let closed : (t : List ℕ) (i : ℕ) → is_entered c.close.new.texts t i ≡ (not ((q.count == 65535) && is_same t i c.args.text c.args.at) && is_entered old.texts t i) =
    λ t i. c.close.ensures.removed t i ∙ ap (λ (e : Entry). not ((c.count-2.result == 65535) && is_same t i e.text e.at) && is_entered old.texts t i) c.new-entry.ensures
    ∙ ap (λ (n : ℕ). not ((n == 65535) && is_same t i c.args.text c.args.at) && is_entered old.texts t i) c.count-2.ensures in
    let is = after_raise old.places c.set.new.self c.args.at c.args.text p q old.free old.texts c.close.new.texts c.get-place.ensures.place c.requires.room (ap (λ x. x.count) c.new-raised.ensures ∙ ap (λ n. n + 1) c.count.ensures) (ap (λ x. x.text) c.new-raised.ensures ∙ c.in_ok-shared_text.ensures.ok) c.set.ensures.places c.requires.indexed.are_free c.requires.indexed.are_open closed in
    record {
      many_is = c.requires.indexed.many_is ∙ sym (ap length c.set.ensures.places ∙ length-set old.places c.args.at q);
      are_free = is.are_free;
      are_open = is.are_open;
    }
