use Rattle.std.proofs.Common.{◌≡◌, ℕ, ◌+◌, ◌∷◌, [], List, ◌||◌, ap, refl, ◌∙◌, length, length-append, arith}
use Rattle.std.proofs.lemmas.Option.{slice_get_past}
use Rattle.msi_pool_places.specs.TextIndexes.{is_entered, is_same}
use Rattle.msi_pool_places.proofs.PlaceIndexLemmas.{after_append, open_undone}
use Rattle.msi_pool_places.proofs.indexed.IndexedPlaces.append.Goals as goal

pub returns-in-Err-clause-indexed : goal.returns-in-Err-clause-indexed
returns-in-Err-clause-indexed c =
    let old = c.args.self.now in
    let text = c.in_ok-text.text in
    let shared = ap (λ p. p.text) c.new-place.ensures ∙ c.in_ok-clone.ensures.cases in
    let entered : (t : List ℕ) (i : ℕ) → is_entered c.insert_text.new.texts t i ≡ (is_same t i text old.many || is_entered old.texts t i) =
    λ t i. c.in_ok-insert_text.ensures.ok t i ∙ ap (λ (u : List ℕ). is_same t i u old.many || is_entered old.texts t i) shared in
    let open_again = open_undone old.many text old.places old.texts c.insert_text.new.texts c.remove_text.new.texts c.requires.indexed.are_open (slice_get_past old.places old.many (omega (arith, c.requires.indexed.many_is))) entered c.remove_text.ensures.removed in
    rw c.in-Err.ensures.err (record {
      many_is = c.requires.indexed.many_is;
      are_free = c.requires.indexed.are_free;
      are_open = open_again;
    })

pub returns-clause-indexed : goal.returns-clause-indexed
returns-clause-indexed c =
    let old = c.args.self.now in
    let q = c.new-place.result in
    let is = after_append old.places c.push.new.self old.many q.text q old.free old.texts c.insert_text.new.texts c.requires.indexed.many_is (ap (λ p. p.count) c.new-place.ensures) refl c.in_default.ensures.ok c.requires.indexed.are_free c.requires.indexed.are_open c.in_ok-insert_text.ensures.ok in
    let longer : length c.push.new.self ≡ length old.places + 1 = ap length c.in_default.ensures.ok ∙ length-append old.places (q ∷ []) in
    record {
      many_is = omega (arith, c.requires.indexed.many_is, longer);
      are_free = is.are_free;
      are_open = is.are_open;
    }
