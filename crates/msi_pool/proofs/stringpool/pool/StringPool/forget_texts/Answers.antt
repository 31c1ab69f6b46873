use Rattle.std.proofs.Common.{◌≡◌, ap, sym, ◌∙◌, subst, length, arith}
use Rattle.msi_pool_places.specs.Pool.{CountsFit}
use Rattle.msi_pool_places.specs.Indexing.{places_of}
use Rattle.msi_pool_places.proofs.CountLemmas.{CountsFit-without}
use Rattle.msi_pool_places.proofs.PlaceIndexLemmas.{length-forgotten}
use Rattle.msi_pool.proofs.stringpool.pool.StringPool.forget_texts.Goals as goal

pub invariant_of-self : goal.invariant_of-self
invariant_of-self c =
    let before = places_of c.self.inside.kept in
    let named : length c.args.is_named.now ≡ length before = c.requires ∙ sym (ap (λ p. length p.places) c.self.view_is) in
    let same : length (places_of c.forget_texts.new.self) ≡ length before = ap length c.forget_texts.ensures.places ∙ length-forgotten c.args.is_named.now before named in
    record {
      most = omega (arith, same, c.self.invariant.most);
      counts = subst CountsFit (sym c.forget_texts.ensures.places) (CountsFit-without c.args.is_named.now before c.self.invariant.counts);
      indexed = c.forget_texts.ensures.indexed;
    }
