use Rattle.std.proofs.Common.{◌≡◌, ap, sym, ◌∙◌, subst, length, arith}
use Rattle.std.proofs.lemmas.Grind.{get_or_default_zero}
use Rattle.msi_pool_places.specs.Pool.{CountsFit}
use Rattle.msi_pool_places.specs.Indexing.{places_of}
use Rattle.msi_pool_places.proofs.RecountingLemmas.{CountsFit-with_counts, length-with_counts}
use Rattle.msi_pool.proofs.stringpool.pool.StringPool.set_counts.Goals as goal

pub invariant_of-self : goal.invariant_of-self
invariant_of-self c =
    let before = places_of c.self.inside.kept in
    let many : length c.args.counts.now ≡ length before = c.requires ∙ sym (ap (λ p. length p.places) c.self.view_is) in
    let same : length (places_of c.set_counts.new.self) ≡ length before = ap length c.set_counts.ensures.places ∙ length-with_counts c.args.counts.now before many in
    record {
      most = omega (arith, same, c.self.invariant.most);
      counts = subst CountsFit (sym c.set_counts.ensures.places) (CountsFit-with_counts c.args.counts.now before (λ i e inside. omega (arith, c.type_inv.counts i, get_or_default_zero c.args.counts.now i e inside)));
      indexed = c.set_counts.ensures.indexed;
    }
