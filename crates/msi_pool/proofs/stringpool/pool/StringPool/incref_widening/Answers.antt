use Rattle.std.proofs.Common.{◌+◌, string_bytes, true}
use Rattle.msi_pool_places.specs.Indexing.{places_of}
use Rattle.msi_pool_places.proofs.CountLemmas.{taken_in_range}
use Rattle.msi_pool_places.proofs.IndexedFitLemmas.{taken_most}
use Rattle.msi_pool.proofs.stringpool.pool.StringPool.incref_widening.Goals as goal

pub invariant_of-self-then-len-gt-MAX_SHORT_PLACES : goal.invariant_of-self-then-len-gt-MAX_SHORT_PLACES
invariant_of-self-then-len-gt-MAX_SHORT_PLACES c =
    let before = places_of c.self.inside.kept in
    let after = places_of c.take.new.self in
    let text = string_bytes c.args.text in
    record {
      most = taken_most true before after text (c.in_ok-at.at + 1) c.in_ok-at.ensures.ok c.self.invariant.most;
      counts = (taken_in_range true before after text (c.in_ok-at.at + 1) c.in_ok-at.ensures.ok).1 c.self.invariant.counts;
      indexed = c.take.ensures.indexed;
    }

pub invariant_of-self-else-len-gt-MAX_SHORT_PLACES : goal.invariant_of-self-else-len-gt-MAX_SHORT_PLACES
invariant_of-self-else-len-gt-MAX_SHORT_PLACES c =
    let before = places_of c.self.inside.kept in
    let after = places_of c.take.new.self in
    let text = string_bytes c.args.text in
    record {
      most = taken_most true before after text (c.in_ok-at.at + 1) c.in_ok-at.ensures.ok c.self.invariant.most;
      counts = (taken_in_range true before after text (c.in_ok-at.at + 1) c.in_ok-at.ensures.ok).1 c.self.invariant.counts;
      indexed = c.take.ensures.indexed;
    }
