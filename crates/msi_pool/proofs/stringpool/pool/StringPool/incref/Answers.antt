use Rattle.std.proofs.Common.{◌+◌, ap, option_map, string_bytes}
use Rattle.msi_pool_places.specs.Indexing.{places_of}
use Rattle.msi_pool_places.proofs.CountLemmas.{taken_in_range}
use Rattle.msi_pool_places.proofs.IndexedFitLemmas.{taken_most}
use Rattle.msi_pool_places.proofs.TakenLemmas.{taken_takes}
use Rattle.msi_pool.proofs.stringpool.pool.StringPool.incref.Goals as goal

pub invariant_of-self-2 : goal.invariant_of-self-2
invariant_of-self-2 c =
    let before = places_of c.self.inside.kept in
    let after = places_of c.take.new.self in
    let text = string_bytes c.args.text in
    record {
      most = taken_most c.self.inside.long before after text (c.in_ok-at.at + 1) c.in_ok-at.ensures.ok c.self.invariant.most;
      counts = (taken_in_range c.self.inside.long before after text (c.in_ok-at.at + 1) c.in_ok-at.ensures.ok).1 c.self.invariant.counts;
      indexed = c.take.ensures.indexed;
    }

pub returns-clause-holds : goal.returns-clause-holds
returns-clause-holds c =
    let takes = taken_takes c.self.inside.long (places_of c.self.inside.kept) (places_of c.take.new.self) (string_bytes c.args.text) (c.in_ok-at.at + 1) c.in_ok-at.ensures.ok in
    rw c.from_number.ensures (ap (option_map (λ p. p.text)) takes.place)
