use Rattle.std.proofs.Common.{◌+◌, string_bytes}
use Rattle.msi_pool_places.proofs.CountLemmas.{taken_in_range}
use Rattle.msi_pool_places.proofs.IndexedFitLemmas.{taken_most}
use Rattle.msi_pool.proofs.stringpool.indexed.IndexedPool.incref.Goals as goal

pub invariant_of-self-2 : goal.invariant_of-self-2
invariant_of-self-2 c =
    let long = c.self.inside.long in
    let before = c.self.inside.places.places in
    let after = c.take.new.self.places in
    let text = string_bytes c.args.text in (
      c.take.ensures.indexed,
      taken_most long before after text (c.in_ok-at.at + 1) c.in_ok-at.ensures.ok c.self.invariant.1,
      (taken_in_range long before after text (c.in_ok-at.at + 1) c.in_ok-at.ensures.ok).1 c.self.invariant.2,
    )
