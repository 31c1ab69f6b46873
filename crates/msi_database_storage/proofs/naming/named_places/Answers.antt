use Rattle.std.proofs.Common.{◌∙◌, ◌||◌, get_or}
use Rattle.std.specs.Prelude.{nat_lt}
use Rattle.msi_table.proofs.PlacesLemmas.{tabulated_push}
use Rattle.msi_database_storage.specs.Naming.{is_named_in}
use Rattle.msi_database_storage.proofs.naming.named_places.Goals as goal

pub loop-i-preserved : goal.loop-i-preserved
loop-i-preserved c =
    tabulated_push c.loop-i.named.items c.push.new.self.items c.loop-i.i (is_named_in c.args.census.now c.args.other.now) c.is_named.result c.in_ok-push.ensures.items c.loop-i.invariant
    (c.is_named.ensures ∙ (λ k. nat_lt 0 (get_or (c.counts-counts.ensures k) c.loop-i.i 0) || nat_lt 0 (get_or (c.counts-others.ensures k) c.loop-i.i 0)))
