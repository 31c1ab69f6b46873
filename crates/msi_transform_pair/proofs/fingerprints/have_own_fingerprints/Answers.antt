use Rattle.std.proofs.Common.{◌∙◌, ℕ, List, ap, sym}
use Rattle.std.specs.Prelude.{nat_eq}
use Rattle.msi_base.specs.Lists.{has_pair}
use Rattle.msi_transform_pair.proofs.FingerprintLemmas.{keys_differ}
use Rattle.msi_transform_pair.proofs.fingerprints.have_own_fingerprints.Goals as goal

pub returns-clause-ok : goal.returns-clause-ok
returns-clause-ok c = λ t. keys_differ c.args.pool.now.places c.args.columns.now c.args.rows.now
    (ap (λ (ns : List ℕ). has_pair nat_eq ns) (sym c.in_ok-prints.ensures.ok) ∙ c.all_differ.ensures t)
