use Rattle.std.proofs.Common.{◌+◌, arith, refl}
use Rattle.msi_container_write.specs.Balance.{left_link, right_link}
use Rattle.msi_container_write.proofs.directories.BalanceLemmas.{spelled}
use Rattle.msi_container_write.proofs.laws.links_spell_tree.Goals as goal

pub returns : goal.returns
returns c = λ n l.
    let p = spelled (left_link n 1 n) (right_link n 1 n) (n + 1) n 1 n (omega arith) (omega arith) (omega arith) (λ k a b. (refl, refl)) in
    (p.0, p.1, p.2.distinct, (λ k a b. p.2.each k a (omega arith)), p.2.long)
