use Rattle.std.proofs.Common.{◌≡◌, drop, eqb}
use Rattle.msi_base.specs.Lists.{entry_where}
use Rattle.msi_recode.proofs.summary.place_of_page.Given as goal

abbrev pub invariant-loop-id : goal.invariant-loop-id
invariant-loop-id l = entry_where (λ k. eqb k 1) (drop l.id-index l.pairs) ≡ entry_where (λ k. eqb k 1) l.pairs
