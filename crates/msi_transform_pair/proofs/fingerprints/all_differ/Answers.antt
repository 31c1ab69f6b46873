use Rattle.std.proofs.Common.{subst}
use Rattle.std.specs.List.Sorted.{IsStrictlyIncreasing}
use Rattle.msi_transform_pair.proofs.FingerprintLemmas.{all_differ_once_sorted}
use Rattle.msi_transform_pair.proofs.fingerprints.all_differ.Goals as goal

pub returns : goal.returns
returns c = λ t. all_differ_once_sorted c.args.numbers.items c.sort_unstable.new.self.items c.sort_unstable.ensures.permutation
    (subst IsStrictlyIncreasing c.as_slice.ensures.value (c.rise.ensures t))
