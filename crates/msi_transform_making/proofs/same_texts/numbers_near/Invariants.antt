use Rattle.std.proofs.Common.{◌≡◌, ◌+◌, length}
use Rattle.msi_transform_making.specs.LeftOut.{AreSameTexts}
use Rattle.msi_transform_making.proofs.same_texts.numbers_near.Given as goal

abbrev pub invariant-loop-at : goal.invariant-loop-at
invariant-loop-at l = record {
  texts : AreSameTexts l.old.places l.new.places l.numbers.items;
  many : length l.numbers.items ≡ l.at + 1;
}
