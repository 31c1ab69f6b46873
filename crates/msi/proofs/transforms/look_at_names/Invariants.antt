use Rattle.std.specs.FinMap.{entries}
use Rattle.msi_container_write.specs.LayoutLaw.{HaveNames}
use Rattle.msi.proofs.transforms.look_at_names.Given as goal

abbrev pub invariant-loop-name : goal.invariant-loop-name
invariant-loop-name l = HaveNames l.name-iterator → HaveNames (entries l.streams)
