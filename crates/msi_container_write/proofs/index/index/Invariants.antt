use Rattle.std.proofs.Common.{◌≡◌, ◌+◌, ◌++◌}
use Rattle.std.specs.FinMap.{entries}
use Rattle.msi_container_write.specs.Extents.{all_units}
use Rattle.msi_container_write.specs.Index.{placed}
use Rattle.msi_container_write.specs.Layout.{large_parts, mini_sectors}
use Rattle.msi_container_write.specs.LayoutLaw.{HaveNames}
use Rattle.msi_container_write.proofs.index.index.Given as goal

abbrev pub invariant-loop-name : goal.invariant-loop-name
invariant-loop-name l = record {
  sectors : l.first + all_units 512 (large_parts l.name-iterator) ≡ all_units 512 (large_parts (entries l.streams));
  mini : l.first_mini + mini_sectors l.name-iterator ≡ mini_sectors (entries l.streams);
  indexed : l.places.items ++ placed l.first l.first_mini l.name-iterator ≡ placed 0 0 (entries l.streams);
  names : HaveNames l.name-iterator → HaveNames (entries l.streams);
}
