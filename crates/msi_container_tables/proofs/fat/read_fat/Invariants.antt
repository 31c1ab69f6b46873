use Rattle.std.proofs.Common.{◌≡◌, ◌++◌, vec_len, map}
use Rattle.std.specs.List.{range_with_len}
use Rattle.msi_container_format.specs.Container.{listed}
use Rattle.msi_container_tables.proofs.fat.read_fat.Given as goal

abbrev pub invariant-loop-place : goal.invariant-loop-place
invariant-loop-place l = record {
  so_far : l.fat.items ≡ map (listed l.bytes l.difat) (range_with_len 0 l.place);
  claimed : l.claims.list.items ≡ l.fn.claims.list.items ++ l.fat.items;
  limit : vec_len l.claims.marks ≡ vec_len l.fn.claims.marks;
}
