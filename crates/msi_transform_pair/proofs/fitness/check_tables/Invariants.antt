use Rattle.std.proofs.Common.{◌≡◌, drop}
use Rattle.std.specs.List.{flat_map}
use Rattle.msi_base.specs.Refusals.{first_refusal}
use Rattle.msi_transform_pair.specs.Pair.{pair_of, table_reasons}
use Rattle.msi_transform_pair.specs.Names.{names_in}
use Rattle.msi_transform_pair.proofs.fitness.check_tables.Given as goal

abbrev pub invariant-loop-i : goal.invariant-loop-i
invariant-loop-i l = record {
  same : first_refusal (flat_map (table_reasons (pair_of l.old l.new)) (names_in (drop l.i l.names)))
      ≡ first_refusal (flat_map (table_reasons (pair_of l.old l.new)) (names_in l.names));
}
