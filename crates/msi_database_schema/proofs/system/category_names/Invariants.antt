use Rattle.std.proofs.Common.{◌≡◌, map, take}
use Rattle.msi_categories.specs.Categories.{category_name}
use Rattle.msi_database_schema.proofs.system.category_names.Given as goal

abbrev pub invariant-loop-category : goal.invariant-loop-category
invariant-loop-category l = record {
  names : map (λ name. name.now) l.names.items ≡ map category_name (take l.category-index l.category-items);
}
