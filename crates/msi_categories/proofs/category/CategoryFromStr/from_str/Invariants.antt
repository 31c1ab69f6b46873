use Rattle.std.proofs.Common.{◌≡◌, drop, find, ◌||◌, bytes_eq}
use Rattle.msi_categories.specs.Categories.{category_in, category_name, other_name}
use Rattle.msi_categories.proofs.category.CategoryFromStr.from_str.Given as goal

abbrev pub invariant-loop-category : goal.invariant-loop-category
invariant-loop-category l =
    find (λ c. bytes_eq (category_name c) l.text || bytes_eq (other_name c) l.text) (drop l.category-index l.category-items) ≡ category_in l.text
