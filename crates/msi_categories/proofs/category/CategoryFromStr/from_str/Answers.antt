use Rattle.std.proofs.Common.{◌≡◌, ℕ, ◌+◌, ◌<◌, ◌≤◌, Bool, cond, List, length, drop, get_or, find, Some, None, bytes_eq, ◌||◌, sym, ap, subst, ◌∙◌}
use Rattle.std.proofs.lemmas.List.{at_drop_all, at_drop_more}
use Rattle.msi_categories.specs.declared.category.Category.{Category}
use Rattle.msi_categories.specs.Categories.{all_categories, category_name, other_name}
use Rattle.msi_categories.proofs.category.CategoryFromStr.from_str.Goals as goal

abbrev has_name : List ℕ → Category → Bool
has_name text category = bytes_eq (category_name category) text || bytes_eq (other_name category) text

-- what is found from a place on, where the category there has the name, where it hasn't, and behind the last
at_place : (text : List ℕ) (items : List Category) (i : ℕ) (d : Category) (named b : Bool) → items ≡ all_categories → i < 27
    → named ≡ has_name text (get_or items i d) → named ≡ b → find (has_name text) (drop i items) ≡ cond b (Some (get_or items i d)) (find (has_name text) (drop (i + 1) items))
at_place text items i d named b all within is test =
    at_drop_more (find (has_name text)) items i d (subst (λ (n : ℕ). i < n) (sym (ap length all)) within)
    ∙ ap (λ t. cond t (Some (get_or items i d)) (find (has_name text) (drop (i + 1) items))) (sym is ∙ test)

behind_all : (text : List ℕ) (items : List Category) (i : ℕ) → items ≡ all_categories → 27 ≤ i → find (has_name text) (drop i items) ≡ None
behind_all text items i all past = at_drop_all (find (has_name text)) items i (subst (λ (n : ℕ). n ≤ i) (sym (ap length all)) past)

pub loop-category-preserved : goal.loop-category-preserved
loop-category-preserved c =
    sym (at_place c.args.text.now c.all-category-items.result c.loop-category.category-index _ _ _ c.all-category-items.ensures c.loop-category-test.true c.has_name.ensures c.if-has_name.false)
    ∙ c.loop-category.invariant

pub returns-then-has_name : goal.returns-then-has_name
returns-then-has_name c = (
  sym c.loop-category.invariant
      ∙ at_place c.args.text.now c.all-category-items.result c.loop-category.category-index _ _ _ c.all-category-items.ensures c.loop-category-test.true c.has_name.ensures c.if-has_name.true,
  tt,
)

pub returns : goal.returns
returns c =
    (tt, (sym c.loop-category.invariant ∙ behind_all c.args.text.now c.all-category-items.result c.loop-category.category-index c.all-category-items.ensures c.loop-category-test.false, c.new.ensures))
