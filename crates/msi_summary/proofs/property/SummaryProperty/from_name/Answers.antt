use Rattle.std.proofs.Common.{◌≡◌, ℕ, ◌+◌, ◌<◌, ◌≤◌, Bool, cond, List, length, drop, get_or, find, Some, None, bytes_eq, sym, ap, subst, ◌∙◌}
use Rattle.std.proofs.lemmas.List.{at_drop_all, at_drop_more}
use Rattle.msi_summary.specs.declared.property.SummaryProperty.{SummaryProperty}
use Rattle.msi_summary.specs.Property.{all_properties, property_name}
use Rattle.msi_summary.proofs.property.SummaryProperty.from_name.Goals as goal

abbrev has_name : List ℕ → SummaryProperty → Bool
has_name name p = bytes_eq (property_name p) name

-- what is found from a place on, where the property there has the name, where it hasn't, and behind the last
at_place : (name : List ℕ) (items : List SummaryProperty) (i : ℕ) (d : SummaryProperty) (named b : Bool) → items ≡ all_properties → i < 18
    → named ≡ has_name name (get_or items i d) → named ≡ b → find (has_name name) (drop i items) ≡ cond b (Some (get_or items i d)) (find (has_name name) (drop (i + 1) items))
at_place name items i d named b all within is test =
    at_drop_more (find (has_name name)) items i d (subst (λ (n : ℕ). i < n) (sym (ap length all)) within)
    ∙ ap (λ t. cond t (Some (get_or items i d)) (find (has_name name) (drop (i + 1) items))) (sym is ∙ test)

behind_all : (name : List ℕ) (items : List SummaryProperty) (i : ℕ) → items ≡ all_properties → 18 ≤ i → find (has_name name) (drop i items) ≡ None
behind_all name items i all past = at_drop_all (find (has_name name)) items i (subst (λ (n : ℕ). n ≤ i) (sym (ap length all)) past)

pub loop-property-preserved : goal.loop-property-preserved
loop-property-preserved c =
    sym (at_place c.args.name.now c.all-property-items.result c.loop-property.property-index _ _ _ c.all-property-items.ensures c.loop-property-test.true c.has_name.ensures c.if-has_name.false)
    ∙ c.loop-property.invariant

pub returns-then-has_name : goal.returns-then-has_name
returns-then-has_name c =
    sym (at_place c.args.name.now c.all-property-items.result c.loop-property.property-index _ _ _ c.all-property-items.ensures c.loop-property-test.true c.has_name.ensures c.if-has_name.true)
    ∙ c.loop-property.invariant

pub returns : goal.returns
returns c = sym (behind_all c.args.name.now c.all-property-items.result c.loop-property.property-index c.all-property-items.ensures c.loop-property-test.false) ∙ c.loop-property.invariant
