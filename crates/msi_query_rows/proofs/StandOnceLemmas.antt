-- Distinct rows have each row once, in the order in which the rows first come.
use Rattle.std.proofs.Common.{◌≡◌, Bool, true, false, ◌||◌, List, [], ◌∷◌, ◌++◌, refl, sym, ap, ◌∙◌, subst}
use Rattle.std.specs.Prelude.{if◌then◌else◌}
use Rattle.std.specs.List.{AllByRecursion, IsDistinct, list_any}
use Rattle.std.proofs.lemmas.Bool.{or_parts}
use Rattle.std.proofs.lemmas.Map.Keys.{IsDistinct-cons}
use Rattle.msi_base.proofs.BoolLemmas.{by_test}
use Rattle.msi_base.proofs.ListLemmas.{all_weaker}
use Rattle.msi_table_values.specs.declared.value.Value.{Value}
use Rattle.msi_query.specs.Selection.{same_row, unseen}
use Rattle.msi_query_rows.specs.SelectionLaws.{StandOnce}
use Rattle.msi_query_rows.proofs.DistinctLemmas.{same_row-Decides, same_row-equiv, seen_again, seen_first}

abbrev among : List Value → List (List Value) → Bool
among row rows = list_any (same_row row) rows

turned : (a b c : Bool) → (a || (b || c)) ≡ ((b || a) || c)
turned true true c = refl
turned true false c = refl
turned false true c = refl
turned false false c = refl

-- a row that was seen is no further one
seen_too : (seen : List (List Value)) (row x : List Value) (b : Bool) → among x seen ≡ true → (among row seen || (same_row row x || b)) ≡ (among row seen || b)
seen_too seen row x b t = by_test (same_row row x)
    (λ s. let e : among row seen ≡ true = ap (λ (r : List Value). among r seen) ((same_row-Decides row x).0 s) ∙ t in rw e refl)
    (λ s. rw s refl)

all_stand : (seen rows : List (List Value)) (row : List Value) → (among row seen || among row (unseen seen rows)) ≡ (among row seen || among row rows)
all_stand seen [] row = refl
all_stand seen (x ∷ xs) row = by_test (among x seen)
    (λ t. ap (λ (rs : List (List Value)). among row seen || among row rs) (seen_again seen xs x t) ∙ all_stand seen xs row ∙ sym (seen_too seen row x (among row xs) t))
    (λ t. ap (λ (rs : List (List Value)). among row seen || among row rs) (seen_first seen xs x t)
    ∙ turned (among row seen) (same_row row x) (among row (unseen (x ∷ seen) xs)) ∙ all_stand (x ∷ seen) xs row ∙ sym (turned (among row seen) (same_row row x) (among row xs)))

-- one more row, unless it came before
abbrev last : List Value → Bool → List (List Value)
last row b = if b then [] else row ∷ []

stand_in_turn : (seen rows : List (List Value)) (row : List Value) → unseen seen (rows ++ row ∷ []) ≡ unseen seen rows ++ last row (among row seen || among row rows)
stand_in_turn seen [] row = by_test (among row seen) (λ t. rw t refl) (λ t. rw t refl)
stand_in_turn seen (x ∷ xs) row = by_test (among x seen)
    (λ t. seen_again seen (xs ++ row ∷ []) x t ∙ stand_in_turn seen xs row
    ∙ ap (λ (rs : List (List Value)). rs ++ last row (among row seen || among row xs)) (sym (seen_again seen xs x t))
    ∙ ap (λ (b : Bool). unseen seen (x ∷ xs) ++ last row b) (sym (seen_too seen row x (among row xs) t)))
    (λ t. seen_first seen (xs ++ row ∷ []) x t ∙ ap (λ (rs : List (List Value)). x ∷ rs) (stand_in_turn (x ∷ seen) xs row)
    ∙ ap (λ (rs : List (List Value)). rs ++ last row ((same_row row x || among row seen) || among row xs)) (sym (seen_first seen xs x t))
    ∙ ap (λ (b : Bool). unseen seen (x ∷ xs) ++ last row b) (sym (turned (among row seen) (same_row row x) (among row xs))))

-- what is kept wasn't seen
unseen_apart : (seen rows : List (List Value)) → AllByRecursion (λ y. among y seen ≡ false) (unseen seen rows)
unseen_apart seen [] = tt
unseen_apart seen (x ∷ xs) =
    let apart : List (List Value) → Type 0 = λ rs. AllByRecursion (λ y. among y seen ≡ false) rs in
    by_test (among x seen)
    (λ t. subst apart (sym (seen_again seen xs x t)) (unseen_apart seen xs))
    (λ t. subst apart (sym (seen_first seen xs x t)) (
      t,
      all_weaker (λ y. among y (x ∷ seen) ≡ false) (λ y. among y seen ≡ false) (unseen (x ∷ seen) xs)
          (λ y h. (or_parts (same_row y x) (among y seen) h).1) (unseen_apart (x ∷ seen) xs),
    ))

unseen_distinct : (seen rows : List (List Value)) → IsDistinct same_row (unseen seen rows)
unfolding IsDistinct
unseen_distinct seen [] = tt
unseen_distinct seen (x ∷ xs) = by_test (among x seen)
    (λ t. subst (IsDistinct same_row) (sym (seen_again seen xs x t)) (unseen_distinct seen xs))
    (λ t. subst (IsDistinct same_row) (sym (seen_first seen xs x t))
    (IsDistinct-cons same_row x (unseen (x ∷ seen) xs)
    (all_weaker (λ y. among y (x ∷ seen) ≡ false) (λ y. same_row x y ≡ false) (unseen (x ∷ seen) xs)
    (λ y h. same_row-equiv.symm x y ∙ (or_parts (same_row y x) (among y seen) h).0) (unseen_apart (x ∷ seen) xs))
    (unseen_distinct (x ∷ seen) xs)))

pub stand_once : (rows : List (List Value)) → StandOnce rows
stand_once rows = record {
  distinct = unseen_distinct [] rows;
  all = λ row. all_stand [] rows row;
  in_turn = λ row. stand_in_turn [] rows row;
}
