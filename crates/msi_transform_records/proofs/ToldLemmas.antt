-- The columns that a record tells and their cells, as a loop over all columns meets them.
use Rattle.std.proofs.Common.{◌≡◌, ℕ, ◌+◌, ◌<◌, true, false, List, [], ◌∷◌, ◌++◌, length, drop, get_or, refl, sym, ap, ◌∙◌, arith, append_assoc, add-one, drop-cons}
use Rattle.std.specs.Prelude.{zip}
use Rattle.msi_table_cells.specs.declared.cell.ValueRef.{ValueRef}
use Rattle.msi_transform_records.specs.declared.action.Action.{Action}
use Rattle.msi_transform_records.specs.declared.shape.Shape.{Shape}
use Rattle.msi_transform_records.specs.Actions.{tells, told_from}
use Rattle.msi_transform_records.specs.RecordCells.{changes_of, key_of}

-- those from the column of an index on
abbrev pub told_after : ℕ → List Shape → Action → List (ℕ × Shape)
told_after i shapes action = told_from i (drop i shapes) action

-- the same beside the cells that are left
abbrev pub cells_after : ℕ → List Shape → Action → List ValueRef → List ((ℕ × Shape) × ValueRef)
cells_after i shapes action rest = zip (told_after i shapes action) rest

no_cells : (columns : List (ℕ × Shape)) (others : List (ℕ × Shape)) (rest : List ValueRef) → length rest ≡ 0 → zip columns rest ≡ zip others rest
no_cells [] [] rest e = refl
no_cells [] (o ∷ os) [] e = refl
no_cells (c ∷ cs) [] [] e = refl
no_cells (c ∷ cs) (o ∷ os) [] e = refl
no_cells [] (o ∷ os) (r ∷ rs) e = absurd (omega arith)
no_cells (c ∷ cs) [] (r ∷ rs) e = absurd (omega arith)
no_cells (c ∷ cs) (o ∷ os) (r ∷ rs) e = absurd (omega arith)

-- where no cell is left, the columns don't matter
pub none_left : {X : Type 0} (shapes : List Shape) (action : Action) (i : ℕ) (f : List ((ℕ × Shape) × ValueRef) → List X) (done all : List X) (rest : List ValueRef)
    → done ++ f (cells_after i shapes action rest) ≡ all → length rest ≡ 0 → done ++ f (cells_after (i + 1) shapes action rest) ≡ all
none_left shapes action i f done all rest so_far e =
    ap (λ (l : List ((ℕ × Shape) × ValueRef)). done ++ f l) (no_cells (told_after (i + 1) shapes action) (told_after i shapes action) rest e) ∙ so_far

module _ (shapes : List Shape) (action : Action) (i : ℕ) (d : Shape) (within : i < length shapes) where
  opened : drop i shapes ≡ get_or shapes i d ∷ drop (i + 1) shapes
  opened = rw (add-one, drop-cons shapes i d within) refl

  told_yes : tells action i (get_or shapes i d) ≡ true → told_after i shapes action ≡ (i, get_or shapes i d) ∷ told_after (i + 1) shapes action
  told_yes t = ap (λ (l : List Shape). told_from i l action) opened ∙ rw t refl

  told_no : tells action i (get_or shapes i d) ≡ false → told_after i shapes action ≡ told_after (i + 1) shapes action
  told_no t = ap (λ (l : List Shape). told_from i l action) opened ∙ rw t refl

  -- what is taken of the told cells, and what of those that are left
  module _ {X : Type 0} (f : List ((ℕ × Shape) × ValueRef) → List X) (done all : List X) (rest : List ValueRef) (so_far : done ++ f (cells_after i shapes action rest) ≡ all) where
    pub untold : tells action i (get_or shapes i d) ≡ false → done ++ f (cells_after (i + 1) shapes action rest) ≡ all
    untold t = ap (λ (columns : List (ℕ × Shape)). done ++ f (zip columns rest)) (sym (told_no t)) ∙ so_far

    front : (c : ValueRef) (others : List ValueRef) → rest ≡ c ∷ others → tells action i (get_or shapes i d) ≡ true
        → done ++ f (((i, get_or shapes i d), c) ∷ cells_after (i + 1) shapes action others) ≡ all
    front c others e t = ap (λ (columns : List (ℕ × Shape)). done ++ f (zip columns (c ∷ others))) (sym (told_yes t))
        ∙ ap (λ (l : List ValueRef). done ++ f (cells_after i shapes action l)) (sym e) ∙ so_far

    pub taken : (c : ValueRef) (others : List ValueRef) (x : X) → rest ≡ c ∷ others → tells action i (get_or shapes i d) ≡ true
        → ((l : List ((ℕ × Shape) × ValueRef)) → f (((i, get_or shapes i d), c) ∷ l) ≡ x ∷ f l) → (done ++ x ∷ []) ++ f (cells_after (i + 1) shapes action others) ≡ all
    taken c others x e t takes = append_assoc done (x ∷ []) (f (cells_after (i + 1) shapes action others))
        ∙ ap (λ (l : List X). done ++ l) (sym (takes (cells_after (i + 1) shapes action others))) ∙ front c others e t

    pub taken_all : (c : ValueRef) (others : List ValueRef) (xs : List X) → rest ≡ c ∷ others → tells action i (get_or shapes i d) ≡ true
        → ((l : List ((ℕ × Shape) × ValueRef)) → f (((i, get_or shapes i d), c) ∷ l) ≡ xs ++ f l) → (done ++ xs) ++ f (cells_after (i + 1) shapes action others) ≡ all
    taken_all c others xs e t takes = append_assoc done xs (f (cells_after (i + 1) shapes action others))
        ∙ ap (λ (l : List X). done ++ l) (sym (takes (cells_after (i + 1) shapes action others))) ∙ front c others e t

    pub passed_over : (c : ValueRef) (others : List ValueRef) → rest ≡ c ∷ others → tells action i (get_or shapes i d) ≡ true
        → ((l : List ((ℕ × Shape) × ValueRef)) → f (((i, get_or shapes i d), c) ∷ l) ≡ f l) → done ++ f (cells_after (i + 1) shapes action others) ≡ all
    passed_over c others e t passes = ap (λ (l : List X). done ++ l) (sym (passes (cells_after (i + 1) shapes action others))) ∙ front c others e t

-- what keys and changes take
module _ (i : ℕ) (s : Shape) (c : ValueRef) (l : List ((ℕ × Shape) × ValueRef)) where
  pub key_takes : s.is_key ≡ true → key_of (((i, s), c) ∷ l) ≡ c ∷ key_of l
  key_takes t = rw t refl

  pub key_passes : s.is_key ≡ false → key_of (((i, s), c) ∷ l) ≡ key_of l
  key_passes t = rw t refl

  pub changes_take : s.is_key ≡ false → changes_of (((i, s), c) ∷ l) ≡ (i, c) ∷ changes_of l
  changes_take t = rw t refl

  pub changes_pass : s.is_key ≡ true → changes_of (((i, s), c) ∷ l) ≡ changes_of l
  changes_pass t = rw t refl
