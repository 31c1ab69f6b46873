-- Two tables' rows, gone through side by side.
use Rattle.std.proofs.Common.{◌≡◌, ℕ, ◌+◌, ◌<◌, ◌≤◌, false, not, eqb, List, [], ◌∷◌, ◌++◌, length, map, drop, get_or, refl, sym, ap, subst, ◌∙◌}
use Rattle.std.specs.Prelude.{slice_get, Some}
use Rattle.std.specs.Ordering.{ordering_index}
use Rattle.std.specs.declared.cmp.Ordering.{Ordering}
use Rattle.std.specs.declared.cmp.Ordering.TheVariants.{Less, Equal, Greater}
use Rattle.std.proofs.lemmas.List.{append_assoc, drop_all, map-append, map_push}
use Rattle.msi_base.proofs.ListLemmas.{drop_next}
use Rattle.msi_pool.specs.Pool.{Place}
use Rattle.msi_table.proofs.GivenLemmas.{drop_given}
use Rattle.msi_table_cells.specs.CellValues.{row_values}
use Rattle.msi_table_cells.specs.declared.cell.ValueRef.{ValueRef}
use Rattle.msi_table_values.specs.declared.value.Value.{Value}
use Rattle.msi_table_values.specs.Columns.{ColumnDef}
use Rattle.msi_transform_rows.specs.RowStreams.{is_of_streams}
use Rattle.msi_transform_making.specs.LeftOut.{AreCellsLeft, AreLeft, AreSameCells, AreSameRows, AreSameTexts, AreToldAlike, Values, nothing, of_new, of_old, pair}

-- CELL BY CELL

abbrev pub AreSameSoFar : List ℕ → List ValueRef → List ValueRef → ℕ → Type 0
AreSameSoFar numbers row other i = (old new : List Place) → AreSameTexts old new numbers
    → row_values old (drop i row) ≡ row_values new (drop i other) → row_values old row ≡ row_values new other

pub cell_more : (numbers : List ℕ) (row other : List ValueRef) (i : ℕ) (x y : ValueRef) → i < length row → i < length other → x ≡ get_or row i x → y ≡ get_or other i y
    → AreSameCells numbers x y → AreSameSoFar numbers row other i → AreSameSoFar numbers row other (i + 1)
cell_more numbers row other i x y h l at is same so_far = λ old new texts rest. so_far old new texts
    (ap (row_values old) (drop_next row i x h at) ∙ (λ t. same old new texts t ∷ rest t) ∙ ap (row_values new) (sym (drop_next other i y l is)))

pub cells_end : (numbers : List ℕ) (row other : List ValueRef) (i : ℕ) → length row ≤ i → length other ≤ i → AreSameSoFar numbers row other i → AreSameRows numbers row other
cells_end numbers row other i past over so_far = λ old new texts. so_far old new texts
    (ap (row_values old) (drop_all i row past) ∙ ap (row_values new) (sym (drop_all i other over)))

pub not_unequal : (o : Ordering) → not (eqb (ordering_index o) 1) ≡ false → o ≡ Equal
not_unequal Less e = cc
not_unequal Equal e = refl
not_unequal Greater e = cc

pub same_there : (numbers : List ℕ) (a b row other : List ValueRef) → a ≡ row → b ≡ other → AreSameRows numbers a b → AreSameRows numbers row other
same_there numbers a b row other p q same = λ old new texts. ap (row_values old) (sym p) ∙ same old new texts ∙ ap (row_values new) q

-- COLUMN BY COLUMN

abbrev pub AreAlikeSoFar : List ColumnDef → List ColumnDef → ℕ → Type 0
AreAlikeSoFar columns others i = AreToldAlike (drop i columns) (drop i others) → AreToldAlike columns others

pub column_more : (columns others : List ColumnDef) (i : ℕ) (c d : ColumnDef) → i < length columns → i < length others → c ≡ get_or columns i c → d ≡ get_or others i d
    → c.is_primary_key ≡ d.is_primary_key → is_of_streams c.coltype ≡ false → is_of_streams d.coltype ≡ false
    → AreAlikeSoFar columns others i → AreAlikeSoFar columns others (i + 1)
column_more columns others i c d h l at is key plain others_plain so_far = λ rest. so_far
    (subst (λ (cs : List ColumnDef). AreToldAlike cs (drop i others)) (sym (drop_next columns i c h at))
    (subst (λ (ds : List ColumnDef). AreToldAlike (c ∷ drop (i + 1) columns) ds) (sym (drop_next others i d l is)) (key, plain, others_plain, rest)))

pub columns_end : (columns others : List ColumnDef) (i : ℕ) → length columns ≤ i → length others ≤ i → AreAlikeSoFar columns others i → AreToldAlike columns others
columns_end columns others i past over so_far = so_far
    (subst (λ (cs : List ColumnDef). AreToldAlike cs (drop i others)) (sym (drop_all i columns past))
    (subst (λ (ds : List ColumnDef). AreToldAlike [] ds) (sym (drop_all i others over)) tt))

-- ROW BY ROW

pub all_stay : (old new : Values) → AreLeft old new old new
all_stay [] [] = nothing
all_stay [] (row ∷ new) = of_new row (all_stay [] new)
all_stay (row ∷ old) new = of_old row (all_stay old new)

pub cells_stay : (numbers : List ℕ) (rows news left others : List (List ValueRef)) → left ≡ rows → others ≡ news → AreCellsLeft numbers rows news left others
cells_stay numbers rows news left others e f = λ old new texts.
    subst (λ (ls : List (List ValueRef)). AreLeft (map (row_values old) rows) (map (row_values new) news) (map (row_values old) ls) (map (row_values new) others)) (sym e)
    (subst (λ (os : List (List ValueRef)). AreLeft (map (row_values old) rows) (map (row_values new) news) (map (row_values old) rows) (map (row_values new) os)) (sym f)
    (all_stay (map (row_values old) rows) (map (row_values new) news)))

-- whatever is left of the rows from these on is left after what was before
abbrev pub AreLeftSoFar : List ℕ → List (List ValueRef) → List (List ValueRef) → ℕ → ℕ → List (List ValueRef) → List (List ValueRef) → Type 0
AreLeftSoFar numbers rows news i j left others = (old new : List Place) → AreSameTexts old new numbers → (ls os : Values)
    → AreLeft (map (row_values old) (drop i rows)) (map (row_values new) (drop j news)) ls os
    → AreLeft (map (row_values old) rows) (map (row_values new) news) (map (row_values old) left ++ ls) (map (row_values new) others ++ os)

pub none_left_yet : (numbers : List ℕ) (rows news : List (List ValueRef)) → AreLeftSoFar numbers rows news 0 0 [] []
none_left_yet numbers rows news = λ old new texts ls os is. is

one_more : (places : List Place) (before after : List (List ValueRef)) (row : List ValueRef) (rest : Values) → after ≡ before ++ row ∷ []
    → map (row_values places) before ++ row_values places row ∷ rest ≡ map (row_values places) after ++ rest
one_more places before after row rest p =
    sym (append_assoc (map (row_values places) before) (row_values places row ∷ []) rest)
    ∙ ap (λ (vs : Values). vs ++ rest) (sym (map_push (row_values places) before row))
    ∙ ap (λ (cells : List (List ValueRef)). map (row_values places) cells ++ rest) (sym p)

module _ (numbers : List ℕ) (rows news : List (List ValueRef)) (i j : ℕ) (left others : List (List ValueRef)) (so_far : AreLeftSoFar numbers rows news i j left others) where
  pub pair_more : (row other : List ValueRef) → slice_get rows i ≡ Some row → slice_get news j ≡ Some other → AreSameRows numbers row other
      → AreLeftSoFar numbers rows news (i + 1) (j + 1) left others
  pair_more row other at is same = λ old new texts ls os rest. so_far old new texts ls os
      (subst (λ (vs : Values). AreLeft vs (map (row_values new) (drop j news)) ls os) (sym (ap (map (row_values old)) (drop_given rows i row at)))
      (subst (λ (vs : Values). AreLeft (row_values old row ∷ map (row_values old) (drop (i + 1) rows)) vs ls os) (sym (ap (map (row_values new)) (drop_given news j other is)))
      (subst (λ (v : List Value). AreLeft (row_values old row ∷ map (row_values old) (drop (i + 1) rows)) (v ∷ map (row_values new) (drop (j + 1) news)) ls os) (same old new texts)
      (pair (row_values old row) rest))))

  pub old_more : (row : List ValueRef) (after : List (List ValueRef)) → slice_get rows i ≡ Some row → after ≡ left ++ row ∷ []
      → AreLeftSoFar numbers rows news (i + 1) j after others
  old_more row after at p = λ old new texts ls os rest.
      subst (λ (vs : Values). AreLeft (map (row_values old) rows) (map (row_values new) news) vs (map (row_values new) others ++ os)) (one_more old left after row ls p)
      (so_far old new texts (row_values old row ∷ ls) os
      (subst (λ (vs : Values). AreLeft vs (map (row_values new) (drop j news)) (row_values old row ∷ ls) os) (sym (ap (map (row_values old)) (drop_given rows i row at)))
      (of_old (row_values old row) rest)))

  pub new_more : (other : List ValueRef) (after : List (List ValueRef)) → slice_get news j ≡ Some other → after ≡ others ++ other ∷ []
      → AreLeftSoFar numbers rows news i (j + 1) left after
  new_more other after at p = λ old new texts ls os rest.
      subst (λ (vs : Values). AreLeft (map (row_values old) rows) (map (row_values new) news) (map (row_values old) left ++ ls) vs) (one_more new others after other os p)
      (so_far old new texts ls (row_values new other ∷ os)
      (subst (λ (vs : Values). AreLeft (map (row_values old) (drop i rows)) vs ls (row_values new other ∷ os)) (sym (ap (map (row_values new)) (drop_given news j other at)))
      (of_new (row_values new other) rest)))

  pub others_stay : (ls os : List (List ValueRef)) → ls ≡ left ++ drop i rows → os ≡ others ++ drop j news → AreCellsLeft numbers rows news ls os
  others_stay ls os p q = λ old new texts.
      subst (λ (vs : Values). AreLeft (map (row_values old) rows) (map (row_values new) news) vs (map (row_values new) os))
      (sym (ap (map (row_values old)) p ∙ map-append (row_values old) left (drop i rows)))
      (subst (λ (vs : Values). AreLeft (map (row_values old) rows) (map (row_values new) news) (map (row_values old) left ++ map (row_values old) (drop i rows)) vs)
      (sym (ap (map (row_values new)) q ∙ map-append (row_values new) others (drop j news)))
      (so_far old new texts (map (row_values old) (drop i rows)) (map (row_values new) (drop j news)) (all_stay (map (row_values old) (drop i rows)) (map (row_values new) (drop j news)))))

pub cells_there : (numbers : List ℕ) (a b rows news left others : List (List ValueRef)) → a ≡ rows → b ≡ news → AreCellsLeft numbers a b left others → AreCellsLeft numbers rows news left others
cells_there numbers a b rows news left others p q are =
    subst (λ (xs : List (List ValueRef)). AreCellsLeft numbers xs news left others) p (subst (λ (xs : List (List ValueRef)). AreCellsLeft numbers a xs left others) q are)
