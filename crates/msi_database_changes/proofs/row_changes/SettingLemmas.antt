-- New values in a row, one more at a time.
use Rattle.std.proofs.Common.{◌≡◌, ℕ, ◌+◌, ◌<◌, List, [], ◌∷◌, ◌++◌, length, map, take, set, get_or, fold, refl, sym, ap, ◌∙◌}
use Rattle.std.proofs.lemmas.List.{get_or-map, take_more}
use Rattle.msi_table_values.specs.declared.value.Value.{Value}
use Rattle.msi_table_values.specs.Columns.{ColumnDef}
use Rattle.msi_database_changes.specs.Setting.{index_of, values_set}

fold_pushed : {A B : Type 0} (f : B → A → B) (b : B) (xs : List A) (x : A) → fold f b (xs ++ x ∷ []) ≡ f (fold f b xs) x
fold_pushed f b [] x = refl
fold_pushed f b (y ∷ xs) x = fold_pushed f (f b y) xs x

-- a column's place, of those that were looked up
pub place_at : (columns : List ColumnDef) (sets : List (List ℕ × Value)) (places : List ℕ) (i : ℕ) (s : List ℕ × Value) → places ≡ map (index_of columns) sets → i < length sets → s ≡ get_or sets i s
    → get_or places i 0 ≡ index_of columns s
place_at columns sets places i s are h at = ap (λ (ps : List ℕ). get_or ps i 0) are ∙ get_or-map (index_of columns) sets i s 0 h ∙ ap (index_of columns) (sym at)

-- one more value is set
pub values_set_more : (columns : List ColumnDef) (sets : List (List ℕ × Value)) (row : List Value) (i : ℕ) (s : List ℕ × Value) → i < length sets → s ≡ get_or sets i s
    → values_set columns (take (i + 1) sets) row ≡ set (values_set columns (take i sets) row) (index_of columns s) s.1
values_set_more columns sets row i s h at =
    ap (λ (ss : List (List ℕ × Value)). values_set columns ss row) (take_more sets i s h ∙ ap (λ (x : List ℕ × Value). take i sets ++ x ∷ []) (sym at))
    ∙ fold_pushed (λ (row : List Value) (s : List ℕ × Value). set row (index_of columns s) s.1) row (take i sets) s
