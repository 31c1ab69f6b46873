-- What rows make, with one more row.
use Rattle.std.proofs.Common.{◌≡◌, ℕ, ◌+◌, ◌<◌, List, [], ◌∷◌, ◌++◌, length, take, get_or, Option, Some, None, refl, sym, ap, ◌∙◌, arith}
use Rattle.std.specs.Option.{option_to_list}
use Rattle.std.proofs.lemmas.List.{append-nil, append_assoc, take_more, length-take}
use Rattle.msi_table_values.specs.declared.value.Value.{Value}
use Rattle.msi_table.specs.declared.comparing.Difference.{Difference}
use Rattle.msi_table.specs.Differences.{each_from}

each_pushed : (makes : ℕ → List Value → Option Difference) (n : ℕ) (rows : List (List Value)) (row : List Value)
    → each_from makes n (rows ++ row ∷ []) ≡ each_from makes n rows ++ option_to_list (makes (n + length rows) row)
each_pushed makes n [] row =
    let e : n + 0 ≡ n = omega arith in
    append-nil (option_to_list (makes n row)) ∙ ap (λ (m : ℕ). option_to_list (makes m row)) (sym e)
each_pushed makes n (r ∷ rs) row =
    let e : (n + 1) + length rs ≡ n + length (r ∷ rs) = omega arith in
    ap (λ (ds : List Difference). option_to_list (makes n r) ++ ds) (each_pushed makes (n + 1) rs row)
    ∙ sym (append_assoc (option_to_list (makes n r)) (each_from makes (n + 1) rs) (option_to_list (makes ((n + 1) + length rs) row)))
    ∙ ap (λ (m : ℕ). (option_to_list (makes n r) ++ each_from makes (n + 1) rs) ++ option_to_list (makes m row)) e

-- up to a row, and with it
pub each_more : (makes : ℕ → List Value → Option Difference) (rows : List (List Value)) (i : ℕ) (row : List Value) → i < length rows → get_or rows i row ≡ row
    → each_from makes 0 (take (i + 1) rows) ≡ each_from makes 0 (take i rows) ++ option_to_list (makes i row)
each_more makes rows i row inside at =
    let split : take (i + 1) rows ≡ take i rows ++ row ∷ [] = take_more rows i row inside ∙ ap (λ (r : List Value). take i rows ++ r ∷ []) at in
    let many : 0 + length (take i rows) ≡ i = omega (arith, length-take {A = List Value}) in
    ap (each_from makes 0) split
    ∙ each_pushed makes 0 (take i rows) row
    ∙ ap (λ (m : ℕ). each_from makes 0 (take i rows) ++ option_to_list (makes m row)) many
