-- On the values that a column takes.
use Rattle.std.proofs.Common.{◌≡◌, ◌≢◌, ℕ, List, [], ◌∷◌, length, Bool, false, ◌||◌, Some, None, arith, ap, ◌∙◌, cond, eqb, leb, bytes_eq}
use Rattle.std.specs.List.{list_any}
use Rattle.std.proofs.lemmas.Bool.Decides.{nat_tests}
use Rattle.msi_table_values.specs.Columns.{some_texts}
use Rattle.msi_table_values.specs.ValidValues.{is_of_values}

-- a limit, where it isn't 0
pub limit_answer : (count characters limit : ℕ) → count ≡ characters → limit ≢ 0 → leb count limit ≡ (eqb limit 0 || leb characters limit)
limit_answer count characters limit e some = grind (arith, nat_tests)

pub listed_answer : (texts listed : List (List ℕ)) (text : List ℕ) (found : Bool) → Some listed ≡ some_texts texts → found ≡ list_any (bytes_eq text) listed → found ≡ is_of_values texts text
listed_answer [] listed text found e f = cc
listed_answer (v ∷ vs) listed text found e f =
    let some : eqb (length (v ∷ vs)) 0 ≡ false = grind (arith, nat_tests) in
    let same : Some listed ≡ Some (v ∷ vs) = e ∙ ap (λ b. cond b None (Some (v ∷ vs))) some in
    let all : listed ≡ v ∷ vs = cc in
    f ∙ ap (list_any (bytes_eq text)) all
