-- What callers need of writing texts.
use Rattle.std.proofs.Common.{◌≡◌, ℕ, Bool, true, false, List, [], ◌∷◌, ◌++◌, map, Some, None, is_some, option_map, sym, ap, ◌∙◌, append_assoc, append-nil}
use Rattle.std.specs.List.{list_all}
use Rattle.msi_base.proofs.BoolLemmas.{by_test, yes_is_no}
use Rattle.msi_code_pages.specs.declared.page.Page.{Page}
use Rattle.msi_code_pages.specs.Spelling.{sequence_of, number_of, number_written, joined, bytes_of_all, bytes_written}
use Rattle.msi_code_pages.proofs.PresentLemmas.{all_there, one_missing}

pub bytes_are : (page : Page) (cs : List ℕ) → list_all (λ c. is_some (number_of page c)) cs ≡ true
    → bytes_of_all page cs ≡ Some (bytes_written page cs)
unfolding bytes_of_all
bytes_are page cs h = ap (option_map (λ ns. joined (map sequence_of ns))) (all_there (number_of page) 63 cs h)

pub bytes_refused : (page : Page) (cs : List ℕ) → list_all (λ c. is_some (number_of page c)) cs ≡ false
    → bytes_of_all page cs ≡ None
unfolding bytes_of_all
bytes_refused page cs h = ap (option_map (λ ns. joined (map sequence_of ns))) (one_missing (number_of page) cs h)

-- whether each character has a number tells whether the text has bytes, and which
pub carried : (page : Page) (cs : List ℕ) (b : Bool) → b ≡ list_all (λ c. is_some (number_of page c)) cs
    → b ≡ is_some (bytes_of_all page cs)
carried page cs b is = is ∙ by_test (list_all (λ c. is_some (number_of page c)) cs)
    (λ all. all ∙ sym (ap is_some (bytes_are page cs all)))
    (λ missing. missing ∙ sym (ap is_some (bytes_refused page cs missing)))

pub bytes_there : (page : Page) (cs : List ℕ) → is_some (bytes_of_all page cs) ≡ true
    → bytes_of_all page cs ≡ Some (bytes_written page cs)
bytes_there page cs there = by_test (list_all (λ c. is_some (number_of page c)) cs)
    (λ all. bytes_are page cs all)
    (λ missing. yes_is_no (is_some (bytes_of_all page cs)) there (ap is_some (bytes_refused page cs missing)))

-- one character more is written
pub written_more : (page : Page) (cs : List ℕ) (c : ℕ) → bytes_written page (cs ++ c ∷ []) ≡ bytes_written page cs ++ sequence_of (number_written page c)
written_more page [] c = append-nil (sequence_of (number_written page c))
written_more page (d ∷ cs) c =
    let front = sequence_of (number_written page d) in
    ap (λ bs. front ++ bs) (written_more page cs c)
    ∙ sym (append_assoc front (bytes_written page cs) (sequence_of (number_written page c)))
