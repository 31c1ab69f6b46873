-- The first sequence of bytes.
use Rattle.std.proofs.Common.{◌≡◌, ℕ, ◌<◌, ◌≤◌, true, cond, List, [], ◌∷◌, ◌++◌, length, get_or, take, drop, Option, Some, None, is_some, refl, sym, ap, arith}
use Rattle.std.specs.Prelude.{option_and_then}
use Rattle.msi_base.proofs.OptionLemmas.{guard_passed}
use Rattle.msi_code_pages.specs.declared.page.Page.{Page}
use Rattle.msi_code_pages.specs.Sequences.{row_of, is_lead, character_alone, character_in_row, character_of}
use Rattle.msi_code_pages.specs.Reading.{sequences}

-- a byte that begins no pair stands alone
pub alone_first : (page : Page) (bytes : List ℕ) → 0 < length bytes → row_of page (get_or bytes 0 0) ≡ None
    → sequences (is_lead page) bytes ≡ take 1 bytes ∷ sequences (is_lead page) (drop 1 bytes)
alone_first page [] some alone = absurd (omega arith)
alone_first page (b ∷ []) some alone = refl
alone_first page (b ∷ t ∷ bs) some alone =
    ap (λ o. cond (is_some o) ((b ∷ t ∷ []) ∷ sequences (is_lead page) bs) ((b ∷ []) ∷ sequences (is_lead page) (t ∷ bs))) alone

pub alone_stands : (page : Page) (bytes : List ℕ) → 0 < length bytes → row_of page (get_or bytes 0 0) ≡ None
    → character_alone page (get_or bytes 0 0) ≡ character_of page (take 1 bytes)
alone_stands page [] some alone = absurd (omega arith)
alone_stands page (b ∷ bs) some alone = sym (ap (λ o. cond (is_some o) None (character_alone page b)) alone)

-- a byte that begins pairs stands with the byte after it
pub two_first : (page : Page) (bytes : List ℕ) (row : ℕ) → 2 ≤ length bytes → row_of page (get_or bytes 0 0) ≡ Some row
    → sequences (is_lead page) bytes ≡ take 2 bytes ∷ sequences (is_lead page) (drop 2 bytes)
two_first page [] row some begins = absurd (omega arith)
two_first page (b ∷ []) row some begins = absurd (omega arith)
two_first page (b ∷ t ∷ bs) row some begins =
    ap (λ o. cond (is_some o) ((b ∷ t ∷ []) ∷ sequences (is_lead page) bs) ((b ∷ []) ∷ sequences (is_lead page) (t ∷ bs))) begins

pub two_stand : (page : Page) (bytes : List ℕ) (row : ℕ) → 2 ≤ length bytes → row_of page (get_or bytes 0 0) ≡ Some row
    → character_in_row page (get_or bytes 1 0) row ≡ character_of page (take 2 bytes)
two_stand page [] row some begins = absurd (omega arith)
two_stand page (b ∷ []) row some begins = absurd (omega arith)
two_stand page (b ∷ t ∷ bs) row some begins = sym (ap (option_and_then (character_in_row page t)) begins)

-- at the end it stands for nothing
pub end_first : (page : Page) (bytes : List ℕ) → 0 < length bytes → length bytes < 2
    → sequences (is_lead page) bytes ≡ take 1 bytes ∷ sequences (is_lead page) (drop 1 bytes)
end_first page [] some few = absurd (omega arith)
end_first page (b ∷ []) some few = refl
end_first page (b ∷ t ∷ bs) some few = absurd (omega arith)

pub end_stands : (page : Page) (bytes : List ℕ) (row : ℕ) → 0 < length bytes → row_of page (get_or bytes 0 0) ≡ Some row
    → None ≡ character_of page (take 1 bytes)
end_stands page [] row some begins = absurd (omega arith)
end_stands page (b ∷ bs) row some begins = sym (ap (λ o. cond (is_some o) None (character_alone page b)) begins)

-- what a number gave has a number
has_row : (f : ℕ → Option ℕ) (o : Option ℕ) (c : ℕ) → option_and_then f o ≡ Some c → is_some o ≡ true
has_row f None c h = absurd cc
has_row f (Some row) c h = refl

-- a sequence that stands for a character is the first of the bytes that it begins
pub sequence_first : (page : Page) (s bs : List ℕ) (c : ℕ) → character_of page s ≡ Some c
    → sequences (is_lead page) (s ++ bs) ≡ s ∷ sequences (is_lead page) bs
sequence_first page [] bs c h = absurd cc
sequence_first page (b ∷ []) [] c h = refl
sequence_first page (b ∷ []) (t ∷ bs) c h =
    ap (λ x. cond x ((b ∷ t ∷ []) ∷ sequences (is_lead page) bs) ((b ∷ []) ∷ sequences (is_lead page) (t ∷ bs)))
    (guard_passed (is_lead page b) (character_alone page b) c h).0
sequence_first page (b ∷ t ∷ []) bs c h =
    ap (λ x. cond x ((b ∷ t ∷ []) ∷ sequences (is_lead page) bs) ((b ∷ []) ∷ sequences (is_lead page) (t ∷ bs)))
    (has_row (character_in_row page t) (row_of page b) c h)
sequence_first page (b ∷ t ∷ u ∷ s) bs c h = absurd cc
