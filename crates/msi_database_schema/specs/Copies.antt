-- Texts of a pool's places, copied once for all the columns that they describe.
use Rattle.std.specs.Prelude.{◌≡◌, ◌==◌, ℕ, List}
use Rattle.std.specs.List.{slice_split}
use Rattle.msi_pool.specs.Pool.{Place}
use Rattle.msi_pool.specs.FirstFitLaws.{text_at}

-- the texts between each two semicolons
abbrev pub parted : List ℕ → List (List ℕ)
parted text = slice_split (λ c. c == 59) text

-- the number of a place with its text, and with the texts between its semicolons
abbrev pub text_copy : List Place → ℕ → ℕ × List ℕ
text_copy places number = (number, text_at places number)

abbrev pub list_copy : List Place → ℕ → ℕ × List (List ℕ)
list_copy places number = (number, parted (text_at places number))

-- what stands beside a number is of its place
abbrev pub IsTextCopy : List Place → ℕ × List ℕ → Type 0
IsTextCopy places copy = copy.1 ≡ text_at places copy.0

abbrev pub IsListCopy : List Place → ℕ × List (List ℕ) → Type 0
IsListCopy places copy = copy.1 ≡ parted (text_at places copy.0)
