-- Names of files that stay in the folder where they are made, whatever a stream's name is, and which name each gets.
use Rattle.std.specs.Prelude.{◌≡◌, ◌≢◌, ◌<◌, ◌-◌, ◌/◌, ◌%◌, ℕ, Bool, true, not, ◌&&◌, ◌||◌, ◌==◌, nat_lt}
use Rattle.std.specs.Prelude.{List, [], ◌∷◌, ◌++◌, Some, length, map, slice_get, codes, if◌then◌else◌, ⊤}
use Rattle.std.specs.List.{AllByRecursion, IsDistinct, before_first, enumerate_from, flat_map, list_all, list_any}
use Rattle.std.specs.Char.{digit_char, is_ascii_alphabetic, is_ascii_alphanumeric}
use Rattle.std.specs.Int.Digits.{digits_of}
use Rattle.std.specs.Str.{IsUtf8, bytes_eq, chars, str_eq_ignore_ascii_case, str_to_ascii_lowercase, trim}
use Rattle.msipkg_safe_names.specs.declared.safe_names.Ending.{Ending}
use Rattle.msipkg_safe_names.specs.declared.safe_names.Ending.TheVariants.{Csv, Idt}

-- the signs that stand for themselves: . _ - # + ( ) { } @ , and the blank
abbrev pub is_sign : ℕ → Bool
is_sign c = c == 46 || c == 95 || c == 45 || c == 35 || c == 43 || c == 40 || c == 41 || c == 123 || c == 125
    || c == 64 || c == 44 || c == 32

abbrev pub is_plain : ℕ → Bool
is_plain c = is_ascii_alphanumeric c || is_sign c

-- what stands in a safe name; an escape begins with %
abbrev pub is_safe : ℕ → Bool
is_safe c = is_plain c || c == 37

-- Nothing that parts a path (/ or \) or ends a text (the byte 0) stands in the name, nor a colon, and it begins with no
-- dot, so that it is neither the folder nor the one above.
pub record StaysInside (name : List ℕ) : Type 0 where
  pub bytes : list_all is_safe name ≡ true
  pub begins : slice_get name 0 ≢ Some 46

-- the same of a name that isn't empty
pub record IsSafeName (name : List ℕ) : Type 0 where
  pub stays : StaysInside name
  pub some : 0 < length name

-- ---- the name that a stream's name gets

-- a number's digits to the base 16, with small letters and no zeros in front
unfoldable pub hexadecimal : ℕ → List ℕ
hexadecimal n = map digit_char (digits_of 16 n)

-- the escape of a character: % and two digits, or %{..} with its number
unfoldable pub escape : ℕ → List ℕ
escape c = if nat_lt c 128 then codes "%" ++ digit_char (c / 16) ∷ digit_char (c % 16) ∷ []
    else codes "%{" ++ hexadecimal c ++ codes "}"

-- a plain character stands for itself where it may; anything else is escaped
abbrev pub spelled : Bool → ℕ → List ℕ
spelled may_stand c = if is_plain c && may_stand then c ∷ [] else escape c

-- a dot and the blank
abbrev pub is_blank : ℕ → Bool
is_blank c = c == 46 || c == 32

-- the names of devices in Windows
abbrev pub devices : List (List ℕ)
devices = codes "CON" ∷ codes "PRN" ∷ codes "AUX" ∷ codes "NUL" ∷ codes "COM1" ∷ codes "COM2" ∷ codes "COM3"
    ∷ codes "COM4" ∷ codes "COM5" ∷ codes "COM6" ∷ codes "COM7" ∷ codes "COM8" ∷ codes "COM9" ∷ codes "LPT1"
    ∷ codes "LPT2" ∷ codes "LPT3" ∷ codes "LPT4" ∷ codes "LPT5" ∷ codes "LPT6" ∷ codes "LPT7" ∷ codes "LPT8"
    ∷ codes "LPT9" ∷ []

-- the name up to its first dot, without white space around it, is a device's, with letters of either case
unfoldable pub is_name_of_device : List ℕ → Bool
is_name_of_device name =
    list_any (λ device. str_eq_ignore_ascii_case device (trim (before_first (λ c. c == 46) name))) devices

-- a character may stand for itself, but not a dot or a blank at the ends, nor the first character of a device's name
abbrev pub stands : ℕ → (is_first is_last is_device : Bool) → Bool
stands c is_first is_last is_device = not (is_blank c && (is_first || is_last)) && not (is_device && is_first)

-- the spelling of the character c at a place of the name
unfoldable pub safe_spelling_at : List ℕ → ℕ → ℕ → List ℕ
safe_spelling_at name place c =
    spelled (stands c (place == 0) (place == length (chars name) - 1) (is_name_of_device name)) c

-- the empty name becomes %
abbrev pub never_empty : List ℕ → List ℕ
never_empty [] = codes "%"
never_empty (c ∷ cs) = c ∷ cs

-- the safe spelling of a name: of one character after the other, each at its place
unfoldable pub safe_spelling : List ℕ → List ℕ
safe_spelling name = never_empty (flat_map (λ p. safe_spelling_at name p.0 p.1) (enumerate_from 0 (chars name)))

-- neither a letter, nor a dot or a blank
abbrev pub stands_anywhere : ℕ → Bool
stands_anywhere c = not (is_ascii_alphabetic c) && not (is_blank c)

-- the full spelling, in which letters are escaped, too
unfoldable pub full_spelling : List ℕ → List ℕ
full_spelling name = never_empty (flat_map (λ c. spelled (stands_anywhere c) c) (chars name))

-- what a file's name ends with
abbrev pub ending_of : Ending → List ℕ
ending_of Csv = codes ".csv"
ending_of Idt = codes ".idt"

-- ---- names that are given out

-- the names given out, which are kept with small letters, have this one, in whatever case
abbrev pub is_taken : List (List ℕ) → List ℕ → Bool
is_taken taken name = list_any (bytes_eq (str_to_ascii_lowercase name)) taken

-- the name for a stream: its safe spelling, or the full one if that is taken
abbrev pub given_name : List (List ℕ) → List ℕ → List ℕ
given_name taken name = if is_taken taken (safe_spelling name) then full_spelling name else safe_spelling name

-- afterwards that name is taken besides, in whatever case, and no other
abbrev pub Takes : List (List ℕ) → List (List ℕ) → List ℕ → Type 0
Takes old new name = (other : List ℕ) → is_taken new other ≡ (is_taken old other || str_eq_ignore_ascii_case name other)

-- where these names are taken, streams of these names get these files one after the other, each taken from then on
abbrev pub GivenInTurn : List (List ℕ) → (names files : List (List ℕ)) → Type 0
GivenInTurn taken [] [] = ⊤
GivenInTurn taken [] (file ∷ files) = ⊥
GivenInTurn taken (name ∷ names) [] = ⊥
GivenInTurn taken (name ∷ names) (file ∷ files) =
    (after : List (List ℕ)) × (file ≡ given_name taken name) × Takes taken after file × GivenInTurn after names files

-- ---- laws

-- Spellings can be read back: no two names have the same, be they safe or full ones.
pub record SpellingsDiffer : Type 0 where
  pub safe : (one other : List ℕ) → IsUtf8 one → IsUtf8 other → safe_spelling one ≡ safe_spelling other → one ≡ other
  pub full : (one other : List ℕ) → IsUtf8 one → IsUtf8 other → full_spelling one ≡ full_spelling other → one ≡ other
  pub mixed : (one other : List ℕ) → IsUtf8 one → IsUtf8 other → safe_spelling one ≡ full_spelling other → one ≡ other

-- Streams of different names are given different files, also where case is ignored, and whatever was taken before.
abbrev pub FilesDiffer : Type 0
FilesDiffer = (taken names files : List (List ℕ)) → AllByRecursion IsUtf8 names → IsDistinct bytes_eq names
    → GivenInTurn taken names files → IsDistinct str_eq_ignore_ascii_case files
