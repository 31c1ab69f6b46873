-- The string pool of two streams whose texts are read in a page of any kind, and its streams in UTF-8.
use Rattle.std.specs.Prelude.{◌≡◌, ◌⊎◌, ℕ, zero, suc, ◌^◌, ◌<◌, ◌≤◌, Bool, true, false, not, nat_lt, ◌==◌}
use Rattle.std.specs.Prelude.{if◌then◌else◌, List, [], ◌∷◌, ◌++◌, length, Option, Some}
use Rattle.std.specs.List.{flat_map, list_any}
use Rattle.msi_base.specs.declared.codepage.CodePage.TheVariants as page
use Rattle.msi_base.specs.declared.errors.ErrorKind.TheVariants as kind
use Rattle.msi_pool_places.specs.Pool.{Place, Pool, Entry, header_of, plain_entry, SpellsEntries, IsPool}
use Rattle.msi_recode.specs.declared.page.TextPage.{TextPage}
use Rattle.msi_recode.specs.declared.errors.RecodeError.{RecodeError}
use Rattle.msi_recode.specs.declared.errors.RecodeError.TheVariants as error
use Rattle.msi_recode.specs.TextPages.{Reads, page_for}

-- what the first stream says: the page of the texts, whether references are long, and each text's length and count
pub record PoolHead : Type 0 where
  pub page : TextPage
  pub long : Bool
  pub entries : List Entry

-- the first stream says this; where it names page 0, the page is the one that is given
abbrev pub IsHead : Option TextPage → List ℕ → PoolHead → Type 0
IsHead given bytes head = (id : ℕ) × (others : List ℕ) × (id < 2 ^ 31) × (page_for given id ≡ Some head.page)
    × (bytes ≡ header_of id head.long ++ others) × SpellsEntries others head.entries × (length head.entries ≤ 16777215)

-- the texts of these lengths in order, each read in the page; bytes past the last are ignored
abbrev pub SpellsTexts : TextPage → List ℕ → List Entry → List Place → Type 0
SpellsTexts page bytes [] [] = Unit {0}
SpellsTexts page bytes (e ∷ es) (p ∷ ps) = (piece : List ℕ) × (others : List ℕ) × (bytes ≡ piece ++ others)
    × (length piece ≡ e.len) × Reads page piece p.text × (p.count ≡ e.count) × SpellsTexts page others es ps
SpellsTexts page bytes [] (p ∷ ps) = ⊥
SpellsTexts page bytes (e ∷ es) [] = ⊥

-- the two streams have these places
abbrev pub HavePlaces : Option TextPage → List ℕ → List ℕ → PoolHead → List Place → Type 0
HavePlaces given pool_stream data_stream head places =
    IsHead given pool_stream head × SpellsTexts head.page data_stream head.entries places

-- the entry of a place whose text stands in UTF-8. A free place's length has 16 bits, and another one's 32
abbrev pub entry_of : Place → Entry
entry_of p = record { len = length p.text; count = p.count }

abbrev pub is_long : Entry → Bool
is_long e = not (nat_lt e.len (if e.count == 0 then 2 ^ 16 else 2 ^ 32))

abbrev pub has_long : List Place → Bool
has_long places = list_any (λ p. is_long (entry_of p)) places

-- the places' plain spelling in UTF-8
abbrev pub entries_written : List Place → List ℕ
entries_written places = flat_map (λ p. plain_entry (entry_of p)) places

abbrev pub texts_written : List Place → List ℕ
texts_written places = flat_map (λ p. p.text) places

-- the two streams that these places have in UTF-8, in their plain spelling
abbrev pub AreWrittenOf : Bool → List Place → List ℕ → List ℕ → Type 0
AreWrittenOf long places pool_stream data_stream =
    (pool_stream ≡ header_of 65001 long ++ entries_written places) × (data_stream ≡ texts_written places)

-- the streams after have the places of the streams before in UTF-8: with the same numbers, counts and texts, each of
-- which has an entry
abbrev pub AreRecoded : Option TextPage → List ℕ → List ℕ → List ℕ → List ℕ → Type 0
AreRecoded given pool_stream data_stream pool_after data_after = (head : PoolHead) × (places : List Place)
    × HavePlaces given pool_stream data_stream head places
    × IsPool pool_after data_after (record { page = page.Utf8; long = head.long; places = places })
    × AreWrittenOf head.long places pool_after data_after × (has_long places ≡ false)

-- the two streams have no places, or a text among theirs is too long in UTF-8
abbrev pub CannotBeRecoded : Option TextPage → List ℕ → List ℕ → Type 0
CannotBeRecoded given pool_stream data_stream = (head : PoolHead) → (places : List Place)
    → HavePlaces given pool_stream data_stream head places → has_long places ≡ true

-- the text in front is not there, not read in the page, or too long in UTF-8
abbrev pub FailsInFront : TextPage → Entry → List ℕ → Type 0
FailsInFront page e bytes = (piece text others : List ℕ) → bytes ≡ piece ++ others → length piece ≡ e.len
    → Reads page piece text → is_long (record { len = length text; count = e.count }) ≡ true

-- the texts before number n, counted from 0, can be recoded, and that one can't
abbrev pub FailsAt : TextPage → List ℕ → List Entry → ℕ → Type 0
FailsAt page bytes [] n = ⊥
FailsAt page bytes (e ∷ es) zero = FailsInFront page e bytes
FailsAt page bytes (e ∷ es) (suc n) = (piece : List ℕ) × (text : List ℕ) × (others : List ℕ)
    × (bytes ≡ piece ++ others) × (length piece ≡ e.len) × Reads page piece text
    × (is_long (record { len = length text; count = e.count }) ≡ false) × FailsAt page others es n

-- the first stream says nothing
abbrev pub HasNoHead : Option TextPage → List ℕ → Type 0
HasNoHead given pool_stream = (head : PoolHead) → IsHead given pool_stream head → ⊥

-- an error of the pool: memory, that it has no head, or the first place that can't be recoded
abbrev pub IsPoolError : Option TextPage → List ℕ → List ℕ → RecodeError → Type 0
IsPoolError given pool_stream data_stream err =
    (err ≡ error.Package kind.OutOfMemory)
    ⊎ (err ≡ error.Package kind.InvalidData) × HasNoHead given pool_stream
    ⊎ ((head : PoolHead) × (n : ℕ) × IsHead given pool_stream head × (err ≡ error.Place n kind.InvalidData)
    × FailsAt head.page data_stream head.entries n)
