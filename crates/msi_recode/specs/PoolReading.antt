-- Scaffolding of proofs: how the pool's streams are read and written, one step after the other. What they hold stands
-- in `PoolRecoding`.
use Rattle.std.specs.Prelude.{◌≡◌, ℕ, ◌-◌, ◌^◌, ◌<◌, Bool, true, false, nat_lt, if◌then◌else◌, IsUtf8}
use Rattle.std.specs.Prelude.{List, ◌∷◌, [], ◌++◌, length, Option, Some, None, option_map}
use Rattle.msi_base.specs.declared.errors.ErrorKind.{ErrorKind}
use Rattle.msi_base.specs.declared.errors.ErrorKind.TheVariants as kind
use Rattle.msi_pool_places.specs.Pool.{Place, Entry, plain_entry, CountsFit, HaveUtf8Texts}
use Rattle.msi_recode.specs.declared.page.TextPage.{TextPage}
use Rattle.msi_recode.specs.declared.errors.RecodeError.{RecodeError}
use Rattle.msi_recode.specs.declared.errors.RecodeError.TheVariants as error
use Rattle.msi_recode.specs.TextPages.{Reads, page_for}
use Rattle.msi_recode.specs.PoolRecoding.{SpellsTexts, FailsAt, FailsInFront, entry_of, is_long, has_long}
use Rattle.msi_recode.specs.PoolRecoding.{entries_written, texts_written}

-- the page of a header, and whether references are long
abbrev pub header_in : Option TextPage → ℕ → Option (TextPage × Bool)
header_in given n = if nat_lt n (2 ^ 31) then option_map (λ page. (page, false)) (page_for given n)
    else option_map (λ page. (page, true)) (page_for given (n - 2 ^ 31))

-- the text in front is the place's
pub record IsFront (page : TextPage) (e : Entry) (bytes : List ℕ) (p : Place) (rest : List ℕ) : Type 0 where
  pub piece : List ℕ
  pub parts : bytes ≡ piece ++ rest
  pub len : length piece ≡ e.len
  pub reads : Reads page piece p.text
  pub count : p.count ≡ e.count

-- the place in front is written behind the others, and these bytes are left
pub record IsPut (page : TextPage) (e : Entry)
    (bytes entries_before texts_before entries_after texts_after rest : List ℕ) : Type 0 where
  pub place : Place
  pub front : IsFront page e bytes place rest
  pub short : is_long (entry_of place) ≡ false
  pub count : place.count < 2 ^ 16
  pub utf8 : IsUtf8 place.text
  pub entries : entries_after ≡ entries_before ++ plain_entry (entry_of place)
  pub texts : texts_after ≡ texts_before ++ place.text

-- these places are written behind the others
pub record AreWritten (places : List Place) (entries_before texts_before entries_after texts_after : List ℕ)
    : Type 0 where
  pub short : has_long places ≡ false
  pub counts : CountsFit places
  pub utf8 : HaveUtf8Texts places
  pub entries : entries_after ≡ entries_before ++ entries_written places
  pub texts : texts_after ≡ texts_before ++ texts_written places

-- the places whose texts the bytes encode are written behind the others
abbrev pub ArePut : TextPage → List ℕ → List Entry → List ℕ → List ℕ → List ℕ → List ℕ → Type 0
ArePut page bytes entries entries_before texts_before entries_after texts_after = (places : List Place)
    × SpellsTexts page bytes entries places × AreWritten places entries_before texts_before entries_after texts_after

-- why they aren't
abbrev pub IsTextsError : TextPage → List ℕ → List Entry → RecodeError → Type 0
IsTextsError page bytes entries (error.Place n kind.InvalidData) = FailsAt page bytes entries n
IsTextsError page bytes entries (error.Package kind.OutOfMemory) = Unit {0}
IsTextsError page bytes entries _ = ⊥

-- why one isn't
abbrev pub IsTextError : TextPage → Entry → List ℕ → ErrorKind → Type 0
IsTextError page e bytes kind.InvalidData = FailsInFront page e bytes
IsTextError page e bytes kind.OutOfMemory = Unit {0}
IsTextError page e bytes _ = ⊥
