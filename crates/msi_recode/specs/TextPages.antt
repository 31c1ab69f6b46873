-- The pages that bytes of texts are read in: those with tables of their own, and those that packages are read in.
use Rattle.std.specs.Prelude.{◌≡◌, ℕ, ℤ, pos, ◌==◌, if◌then◌else◌, List, Option, Some, None, option_map}
use Rattle.msi_base.specs.declared.codepage.CodePage.{CodePage}
use Rattle.msi_base.specs.Pages as plain
use Rattle.msi_code_pages.specs.Page as tabled
use Rattle.msi_code_pages.specs.Reading as tabled_reading
use Rattle.msi_recode.specs.declared.page.TextPage.{TextPage}
use Rattle.msi_recode.specs.declared.page.TextPage.TheVariants.{Plain, Tabled}

-- the first that is there
abbrev pub or_else : {X : Type 0} → Option X → Option X → Option X
or_else (Some x) other = Some x
or_else None other = other

-- the page of an id: one with a table, where there is one. 0 is UTF-8
abbrev pub text_page_with_signed_id : ℤ → Option TextPage
text_page_with_signed_id id =
    or_else (option_map Tabled (tabled.page_with_signed_id id)) (option_map Plain (plain.page_with_signed_id id))

abbrev pub text_page_with_id : ℕ → Option TextPage
text_page_with_id id = text_page_with_signed_id (pos id)

-- what bytes read as in the page; where a package's own page reads them, as in a package
abbrev pub text_in : TextPage → List ℕ → Option (List ℕ)
text_in (Plain page) bytes = plain.text_in page bytes
text_in (Tabled page) bytes = tabled_reading.text_in page bytes

abbrev pub Reads : TextPage → List ℕ → List ℕ → Type 0
Reads page bytes text = text_in page bytes ≡ Some text

-- the page of an id; for 0, which names none, the page that is given
abbrev pub page_for : Option TextPage → ℕ → Option TextPage
page_for given id = or_else (if id == 0 then given else None) (text_page_with_id id)

-- what a package's page reads, the page of its id reads alike
abbrev pub PackagePagesReadAlike : Type 0
PackagePagesReadAlike = (id : ℕ) (page : CodePage) → plain.page_with_id id ≡ Some page
    → (found : TextPage) × (text_page_with_id id ≡ Some found)
    × ((bytes text : List ℕ) → plain.Reads page bytes text → Reads found bytes text)
