-- The pages that have tables of their own, and their ids.
use Rattle.std.specs.Prelude.{◌≡◌, ℕ, ℤ, pos, negsuc, List, [], ◌∷◌, Option, Some, None, ◌==◌, find}
use Rattle.msi_code_pages.specs.declared.page.Page.{Page}
use Rattle.msi_code_pages.specs.declared.page.Page.TheVariants as page

-- the ids (MSI SDK, "Code Page Handling")
abbrev pub page_id : Page → ℕ
page_id page.Windows874 = 874
page_id page.Windows932 = 932
page_id page.Windows936 = 936
page_id page.Windows949 = 949
page_id page.Windows950 = 950
page_id page.Windows1250 = 1250
page_id page.Windows1251 = 1251
page_id page.Windows1253 = 1253
page_id page.Windows1254 = 1254
page_id page.Windows1255 = 1255
page_id page.Windows1256 = 1256
page_id page.Windows1257 = 1257
page_id page.Windows1258 = 1258
page_id page.MacintoshCyrillic = 10007
page_id page.Iso88592 = 28592
page_id page.Iso88593 = 28593
page_id page.Iso88594 = 28594
page_id page.Iso88595 = 28595
page_id page.Iso88596 = 28596
page_id page.Iso88597 = 28597
page_id page.Iso88598 = 28598
page_id page.Iso88599 = 28599

abbrev pub all_pages : List Page
all_pages = page.Windows874 ∷ page.Windows932 ∷ page.Windows936 ∷ page.Windows949 ∷ page.Windows950 ∷ page.Windows1250
    ∷ page.Windows1251 ∷ page.Windows1253 ∷ page.Windows1254 ∷ page.Windows1255
    ∷ page.Windows1256 ∷ page.Windows1257 ∷ page.Windows1258 ∷ page.MacintoshCyrillic
    ∷ page.Iso88592 ∷ page.Iso88593 ∷ page.Iso88594 ∷ page.Iso88595
    ∷ page.Iso88596 ∷ page.Iso88597 ∷ page.Iso88598 ∷ page.Iso88599 ∷ []

abbrev pub page_with_id : ℕ → Option Page
page_with_id id = find (λ p. page_id p == id) all_pages

-- no page has a negative id
abbrev pub page_with_signed_id : ℤ → Option Page
page_with_signed_id (pos id) = page_with_id id
page_with_signed_id (negsuc n) = None

-- an id tells its page
abbrev pub PageIdsTellPages : Type 0
PageIdsTellPages = (p : Page) → page_with_id (page_id p) ≡ Some p
