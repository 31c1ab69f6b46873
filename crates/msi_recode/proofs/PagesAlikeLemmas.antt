-- What a package's page reads, the page of its id reads alike: where that has a table, the package's page has ASCII alone.
use Rattle.std.proofs.Common.{◌≡◌, ℕ, ◌+◌, ◌-◌, ◌<◌, Bool, true, false, cond, ltb, List, [], ◌∷◌, map, Option, Some, None, is_some, option_map, encode_utf8_all, eqb, refl, sym, ap, subst, ◌∙◌, arith}
use Rattle.std.specs.List.{list_all}
use Rattle.std.proofs.lemmas.Bool.{and_parts, eqb-true, lt-ltb, ltb-true, or_left}
use Rattle.std.proofs.lemmas.Str.{encodes-IsAscii}
use Rattle.msi_base.specs.declared.codepage.CodePage.{CodePage}
use Rattle.msi_base.specs.declared.codepage.CodePage.TheVariants as page
use Rattle.msi_base.specs.Lists.{all_present}
use Rattle.msi_base.specs.Pages as plain
use Rattle.msi_base.proofs.ListLemmas.{found_in}
use Rattle.msi_base.proofs.OptionLemmas.{guard_held, some_is}
use Rattle.msi_base.proofs.PagesLemmas.{IsAscii-from_test}
use Rattle.msi_code_pages.specs.declared.page.Page.{Page}
use Rattle.msi_code_pages.specs.declared.page.Page.TheVariants as tabled
use Rattle.msi_code_pages.specs.Page.{all_pages, page_id, page_with_id}
use Rattle.msi_code_pages.specs.Reading.{sequences, text_of, text_in}
use Rattle.msi_code_pages.specs.Sequences.{row_among, row_of, is_lead, character_alone, character_at, character_of}
use Rattle.msi_recode.specs.declared.page.TextPage.{TextPage}
use Rattle.msi_recode.specs.declared.page.TextPage.TheVariants.{Plain, Tabled}
use Rattle.msi_recode.specs.TextPages.{Reads, or_else, text_page_with_id, PackagePagesReadAlike}

-- ---- ASCII in a page with a table

unlisted : (first last row b : ℕ) → b < first → row_among first last row b ≡ None
unlisted first last row b lt = ap (λ (t : Bool). cond t None (Some (row + (b - first)))) (or_left (ltb b first) (ltb last b) (lt-ltb b first lt))

no_lead : (t : Page) (b : ℕ) → b < 0x80 → row_of t b ≡ None
unfolding row_of
no_lead tabled.Windows932 b lt = ap (λ (s : Bool). cond s (row_among 0x81 0x9F 0 b) (row_among 0xE0 0xFC 31 b)) (lt-ltb b 0xA0 (omega (arith, lt))) ∙ unlisted 0x81 0x9F 0 b (omega (arith, lt))
no_lead tabled.Windows936 b lt = unlisted 0x81 0xFE 0 b (omega (arith, lt))
no_lead tabled.Windows949 b lt = unlisted 0x81 0xFD 0 b (omega (arith, lt))
no_lead tabled.Windows950 b lt = unlisted 0xA1 0xF9 0 b (omega (arith, lt))
no_lead _ b lt = refl

alone : (t : Page) (b : ℕ) → b < 0x80 → character_of t (b ∷ []) ≡ Some b
alone t b lt = ap (λ (o : Option ℕ). cond (is_some o) None (character_alone t b)) (no_lead t b lt) ∙ ap (λ (s : Bool). cond s (Some b) (character_at t (b - 0x80))) (lt-ltb b 0x80 lt)

apart : (lead : ℕ → Bool) (bytes : List ℕ) → ((b : ℕ) → b < 0x80 → lead b ≡ false) → list_all (λ b. ltb b 0x80) bytes ≡ true → sequences lead bytes ≡ map (λ b. b ∷ []) bytes
apart lead [] none h = refl
apart lead (b ∷ []) none h = refl
apart lead (b ∷ c ∷ bytes) none h =
    let a = and_parts (ltb b 0x80) (list_all (λ x. ltb x 0x80) (c ∷ bytes)) h in
    ap (λ (t : Bool). cond t ((b ∷ c ∷ []) ∷ sequences lead bytes) ((b ∷ []) ∷ sequences lead (c ∷ bytes))) (none b (ltb-true b 0x80 a.0))
    ∙ ap (λ (ss : List (List ℕ)). (b ∷ []) ∷ ss) (apart lead (c ∷ bytes) none a.1)

each_stands : (t : Page) (bytes : List ℕ) → list_all (λ b. ltb b 0x80) bytes ≡ true → all_present (map (character_of t) (map (λ b. b ∷ []) bytes)) ≡ Some bytes
each_stands t [] h = refl
each_stands t (b ∷ bytes) h =
    let a = and_parts (ltb b 0x80) (list_all (λ x. ltb x 0x80) bytes) h in
    rw (alone t b (ltb-true b 0x80 a.0), each_stands t bytes a.1) refl

ascii_read : (t : Page) (bytes : List ℕ) → list_all (λ b. ltb b 0x80) bytes ≡ true → text_in t bytes ≡ Some bytes
unfolding text_of
ascii_read t bytes h =
    ap (λ (ss : List (List ℕ)). text_of t ss) (apart (is_lead t) bytes (λ b lt. ap is_some (no_lead t b lt)) h)
    ∙ ap (option_map encode_utf8_all) (each_stands t bytes h) ∙ ap Some (encodes-IsAscii bytes (IsAscii-from_test bytes h))

-- ---- a package's page beside one with a table

abbrev IsAscii : CodePage → Type 0
IsAscii p = (bytes : List ℕ) → plain.text_in p bytes ≡ cond (plain.is_ascii bytes) (Some bytes) None

known : (p q : CodePage) → IsAscii p → Some p ≡ Some q → IsAscii q
known p q h e = subst (λ (x : CodePage). IsAscii x) (some_is p q e) h

ascii_alone : (t : Page) (q : CodePage) → plain.page_with_id (page_id t) ≡ Some q → IsAscii q
ascii_alone tabled.Windows874 q e = absurd cc
ascii_alone tabled.Windows932 q e = known page.Windows932 q (λ bytes. refl) e
ascii_alone tabled.Windows936 q e = known page.Windows936 q (λ bytes. refl) e
ascii_alone tabled.Windows949 q e = known page.Windows949 q (λ bytes. refl) e
ascii_alone tabled.Windows950 q e = known page.Windows950 q (λ bytes. refl) e
ascii_alone tabled.Windows1250 q e = known page.Windows1250 q (λ bytes. refl) e
ascii_alone tabled.Windows1251 q e = known page.Windows1251 q (λ bytes. refl) e
ascii_alone tabled.Windows1253 q e = known page.Windows1253 q (λ bytes. refl) e
ascii_alone tabled.Windows1254 q e = known page.Windows1254 q (λ bytes. refl) e
ascii_alone tabled.Windows1255 q e = known page.Windows1255 q (λ bytes. refl) e
ascii_alone tabled.Windows1256 q e = known page.Windows1256 q (λ bytes. refl) e
ascii_alone tabled.Windows1257 q e = known page.Windows1257 q (λ bytes. refl) e
ascii_alone tabled.Windows1258 q e = known page.Windows1258 q (λ bytes. refl) e
ascii_alone tabled.MacintoshCyrillic q e = known page.MacintoshCyrillic q (λ bytes. refl) e
ascii_alone tabled.Iso88592 q e = known page.Iso88592 q (λ bytes. refl) e
ascii_alone tabled.Iso88593 q e = known page.Iso88593 q (λ bytes. refl) e
ascii_alone tabled.Iso88594 q e = known page.Iso88594 q (λ bytes. refl) e
ascii_alone tabled.Iso88595 q e = known page.Iso88595 q (λ bytes. refl) e
ascii_alone tabled.Iso88596 q e = known page.Iso88596 q (λ bytes. refl) e
ascii_alone tabled.Iso88597 q e = known page.Iso88597 q (λ bytes. refl) e
ascii_alone tabled.Iso88598 q e = known page.Iso88598 q (λ bytes. refl) e
ascii_alone tabled.Iso88599 q e = absurd cc

tabled_alike : (t : Page) (q : CodePage) (bytes text : List ℕ) → plain.page_with_id (page_id t) ≡ Some q → plain.Reads q bytes text → Reads (Tabled t) bytes text
tabled_alike t q bytes text e reads =
    let g = guard_held (plain.is_ascii bytes) (Some bytes) text (sym (ascii_alone t q e bytes) ∙ reads) in
    ascii_read t bytes g.0 ∙ g.1

pub pages_read_alike : PackagePagesReadAlike
pages_read_alike id q known_as = by_table (page_with_id id) refl
  where
    by_table : (o : Option Page) → page_with_id id ≡ o → (found : TextPage) × (text_page_with_id id ≡ Some found) × ((bytes text : List ℕ) → plain.Reads q bytes text → Reads found bytes text)
    by_table None is = (Plain q, ap (λ (o : Option Page). or_else (option_map Tabled o) (option_map Plain (plain.page_with_id id))) is ∙ ap (option_map Plain) known_as, λ bytes text h. h)
    by_table (Some t) is =
        let same : page_id t ≡ id = eqb-true (page_id t) id (found_in (λ p. eqb (page_id p) id) all_pages t is).1 in
        (Tabled t, ap (λ (o : Option Page). or_else (option_map Tabled o) (option_map Plain (plain.page_with_id id))) is, λ bytes text h. tabled_alike t q bytes text (ap plain.page_with_id same ∙ known_as) h)
