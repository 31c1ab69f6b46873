-- The page of an id beside the one that is given.
use Rattle.std.proofs.Common.{◌≡◌, ℕ, Bool, cond, eqb, Option, Some, None, ap, ◌∙◌, sym, inl, inr}
use Rattle.std.proofs.lemmas.Bool.{cases_Bool, ne_eqb}
use Rattle.msi_recode.specs.declared.page.TextPage.{TextPage}
use Rattle.msi_recode.specs.TextPages.{or_else, text_page_with_id, page_for}

-- another id than 0 names its page
pub page_named : (page : TextPage) (id : ℕ) → (id ≡ 0 → ⊥) → text_page_with_id id ≡ page_for (Some page) id
page_named page id other = sym (ap (λ (b : Bool). or_else (cond b (Some page) None) (text_page_with_id id)) (ne_eqb id 0 other))

-- where none is given, each id names its page
pub page_alone : (id : ℕ) → text_page_with_id id ≡ page_for None id
page_alone id = elim (cases_Bool (eqb id 0)) [
  | inl zero ↦ sym (ap (λ (b : Bool). or_else (cond b None None) (text_page_with_id id)) zero)
  | inr other ↦ sym (ap (λ (b : Bool). or_else (cond b None None) (text_page_with_id id)) other)
]
