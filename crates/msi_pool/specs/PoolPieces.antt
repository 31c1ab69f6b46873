-- Scaffolding of proofs: the text of one place, as it is put behind those of others.
use Rattle.std.specs.Prelude.{◌≡◌, ℕ, List, [], ◌∷◌, ◌++◌, Some}
use Rattle.msi_base.specs.declared.codepage.CodePage.{CodePage}
use Rattle.msi_base.specs.Pages.{text_in}
use Rattle.msi_pool_places.specs.Pool.{Place}

-- bytes read as a text, which is put behind the texts of other places
pub record IsPiecePut (page : CodePage) (piece : List ℕ) (count : ℕ) (before after : List Place) : Type 0 where
  pub text : List ℕ
  pub reads : text_in page piece ≡ Some text
  pub put : after ≡ before ++ record { text = text; count = count } ∷ []
