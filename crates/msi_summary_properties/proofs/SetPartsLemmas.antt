-- The set from its parts, as the code makes it.
use Rattle.std.proofs.Common.{◌≡◌, ℕ, List, [], drop, Option, Some, refl, sym, ap, ◌∙◌, eqb}
use Rattle.msi_base.specs.declared.codepage.CodePage.{CodePage}
use Rattle.msi_base.specs.declared.errors.ErrorKind.{ErrorKind}
use Rattle.msi_base.specs.declared.errors.ErrorKind.TheVariants as kind
use Rattle.msi_base.specs.Lists.{entry_where}
use Rattle.msi_summary_properties.specs.declared.propset.PropertyValue.{PropertyValue}
use Rattle.msi_base.specs.Results.{◌>>=◌, FailsAs}
use Rattle.msi_summary_properties.specs.Reading.{Header, header_at, section_at, page_stated, put_values, set_put, set_with}

put_on : (bytes rest : List ℕ) (h : Header) (pairs : List (ℕ × ℕ)) (q : CodePage) → header_at bytes ≡ Some h → rest ≡ drop h.section bytes → section_at rest ≡ Some pairs
    → page_stated h.version bytes h.section (entry_where (λ k. eqb k 1) pairs) ≡ Some q → set_put bytes ≡ (put_values h.version q bytes h.section pairs [] >>= λ values. Some (set_with h values))
unfolding set_put
put_on bytes rest h pairs q head here sect stated =
    let at : section_at (drop h.section bytes) ≡ Some pairs = ap section_at (sym here) ∙ sect in
    rw (head, at, stated) refl

pub put_made : (bytes rest : List ℕ) (h : Header) (pairs : List (ℕ × ℕ)) (q : CodePage) (values : List (ℕ × PropertyValue)) → header_at bytes ≡ Some h → rest ≡ drop h.section bytes → section_at rest ≡ Some pairs
    → page_stated h.version bytes h.section (entry_where (λ k. eqb k 1) pairs) ≡ Some q → put_values h.version q bytes h.section pairs [] ≡ Some values → set_put bytes ≡ Some (set_with h values)
put_made bytes rest h pairs q values head here sect stated put = put_on bytes rest h pairs q head here sect stated ∙ ap (λ (o : Option (List (ℕ × PropertyValue))). o >>= λ values. Some (set_with h values)) put

pub put_fails : (bytes rest : List ℕ) (h : Header) (pairs : List (ℕ × ℕ)) (q : CodePage) (e : ErrorKind) → header_at bytes ≡ Some h → rest ≡ drop h.section bytes → section_at rest ≡ Some pairs
    → page_stated h.version bytes h.section (entry_where (λ k. eqb k 1) pairs) ≡ Some q → FailsAs e (put_values h.version q bytes h.section pairs []) → FailsAs e (set_put bytes)
put_fails bytes rest h pairs q kind.AlreadyExists head here sect stated fails = absurd fails
put_fails bytes rest h pairs q kind.InvalidData head here sect stated fails = put_on bytes rest h pairs q head here sect stated ∙ ap (λ (o : Option (List (ℕ × PropertyValue))). o >>= λ values. Some (set_with h values)) fails
put_fails bytes rest h pairs q kind.InvalidInput head here sect stated fails = absurd fails
put_fails bytes rest h pairs q kind.NotFound head here sect stated fails = absurd fails
put_fails bytes rest h pairs q kind.Io head here sect stated fails = absurd fails
put_fails bytes rest h pairs q kind.OutOfMemory head here sect stated fails = tt
