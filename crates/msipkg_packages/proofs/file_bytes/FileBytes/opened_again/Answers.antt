use Rattle.std.proofs.Common.{◌≡◌, ◌∙◌, ℕ, List, Ok, Err, true, false, inl, inr, refl, subst, true≢false}
use Rattle.std.specs.Prelude.{◌⊎◌}
use Rattle.std.proofs.lemmas.Result.{err_from_is_err_and}
use Rattle.msi.specs.Text.ErrorKind.{ErrorKind}
use Rattle.msi.specs.Text.ErrorKind.TheVariants.{Io, OutOfMemory}
use Rattle.msi.specs.Meaning.{OpensTo}
use Rattle.msipkg_packages.proofs.file_bytes.FileBytes.opened_again.Goals as goal

-- where no call fails, there are two reasons
but_io : {P Q : Type 0} (k : ErrorKind) → (k ≡ Io) ⊎ (k ≡ OutOfMemory) ⊎ P → (k ≡ Io → ⊥) → (P → Q) → (k ≡ OutOfMemory) ⊎ Q
but_io k (inl io) never same = absurd (never io)
but_io k (inr (inl memory)) never same = inl memory
but_io k (inr (inr opens)) never same = inr (same opens)

pub returns-in_err-opened-clause-kind : goal.returns-in_err-opened-clause-kind
returns-in_err-opened-clause-kind c =
    let p = err_from_is_err_and c.from_residual.result c.from_residual.ensures.1 in
    let k = c.in_err-opened.field-0.0 in
    rw (p.1, p.2) (but_io k c.in_err-opened.ensures.kind
    (λ io. let e : true ≡ false = rw io at (c.in_err-opened.ensures.faultless refl) in true≢false e)
    (λ opens. subst (λ (x : List ℕ). OpensTo x (Err k)) ((rw c.from_vec.ensures.held at opens.1) ∙ c.self.view_is) opens.2))

pub returns-clause-opens : goal.returns-clause-opens
returns-clause-opens c =
    let state = c.in_ok-opened.opened.state in
    let opens = c.in_ok-opened.ensures.ok in
    (state, subst (λ (x : List ℕ). OpensTo x (Ok state)) ((rw c.from_vec.ensures.held at opens.1) ∙ c.self.view_is) opens.2)
