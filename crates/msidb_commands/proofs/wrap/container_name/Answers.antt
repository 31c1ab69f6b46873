use Rattle.std.proofs.Common.{◌≡◌, ◌∙◌, ap, sym, length, chars, true, false, is_ok, IsErrOf, Result, Ok, Err}
use Rattle.msi.specs.Container.Names.{is_name_length, utf16_units}
use Rattle.msi.specs.Container.StreamNames.{is_valid_name}
use Rattle.msidb_commands.proofs.wrap.container_name.Goals as goal

-- what is Ok is no error
ok_no_err : {X E : Type 0} (r : Result X E) (e : E) → is_ok r ≡ true → IsErrOf r e → ⊥
ok_no_err (Ok x) e o f = cc
ok_no_err (Err d) e o f = cc

pub returns-clause-refused : goal.returns-clause-refused
returns-clause-refused c =
    let valid : c.is_valid.result ≡ true = c.if-not-is_valid.false in
    let accepted : is_ok c.new-2.result ≡ true =
    c.new-2.ensures.accepted ∙ ap (λ cs. is_name_length (length (utf16_units cs))) (ap chars c.as_str.ensures.value ∙ c.in_ok-encoded.ensures.ok) ∙ c.is_valid.ensures.fits valid in
    let named : is_valid_name false (chars c.args.name.now) ≡ true = sym c.is_valid.ensures.value ∙ valid in
    (λ e. absurd (ok_no_err _ _ accepted e), λ n. absurd cc)
