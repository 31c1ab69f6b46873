use Rattle.std.proofs.Common.{Some, is_some, sym, ap, ◌∙◌}
use Rattle.std.specs.Option.{option_copied}
use Rattle.msi_base.specs.Pages.{is_ascii, single_byte_spelling}
use Rattle.msi_base.specs.declared.errors.ErrorKind.TheVariants.{InvalidInput}
use Rattle.msi_base.proofs.PagesLemmas.{ascii_spelling_is, no_spelling}
use Rattle.msi_base.proofs.ResultLemmas.{memory_alone, other_alone}
use Rattle.msi_base.proofs.codepage.single_byte_spelling.Goals as goal

pub returns-then-is_ascii-clause-ok : goal.returns-then-is_ascii-clause-ok
returns-then-is_ascii-clause-ok c =
    ascii_spelling_is (option_copied c.args.upper) c.args.text.now (sym (ap is_ascii c.as_bytes.ensures.value) ∙ sym c.is_ascii.ensures ∙ c.if-is_ascii.true)
    ∙ ap Some (sym (c.in_ok-from_slice.ensures.items ∙ c.as_bytes-then-is_ascii.ensures.value))

pub returns-in_err-from_slice-clause-kind : goal.returns-in_err-from_slice-clause-kind
returns-in_err-from_slice-clause-kind c =
    memory_alone c.from_residual.result (is_some (single_byte_spelling (option_copied c.args.upper) c.args.text.now)) InvalidInput
    (ap is_some (ascii_spelling_is (option_copied c.args.upper) c.args.text.now (sym (ap is_ascii c.as_bytes.ensures.value) ∙ sym c.is_ascii.ensures ∙ c.if-is_ascii.true)))
    c.from_residual.ensures.1

pub returns-in_err-bytes_written-in-Some-clause-kind : goal.returns-in_err-bytes_written-in-Some-clause-kind
returns-in_err-bytes_written-in-Some-clause-kind c =
    memory_alone c.from_residual-in_err-bytes_written-in-Some.result (is_some (single_byte_spelling (option_copied c.args.upper) c.args.text.now)) InvalidInput
    (ap (λ o. is_some (single_byte_spelling (option_copied o) c.args.text.now)) c.in-Some.is)
    c.from_residual-in_err-bytes_written-in-Some.ensures.1

pub returns-in_ok-bytes_written-in-Some-clause-ok : goal.returns-in_ok-bytes_written-in-Some-clause-ok
returns-in_ok-bytes_written-in-Some-clause-ok c =
    ap (λ o. single_byte_spelling (option_copied o) c.args.text.now) c.in-Some.is ∙ ap Some (sym c.in_ok-bytes_written-in-Some.ensures)

pub returns-in-None-clause-kind : goal.returns-in-None-clause-kind
returns-in-None-clause-kind c =
    let none = no_spelling c.args.text.now (sym (ap is_ascii c.as_bytes.ensures.value) ∙ sym c.is_ascii.ensures ∙ c.if-is_ascii.false) in
    other_alone c.new.result (is_some (single_byte_spelling (option_copied c.args.upper) c.args.text.now)) InvalidInput
    (ap (λ o. is_some (single_byte_spelling (option_copied o) c.args.text.now)) c.in-None.is ∙ ap is_some none) c.new.ensures
