use Rattle.std.proofs.Common.{Some, is_some, sym, ap, ◌∙◌}
use Rattle.std.specs.Option.{option_copied}
use Rattle.msi_base.specs.Pages.{single_byte_text}
use Rattle.msi_base.specs.declared.errors.ErrorKind.TheVariants.{InvalidData}
use Rattle.msi_base.proofs.PagesLemmas.{ascii_text_is, no_text}
use Rattle.msi_base.proofs.ResultLemmas.{memory_alone, other_alone}
use Rattle.msi_base.proofs.codepage.single_byte_text.Goals as goal

pub returns-in-Some-clause-ok : goal.returns-in-Some-clause-ok
returns-in-Some-clause-ok c =
    ascii_text_is (option_copied c.args.upper) c.args.bytes.now (c.in-Some.ensures.0) ∙ ap Some (sym (c.in_ok-from_str.ensures.ok ∙ c.in-Some.ensures.1))

pub returns-in_err-from_str-clause-kind : goal.returns-in_err-from_str-clause-kind
returns-in_err-from_str-clause-kind c =
    memory_alone c.from_residual.result (is_some (single_byte_text (option_copied c.args.upper) c.args.bytes.now)) InvalidData
    (ap is_some (ascii_text_is (option_copied c.args.upper) c.args.bytes.now (c.in-Some.ensures.0)))
    c.from_residual.ensures.1

pub returns-in_err-text_read-in-Some-upper-clause-kind : goal.returns-in_err-text_read-in-Some-upper-clause-kind
returns-in_err-text_read-in-Some-upper-clause-kind c =
    memory_alone c.from_residual-in_err-text_read-in-Some-upper.result (is_some (single_byte_text (option_copied c.args.upper) c.args.bytes.now)) InvalidData
    (ap (λ o. is_some (single_byte_text (option_copied o) c.args.bytes.now)) c.in-Some-upper.is)
    c.from_residual-in_err-text_read-in-Some-upper.ensures.1

pub returns-in_ok-text_read-in-Some-upper-clause-ok : goal.returns-in_ok-text_read-in-Some-upper-clause-ok
returns-in_ok-text_read-in-Some-upper-clause-ok c =
    ap (λ o. single_byte_text (option_copied o) c.args.bytes.now) c.in-Some-upper.is ∙ ap Some (sym c.in_ok-text_read-in-Some-upper.ensures)

pub returns-in-None-clause-kind : goal.returns-in-None-clause-kind
returns-in-None-clause-kind c =
    let none = no_text c.args.bytes.now c.in_default.ensures in
    other_alone c.new.result (is_some (single_byte_text (option_copied c.args.upper) c.args.bytes.now)) InvalidData
    (ap (λ o. is_some (single_byte_text (option_copied o) c.args.bytes.now)) c.in-None.is ∙ ap is_some none) c.new.ensures
