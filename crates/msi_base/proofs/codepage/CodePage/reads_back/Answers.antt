use Rattle.std.proofs.Common.{sym, ◌∙◌, refl}
use Rattle.msi_base.proofs.PagesLemmas.{texts_in_table, utf8_texts_come_back}
use Rattle.msi_base.proofs.codepage.CodePage.reads_back.Goals as goal

pub returns-in-Utf8 : goal.returns-in-Utf8
returns-in-Utf8 c = rw c.in-Utf8.is (λ _. utf8_texts_come_back c.args.text.now c.utf8.text, λ _. refl)

pub returns-in-Some : goal.returns-in-Some
returns-in-Some c =
    let has = sym c.upper_characters.ensures.table ∙ rw c.in-Some.is refl in
    let both = texts_in_table c.args.self c.in-Some.upper.now c.args.text.now has c.utf8.text in
    (λ t. both.0 (sym c.has_bytes.ensures ∙ t), λ w. c.has_bytes.ensures ∙ both.1 w)
