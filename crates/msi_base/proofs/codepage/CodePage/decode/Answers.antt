use Rattle.std.proofs.Common.{◌≡◌, ℕ, List, Option, Some, Vec, String, Global, string_bytes, is_some, if◌then◌else◌, ap, subst, ◌∙◌}
use Rattle.std.specs.Prelude.{IfOk, IfErr}
use Rattle.std.specs.Option.{option_copied}
use Rattle.msi_base.specs.Pages.{text_in, single_byte_text}
use Rattle.msi_base.specs.declared.errors.ErrorKind.TheVariants.{InvalidData, OutOfMemory}
use Rattle.msi_base.proofs.PagesLemmas.{other_text}
use Rattle.msi_base.proofs.codepage.CodePage.decode.Goals as goal

pub returns-in_default : goal.returns-in_default
returns-in_default c =
    let bytes = c.args.bytes.now in
    let whole : single_byte_text (option_copied c.upper_characters.result) bytes ≡ text_in c.args.self bytes =
    ap (λ o. single_byte_text o bytes) c.upper_characters.ensures.table ∙ other_text c.args.self bytes c.in_default.not-Utf8 in
    record {
      ok = subst (λ (o : Option (List ℕ)). IfOk c.single_byte_text.result (λ (text : String Global). o ≡ Some (string_bytes text))) whole c.single_byte_text.ensures.ok;
      kind = subst (λ (o : Option (List ℕ)). IfErr c.single_byte_text.result (λ kind. kind ≡ (if is_some o then OutOfMemory else InvalidData))) whole c.single_byte_text.ensures.kind;
    }
