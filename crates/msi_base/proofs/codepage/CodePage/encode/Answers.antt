use Rattle.std.proofs.Common.{◌≡◌, ℕ, List, Option, Some, Vec, String, Global, string_bytes, is_some, if◌then◌else◌, ap, subst, ◌∙◌}
use Rattle.std.specs.Prelude.{IfOk, IfErr}
use Rattle.std.specs.Option.{option_copied}
use Rattle.msi_base.specs.Pages.{bytes_in, single_byte_spelling}
use Rattle.msi_base.specs.declared.errors.ErrorKind.TheVariants.{InvalidInput, OutOfMemory}
use Rattle.msi_base.proofs.PagesLemmas.{other_spelling}
use Rattle.msi_base.proofs.codepage.CodePage.encode.Goals as goal

pub returns-in_default : goal.returns-in_default
returns-in_default c =
    let text = c.args.text.now in
    let whole : single_byte_spelling (option_copied c.upper_characters.result) text ≡ bytes_in c.args.self text =
    ap (λ o. single_byte_spelling o text) c.upper_characters.ensures.table ∙ other_spelling c.args.self text c.in_default.not-Utf8 in
    record {
      ok = subst (λ (o : Option (List ℕ)). IfOk c.single_byte_spelling.result (λ (bytes : Vec ℕ Global). o ≡ Some bytes.items)) whole c.single_byte_spelling.ensures.ok;
      kind = subst (λ (o : Option (List ℕ)). IfErr c.single_byte_spelling.result (λ kind. kind ≡ (if is_some o then OutOfMemory else InvalidInput))) whole c.single_byte_spelling.ensures.kind;
    }
