use Rattle.std.proofs.Common.{◌∙◌, string_bytes}
use Rattle.std.proofs.lemmas.Result.{IfOk-at_ok}
use Rattle.std.proofs.lemmas.Str.{IsUtf8-string_bytes}
use Rattle.std.specs.String.{IsUtf16Of}
use Rattle.msi_container_format.proofs.Utf16Lemmas.{units_of_spelled}
use Rattle.msi_container_format.proofs.name.Name.to_text.Goals as goal

pub returns-clause-ok : goal.returns-clause-ok
returns-clause-ok c =
    units_of_spelled c.units.result.now (string_bytes c.in-Ok.text) (IsUtf8-string_bytes c.in-Ok.text)
    (IfOk-at_ok (λ text. IsUtf16Of c.units.result.now (string_bytes text)) c.in-Ok.is c.in_ok-text.ensures.ok)
    ∙ c.units.ensures.units
