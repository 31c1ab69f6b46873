use Rattle.std.proofs.Common.{◌≡◌, ◌++◌, chars, sym, ap, ◌∙◌}
use Rattle.std.proofs.lemmas.List.{nil_from_length}
use Rattle.std.proofs.lemmas.Str.{chars-nil}
use Rattle.std.specs.Prelude.{encode_utf8}
use Rattle.msi_container_format.proofs.TextLemmas.{chars_after_first}
use Rattle.msi_container_format.proofs.packing.split_first.Goals as goal

pub returns-in-Some : goal.returns-in-Some
returns-in-Some c =
    let first = c.in-Some.c in
    let rest = c.as_str.result.now in
    let e : c.args.text.now ≡ encode_utf8 first ++ rest =
    sym c.chars-chars.ensures.rest ∙ c.in-Some.ensures.steps.0 ∙ ap (λ t. encode_utf8 first ++ t) (sym c.as_str.ensures) in
    chars_after_first c.args.text.now rest first c.utf8.text e

pub returns-in-None : goal.returns-in-None
returns-in-None c = ap chars (sym c.chars-chars.ensures.rest ∙ nil_from_length _ c.in-None.ensures.steps.0.0) ∙ chars-nil
