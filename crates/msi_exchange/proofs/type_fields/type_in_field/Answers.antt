use Rattle.std.proofs.Common.{◌∙◌, sym}
use Rattle.std.proofs.lemmas.Str.{IsCharBoundary-after_ascii}
use Rattle.msi_exchange.proofs.TypeFieldLemmas.{first_low}
use Rattle.msi_exchange.proofs.type_fields.type_in_field.Goals as goal

pub range_from-requires : goal.range_from-requires
range_from-requires c = λ _.
    let first = first_low c.args.field.now _ c.in_ok-letter.letter.now (sym c.as_bytes.ensures.value ∙ c.in_ok-letter.ensures.cases.0) (sym c.if-not-is_ascii.ensures) in
    IsCharBoundary-after_ascii c.args.field.now 0 c.utf8.field first.0 first.1
