use Rattle.std.proofs.Common.{◌∙◌, ap, chars, length, sym}
use Rattle.std.proofs.lemmas.Iterator.{YieldsList-from_chars}
use Rattle.std.proofs.lemmas.Iterator.Consumers.{count_from_yields_List}
use Rattle.msi_table_values.specs.ValidValues.{fits_type}
use Rattle.msi_table_values.specs.declared.value.Value.TheVariants as value_of
use Rattle.msi_table_values.proofs.ValidValuesLemmas.{limit_answer}
use Rattle.msi_table_values.proofs.valid_values.fits_text.Goals as goal

pub returns-else-length-eq0 : goal.returns-else-length-eq0
returns-else-length-eq0 c =
    limit_answer c.count.result (length (chars c.args.text.now)) c.in-Str.length
    (count_from_yields_List c.chars.result _ c.count.ensures.ran (YieldsList-from_chars c.args.text.now c.utf8.text c.chars.ensures.rest)) c.if-length-eq0.false
    ∙ sym (ap (λ coltype. fits_type coltype (value_of.Str c.args.text.now)) c.in-Str.is)
