use Rattle.std.proofs.Common.{◌∙◌, ap, rules, sym, Some, None}
use denote.Enum.Bare.{differs_false}
use Rattle.msi_base.specs.declared.codepage.CodePage.TheVariants.{Utf8}
use Rattle.msi_base.specs.contracts.codepage.CodePage.{the_type}
use Rattle.std.specs.FinMap.{entries}
use Rattle.msi_database_storage.specs.Streams.{stream_at}
use Rattle.msi_transform.specs.TransformFiles.{is_utf8}
use Rattle.msi_transform.proofs.KeptTextsLemmas.{kept_where, kept_without}
use Rattle.msi_transform.proofs.StoredPoolLemmas.{stream_got}
use Rattle.msi_transform.proofs.kept_texts.keeps_texts.Goals as goal

pub returns-in-Some : goal.returns-in-Some
returns-in-Some c =
    let streams = entries c.args.streams.now in
    let utf8 = differs_false the_type (search rules) c.codepage.result Utf8 (sym c.ne.ensures ∙ c.if-ne.false) in
    c.begin_with_texts.ensures
    ∙ kept_where c.args.pool.now streams c.as_slice.result.now
    (ap (λ name. stream_at name streams) (sym c.string_data_key.ensures)
    ∙ stream_got c.args.streams.now c.string_data_key.result (Some c.in-Some.bytes.now) c.in-Some.ensures ∙ ap Some (sym c.as_slice.ensures))
    (ap is_utf8 (sym c.codepage.ensures ∙ utf8))

pub returns-in-None : goal.returns-in-None
returns-in-None c =
    let streams = entries c.args.streams.now in
    kept_without c.args.pool.now streams
    (ap (λ name. stream_at name streams) (sym c.string_data_key.ensures)
    ∙ stream_got c.args.streams.now c.string_data_key.result None c.in-None.ensures)
