use Rattle.std.proofs.Common.{◌++◌, sym, ap, ◌∙◌, encode_utf8, string_bytes, get_or}
use Rattle.msi_base.specs.PageTables.{character_read}
use Rattle.msi_base.proofs.PageTablesLemmas.{text_more}
use Rattle.msi_base.proofs.codepage.tables.text_read.Goals as goal

pub loop-byte-preserved : goal.loop-byte-preserved
loop-byte-preserved c =
    let byte = get_or c.args.bytes.now c.loop-byte.byte-index 0 in
    c.in_ok-push.ensures.bytes
    ∙ ap (λ x. string_bytes c.loop-byte.text ++ encode_utf8 x) c.character_read.ensures
    ∙ ap (λ front. front ++ encode_utf8 (character_read c.args.upper.now byte)) c.loop-byte.invariant
    ∙ sym (text_more c.args.upper.now c.args.bytes.now c.loop-byte.byte-index c.loop-byte-test.true)
