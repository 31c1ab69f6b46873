use Rattle.std.proofs.Common.{drop, map, ◌++◌, string_bytes, encode_utf8_all, sym, ap, ◌∙◌}
use Rattle.std.specs.Prelude.{unwrap_or}
use Rattle.msi_code_pages.specs.Sequences.{is_lead}
use Rattle.msi_code_pages.specs.Reading.{character_read, sequences}
use Rattle.msi_code_pages.proofs.ReadingLemmas.{shorter, text_more}
use Rattle.msi_code_pages.proofs.decoder.Decoder.text_read.Goals as goal

pub loop-rest-smaller : goal.loop-rest-smaller
loop-rest-smaller c = shorter _ _ _ c.behind-rest.ensures c.first_sequence-length.ensures.least c.first_sequence-length.ensures.most

pub loop-rest-preserved : goal.loop-rest-preserved
loop-rest-preserved c =
    let page = c.args.self.now in
    let read = c.unwrap_or.ensures ∙ ap (λ o. unwrap_or o 0xFFFD) c.first_sequence-length.ensures.character in
    text_more page _ _ _ _ _ _ c.first_sequence-length.ensures.split read c.loop-rest.invariant
    ∙ ap (λ text. text ++ encode_utf8_all (map (character_read page) (sequences (is_lead page) (drop c.first_sequence-length.result.0 c.loop-rest.rest.now)))) (sym c.in_ok-push.ensures.bytes)
    ∙ ap (λ rest. string_bytes c.push.new.self ++ encode_utf8_all (map (character_read page) (sequences (is_lead page) rest))) (sym c.behind-rest.ensures)
