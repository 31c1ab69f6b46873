use Rattle.std.proofs.Common.{◌≡◌, ◌++◌, [], chars, string_bytes, encode_utf8_all, sym, ap, ◌∙◌, append-nil}
use Rattle.msi_container_format.specs.StreamNames.{packed}
use Rattle.msi_container_format.proofs.TextLemmas.{characters_are}
use Rattle.msi_container_format.proofs.streamname.encode.Goals as goal

pub returns-clause-ok : goal.returns-clause-ok
returns-clause-ok c =
    let none : packed (chars c.loop-c.rest.now) ≡ [] = c.in_default.ensures in
    characters_are _ c.loop-c.encoded (
    sym (append-nil (string_bytes c.loop-c.encoded))
    ∙ ap (λ cs. string_bytes c.loop-c.encoded ++ encode_utf8_all cs) (sym none)
    ∙ c.loop-c.invariant.bytes
    )
