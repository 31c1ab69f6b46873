use Rattle.std.proofs.Common.{◌∷◌, chars, arith, sym, ap, ◌∙◌}
use Rattle.msi_container_format.specs.StreamNames.{table_mark}
use Rattle.msi_container_format.proofs.TextLemmas.{chars_from_prefix, first_from_no_prefix}
use Rattle.msi_container_format.proofs.UnpackingLemmas.{decoded_marked, decoded_plain}
use Rattle.msi_container_format.proofs.streamname.decode.Goals as goal

pub returns-in_ok-unpack-in-Some-clause-ok : goal.returns-in_ok-unpack-in-Some-clause-ok
returns-in_ok-unpack-in-Some-clause-ok c =
    let (n, mark, rest, len) = c.in-Some.ensures.cases in
    decoded_marked (chars c.args.name.now) (chars c.in-Some.rest.now) _ (chars_from_prefix c.args.name.now table_mark n c.utf8.name mark ∙ ap (λ bs. table_mark ∷ chars bs) (sym rest)) c.in_ok-unpack-in-Some.ensures.ok

pub returns-in_ok-unpack-in-None-clause-ok : goal.returns-in_ok-unpack-in-None-clause-ok
returns-in_ok-unpack-in-None-clause-ok c =
    decoded_plain (chars c.args.name.now) _ (first_from_no_prefix c.args.name.now table_mark (omega arith) c.utf8.name c.in-None.ensures.cases) c.in_ok-unpack-in-None.ensures.ok
