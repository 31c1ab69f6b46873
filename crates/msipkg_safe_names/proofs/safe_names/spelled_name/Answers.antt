use Rattle.std.proofs.Common.{◌++◌, ap, ◌∙◌, string_bytes}
use Rattle.std.proofs.lemmas.Iterator.{YieldsList-from_chars}
use Rattle.std.proofs.lemmas.Iterator.Consumers.{YieldsList-end}
use Rattle.msipkg_safe_names.specs.SafeNames.{spelled, stands_anywhere}
use Rattle.msipkg_safe_names.proofs.SafeNamesLemmas.{one_more, spelled_inside, spelled_is}
use Rattle.msipkg_safe_names.proofs.safe_names.spelled_name.Goals as goal

pub loop-c-preserved : goal.loop-c-preserved
loop-c-preserved c =
    let safe = string_bytes c.loop-c.spelled in
    one_more (λ c. spelled (stands_anywhere c) c) c.loop-c.yielded c.in-Some.c safe (string_bytes c.push_spelled.new.safe) c.loop-c.invariant
    (c.in_ok-push_spelled.ensures ∙ ap (λ may. safe ++ spelled may c.in-Some.c) c.may_stand_anywhere.ensures)

pub finished-requires : goal.finished-requires
finished-requires c = spelled_inside c.loop-c.yielded (string_bytes c.loop-c.spelled) c.loop-c.invariant

pub returns : goal.returns
returns c =
    let all = YieldsList-end (YieldsList-from_chars c.args.name.now c.utf8.name cc) c.loop-c.yielded _ c.loop-c.yielded_by _ _ c.in-None.is c.next.ensures.steps in
    spelled_is c.finished.result c.args.name.now c.loop-c.yielded (string_bytes c.loop-c.spelled) all.0 c.loop-c.invariant c.finished.ensures
