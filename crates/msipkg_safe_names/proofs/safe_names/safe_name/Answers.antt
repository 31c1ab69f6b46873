use Rattle.std.proofs.Common.{◌-◌, ap, ◌∙◌, chars, string_bytes}
use Rattle.std.proofs.lemmas.Iterator.{YieldsList-from_chars}
use Rattle.std.proofs.lemmas.Iterator.Consumers.{YieldsList-at, YieldsList-end, YieldsList-from_enumerate, count_from_yields_List}
use Rattle.msipkg_safe_names.proofs.SafeNamesLemmas.{placed_more, safe_inside, safe_is}
use Rattle.msipkg_safe_names.proofs.safe_names.safe_name.Goals as goal

pub loop-place-preserved : goal.loop-place-preserved
loop-place-preserved c =
    let count = count_from_yields_List c.chars.result c.count.result c.count.ensures.ran (YieldsList-from_chars c.args.name.now c.utf8.name c.chars.ensures.rest) in
    placed_more c.args.name.now c.loop-place.yielded c.in-Some.place c.in-Some.c c.saturating_sub-last.result c.names_device-is_device.result c.may_stand.result
    (string_bytes c.loop-place.safe) (string_bytes c.push_spelled.new.safe) (c.saturating_sub-last.ensures ∙ ap (λ n. n - 1) count) c.names_device-is_device.ensures c.may_stand.ensures
    c.loop-place.invariant c.in_ok-push_spelled.ensures

pub finished-requires : goal.finished-requires
finished-requires c =
    let road = YieldsList-from_enumerate (YieldsList-at c.enumerate-place-items.ensures.source (YieldsList-from_chars c.args.name.now c.utf8.name c.chars-2.ensures.rest)) c.enumerate-place-items.ensures.count in
    let all = YieldsList-end (YieldsList-at c.into_iter-place-iterator.ensures.into_iter_gives road) c.loop-place.yielded _ c.loop-place.yielded_by _ _ c.in-None.is c.next.ensures.steps in
    safe_inside c.args.name.now c.loop-place.yielded (string_bytes c.loop-place.safe) all.0 c.loop-place.invariant

pub returns : goal.returns
returns c =
    let road = YieldsList-from_enumerate (YieldsList-at c.enumerate-place-items.ensures.source (YieldsList-from_chars c.args.name.now c.utf8.name c.chars-2.ensures.rest)) c.enumerate-place-items.ensures.count in
    let all = YieldsList-end (YieldsList-at c.into_iter-place-iterator.ensures.into_iter_gives road) c.loop-place.yielded _ c.loop-place.yielded_by _ _ c.in-None.is c.next.ensures.steps in
    safe_is c.finished.result c.args.name.now c.loop-place.yielded (string_bytes c.loop-place.safe) all.0 c.loop-place.invariant c.finished.ensures
