use Rattle.std.proofs.Common.{◌+◌, refl}
use Rattle.std.proofs.lemmas.Map.Iter.{rest_all, rest_more}
use Rattle.std.proofs.lemmas.Result.{err_from_is_err_and}
use Rattle.std.specs.Map.Iter.{deref_pair}
use Rattle.msi_summary_properties.specs.PropertyWriting.{is_carried, section_size}
use Rattle.msi_summary_properties.proofs.PlainSectionLemmas.{value_untold, sized_rest, carried_too, accepted_all}
use Rattle.msi_summary_properties.proofs.writing.section_len.Goals as goal

pub returns-in_err-size-clause-refused : goal.returns-in_err-size-clause-refused
returns-in_err-size-clause-refused c =
    let p = err_from_is_err_and c.from_residual.result c.from_residual.ensures.1 in
    let here = rest_more deref_pair c.loop-value.value-iterator c.next.new.self c.next.result (c.in-Some.field-0-0, c.in-Some.value) c.in-Some.is c.next.ensures.steps in
    rw p.1 (value_untold c.args.page c.loop-value.size c.args.values.now.entries c.loop-value.value-iterator c.next.new.self c.in-Some.field-0-0.now c.in-Some.value.now here c.loop-value.invariant.sizes c.loop-value.invariant.carried c.in_err-size.ensures.refused)

pub loop-value-preserved : goal.loop-value-preserved
loop-value-preserved c =
    let page = c.args.page in
    let left = c.loop-value.value-iterator in
    let rest = c.next.new.self in
    let all = c.args.values.now.entries in
    let here = rest_more deref_pair left rest c.next.result (c.in-Some.field-0-0, c.in-Some.value) c.in-Some.is c.next.ensures.steps in
    record {
      few = c.if-size-ge-LONG_END.false;
      sizes = sized_rest page left rest c.in-Some.field-0-0.now c.in-Some.value.now here c.loop-value.size (c.loop-value.size + (8 + c.in_ok-size.field-0)) c.in_ok-size.field-0
          (section_size page all) c.loop-value.invariant.sizes c.in_ok-size.ensures.len refl;
      carried = carried_too page left rest c.in-Some.field-0-0.now c.in-Some.value.now here (is_carried page all) c.loop-value.invariant.carried c.in_ok-size.ensures.carried;
    }

pub returns-in_err-size-clause-accepted : goal.returns-in_err-size-clause-accepted
returns-in_err-size-clause-accepted c = let p = err_from_is_err_and c.from_residual.result c.from_residual.ensures.1 in rw p.1 tt

pub returns-in_err-size-clause-size : goal.returns-in_err-size-clause-size
returns-in_err-size-clause-size c = let p = err_from_is_err_and c.from_residual.result c.from_residual.ensures.1 in rw p.1 tt

pub returns-clause-accepted : goal.returns-clause-accepted
returns-clause-accepted c =
    let none = rest_all deref_pair c.loop-value.value-iterator c.next.new.self c.next.result c.in-None.is c.next.ensures.steps in
    accepted_all c.args.page c.loop-value.value-iterator c.args.values.now.entries none c.loop-value.size c.loop-value.invariant.sizes c.loop-value.invariant.few c.loop-value.invariant.carried
