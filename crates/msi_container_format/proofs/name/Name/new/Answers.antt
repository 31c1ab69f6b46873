use Rattle.std.proofs.Common.{◌∙◌, ◌++◌, ap, sym, length-set, arith}
use Rattle.std.proofs.lemmas.List.{length-take-le, take_more_set}
use Rattle.msi_container_format.specs.Names.{is_text, is_name_length}
use Rattle.msi_container_format.proofs.Utf16Lemmas.{units_left, count_taken_all, is_text_of_text, units_past_31, units_taken_all, units_taken_more, utf8_left, within_31}
use Rattle.msi_container_format.proofs.name.Name.new.Goals as goal

pub returns-then-len-eq-MAX_UNITS-clause-accepted :
    goal.returns-then-len-eq-MAX_UNITS-clause-accepted
returns-then-len-eq-MAX_UNITS-clause-accepted c =
    units_past_31 _ _ c.loop-unit.unit-iterator c.next.new.self c.in-Some.unit
    (length-take-le c.loop-unit.len c.loop-unit.units (omega arith) ∙ c.if-len-eq-MAX_UNITS.true)
    c.loop-unit.invariant.utf8 c.in-Some.ensures.steps c.loop-unit.invariant.units

pub loop-unit-preserved : goal.loop-unit-preserved
loop-unit-preserved c = record {
  few = omega arith;
  room = length-set c.loop-unit.units c.loop-unit.len c.in-Some.unit ∙ c.loop-unit.invariant.room;
  utf8 = utf8_left c.loop-unit.unit-iterator c.next.new.self c.in-Some.unit c.loop-unit.invariant.utf8 c.in-Some.ensures.steps;
  units =
      ap (λ ws. ws ++ units_left c.next.new.self) (take_more_set c.loop-unit.units c.loop-unit.len c.in-Some.unit (omega arith))
      ∙ units_taken_more _ _ c.loop-unit.unit-iterator c.next.new.self c.in-Some.unit c.loop-unit.invariant.utf8 c.in-Some.ensures.steps c.loop-unit.invariant.units;
}

pub returns-then-len-eq0-clause-accepted : goal.returns-then-len-eq0-clause-accepted
returns-then-len-eq0-clause-accepted c =
    let count = count_taken_all c.loop-unit.units _ c.loop-unit.len c.loop-unit.unit-iterator c.next.new.self (omega arith) c.in-None.ensures.steps c.loop-unit.invariant.units in
    ap is_name_length (sym (count ∙ c.if-len-eq0.true))

pub invariant_of-result : goal.invariant_of-result
invariant_of-result c =
    (omega arith, omega arith, ap is_text (units_taken_all _ _ c.loop-unit.unit-iterator c.next.new.self c.in-None.ensures.steps c.loop-unit.invariant.units) ∙ is_text_of_text c.args.text.now c.utf8.text)

pub returns-clause-ok : goal.returns-clause-ok
returns-clause-ok c = units_taken_all _ _ c.loop-unit.unit-iterator c.next.new.self c.in-None.ensures.steps c.loop-unit.invariant.units

pub returns-clause-accepted : goal.returns-clause-accepted
returns-clause-accepted c =
    let count = count_taken_all c.loop-unit.units _ c.loop-unit.len c.loop-unit.unit-iterator c.next.new.self (omega arith) c.in-None.ensures.steps c.loop-unit.invariant.units in
    within_31 c.loop-unit.len c.if-len-eq0.false c.loop-unit.invariant.few ∙ ap is_name_length (sym count)
