use Rattle.std.proofs.Common.{◌++◌}
use Rattle.std.proofs.lemmas.Map.Iter.{rest_all, rest_more}
use Rattle.std.proofs.lemmas.Result.{err_from_is_err_and}
use Rattle.std.specs.Map.Iter.{deref_pair}
use Rattle.msi_summary_properties.specs.PropertyWriting.{joined_pieces}
use Rattle.msi_summary_properties.proofs.PlainSectionLemmas.{told_at, carried_rest, room_rest, written_rest, written_all}
use Rattle.msi_summary_properties.proofs.writing.push_values.Goals as goal

pub push_piece-requires : goal.push_piece-requires
push_piece-requires c =
    let here = rest_more deref_pair c.loop-value.value-iterator c.next.new.self c.next.result (c.in-Some.field-0-0, c.in-Some.value) c.in-Some.is c.next.ensures.steps in
    told_at c.args.page c.loop-value.value-iterator c.next.new.self c.in-Some.field-0-0.now c.in-Some.value.now here c.loop-value.invariant.carried c.loop-value.invariant.room

pub loop-value-preserved : goal.loop-value-preserved
loop-value-preserved c =
    let page = c.args.page in
    let left = c.loop-value.value-iterator in
    let rest = c.next.new.self in
    let here = rest_more deref_pair left rest c.next.result (c.in-Some.field-0-0, c.in-Some.value) c.in-Some.is c.next.ensures.steps in
    record {
      carried = carried_rest page left rest c.in-Some.field-0-0.now c.in-Some.value.now here c.loop-value.invariant.carried;
      room = room_rest page left rest c.in-Some.field-0-0.now c.in-Some.value.now here c.loop-value.invariant.room;
      written = written_rest page left rest c.in-Some.field-0-0.now c.in-Some.value.now here c.loop-value.held.items c.push_piece.new.held.items
          (c.args.held.now.items ++ joined_pieces page c.args.values.now.entries) c.loop-value.invariant.written c.in_ok-push_piece.ensures.ok;
    }

pub returns-in_err-push_piece-clause-ok : goal.returns-in_err-push_piece-clause-ok
returns-in_err-push_piece-clause-ok c = let p = err_from_is_err_and c.from_residual.result c.from_residual.ensures.1 in rw p.1 tt

pub returns-clause-ok : goal.returns-clause-ok
returns-clause-ok c =
    let none = rest_all deref_pair c.loop-value.value-iterator c.next.new.self c.next.result c.in-None.is c.next.ensures.steps in
    written_all c.args.page c.loop-value.value-iterator c.args.values.now.entries none c.loop-value.held.items
    (c.args.held.now.items ++ joined_pieces c.args.page c.args.values.now.entries) c.loop-value.invariant.written
