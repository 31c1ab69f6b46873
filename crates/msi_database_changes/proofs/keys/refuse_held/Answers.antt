use Rattle.std.proofs.Common.{[], ◌≡◌, ◌∙◌, ◌<◌, get_or, length, map, sym, ap, arith, List}
use Rattle.std.proofs.lemmas.Bool.{not-true, not-false}
use Rattle.std.proofs.lemmas.List.{length-map}
use Rattle.msi_base.specs.declared.errors.ErrorKind.TheVariants.{AlreadyExists, InvalidInput}
use Rattle.msi_table_values.specs.declared.value.Value.{Value}
use Rattle.msi_database_changes.specs.KeySets.{key_refusals}
use Rattle.msi_table_cells.specs.KeyOrder.{key_of}
use Rattle.msi_database_changes.proofs.row_keys.KeySetLemmas.{again_refused, held_refused, key_at, key_passes, keys_more, keys_to, refused}
use Rattle.msi_database_changes.proofs.keys.refuse_held.Goals as goal

pub returns-then-contains-clause-kind : goal.returns-then-contains-clause-kind
returns-then-contains-clause-kind c = λ keys has.
    let key = c.in_ok-key.key in
    let i = c.loop-row.row-index in
    let all : List (List Value) = map (key_of c.args.columns.now) c.args.new_rows.now in
    let inside : i < length all = rw length-map (omega arith) in
    let at : get_or all i key ≡ key = key_at c.args.columns.now c.args.new_rows.now i c.row-item.result key (omega arith) c.row-item.is
    (c.in_ok-key.ensures.ok ∙ ap (key_of c.args.columns.now) c.as_slice.ensures) in
    rw c.new.ensures (refused (key_refusals keys [] all) AlreadyExists
    (c.loop-row.invariant.passed keys has ∙ held_refused keys all i key inside at (sym (has key) ∙ sym c.contains.ensures ∙ c.if-contains.true)))

pub returns-then-not-branch-clause-kind : goal.returns-then-not-branch-clause-kind
returns-then-not-branch-clause-kind c = λ keys has.
    let key = c.in_ok-key.key in
    let i = c.loop-row.row-index in
    let all : List (List Value) = map (key_of c.args.columns.now) c.args.new_rows.now in
    let inside : i < length all = rw length-map (omega arith) in
    let at : get_or all i key ≡ key = key_at c.args.columns.now c.args.new_rows.now i c.row-item.result key (omega arith) c.row-item.is
    (c.in_ok-key.ensures.ok ∙ ap (key_of c.args.columns.now) c.as_slice.ensures) in
    let there = not-false _ (sym c.in_ok-insert.ensures.added ∙ c.if-not-branch.true) in
    rw c.new-then-not-branch.ensures (refused (key_refusals keys [] all) InvalidInput
    (c.loop-row.invariant.passed keys has ∙ again_refused keys all i key inside at
    (sym (has key) ∙ sym c.contains.ensures ∙ c.if-contains.false) (sym (c.loop-row.invariant.known key) ∙ there)))

pub loop-row-preserved : goal.loop-row-preserved
loop-row-preserved c =
    let key = c.in_ok-key.key in
    let i = c.loop-row.row-index in
    let all : List (List Value) = map (key_of c.args.columns.now) c.args.new_rows.now in
    let inside : i < length all = rw length-map (omega arith) in
    let at : get_or all i key ≡ key = key_at c.args.columns.now c.args.new_rows.now i c.row-item.result key (omega arith) c.row-item.is
    (c.in_ok-key.ensures.ok ∙ ap (key_of c.args.columns.now) c.as_slice.ensures) in
    let absent = not-true _ (sym c.in_ok-insert.ensures.added ∙ c.if-not-branch.false) in
    record {
      known = keys_to c.insert.new.self all i key inside at (keys_more c.loop-row.earlier c.insert.new.self _ key c.loop-row.invariant.known c.in_ok-insert.ensures.updates);
      passed = λ keys has. c.loop-row.invariant.passed keys has ∙ key_passes keys all i key inside at
          (sym (has key) ∙ sym c.contains.ensures ∙ c.if-contains.false) (sym (c.loop-row.invariant.known key) ∙ absent);
    }
