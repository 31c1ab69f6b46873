use Rattle.std.proofs.Common.{◌∙◌, sym}
use Rattle.std.proofs.lemmas.Bool.{not-true, not-false}
use Rattle.msi_database_changes.proofs.row_keys.KeySetLemmas.{key_again, key_once, keys_more}
use Rattle.msi_database_changes.proofs.keys.distinct_keys.Goals as goal

pub loop-key-preserved-then-not-branch : goal.loop-key-preserved-then-not-branch
loop-key-preserved-then-not-branch c =
    let there = not-false _ (sym c.in_ok-insert.ensures.added ∙ c.if-not-branch.true) in
    record {
      known = keys_more c.loop-key.set c.insert.new.self c.loop-key.yielded c.in-Some.key c.loop-key.invariant.known c.in_ok-insert.ensures.updates;
      repeats = sym (key_again c.loop-key.yielded c.in-Some.key (sym (c.loop-key.invariant.known c.in-Some.key) ∙ there));
    }

pub loop-key-preserved : goal.loop-key-preserved
loop-key-preserved c =
    let absent = not-true _ (sym c.in_ok-insert.ensures.added ∙ c.if-not-branch.false) in
    record {
      known = keys_more c.loop-key.set c.insert.new.self c.loop-key.yielded c.in-Some.key c.loop-key.invariant.known c.in_ok-insert.ensures.updates;
      repeats = c.loop-key.invariant.repeats
          ∙ sym (key_once c.loop-key.yielded c.in-Some.key (sym (c.loop-key.invariant.known c.in-Some.key) ∙ absent));
    }
