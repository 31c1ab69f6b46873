use Rattle.std.proofs.Common.{◌∙◌, List, ap}
use Rattle.std.specs.FinMap.{entries}
use Rattle.std.specs.List.{list_all}
use Rattle.msi_transform_applying.specs.AnewInHand.{changed_in_hand}
use Rattle.msi_transform_applying.specs.Applying.{finished}
use Rattle.msi_transform_applying.specs.ExpectedStreams.{Expected, is_met}
use Rattle.msi_transform_applying.specs.LeftInHand.{base_of}
use Rattle.msi_transform_applying.proofs.AgreeingLemmas.{checked}
use Rattle.msi_transform_applying.proofs.FinishedLemmas.{IsStored, handed_on, is_finished, is_refused_for_streams, is_refused_for_texts}
use Rattle.msi_transform_applying.proofs.leaving.leave.Goals as goal

pub returns-clause-ok : goal.returns-clause-ok
returns-clause-ok c = let s = c.args.change.now in let changed = changed_in_hand c.args.changed in let left = c.in_ok-left.left in
    let stored : IsStored (base_of s) s.by changed left.pool (entries left.streams) c.in_ok-expected.expected.items = record {
      old = c.args.changed.tables.pool.pool;
      by = c.transform.result.now;
      under = entries c.args.under;
      page = c.requires.page;
      long = c.requires.long;
      same = c.transform.ensures;
      pool_is = c.in_ok-left.ensures.pool;
      streams_are = c.in_ok-left.ensures.streams;
      under_is = c.requires.under;
      expected_are = c.in_ok-expected.ensures.ok;
    } in
    is_finished (base_of s) s.by changed left.pool (entries left.streams) c.in_ok-expected.expected.items stored
    (c.in_ok-check_expected.ensures ∙ ap (λ (es : List Expected). checked (list_all (is_met (entries left.streams)) es)) c.as_slice.ensures.value)
    c.in_ok-check_texts.ensures

pub returns-in_err-check_expected-clause-kind : goal.returns-in_err-check_expected-clause-kind
returns-in_err-check_expected-clause-kind c = let s = c.args.change.now in let changed = changed_in_hand c.args.changed in let left = c.in_ok-left.left in
    let stored : IsStored (base_of s) s.by changed left.pool (entries left.streams) c.in_ok-expected.expected.items = record {
      old = c.args.changed.tables.pool.pool;
      by = c.transform.result.now;
      under = entries c.args.under;
      page = c.requires.page;
      long = c.requires.long;
      same = c.transform.ensures;
      pool_is = c.in_ok-left.ensures.pool;
      streams_are = c.in_ok-left.ensures.streams;
      under_is = c.requires.under;
      expected_are = c.in_ok-expected.ensures.ok;
    } in
    handed_on c.from_residual-in_err-check_expected.result c.in_err-check_expected.field-0.0 (finished (base_of s) s.by changed) c.from_residual-in_err-check_expected.ensures.1
    (is_refused_for_streams (base_of s) s.by changed left.pool (entries left.streams) c.in_ok-expected.expected.items stored c.in_err-check_expected.field-0.0
    (c.in_err-check_expected.ensures ∙ ap (λ (es : List Expected). checked (list_all (is_met (entries left.streams)) es)) c.as_slice.ensures.value))

pub returns-in_err-check_texts-clause-kind : goal.returns-in_err-check_texts-clause-kind
returns-in_err-check_texts-clause-kind c = let s = c.args.change.now in let changed = changed_in_hand c.args.changed in let left = c.in_ok-left.left in
    let stored : IsStored (base_of s) s.by changed left.pool (entries left.streams) c.in_ok-expected.expected.items = record {
      old = c.args.changed.tables.pool.pool;
      by = c.transform.result.now;
      under = entries c.args.under;
      page = c.requires.page;
      long = c.requires.long;
      same = c.transform.ensures;
      pool_is = c.in_ok-left.ensures.pool;
      streams_are = c.in_ok-left.ensures.streams;
      under_is = c.requires.under;
      expected_are = c.in_ok-expected.ensures.ok;
    } in
    handed_on c.from_residual-in_err-check_texts.result c.in_err-check_texts.field-0.0 (finished (base_of s) s.by changed) c.from_residual-in_err-check_texts.ensures.1
    (is_refused_for_texts (base_of s) s.by changed left.pool (entries left.streams) c.in_ok-expected.expected.items stored c.in_err-check_texts.field-0.0
    (c.in_ok-check_expected.ensures ∙ ap (λ (es : List Expected). checked (list_all (is_met (entries left.streams)) es)) c.as_slice.ensures.value)
    c.in_err-check_texts.ensures)
