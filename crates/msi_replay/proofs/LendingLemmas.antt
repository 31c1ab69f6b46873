-- What calls on what a package lends, and what it selects, are to the package.
use Rattle.std.proofs.Common.{◌≡◌, None, List, map, Result, Ok, refl, ap, subst}
use Rattle.msi.specs.Text.ErrorKind.{ErrorKind}
use Rattle.msi.specs.Summary.Properties.{Properties}
use Rattle.msi.specs.Summary.SummaryProperty.{SummaryProperty}
use Rattle.msi.specs.Query.Refusals.{first_refusal}
use Rattle.msi.specs.State.{parts_of}
use Rattle.msi.specs.Calls.{SummaryAnswer, SummaryCall}
use Rattle.msi.specs.Calls as calls
use Rattle.msi.specs.Lent.{RunsTo, summary_outcome, summary_wants_memory}
use Rattle.msi.specs.Steps.{storage_refusal, with_lent_summary, with_summary_calls}
use Rattle.msi.specs.Whole.{Whole, with_state}
use Rattle.msi.proofs.calls_in_turn.CallLemmas.{lent}
use Rattle.msi_replay.specs.Taken.{Takes}
use Rattle.msi_replay.proofs.TakenLemmas.{lent_takes}

-- THE SUMMARY

pub asked_takes : (w : Whole) (start : Properties) (questions : List SummaryProperty) (answers : List (Result SummaryAnswer ErrorKind))
    → start ≡ w.state.summary
    → RunsTo summary_outcome summary_wants_memory start (map calls.ask questions) answers start
    → Takes w (calls.summary_info questions) (Ok (calls.summary_says answers)) w
asked_takes w start questions answers is runs = record {
  step = λ n. lent n w.state (calls.summary_info questions) w.state w.state (calls.summary_says answers) refl refl (
    w.state.summary,
    subst (λ (s : Properties). RunsTo summary_outcome summary_wants_memory s (map calls.ask questions) answers s) is runs,
    refl,
  );
  held = refl;
  failed = refl;
}

module _ (old new : Whole) (sent : List SummaryCall) where
  pub summary_takes : (start left : Properties) (answers : List (Result SummaryAnswer ErrorKind))
      → first_refusal (storage_refusal (parts_of old.state)) ≡ None → start ≡ old.state.summary
      → RunsTo summary_outcome summary_wants_memory start sent answers left
      → new ≡ with_state (with_summary_calls left (with_lent_summary old.state)) old
      → Takes old (calls.summary_info_mut sent) (Ok (calls.summary_says answers)) new
  summary_takes start left answers accepted is runs ends =
      lent_takes old new (calls.summary_info_mut sent) refl (storage_refusal (parts_of old.state)) (with_lent_summary old.state) (λ n. refl)
      (calls.summary_says answers) accepted
      (left, subst (λ (s : Properties). RunsTo summary_outcome summary_wants_memory s sent answers left) is runs, ap (λ (w : Whole). w.state) ends)
      (ap (λ (w : Whole). w.held) ends) (ap (λ (w : Whole). w.failed) ends)
