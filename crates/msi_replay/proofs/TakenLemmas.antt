-- What a package's calls ensure is what a call takes.
use Rattle.std.proofs.Common.{◌≡◌, ℕ, true, false, Option, None, Result, Ok, Err, refl, sym, ap, subst, ◌∙◌}
use Rattle.std.specs.Prelude.{IfErr, IsTrue, OnErr, OnOk}
use Rattle.msi.specs.Text.ErrorKind.{ErrorKind}
use Rattle.msi.specs.Query.Refusals.{AnswersWith, Refusals, IsRefusal, first_refusal, unless_refused}
use Rattle.msi.specs.Query.Queries.{Query}
use Rattle.msi.specs.Query.Selection.{Relation, relation_of}
use Rattle.msi.specs.Database.Changes.{Change}
use Rattle.msi.specs.Database.Database.{values_of}
use Rattle.msi.specs.State.{State}
use Rattle.msi.specs.Calls.{Call, Answer}
use Rattle.msi.specs.Calls as calls
use Rattle.msi.specs.Steps.{Lends, Step, changed, is_lending, leaving, leaving_or, may_want_memory, outcome, refused_early}
use Rattle.msi.specs.Whole.{Leaves, Whole, with_state}
use Rattle.msi.proofs.writing.FlushStepLemmas.{answers_as}
use Rattle.msi.proofs.calls_in_turn.CallLemmas.{change_done, change_refused, left_done, left_refused, lent, says_more, unanswered}
use Rattle.msi_replay.specs.Taken.{Takes}
use Rattle.msi_replay.specs.Told.{told}

-- what was done answers so
abbrev pub was_done : Result (Unit {0}) ErrorKind → Result Answer ErrorKind
was_done answer = told (λ _. calls.done) answer

-- CHANGING

module _ (old new : Whole) (call : Call) (plain : says_more call ≡ false) where
  pub change_takes : (wants : IsTrue (may_want_memory old.state call)) (r : Result Change ErrorKind)
      → ((n : ℕ) → outcome n old.state call ≡ changed old.state r) → (answer : Result (Unit {0}) ErrorKind)
      → OnOk answer (Leaves old r new) → OnErr answer (new ≡ old) → IfErr answer (IsRefusal r) → AnswersWith (refused_early old.state call) answer
      → Takes old call (was_done answer) new
  change_takes wants (Ok c) is (Ok u) left same kind early = record {
    step = λ n. change_done n old.state call (Ok c) plain wants (is n) new.state c refl (ap (λ (w : Whole). w.state) left);
    held = ap (λ (w : Whole). w.held) left;
    failed = ap (λ (w : Whole). w.failed) left;
  }
  change_takes wants (Err k) is (Ok u) left same kind early = absurd left
  change_takes wants r is (Err k) left same kind early = record {
    step = λ n. change_refused n old.state call r plain wants (is n) new.state k kind (ap (λ (w : Whole). w.state) same)
        (answers_as (Unit {0}) Answer (refused_early old.state call) k early);
    held = ap (λ (w : Whole). w.held) same;
    failed = ap (λ (w : Whole). w.failed) same;
  }

  pub left_takes : (refusals : Refusals) (next : State) → ((n : ℕ) → outcome n old.state call ≡ leaving old.state refusals next)
      → (answer : Result (Unit {0}) ErrorKind) → answer ≡ unless_refused refusals tt
      → OnOk answer (new ≡ with_state next old) → OnErr answer (new ≡ old) → Takes old call (was_done answer) new
  left_takes refusals next is (Ok u) e left same = record {
    step = λ n. left_done n old.state call tt refusals next plain (is n) new.state u (sym e) (ap (λ (w : Whole). w.state) left);
    held = ap (λ (w : Whole). w.held) left;
    failed = ap (λ (w : Whole). w.failed) left;
  }
  left_takes refusals next is (Err k) e left same = record {
    step = λ n. left_refused n old.state call tt refusals next plain (is n) new.state k (sym e) (ap (λ (w : Whole). w.state) same);
    held = ap (λ (w : Whole). w.held) same;
    failed = ap (λ (w : Whole). w.failed) same;
  }

-- ASKING

pub select_refused : (A : Type 0) (w : Whole) (query : Query) (kind said : ErrorKind) → IsRefusal (relation_of (values_of w.state.kept.database) query) kind
    → AnswersWith {A = A} (refused_early w.state (calls.select_rows query)) (Err kind) → said ≡ kind → Takes w (calls.select_rows query) (Err said) w
select_refused A w query kind said refused early is = record {
  step = λ n. subst (λ (k : ErrorKind). Step n w.state (calls.select_rows query) (Err k) w.state) (sym is)
      (unanswered n w.state (calls.select_rows query) (λ (r : Relation). calls.rows_are r.columns r.rows) (relation_of (values_of w.state.kept.database) query) refl refl refl kind refused
      (answers_as A Answer (refused_early w.state (calls.select_rows query)) kind early));
  held = refl;
  failed = refl;
}

-- another view of the same answer
pub takes_as : (old new : Whole) (call : Call) (a b : Result Answer ErrorKind) → b ≡ a → Takes old call a new → Takes old call b new
takes_as old new call a b is t = subst (λ (x : Result Answer ErrorKind). Takes old call x new) (sym is) t

-- LENDING

leaving_ok : (s next : State) (o : Option ErrorKind) → o ≡ None → leaving_or o s next ≡ (Ok calls.done, next)
leaving_ok s next o e = ap (λ (o : Option ErrorKind). leaving_or o s next) e

module _ (old new : Whole) (call : Call) (lends : is_lending call ≡ true) (refusals : Refusals) (next : State)
    (is : (n : ℕ) → outcome n old.state call ≡ leaving old.state refusals next) where
  pub lent_takes : (answer : Answer) → first_refusal refusals ≡ None → Lends next call answer new.state
      → new.held ≡ old.held → new.failed ≡ old.failed → Takes old call (Ok answer) new
  lent_takes answer accepted l held failed = record {
    step = λ n. lent n old.state call next new.state answer lends (is n ∙ leaving_ok old.state next (first_refusal refusals) accepted) l;
    held = held;
    failed = failed;
  }
