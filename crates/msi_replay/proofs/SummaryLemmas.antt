-- What a summary's functions leave is what calls on it give.
use Rattle.std.proofs.Common.{◌≡◌, Result, Ok, Err, refl, sym, ap, ◌∙◌, inl, inr}
use Rattle.std.specs.Prelude.{IfErr, IfOk, IsTrue, OnErr, OnOk}
use Rattle.msi.specs.Text.ErrorKind.{ErrorKind}
use Rattle.msi.specs.Text.ErrorKind.TheVariants.{OutOfMemory}
use Rattle.msi.specs.Summary.Properties.{Properties}
use Rattle.msi.specs.Summary.SummaryProperty.{SummaryProperty}
use Rattle.msi.specs.Summary.Summary.{cleared, is_set_empty}
use Rattle.msi.specs.Calls.{SummaryAnswer, SummaryCall}
use Rattle.msi.specs.Calls as calls
use Rattle.msi.specs.Lent.{Gives, question_wants_memory, said_of, summary_after, summary_outcome, summary_wants_memory}
use Rattle.msi_replay.specs.declared.answer.SummaryAnswer.{SummaryAnswer as Said}
use Rattle.msi_replay.specs.declared.call.Setting.{Setting}
use Rattle.msi_replay.specs.declared.call.Setting.TheVariants as set
use Rattle.msi_replay.specs.Sent.{setting_sent}
use Rattle.msi_replay.specs.Told.{summary_answer, told}

-- a question
pub ask_gives : (s : Properties) (q : SummaryProperty) (answer : Result Said ErrorKind)
    → IfOk answer (λ said. summary_answer said ≡ said_of s q)
    → IfErr answer (λ kind. IsTrue (question_wants_memory q) × (kind ≡ OutOfMemory))
    → Gives (summary_outcome s (calls.ask q)) (summary_wants_memory (calls.ask q)) s (told summary_answer answer) s
ask_gives s q (Ok said) is refused = inl (ap (λ (a : SummaryAnswer). (Ok a, s)) (sym is))
ask_gives s q (Err kind) is refused = inr (refused.0, ap Err refused.1, refl)

-- a change: its outcome is that it was done
module _ (old new : Properties) (call : SummaryCall) (done : summary_outcome old call ≡ (Ok calls.done, summary_after old call)) where
  pub change_gives : (answer : Result (Unit {0}) ErrorKind) → OnOk answer (new ≡ summary_after old call)
      → IfErr answer (λ kind. IsTrue (summary_wants_memory call) × (kind ≡ OutOfMemory)) → OnErr answer (new ≡ old)
      → (told_answer : Result Said ErrorKind) → told summary_answer told_answer ≡ told (λ (u : Unit {0}). calls.done) answer
      → Gives (summary_outcome old call) (summary_wants_memory call) old (told summary_answer told_answer) new
  change_gives (Ok u) after kind same a is = inl (done ∙ ap (λ (s : Properties). (Ok calls.done, s)) (sym after)
      ∙ ap (λ (r : Result SummaryAnswer ErrorKind). (r, new)) (sym is))
  change_gives (Err k) after kind same a is = inr (kind.0, is ∙ ap Err kind.1, same)

-- as functions answer
pub said_gives : (s : Properties) (q : SummaryProperty) (r : Result (Result Said ErrorKind) ErrorKind)
    → IfOk r (λ answer. IfOk answer (λ said. summary_answer said ≡ said_of s q))
    → IfOk r (λ answer. IfErr answer (λ kind. IsTrue (question_wants_memory q) × (kind ≡ OutOfMemory)))
    → IfOk r (λ answer. Gives (summary_outcome s (calls.ask q)) (summary_wants_memory (calls.ask q)) s (told summary_answer answer) s)
said_gives s q (Ok answer) is refused = ask_gives s q answer is refused
said_gives s q (Err kind) is refused = tt

setting_done : (old : Properties) (s : Setting) → summary_outcome old (setting_sent s) ≡ (Ok calls.done, summary_after old (setting_sent s))
setting_done old (set.Text p text) = refl
setting_done old (set.Number p n) = refl
setting_done old (set.Time p ticks) = refl
setting_done old (set.Arch text) = refl
setting_done old (set.Languages ids) = refl
setting_done old (set.Keywords words) = refl
setting_done old (set.Uuid id) = refl
setting_done old (set.Codepage page) = refl

setting_wants : (s : Setting) → IsTrue (summary_wants_memory (setting_sent s))
setting_wants (set.Text p text) = refl
setting_wants (set.Number p n) = refl
setting_wants (set.Time p ticks) = refl
setting_wants (set.Arch text) = refl
setting_wants (set.Languages ids) = refl
setting_wants (set.Keywords words) = refl
setting_wants (set.Uuid id) = refl
setting_wants (set.Codepage page) = refl

only_memory : (P : Type 0) → P → (answer : Result (Unit {0}) ErrorKind) → IfErr answer (λ kind. kind ≡ OutOfMemory)
    → IfErr answer (λ kind. P × (kind ≡ OutOfMemory))
only_memory P p (Ok u) kind = tt
only_memory P p (Err k) kind = (p, kind)

pub set_gives : (old new : Properties) (s : Setting) (answer : Result (Unit {0}) ErrorKind)
    → OnOk answer (new ≡ summary_after old (setting_sent s)) → IfErr answer (λ kind. kind ≡ OutOfMemory) → OnErr answer (new ≡ old)
    → (said : Result Said ErrorKind) → told summary_answer said ≡ told (λ (u : Unit {0}). calls.done) answer
    → Gives (summary_outcome old (setting_sent s)) (summary_wants_memory (setting_sent s)) old (told summary_answer said) new
set_gives old new s answer after kind same said is =
    change_gives old new (setting_sent s) (setting_done old s) answer after
    (only_memory (IsTrue (summary_wants_memory (setting_sent s))) (setting_wants s) answer kind) same said is

pub clear_gives : (old new : Properties) (q : SummaryProperty) (answer : Result (Unit {0}) ErrorKind)
    → OnOk answer (new ≡ cleared q old) → IfErr answer (λ kind. IsTrue (is_set_empty q) × (kind ≡ OutOfMemory)) → OnErr answer (new ≡ old)
    → (said : Result Said ErrorKind) → told summary_answer said ≡ told (λ (u : Unit {0}). calls.done) answer
    → Gives (summary_outcome old (calls.clear q)) (summary_wants_memory (calls.clear q)) old (told summary_answer said) new
clear_gives old new q answer after kind same said is = change_gives old new (calls.clear q) refl answer after kind same said is
