-- Calls on a package one after another are a run.
use Rattle.std.proofs.Common.{◌≡◌, false, List, [], ◌∷◌, ◌++◌, map, length, Option, Result, Ok, Err, refl, sym, ap, subst, ◌∙◌}
use Rattle.std.proofs.lemmas.List.{map-append}
use Rattle.std.specs.Prelude.{IfOk, OnOk, is_some, unwrap_or}
use Rattle.msi.specs.Text.ErrorKind.{ErrorKind}
use Rattle.msi.specs.Container.Held.{Held, bytes_told}
use Rattle.msi.specs.Calls.{Call, Answer}
use Rattle.msi.specs.Runs.{FitsCall, Run, Session, SessionStep}
use Rattle.msi.specs.Whole.{Whole}
use Rattle.msi.proofs.calls_in_turn.CallLemmas.{asks_device, session_is}
use Rattle.msi.proofs.packages.LeavingLemmas.{is_flush}
use Rattle.msi_replay.specs.Taken.{Takes, Tells, session_at}
use Rattle.msi_replay.specs.Told.{told}

run_then : (old mid new : Session) (cs : List Call) (c : Call) (answers : List (Result Answer ErrorKind)) (a : Result Answer ErrorKind)
    → Run old cs answers mid → SessionStep mid c a new → Run old (cs ++ c ∷ []) (answers ++ a ∷ []) new
run_then old mid new [] c [] a same step = (new, subst (λ (s : Session). SessionStep s c a new) same step, refl)
run_then old mid new [] c (b ∷ bs) a run step = absurd run
run_then old mid new (d ∷ ds) c [] a run step = absurd run
run_then old mid new (d ∷ ds) c (b ∷ bs) a run step = (run.0, run.1, run_then run.0 mid new ds c bs a run.2 step)

-- calls and answers seen by views
module _ {X Y : Type 0} (sent : X → Call) (view : Y → Answer) where
  pub run_with : (old mid new : Session) (xs : List X) (x : X) (ys : List (Result Y ErrorKind)) (y : Result Y ErrorKind)
      → Run old (map sent xs) (map (told view) ys) mid → SessionStep mid (sent x) (told view y) new
      → Run old (map sent (xs ++ x ∷ [])) (map (told view) (ys ++ y ∷ [])) new
  run_with old mid new xs x ys y run step =
      subst (λ (cs : List Call). Run old cs (map (told view) (ys ++ y ∷ [])) new) (sym (map-append sent xs (x ∷ [])))
      (subst (λ (answers : List (Result Answer ErrorKind)). Run old (map sent xs ++ sent x ∷ []) answers new)
      (sym (map-append (told view) ys (y ∷ [])))
      (run_then old mid new (map sent xs) (sent x) (map (told view) ys) (told view y) run step))

-- what calls no device is a step of the session
pub session_takes : (old new : Whole) (call : Call) (a : Result Answer ErrorKind) → is_flush call ≡ false → asks_device call ≡ false
    → Takes old call a new → SessionStep (session_at old) call a (session_at new)
session_takes old new call a f d t =
    session_is (session_at old) (session_at new) call a f d (t.step (length (session_at old).held))
    (ap (λ (h : Option Held). unwrap_or (bytes_told h) []) t.held, t.failed)

pub tells_still : (old new : Whole) → new.held ≡ old.held → Tells old → Tells new
tells_still old new e tells = ap (λ (h : Option Held). is_some (bytes_told h)) e ∙ tells

-- what calls no device, as functions answer
pub record IsQuiet (call : Call) : Type 0 where
  pub unflushed : is_flush call ≡ false
  pub alone : asks_device call ≡ false

module _ {Y : Type 0} (view : Y → Answer) (old new : Whole) (call : Call) (quiet : IsQuiet call) (tells : Tells old) where
  pub quiet_step : (r : Result (Result Y ErrorKind) ErrorKind) → IfOk r (λ a. Takes old call (told view a) new)
      → IfOk r (λ a. SessionStep (session_at old) call (told view a) (session_at new))
  quiet_step (Ok a) t = session_takes old new call (told view a) quiet.unflushed quiet.alone t
  quiet_step (Err kind) t = tt

  pub quiet_tells : (r : Result (Result Y ErrorKind) ErrorKind) → IfOk r (λ a. Takes old call (told view a) new) → OnOk r (Tells new)
  quiet_tells (Ok a) t = tells_still old new t.held tells
  quiet_tells (Err kind) t = tt

pub call_fits : {X : Type 0} (call : Call) → FitsCall call → (r : Result X ErrorKind) → OnOk r (FitsCall call)
call_fits call fits (Ok x) = fits
call_fits call fits (Err kind) = tt
