-- Calls one after another: one more call at the end.
use Rattle.std.proofs.Common.{Bool, List, [], ◌∷◌, ◌++◌, map, Result, refl, sym, subst}
use Rattle.std.proofs.lemmas.List.{map-append}
use Rattle.std.specs.List.{AllByRecursion}
use Rattle.msi.specs.Text.ErrorKind.{ErrorKind}
use Rattle.msi.specs.Lent.{Gives, RunsTo}
use Rattle.msi_replay.specs.Told.{told}

module _ {S C A : Type 0} (outcome : S → C → Result A ErrorKind × S) (wants : C → Bool) where
  runs_then : (old mid new : S) (cs : List C) (c : C) (answers : List (Result A ErrorKind)) (a : Result A ErrorKind)
      → RunsTo outcome wants old cs answers mid → Gives (outcome mid c) (wants c) mid a new
      → RunsTo outcome wants old (cs ++ c ∷ []) (answers ++ a ∷ []) new
  runs_then old mid new [] c [] a same gives =
      (new, subst (λ (s : S). Gives (outcome s c) (wants c) s a new) same gives, refl)
  runs_then old mid new [] c (b ∷ bs) a runs gives = absurd runs
  runs_then old mid new (d ∷ ds) c [] a runs gives = absurd runs
  runs_then old mid new (d ∷ ds) c (b ∷ bs) a runs gives =
      (runs.0, runs.1, runs_then runs.0 mid new ds c bs a runs.2 gives)

  -- calls and answers seen by views
  module _ {X Y : Type 0} (sent : X → C) (view : Y → A) where
    pub runs_with : (old mid new : S) (xs : List X) (x : X) (ys : List (Result Y ErrorKind)) (y : Result Y ErrorKind)
        → RunsTo outcome wants old (map sent xs) (map (told view) ys) mid
        → Gives (outcome mid (sent x)) (wants (sent x)) mid (told view y) new
        → RunsTo outcome wants old (map sent (xs ++ x ∷ [])) (map (told view) (ys ++ y ∷ [])) new
    runs_with old mid new xs x ys y runs gives =
        subst (λ (cs : List C). RunsTo outcome wants old cs (map (told view) (ys ++ y ∷ [])) new) (sym (map-append sent xs (x ∷ [])))
        (subst (λ (answers : List (Result A ErrorKind)). RunsTo outcome wants old (map sent xs ++ sent x ∷ []) answers new)
        (sym (map-append (told view) ys (y ∷ [])))
        (runs_then old mid new (map sent xs) (sent x) (map (told view) ys) (told view y) runs gives))

-- what holds of each call sent, and of one more
pub all_with : {X C : Type 0} (P : C → Type 0) (sent : X → C) (xs : List X) (x : X) → AllByRecursion P (map sent xs) → P (sent x)
    → AllByRecursion P (map sent (xs ++ x ∷ []))
all_with P sent [] x all p = (p, tt)
all_with P sent (y ∷ ys) x all p = (all.0, all_with P sent ys x all.1 p)
