-- What readers and writers answer is what calls on what is lent give.
use Rattle.std.proofs.Common.{◌≡◌, ℕ, Bool, true, false, cond, Result, refl, sym, ap, ◌∙◌}
use Rattle.std.specs.declared.io.SeekFrom.{SeekFrom}
use Rattle.std.specs.declared.io.SeekFrom.TheVariants.{Start, End, Current}
use Rattle.msi.specs.Text.ErrorKind.{ErrorKind}
use Rattle.msi_streams.specs.Cursor as streams
use Rattle.msi.specs.Calls.{StreamAnswer}
use Rattle.msi.specs.Calls as calls
use Rattle.msi.specs.Lent.{Cursor, sought}
use Rattle.msi_replay.specs.Sent.{lent_cursor, seek_sent}
use Rattle.msi_replay.specs.Told.{told}

-- a seek's answer as a call's
answered : Result ℕ ErrorKind × streams.Cursor → Result StreamAnswer ErrorKind × Cursor
answered p = (told calls.place_is p.0, lent_cursor p.1)

by_test : (b : Bool) (x y : Result ℕ ErrorKind × streams.Cursor) → cond b (answered x) (answered y) ≡ answered (cond b x y)
unfolding answered
by_test true x y = refl
by_test false x y = refl

sought_lent : (c : streams.Cursor) (to : SeekFrom) → sought (lent_cursor c) (seek_sent to) ≡ answered (streams.sought c to)
unfolding answered
sought_lent c (Start n) = by_test (streams.can_seek c (Start n)) _ _
sought_lent c (End z) = by_test (streams.can_seek c (End z)) _ _
sought_lent c (Current z) = by_test (streams.can_seek c (Current z)) _ _

-- what a seek told
pub seek_answers : (old new : streams.Cursor) (to : SeekFrom) (told_place : Result ℕ ErrorKind) (answer : Result StreamAnswer ErrorKind)
    → answer ≡ told calls.place_is told_place → ◌≡◌ {A = Result ℕ ErrorKind × streams.Cursor} (told_place, new) (streams.sought old to)
    → sought (lent_cursor old) (seek_sent to) ≡ (answer, lent_cursor new)
unfolding answered
seek_answers old new to told_place answer is outcome =
    sought_lent old to ∙ ap answered (sym outcome) ∙ ap (λ (a : Result StreamAnswer ErrorKind). (a, lent_cursor new)) (sym is)
