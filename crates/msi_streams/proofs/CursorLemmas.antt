-- What reading takes, and seeks that are refused.
use Rattle.std.proofs.Common.{◌≡◌, ℕ, ◌+◌, ◌<◌, Bool, true, false, cond, List, [], ◌++◌, length, take, drop, min, Result, Ok, Err, sym, ap, ◌∙◌, arith}
use Rattle.std.proofs.lemmas.List.{drop-drop, length-append, length-drop, length-take, take-append-drop, take_at, nil_from_length}
use Rattle.std.specs.declared.io.Error.{Error}
use Rattle.std.specs.declared.io.SeekFrom.{SeekFrom}
use Rattle.msi_base.specs.declared.errors.ErrorKind.{ErrorKind}
use Rattle.msi_base.specs.declared.errors.ErrorKind.TheVariants.{InvalidInput}
use Rattle.msi_streams.specs.Cursor.{Cursor, can_seek, sought}
use Rattle.msi_streams.specs.Refusals.{told}

-- what lies ahead is what a read took, and what it left
pub taken_from_ahead : (bytes rest : List ℕ) (place n : ℕ) → n ≡ length (take n (drop place bytes))
    → drop place bytes ≡ take n (take n (drop place bytes) ++ rest) ++ drop (place + n) bytes
taken_from_ahead bytes rest place n full =
    let ahead = drop place bytes in
    sym (take-append-drop n ahead)
    ∙ ap (λ xs. take n ahead ++ xs) (drop-drop n place bytes)
    ∙ ap (λ xs. xs ++ drop (place + n) bytes) (sym (take_at (take n ahead) rest n (sym full)))

-- where there was room and nothing was taken nothing lies ahead
pub none_ahead : (bytes buf rest : List ℕ) (place n : ℕ) → n ≡ min (length buf) (length (drop place bytes)) → n ≡ 0
    → 0 < length (take n (drop place bytes) ++ drop n buf) → drop (place + n) bytes ≡ []
none_ahead bytes buf rest place n count none room =
    nil_from_length (drop (place + n) bytes) (omega (
      arith,
      length-drop (place + n) bytes,
      length-drop place bytes,
      length-append (take n (drop place bytes)) (drop n buf),
      length-drop n buf,
      length-take n (drop place bytes),
    ))

by_test : (b : Bool) (n : ℕ) (c moved : Cursor) (k : ErrorKind)
    → Err k ≡ (cond {A = Result ℕ ErrorKind × Cursor} b (Ok n, moved) (Err InvalidInput, c)).0
    → ◌≡◌ {A = Result ℕ ErrorKind × Cursor} (Err k, c) (cond b (Ok n, moved) (Err InvalidInput, c))
by_test true n c moved k is = absurd cc
by_test false n c moved k is = λ i. (is i, c)

-- a seek that is refused leaves the cursor
pub refused_stays : (c d : Cursor) (to : SeekFrom) (r s : Result ℕ Error) (e : Error) → r ≡ Err e → s ≡ Err e → d ≡ c
    → told s ≡ (sought d to).0 → ◌≡◌ {A = Result ℕ ErrorKind × Cursor} (told r, c) (sought c to)
refused_stays c d to r s e refused was same is =
    ap (λ (t : Result ℕ Error). (told t, c)) refused
    ∙ by_test (can_seek c to) _ c _ _ (ap told (sym was) ∙ is ∙ ap (λ (a : Cursor). (sought a to).0) same)
