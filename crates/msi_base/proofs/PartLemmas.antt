-- A part of bytes that takes in those behind it.
use Rattle.std.proofs.Common.{◌≡◌, ℕ, ◌+◌, ◌-◌, ◌≤◌, Bool, true, eqb, List, ◌++◌, length, take, drop, refl, ap, ◌∙◌, arith, take_all, take-add, drop-drop, take_at, length-drop, slice_range}
use Rattle.std.specs.List.{starts_with}
use Rattle.std.proofs.lemmas.Bool.Decides.{Decides-eqb}
use Rattle.std.proofs.lemmas.Slice.Eq.{starts_is}

-- all the bytes behind a position
behind : (bytes whole : List ℕ) (end : ℕ) → bytes ≡ whole → slice_range bytes end (length bytes) ≡ drop end whole
behind bytes whole end same = take_all (length bytes - end) (drop end bytes) (omega (arith, length-drop end bytes)) ∙ ap (drop end) same

pub gone_on : (bytes whole piece : List ℕ) (start end : ℕ) (starts : Bool) → bytes ≡ whole → start ≤ end → starts ≡ starts_with eqb (slice_range bytes end (length bytes)) piece → starts ≡ true
    → slice_range whole start (end + length piece) ≡ slice_range whole start end ++ piece
gone_on bytes whole piece start end starts same order is so =
    let more : end + length piece - start ≡ (end - start) + length piece = omega (arith, order) in
    let from : drop (end - start) (drop start whole) ≡ drop end whole = drop-drop (end - start) start whole ∙ ap (λ n. drop n whole) (omega (arith, order)) in
    let here = is ∙ ap (λ xs. starts_with eqb xs piece) (behind bytes whole end same) in
    let split = (starts_is Decides-eqb (drop end whole) piece starts here).0 so in
    ap (λ n. take n (drop start whole)) more ∙ take-add (end - start) (length piece) (drop start whole)
    ∙ ap (λ xs. slice_range whole start end ++ xs) (ap (take (length piece)) (from ∙ split) ∙ take_at piece (drop (length piece) (drop end whole)) (length piece) refl)
