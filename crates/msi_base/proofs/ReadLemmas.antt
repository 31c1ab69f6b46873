-- Reads into the rest of a buffer, one after the other.
use Rattle.std.proofs.Common.{◌≡◌, ℕ, ◌+◌, ◌<◌, ◌≤◌, List, ◌++◌, length, take, Option, Some, None, IfSome, arith, length-append, length-take, append-nil, take_all, sym, ap, subst, ◌∙◌}
use Rattle.std.specs.Io.KnownBytes.{Consumes, IsAtEnd, Keeps}
use Rattle.std.proofs.KnownBytes.{Consumes-trans, Consumes-kept}
use Rattle.std.proofs.Math.Seq.{take-append-add}
use Rattle.std.proofs.lemmas.List.{take-append-le}

-- the reader ended before the n-th byte
pub ends_early : (old new : Option (List ℕ)) (bytes : List ℕ) (n : ℕ) → Consumes old new bytes → IsAtEnd new → length bytes < n
    → IfSome old (λ left. length left < n)
ends_early None new bytes n given at_end less = tt
ends_early (Some left) None bytes n given at_end less = absurd given
ends_early (Some left) (Some rest) bytes n given at_end less = rw (given, at_end, append-nil bytes) less

module _ (at : ℕ) (bytes : List ℕ) (within : at ≤ length bytes) (read rest : List ℕ) where
  front-length : length (take at bytes) ≡ at
  front-length = omega (arith, length-take at bytes)

  front-more : (n : ℕ) → n ≤ length read → take (at + n) (take at bytes ++ (read ++ rest)) ≡ take at bytes ++ take n read
  front-more n fits = ap (λ (m : ℕ). take (m + n) (take at bytes ++ (read ++ rest))) (sym front-length)
      ∙ take-append-add (take at bytes) (read ++ rest) n ∙ ap (λ (l : List ℕ). take at bytes ++ l) (take-append-le n read rest fits)

  front-same : take at (take at bytes ++ (read ++ rest)) ≡ take at bytes
  front-same = take-append-le at (take at bytes) (read ++ rest) (omega (arith, front-length)) ∙ take_all at (take at bytes) (omega (arith, front-length))

  pub room-more : (n : ℕ) → n ≤ length read → at + n ≤ length (take at bytes ++ (read ++ rest))
  room-more n fits = omega (arith, length-append (take at bytes) (read ++ rest), length-append read rest, front-length)

  pub room-same : at ≤ length (take at bytes ++ (read ++ rest))
  room-same = omega (arith, length-append (take at bytes) (read ++ rest), front-length)

  -- a read gave n bytes more
  pub given-more : (first old new : Option (List ℕ)) (n : ℕ) → n ≤ length read → Consumes first old (take at bytes) → Consumes old new (take n read)
      → Consumes first new (take (at + n) (take at bytes ++ (read ++ rest)))
  given-more first old new n fits given more = subst (Consumes first new) (sym (front-more n fits)) (Consumes-trans first old new _ _ given more)

  -- a read gave none
  pub given-kept : (first old new : Option (List ℕ)) → Consumes first old (take at bytes) → Keeps old new
      → Consumes first new (take at (take at bytes ++ (read ++ rest)))
  given-kept first old new given kept = subst (Consumes first new) (sym front-same) (Consumes-kept first old new _ given kept)

  -- a read gave no byte, and the reader is at its end
  pub given-none : (first old new : Option (List ℕ)) (n len : ℕ) → n ≡ 0 → Consumes first old (take at bytes) → Consumes old new (take n read) → IsAtEnd new
      → at < len → IfSome first (λ left. length left < len)
  given-none first old new n len none given more at_end less = ends_early first new (take at bytes ++ take n read) len
      (Consumes-trans first old new _ _ given more) at_end
      (omega (arith, none, front-length, length-append (take at bytes) (take n read), length-take n read))
