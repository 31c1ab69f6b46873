-- What reads and writes in a row do to the bytes held.
use Rattle.std.specs.Prelude.{Option}
use Rattle.std.proofs.Common.{◌≡◌, ℕ, ◌+◌, List, [], ◌++◌, length, take, drop, Some, None, refl, sym, ap, ◌∙◌, append_assoc, length-append, option_map, arith}
use Rattle.std.proofs.lemmas.List.{append-nil, drop-drop, take-append-le}
use Rattle.std.proofs.Math.Seq.{take-append_seam, take-append-add, take-length, drop-append-add, take-add}
use Rattle.msi_container_device.specs.Held.{Held, further, with_piece, bytes_told, StandsInPart}
use Rattle.msi_container_device.specs.HeldLaws.{PiecesJoin, PiecesStandAtThePlace}

-- the place moved by m bytes and then by n is moved by both
pub further_further : (m n : ℕ) (h : Held) → further n (further m h) ≡ further (m + n) h
further_further m n h = rw (take-add m n h.ahead, ← drop-drop n m h.ahead, append_assoc h.before (take m h.ahead) (take n (drop m h.ahead))) refl

-- a piece put behind another is their concatenation
pub piece_behind_piece : (piece next : List ℕ) (h : Held) → with_piece next (with_piece piece h) ≡ with_piece (piece ++ next) h
piece_behind_piece piece next h = rw (length-append piece next, ← drop-drop (length next) (length piece) h.ahead, append_assoc h.before piece next) refl

pub pieces_join : PiecesJoin
pieces_join piece next None = refl
pieces_join piece next (Some h) = ap Some (piece_behind_piece piece next h)

-- n bytes more of a piece behind its first k are its first k + n
pub more_of_piece : (piece more : List ℕ) (k n : ℕ) (old mid new : Option Held) → mid ≡ option_map (with_piece (take k piece)) old
    → new ≡ option_map (with_piece more) mid → more ≡ take n (drop k piece) → new ≡ option_map (with_piece (take (k + n) piece)) old
more_of_piece piece more k n old mid new first second is =
    second ∙ ap (option_map (with_piece more)) first ∙ pieces_join (take k piece) more old
    ∙ ap (λ p. option_map (with_piece p) old) (ap (λ m. take k piece ++ m) is ∙ sym (take-add k n piece))

-- a piece stands where the place was
pub piece_at_place : PiecesStandAtThePlace
piece_at_place piece h = (rw (take-append_seam h.before h.ahead, drop-append-add h.before h.ahead (length piece)) refl, length-append h.before piece)

-- nothing put there changes nothing
nothing_put : (old : Option Held) → bytes_told (option_map (with_piece []) old) ≡ bytes_told old
nothing_put None = refl
nothing_put (Some h) = ap (λ b. Some (b ++ h.ahead)) (append-nil h.before)

pub part_none : (piece : List ℕ) (old new : Option Held) → bytes_told new ≡ bytes_told old → StandsInPart piece old new
part_none piece old new same = record { count = 0; within = omega arith; bytes = same ∙ sym (nothing_put old) }

pub part_whole : (piece : List ℕ) (old new : Option Held)
    → bytes_told new ≡ bytes_told (option_map (with_piece piece) old) → StandsInPart piece old new
part_whole piece old new is = record {
  count = length piece;
  within = omega arith;
  bytes = is ∙ ap (λ p. bytes_told (option_map (with_piece p) old)) (sym (take-length piece));
}

pub part_in_front : (piece next : List ℕ) (old new : Option Held) → StandsInPart piece old new → StandsInPart (piece ++ next) old new
part_in_front piece next old new part = record {
  count = part.count;
  within = rw (length-append piece next) (omega (arith, part.within));
  bytes = part.bytes ∙ ap (λ p. bytes_told (option_map (with_piece p) old)) (sym (take-append-le part.count piece next part.within));
}

pub part_behind : (piece next : List ℕ) (old new : Option Held)
    → StandsInPart next (option_map (with_piece piece) old) new → StandsInPart (piece ++ next) old new
part_behind piece next old new part = record {
  count = length piece + part.count;
  within = rw (length-append piece next) (omega (arith, part.within));
  bytes = part.bytes ∙ ap bytes_told (pieces_join piece (take part.count next) old
      ∙ ap (λ p. option_map (with_piece p) old) (sym (take-append-add piece next part.count)));
}
