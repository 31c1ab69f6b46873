-- Reads into the rest of a buffer, one after the other, and the zeros past the end.
use Rattle.std.proofs.Common.{◌≡◌, ℕ, ◌+◌, ◌-◌, ◌<◌, ◌≤◌, List, [], ◌++◌, length, take, drop, get_or, inl, inr, option_map, Option, Some, None, IfSome, Result, Ok, Err, OnOk, ◌∷◌, arith, length-append, append-nil, take_all, sym, ap, ◌∙◌, refl}
use Rattle.std.proofs.Math.Seq.{take-append-add, take-add}
use Rattle.std.proofs.lemmas.List.{take-append-le, length-drop, get_or-take, get_or-drop, get_or_past, get_or_append_left, get_or-append-add, length-take-le}
use Rattle.std.proofs.lemmas.List.FromFn.{fill_by_all, length-map-range_with_len, get_or-map-range_with_len}
use Rattle.std.proofs.lemmas.Bool.{cases_lt}
use Rattle.msi_container_device.specs.Held.{Held, further, all_bytes, at_place}
use Rattle.msi_container_device.proofs.HeldLemmas.{further_further}
use Rattle.msi_container_format.specs.Bytes.{bytes_at}
use Rattle.std.proofs.lemmas.List.{take_at}
use Rattle.msi_container_view.specs.Reading.{Tells, IsAppended}

-- n bytes more were read
pub read_more : (at : ℕ) (buf read rest ahead : List ℕ) (n : ℕ) → at ≤ length buf → n ≤ length read
    → take at buf ≡ take at ahead → take n read ≡ take n (drop at ahead)
    → take (at + n) (take at buf ++ (read ++ rest)) ≡ take (at + n) ahead
read_more at buf read rest ahead n within fits so_far more =
    let front : length (take at buf) ≡ at = length-take-le at buf within in
    ap (λ (m : ℕ). take (m + n) (take at buf ++ (read ++ rest))) (sym front)
    ∙ take-append-add (take at buf) (read ++ rest) n
    ∙ ap (λ (l : List ℕ). take at buf ++ l) (take-append-le n read rest fits)
    ∙ rw (so_far, more) (sym (take-add at n ahead))

nil_of : (xs : List ℕ) → length xs ≡ 0 → xs ≡ []
nil_of [] none = refl
nil_of (x ∷ xs) none = absurd (omega arith)

zeroth : (k : ℕ) → 0 + k ≡ k
zeroth k = omega arith

bytes_ahead : (bytes : List ℕ) (place count : ℕ) → bytes_at (drop place bytes) 0 count ≡ bytes_at bytes place count
bytes_ahead bytes place count =
    fill_by_all (λ i. get_or bytes (place + i) 0) (bytes_at (drop place bytes) 0 count) count 0 (length-map-range_with_len _ 0 count)
    (λ k l. get_or-map-range_with_len (λ i. get_or (drop place bytes) (0 + i) 0) 0 count k k 0 l (omega arith) ∙ ap (λ i. get_or (drop place bytes) i 0) (zeroth k) ∙ get_or-drop place bytes k 0)

-- where the first bytes are those ahead, a full buffer has them
pub full : (at : ℕ) (buf ahead : List ℕ) → at ≡ length buf → take at buf ≡ take at ahead → buf ≡ bytes_at ahead 0 (length buf)
full at buf ahead whole so_far =
    let same : buf ≡ take at ahead = sym (take_all at buf (omega arith)) ∙ so_far in
    fill_by_all (λ i. get_or ahead (0 + i) 0) buf (length buf) 0 refl (λ k l. ap (λ b. get_or b k 0) same ∙ get_or-take at ahead k 0 (omega arith) ∙ ap (λ i. get_or ahead i 0) (sym (zeroth k)))

-- where nothing is ahead behind them, zeros are
pub padded : (at : ℕ) (buf zeros rest ahead : List ℕ) (n : ℕ) → at ≤ length buf → n ≡ length buf → length zeros ≡ n - at → length rest ≡ 0 → ((i : ℕ) → i < length zeros → get_or zeros i 0 ≡ 0)
    → take at buf ≡ take at ahead → (at < n → drop at ahead ≡ []) → take at buf ++ (zeros ++ rest) ≡ bytes_at ahead 0 n
padded at buf zeros rest ahead n within whole long none null so_far done =
    let front : length (take at buf) ≡ at = length-take-le at buf within in
    fill_by_all (λ i. get_or ahead (0 + i) 0) (take at buf ++ (zeros ++ rest)) n 0 (omega (arith, length-append (take at buf) (zeros ++ rest), length-append zeros rest, front, whole, long)) (λ k l.
    let same : get_or (take at buf ++ (zeros ++ rest)) k 0 ≡ get_or ahead k 0 = elim (cases_lt k at) [
      | inl h ↦ get_or_append_left (take at buf) (zeros ++ rest) 0 k (omega arith) ∙ ap (λ (b : List ℕ). get_or b k 0) so_far ∙ get_or-take at ahead k 0 h
      | inr h ↦
          let ends : length ahead ≤ at = omega (arith, length-drop at ahead, ap (λ (l : List ℕ). length l) (done (omega arith))) in
          let behind : k ≡ length (take at buf) + (k - at) = omega arith in
          ap (λ i. get_or (take at buf ++ (zeros ++ rest)) i 0) behind ∙ get_or-append-add (take at buf) (zeros ++ rest) (k - at) 0
          ∙ get_or_append_left zeros rest 0 (k - at) (omega arith) ∙ null (k - at) (omega arith) ∙ sym (get_or_past ahead k 0 (omega arith))
    ] in
    same ∙ ap (λ i. get_or ahead i 0) (sym (zeroth k)))

-- OF A SOURCE

pub read_more_held : (first old : Option Held) (at : ℕ) (buf read rest : List ℕ) (n : ℕ) → at ≤ length buf → n ≤ length read
    → old ≡ option_map (further at) first
    → IfSome first (λ h. take at buf ≡ take at h.ahead) → IfSome old (λ h. take n read ≡ take n h.ahead)
    → IfSome first (λ h. take (at + n) (take at buf ++ (read ++ rest)) ≡ take (at + n) h.ahead)
read_more_held None old at buf read rest n within fits is so_far more = tt
read_more_held (Some h) old at buf read rest n within fits is so_far more =
    read_more at buf read rest h.ahead n within fits so_far (rw is at more)

pub moved_further : (first old new : Option Held) (at n : ℕ) → old ≡ option_map (further at) first → new ≡ option_map (further n) old → new ≡ option_map (further (at + n)) first
moved_further None old new at n is more = rw is at more
moved_further (Some h) old new at n is more = (rw is at more) ∙ ap Some (further_further at n h)

pub full_held : (first : Option Held) (at : ℕ) (buf : List ℕ) (n : ℕ) → at ≡ length buf → n ≡ length buf → IfSome first (λ h. take at buf ≡ take at h.ahead) → IfSome first (λ h. buf ≡ bytes_at h.ahead 0 n)
full_held None at buf n whole same so_far = tt
full_held (Some h) at buf n whole same so_far = rw same (full at buf h.ahead whole so_far)

pub read_same_held : (first : Option Held) (at : ℕ) (buf read rest : List ℕ) → at ≤ length buf
    → IfSome first (λ h. take at buf ≡ take at h.ahead) → IfSome first (λ h. take at (take at buf ++ (read ++ rest)) ≡ take at h.ahead)
read_same_held None at buf read rest within so_far = tt
read_same_held (Some h) at buf read rest within so_far =
    let front : length (take at buf) ≡ at = length-take-le at buf within in
    take-append-le at (take at buf) (read ++ rest) (omega arith) ∙ take_all at (take at buf) (omega arith) ∙ so_far

pub ended_held : (first old : Option Held) (at : ℕ) → old ≡ option_map (further at) first → IfSome old (λ h. h.ahead ≡ []) → IfSome first (λ h. drop at h.ahead ≡ [])
ended_held None old at is done = tt
ended_held (Some h) old at is done = rw is at done

pub padded_held : (first : Option Held) (at : ℕ) (buf zeros rest : List ℕ) (n : ℕ) → at ≤ length buf → n ≡ length buf → length zeros ≡ n - at → length rest ≡ 0 → ((i : ℕ) → i < length zeros → get_or zeros i 0 ≡ 0)
    → IfSome first (λ h. take at buf ≡ take at h.ahead) → (at < n → IfSome first (λ h. drop at h.ahead ≡ []))
    → IfSome first (λ h. take at buf ++ (zeros ++ rest) ≡ bytes_at h.ahead 0 n)
padded_held None at buf zeros rest n within whole long none null so_far done = tt
padded_held (Some h) at buf zeros rest n within whole long none null so_far done =
    padded at buf zeros rest h.ahead n within whole long none null so_far done

-- what is read after a seek is what lies at the place
pub appended_at : (first sought : Option Held) (place count : ℕ) (piece : List ℕ) → sought ≡ option_map (at_place place) first
    → IfSome sought (λ h. piece ≡ bytes_at h.ahead 0 count)
    → (file : List ℕ) → Tells first file → piece ≡ bytes_at file place count
appended_at None sought place count piece is read file told = absurd cc
appended_at (Some h) sought place count piece is read file told =
    let held : piece ≡ bytes_at (drop place (all_bytes h)) 0 count = rw is at read in
    let whole : all_bytes h ≡ file = cc in
    held ∙ bytes_ahead (all_bytes h) place count ∙ ap (λ b. bytes_at b place count) whole

-- the bytes of a vector whose last ones were written through a slice of them
pub written_last : (d old piece post tail : List ℕ) (start len : ℕ) → take start d ≡ old → length old ≡ start → length post ≡ 0 → len ≡ start + length piece
    → take len ((take start d ++ (piece ++ post)) ++ tail) ≡ old ++ piece
written_last d old piece post tail start len front long none all =
    let empty : post ≡ [] = nil_of post none in
    rw (front, empty, append-nil piece) (take_at (old ++ piece) tail len (omega (arith, length-append old piece)))

pub appended_held : {T E : Type 0} (r : Result T E) (first sought : Option Held) (place count n : ℕ) (old new piece : List ℕ) → sought ≡ option_map (at_place place) first
    → OnOk r (IfSome sought (λ h. piece ≡ bytes_at h.ahead 0 n)) → n ≡ count → new ≡ old ++ piece → length piece ≡ count → OnOk r (IsAppended first place count old new)
appended_held (Err e) first sought place count n old new piece is read same behind long = tt
appended_held (Ok x) first sought place count n old new piece is read same behind long = record {
  piece = piece;
  behind = behind;
  long = long;
  told = appended_at first sought place count piece is (rw same at read);
}
