-- Bytes at positions, and those past the end.
use Rattle.std.proofs.Common.{◌≡◌, ℕ, ◌+◌, ◌-◌, ◌≤◌, min, List, [], ◌∷◌, ◌++◌, length, get_or, drop, ◌∙◌, ap, arith}
use Rattle.std.specs.List.{slice_range}
use Rattle.std.proofs.lemmas.List.{length-take-le, length-drop, get_or-take, get_or-drop, get_or_past}
use Rattle.std.proofs.lemmas.List.FromFn.{fill_by_all, map-range_with_len_more}
use Rattle.msi_container_format.specs.Bytes.{bytes_at}

-- the bytes of a range that lies within
pub bytes_within : (bytes : List ℕ) (from count start end : ℕ)
    → start ≡ min from (length bytes)
    → end ≡ min (from + count) (length bytes)
    → slice_range bytes start end ≡ bytes_at bytes from (end - start)
bytes_within bytes from count start end s e =
    let rest = length-drop start bytes in
    let long : length (slice_range bytes start end) ≡ end - start = length-take-le (end - start) (drop start bytes) (omega arith) in
    fill_by_all (λ i. get_or bytes (from + i) 0) (slice_range bytes start end) (end - start) 0 long (λ k l.
    let first : start ≡ from = omega arith in
    get_or-take (end - start) (drop start bytes) k 0 l ∙ get_or-drop start bytes k 0 ∙ ap (λ p. get_or bytes (p + k) 0) first
    )

-- one more byte, which is past the end
pub bytes_at_past : (bytes : List ℕ) (from k : ℕ)
    → length bytes ≤ from + k
    → bytes_at bytes from (k + 1) ≡ bytes_at bytes from k ++ 0 ∷ []
bytes_at_past bytes from k past =
    map-range_with_len_more (λ i. get_or bytes (from + i) 0) 0 k k (omega arith)
    ∙ ap (λ b. bytes_at bytes from k ++ b ∷ []) (get_or_past bytes (from + k) 0 past)

-- the bytes between two positions
pub bytes_between : (bytes : List ℕ) (start end : ℕ)
    → start ≤ end
    → end ≤ length bytes
    → slice_range bytes start end ≡ bytes_at bytes start (end - start)
bytes_between bytes start end order inside = bytes_within bytes start (end - start) start end (omega arith) (omega arith)
