-- The header as it is written, piece by piece.
use Rattle.std.proofs.Common.{◌≡◌, ℕ, ◌+◌, ◌≤◌, List, ◌++◌, length, take, drop, sym, ◌∙◌, ap, arith, refl}
use borrow.Rule.Slice.PartMut.{put_mid, same_len_mid}
use Rattle.std.proofs.lemmas.List.{length-append, length-take, length-take-le, length-drop, take_at, take_all}
use Rattle.std.proofs.lemmas.Slice.{take-put_mid}

-- PIECES

-- a piece behind those that are written
piece_put : (done now ys : List ℕ) (at count next : ℕ) → take at now ≡ done → length done ≡ at → next ≡ at + length ys → take next (put_mid at count now ys) ≡ done ++ ys
piece_put done now ys at count next was long next_is =
    take-put_mid at count now ys next next_is (omega (arith, ap length was, length-take at now)) ∙ ap (λ d. d ++ ys) was

-- it leaves the length
pub put_long : (now ys : List ℕ) (at count : ℕ) → count ≡ length ys → at + count ≤ length now → length (put_mid at count now ys) ≡ length now
put_long now ys at count count_is within =
    same_len_mid at count now ys (sym (length-take-le count (drop at now) (omega (arith, length-drop at now)) ∙ count_is))

-- pieces that are the same
same_pieces : (a b c d e v w x y z : List ℕ) → a ≡ v → b ≡ w → c ≡ x → d ≡ y → e ≡ z → a ++ b ++ c ++ d ++ e ≡ v ++ w ++ x ++ y ++ z
same_pieces a b c d e v w x y z p q r s t = rw (p, q, r, s, t) refl

-- five pieces that fill a sector
five_pieces : (sector a b c d e : List ℕ) (p q r s j k m n : ℕ)
    → p ≡ length a
    → q ≡ p + length b
    → r ≡ q + length c
    → s ≡ r + length d
    → length sector ≡ s + length e
    → j ≡ length b
    → k ≡ length c
    → m ≡ length d
    → (length (put_mid r m (put_mid q k (put_mid p j (a ++ drop p sector) b) c) d) ≡ length sector → n ≡ length e)
    → put_mid s n (put_mid r m (put_mid q k (put_mid p j (a ++ drop p sector) b) c) d) e ≡ a ++ b ++ c ++ d ++ e
five_pieces sector a b c d e p q r s j k m n p_is q_is r_is s_is long j_is k_is m_is n_is =
    let one : List ℕ = a ++ drop p sector in
    let two : List ℕ = put_mid p j one b in
    let three : List ℕ = put_mid q k two c in
    let four : List ℕ = put_mid r m three d in
    let five : List ℕ = put_mid s n four e in
    let one_long : length one ≡ length sector = omega (arith, length-append a (drop p sector), length-drop p sector) in
    let two_long : length two ≡ length one = put_long one b p j j_is (omega arith) in
    let three_long : length three ≡ length two = put_long two c q k k_is (omega arith) in
    let four_long : length four ≡ length three = put_long three d r m m_is (omega arith) in
    let last : n ≡ length e = n_is (omega arith) in
    let five_long : length five ≡ length four = put_long four e s n last (omega arith) in
    let first : take p one ≡ a = take_at a (drop p sector) p (sym p_is) in
    let second : take q two ≡ a ++ b = piece_put a one b p j q first (sym p_is) q_is in
    let third : take r three ≡ a ++ b ++ c = piece_put (a ++ b) two c q k r second (omega (arith, length-append a b)) r_is in
    let fourth : take s four ≡ a ++ b ++ c ++ d =
    piece_put (a ++ b ++ c) three d r m s third (omega (arith, length-append a b, length-append (a ++ b) c)) s_is in
    sym (take_all (s + length e) five (omega arith))
    ∙ piece_put (a ++ b ++ c ++ d) four e s n (s + length e) fourth (omega (arith, length-append a b, length-append (a ++ b) c, length-append (a ++ b ++ c) d)) refl

-- the same by what each piece is
pub five_written : (sector a b c d e v w x y z : List ℕ) (p q r s j k m n : ℕ)
    → a ≡ v
    → b ≡ w
    → c ≡ x
    → d ≡ y
    → e ≡ z
    → p ≡ length a
    → q ≡ p + length b
    → r ≡ q + length c
    → s ≡ r + length d
    → length sector ≡ s + length e
    → j ≡ length b
    → k ≡ length c
    → m ≡ length d
    → (length (put_mid r m (put_mid q k (put_mid p j (a ++ drop p sector) b) c) d) ≡ length sector → n ≡ length e)
    → put_mid s n (put_mid r m (put_mid q k (put_mid p j (a ++ drop p sector) b) c) d) e ≡ v ++ w ++ x ++ y ++ z
five_written sector a b c d e v w x y z p q r s j k m n a_is b_is c_is d_is e_is p_is q_is r_is s_is long j_is k_is m_is n_is =
    five_pieces sector a b c d e p q r s j k m n p_is q_is r_is s_is long j_is k_is m_is n_is ∙ same_pieces a b c d e v w x y z a_is b_is c_is d_is e_is
