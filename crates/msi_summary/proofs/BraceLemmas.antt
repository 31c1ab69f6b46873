-- A text without the characters of one kind in front and behind, as `trim_start_matches` and `trim_end_matches` give it.
use Rattle.std.proofs.Common.{◌≡◌, ℕ, suc, ◌+◌, ◌-◌, ◌≤◌, ◌<◌, Bool, true, List, [], ◌∷◌, ◌++◌, length, get_or, take, drop, Option, Some, None, refl, sym, ap, ◌∙◌, arith, inl, inr}
use Rattle.std.specs.Prelude.{◌==◌, IfSome}
use Rattle.std.specs.List.{prefix_len, suffix_len}
use Rattle.std.specs.Str.Pattern.{CutsPrefixes, CutsSuffixes, FindsCharPrefix, FindsCharSuffix, IsTrimStartMatches, IsTrimEndMatches}
use Rattle.std.proofs.lemmas.Bool.{cases_Bool, eqb-true}
use Rattle.std.proofs.lemmas.List.{reverse-append, take-append-drop, take-append-le, take_all, drop_all, length-append}
use Rattle.std.proofs.lemmas.List.Sums.{suffix_len_is, suffix_len-le-length}
use Rattle.std.proofs.lemmas.Str.{encode_ascii, len_utf8_ascii}
use Rattle.std.proofs.lemmas.Str.Pattern.{drop_at_char}
use Rattle.std.proofs.Math.Seq.{drop-cons}
use Rattle.msi_summary.specs.Summary.{without_front, without_end}

abbrev is : ℕ → ℕ → Bool
is c b = b == c

-- in front
one_front : (c : ℕ) (x : List ℕ) → is c c ≡ true → without_front (is c) (c ∷ x) ≡ without_front (is c) x
one_front c x t = let e : 1 + prefix_len (is c) x ≡ suc (prefix_len (is c) x) = omega arith in rw (t, e) refl

cuts_front : (c : ℕ) → c < 128 → is c c ≡ true → (s ns r : List ℕ) → CutsPrefixes (FindsCharPrefix c) s ns r → without_front (is c) s ≡ without_front (is c) r
cuts_front c low t s [] r h = ap (without_front (is c)) (sym h)
cuts_front c low t s (n ∷ ns) r h =
    let m = h.0 in
    let so_far = cuts_front c low t s ns m h.1 in
    let e : m ≡ c ∷ drop n m = drop_at_char c m 0 n h.2 low in
    so_far ∙ ap (without_front (is c)) e ∙ one_front c (drop n m) t ∙ ap (without_front (is c)) (sym h.3)

full_front : (c : ℕ) → c < 128 → (r : List ℕ) (o : Option ℕ) → FindsCharPrefix c r o → IfSome o (λ n. n ≡ 0) → without_front (is c) r ≡ r
full_front c low [] o h z = refl
full_front c low (b ∷ bs) None h z = elim (cases_Bool (b == c)) [
  | inl t ↦ let e : b ≡ c = eqb-true b c t in absurd (h bs (rw (encode_ascii c low, e) refl))
  | inr f ↦ rw f refl
]
full_front c low (b ∷ bs) (Some n) h z = absurd (omega (arith, h.ends, len_utf8_ascii c low, z))

pub without_front-trimmed : (c : ℕ) → c < 128 → is c c ≡ true → (s r : List ℕ) → IsTrimStartMatches (FindsCharPrefix c) s r → r ≡ without_front (is c) s
without_front-trimmed c low t s r h = sym (cuts_front c low t s h.0.0 r h.0.1 ∙ full_front c low r h.1.0 h.1.1 h.1.2)

-- behind
one_end : (c : ℕ) (x : List ℕ) → is c c ≡ true → without_end (is c) (x ++ c ∷ []) ≡ without_end (is c) x
one_end c x t =
    let k = suffix_len (is c) x in
    let small : k ≤ length x = suffix_len-le-length (is c) x in
    let e : length x + 1 - (1 + k) ≡ length x - k = omega arith in
    let within : length x - k ≤ length x = omega arith in
    rw (length-append x (c ∷ []), reverse-append x (c ∷ []), t, e) (take-append-le (length x - k) x (c ∷ []) within)

-- a text that ends in c
ends_in : (c k : ℕ) (m : List ℕ) → drop k m ≡ c ∷ [] → m ≡ take k m ++ c ∷ []
ends_in c k m d = sym (take-append-drop k m) ∙ ap (λ (x : List ℕ). take k m ++ x) d

cuts_end : (c : ℕ) → c < 128 → is c c ≡ true → (s ns r : List ℕ) → CutsSuffixes (FindsCharSuffix c) s ns r → without_end (is c) s ≡ without_end (is c) r
cuts_end c low t s [] r h = ap (without_end (is c)) (sym h)
cuts_end c low t s (n ∷ ns) r h =
    let m = h.0 in
    let k = length m - n in
    let so_far = cuts_end c low t s ns m h.1 in
    let last : drop k m ≡ c ∷ [] = drop_at_char c m k (length m) h.2.1 low ∙ ap (λ (x : List ℕ). c ∷ x) (drop_all (length m) m (omega arith)) in
    so_far ∙ ap (without_end (is c)) (ends_in c k m last) ∙ one_end c (take k m) t ∙ ap (without_end (is c)) (sym h.3)

full_end : (c : ℕ) → c < 128 → (r : List ℕ) (o : Option ℕ) → FindsCharSuffix c r o → IfSome o (λ n. n ≡ 0) → without_end (is c) r ≡ r
full_end c low [] o h z = refl
full_end c low (b ∷ bs) None h z =
    let r = b ∷ bs in
    let n = length bs in
    elim (cases_Bool (get_or r n 0 == c)) [
      | inl t ↦
          let e : get_or r n 0 ≡ c = eqb-true (get_or r n 0) c t in
          let last : drop n r ≡ c ∷ [] = drop-cons r n 0 (omega arith) ∙ rw (e, drop_all (suc n) r (omega arith)) refl in
          absurd (h (take n r) (rw (encode_ascii c low) (ends_in c n r last)))
      | inr f ↦
          let less : length r - 1 ≡ n = omega arith in
          let none : suffix_len (is c) r ≡ length r - length r = suffix_len_is (is c) r (length r) 0 (omega arith) (λ k above below. absurd (omega arith)) (λ _. rw less f) in
          rw none (take_all (length r - (length r - length r)) r (omega arith))
    ]
full_end c low (b ∷ bs) (Some n) h z = absurd (omega (arith, h.0, len_utf8_ascii c low, z))

pub without_end-trimmed : (c : ℕ) → c < 128 → is c c ≡ true → (s r : List ℕ) → IsTrimEndMatches (FindsCharSuffix c) s r → r ≡ without_end (is c) s
without_end-trimmed c low t s r h = sym (cuts_end c low t s h.0.0 r h.0.1 ∙ full_end c low r h.1.0 h.1.1 h.1.2)
