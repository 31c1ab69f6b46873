-- Characters of texts, and loops over them.
use Rattle.std.proofs.Common.{◌≡◌, ◌==◌, ◌<◌, ℕ, false, Some, None, drop, get_or, List, [], ◌∷◌, ◌++◌, String, flat_map, chars, string_bytes, sym, ap, ◌∙◌, append-nil, arith, not, nat_lt, length}
use Rattle.std.proofs.lemmas.List.{length-append}
use Rattle.std.proofs.lemmas.List.Concat.{flat_map-append}
use Rattle.std.specs.Str.{IsUtf8}
use Rattle.std.specs.Str.Pattern.{FindsCharPrefix}
use Rattle.std.proofs.Math.Utf8.{encode, encodes}
use Rattle.std.proofs.lemmas.Bool.{ne_eqb, lt-ltb}
use Rattle.std.proofs.lemmas.Str.{chars_from_encodes, chars_past_char, encodes-chars, length-encode, len_utf8_bounds, encodes-append, IsUtf8-string_bytes}

-- the characters of a text whose bytes spell them
pub characters_are : {Z : Type 0} (cs : List ℕ) (text : String Z) → string_bytes text ≡ encodes cs → chars (string_bytes text) ≡ cs
characters_are cs text e = sym (chars_from_encodes cs (string_bytes text) (IsUtf8-string_bytes text) (sym e))

-- one more character of a text that is written as what f gives for each
pub encodes_more : (f : ℕ → List ℕ) (xs : List ℕ) (x : ℕ) (old new : List ℕ) → old ≡ encodes (flat_map f xs) → new ≡ old ++ encodes (f x) → new ≡ encodes (flat_map f (xs ++ x ∷ []))
encodes_more f xs x old new o n = rw (flat_map-append, encodes-append, append-nil, ← o) n

-- a text of which a character is taken
pub chars_after_first : (bs rest : List ℕ) (c : ℕ) → IsUtf8 bs → bs ≡ encode c ++ rest → (chars bs ≡ c ∷ chars rest) × (length rest < length bs)
chars_after_first bs rest c u e =
    let width = len_utf8_bounds c in
    (chars_past_char bs rest c u e, omega (arith, ap length e, length-append (encode c) rest, length-encode c))

-- a text that begins with a character, and one that doesn't
pub chars_from_prefix : (bs : List ℕ) (c n : ℕ) → IsUtf8 bs → FindsCharPrefix c bs (Some n) → chars bs ≡ c ∷ chars (drop n bs)
chars_from_prefix bs c n u h = chars_past_char bs (drop n bs) c u h.split

first_differs : (cs bs : List ℕ) (c : ℕ) → 0 < c → encodes cs ≡ bs → FindsCharPrefix c bs None → (get_or cs 0 0 == c) ≡ false
first_differs [] bs c p e h = ne_eqb 0 c (λ q. omega arith)
first_differs (d ∷ ds) bs c p e h = ne_eqb d c (λ q. h (encodes ds) (sym e ∙ ap (λ x. encode x ++ encodes ds) q))

pub first_from_no_prefix : (bs : List ℕ) (c : ℕ) → 0 < c → IsUtf8 bs → FindsCharPrefix c bs None → (get_or (chars bs) 0 0 == c) ≡ false
first_from_no_prefix bs c p u h = first_differs (chars bs) bs c p (encodes-chars bs u) h

-- a text has characters where it has bytes
empty_together : (cs bs : List ℕ) → encodes cs ≡ bs → (length bs == 0) ≡ not (nat_lt 0 (length cs))
empty_together [] bs e = rw (← e)
empty_together (c ∷ cs) bs e =
    let some : 0 < length bs = rw (← e, length-append, length-encode) (omega (arith, len_utf8_bounds c)) in
    ne_eqb (length bs) 0 (λ q. omega arith) ∙ ap not (sym (lt-ltb 0 (length (c ∷ cs)) (omega arith)))

pub is_empty_by_chars : (bs : List ℕ) → IsUtf8 bs → (length bs == 0) ≡ not (nat_lt 0 (length (chars bs)))
is_empty_by_chars bs u = empty_together (chars bs) bs (encodes-chars bs u)
