-- The symbol at the front of a text, where blanks, words, digits and quoted texts stand there.
use Rattle.std.proofs.Common.{◌≡◌, ℕ, zero, suc, ◌+◌, ◌-◌, ◌*◌, ◌%◌, ◌/◌, ◌^◌, ◌<◌, ◌≤◌, min, Bool, true, false, not, ◌||◌, ◌==◌, cond, List, [], ◌∷◌, ◌++◌, length, take, drop, get_or, slice_index, Some, None, flat_map, decimal, refl, sym, ap, subst, ◌∙◌, append_assoc, append-nil, arith, ⊎_elim, eq-or-lt_of_le, length-append}
use Rattle.std.specs.List.{list_all, prefix_len}
use Rattle.std.specs.Char.{is_ascii, is_ascii_digit}
use Rattle.std.specs.Str.{is_utf8}
use Rattle.std.specs.Fmt.{debug_escape}
use Rattle.std.proofs.Math.Seq.{take-append_seam, drop-append_seam}
use Rattle.std.proofs.lemmas.List.Sums.{fold-append}
use Rattle.std.proofs.lemmas.List.Folds.{list_all-append}
use Rattle.std.proofs.lemmas.Fmt.{decimal_by_steps}
use Rattle.std.proofs.lemmas.Str.{is_utf8-from_IsUtf8, IsUtf8-from_ascii}
use Rattle.std.proofs.lemmas.Bool.{and_parts, and_from, or_parts, ltb-true, not-true, cond-true, cond-false}
use Rattle.std.proofs.lemmas.Bool.Decides.{nat_tests}
use Rattle.msi_categories.specs.CategoryRules.{starts_name, continues_name, is_identifier}
use Rattle.msi_query_tokens.specs.declared.lex.Class.TheVariants as class
use Rattle.msi_query_tokens.specs.declared.texts.Mode.{Mode}
use Rattle.msi_query_tokens.specs.declared.texts.Mode.TheVariants as mode
use Rattle.msi_query_tokens.specs.declared.token.Kind.{Kind}
use Rattle.msi_query_tokens.specs.declared.token.Kind.TheVariants as k
use Rattle.msi_query_tokens.specs.Tokens.{Cut, token, skip_blanks, same_kind, kind_of_word, is_in, closing, closed}
use Rattle.msi_query_tokens.specs.Texts.{inside, number_of, unescaped, unescaped_from, unescape, with_digit, escaped, with_character, plain_or_none}
use Rattle.msi_query_tokens.specs.Symbols.{Symbol, named, number, quote, symbol_of, with_bytes, checked_bytes, Spans}
use Rattle.msi_query_tokens.proofs.TokenLemmas.{kind_is}
use Rattle.msi_query_tokens.proofs.SymbolLemmas.{spans_append}

-- from the one text, with blanks at its front, these symbols lead to the other
abbrev pub Over : List ℕ → List Symbol → List ℕ → Type 0
Over text symbols rest = Spans (skip_blanks text) symbols (skip_blanks rest)

pub over_append : (s t : List Symbol) (a b c : List ℕ) → Over a s b → Over b t c → Over a (s ++ t) c
over_append s t a b c h g = spans_append s t (skip_blanks a) (skip_blanks b) (skip_blanks c) h g

-- ---- blanks

pub no_blank : (b : ℕ) (text : List ℕ) → is_in class.Blank b ≡ false → skip_blanks (b ∷ text) ≡ b ∷ text
unfolding skip_blanks
no_blank b text e = ap (λ t. drop (0 + cond t (1 + prefix_len (is_in class.Blank) text) 0) (b ∷ text)) e

pub blank_skipped : (text : List ℕ) → skip_blanks (32 ∷ text) ≡ skip_blanks text
unfolding skip_blanks
blank_skipped text =
    let e : 0 + (1 + prefix_len (is_in class.Blank) text) ≡ suc (0 + prefix_len (is_in class.Blank) text) = omega arith in
    ap (λ n. drop n (32 ∷ text)) e

-- ---- one symbol

pub over_one : (text rest : List ℕ) (s : Symbol) (c : Cut) → skip_blanks text ≡ text → token text ≡ c → same_kind c.0 k.End ≡ false
    → symbol_of c.0 (take c.1 text) ≡ s → drop c.1 text ≡ rest → Over text (s ∷ []) rest
over_one text rest s c b e no_end is behind = subst (λ t. Spans t (s ∷ []) (skip_blanks rest)) (sym b) (
  ap (λ c. same_kind c.0 k.End) e ∙ no_end,
  ap (λ c. symbol_of c.0 (take c.1 text)) e ∙ is,
  ap (λ c. skip_blanks (drop c.1 text)) e ∙ ap skip_blanks behind,
)

-- what makes neither a name, plain or in back quotes, nor a number longer
abbrev pub is_apart : List ℕ → Bool
is_apart text = not (is_in class.Name (slice_index text 0) || (slice_index text 0 == 96))

pub no_word : (text : List ℕ) → is_apart text ≡ true → is_in class.Name (slice_index text 0) ≡ false
no_word text a = (or_parts (is_in class.Name (slice_index text 0)) (slice_index text 0 == 96) (not-true _ a)).0

pub no_quote : (text : List ℕ) → is_apart text ≡ true → (slice_index text 0 == 96) ≡ false
no_quote text a = (or_parts (is_in class.Name (slice_index text 0)) (slice_index text 0 == 96) (not-true _ a)).1

pub prefix_passes : (p : ℕ → Bool) (xs ys : List ℕ) → list_all p xs ≡ true → p (slice_index ys 0) ≡ false → prefix_len p (xs ++ ys) ≡ length xs
prefix_passes p [] [] h e = refl
prefix_passes p [] (y ∷ ys) h e = ap (λ b. cond b (1 + prefix_len p ys) 0) e
prefix_passes p (x ∷ xs) ys h e =
    let parts = and_parts (p x) (list_all p xs) h in
    let r : prefix_len p (xs ++ ys) ≡ length xs = prefix_passes p xs ys parts.1 e in
    let more : 1 + prefix_len p (xs ++ ys) ≡ suc (length xs) = omega arith in
    ap (λ b. cond b (1 + prefix_len p (xs ++ ys)) 0) parts.0 ∙ more

-- ---- words

letter_no_blank : (b : ℕ) → is_in class.Letter b ≡ true → is_in class.Blank b ≡ false
letter_no_blank b h = grind (arith, nat_tests)

word_token : (b : ℕ) (bs c : List ℕ) → is_in class.Letter b ≡ true → list_all (is_in class.Name) bs ≡ true → is_in class.Name (slice_index c 0) ≡ false
    → token (b ∷ (bs ++ c)) ≡ (kind_of_word (b ∷ bs), suc (length bs))
unfolding token
word_token b bs c h g e =
    let r : prefix_len (is_in class.Name) (bs ++ c) ≡ length bs = prefix_passes (is_in class.Name) bs c g e in
    let end : 1 + prefix_len (is_in class.Name) (bs ++ c) ≡ suc (length bs) = omega arith in
    cond-true (is_in class.Letter b) _ _ h ∙ ap (λ (n : ℕ). (kind_of_word (take n (b ∷ (bs ++ c))), n)) end
    ∙ ap (λ (w : List ℕ). (kind_of_word (b ∷ w), suc (length bs))) (take-append_seam bs c)

pub word_over : (b : ℕ) (bs c : List ℕ) → is_in class.Letter b ≡ true → list_all (is_in class.Name) bs ≡ true → is_apart c ≡ true
    → same_kind (kind_of_word (b ∷ bs)) k.End ≡ false → Over ((b ∷ bs) ++ c) (symbol_of (kind_of_word (b ∷ bs)) (b ∷ bs) ∷ []) c
word_over b bs c h g a no_end = over_one (b ∷ (bs ++ c)) c (symbol_of (kind_of_word (b ∷ bs)) (b ∷ bs)) (kind_of_word (b ∷ bs), suc (length bs))
    (no_blank b (bs ++ c) (letter_no_blank b h)) (word_token b bs c h g (no_word c a)) no_end
    (ap (λ w. symbol_of (kind_of_word (b ∷ bs)) (b ∷ w)) (take-append_seam bs c)) (drop-append_seam bs c)

-- Identifiers that are no key words
starts_letter : (b : ℕ) → starts_name b ≡ true → is_in class.Letter b ≡ true
starts_letter b h = grind (arith, nat_tests)

continues_word : (b : ℕ) → continues_name b ≡ true → is_in class.Name b ≡ true
continues_word b h = grind (arith, nat_tests)

all_continue : (bs : List ℕ) → list_all continues_name bs ≡ true → list_all (is_in class.Name) bs ≡ true
all_continue [] h = refl
all_continue (b ∷ bs) h = let parts = and_parts (continues_name b) (list_all continues_name bs) h in
    and_from _ _ (continues_word b parts.0) (all_continue bs parts.1)

pub name_over : (name c : List ℕ) → is_identifier name ≡ true → same_kind (kind_of_word name) k.Name ≡ true → is_apart c ≡ true → Over (name ++ c) (named name ∷ []) c
unfolding same_kind
name_over [] c is plain a = absurd (let clash : false ≡ true = is in cc)
name_over (b ∷ bs) c is plain a =
    let word = and_parts (starts_name b) (list_all continues_name bs) is in
    let kind = kind_is (kind_of_word (b ∷ bs)) k.Name plain in
    subst (λ (w : Kind). Over ((b ∷ bs) ++ c) (symbol_of w (b ∷ bs) ∷ []) c) kind
    (word_over b bs c (starts_letter b word.0) (all_continue bs word.1) a (ap (λ (w : Kind). same_kind w k.End) kind))

-- ---- digits

digit_no_blank : (b : ℕ) → is_ascii_digit b ≡ true → is_in class.Blank b ≡ false
digit_no_blank b h = grind (arith, nat_tests)

digit_no_letter : (b : ℕ) → is_ascii_digit b ≡ true → is_in class.Letter b ≡ false
digit_no_letter b h = grind (arith, nat_tests)

apart_no_digit : (b : ℕ) → is_in class.Name b ≡ false → is_ascii_digit b ≡ false
apart_no_digit b h = (or_parts _ _ (or_parts _ _ (or_parts _ _ (or_parts _ _ h).0).0).0).0

digits_token : (d : ℕ) (ds c : List ℕ) → list_all is_ascii_digit (d ∷ ds) ≡ true → is_in class.Name (slice_index c 0) ≡ false
    → token (d ∷ (ds ++ c)) ≡ (k.Number, suc (length ds))
unfolding token
digits_token d ds c h e =
    let is = (and_parts (is_ascii_digit d) (list_all is_ascii_digit ds) h).0 in
    let r : prefix_len is_ascii_digit ((d ∷ ds) ++ c) ≡ suc (length ds) = prefix_passes is_ascii_digit (d ∷ ds) c h (apart_no_digit (slice_index c 0) e) in
    let end : 0 + prefix_len is_ascii_digit ((d ∷ ds) ++ c) ≡ suc (length ds) = omega arith in
    cond-false (is_in class.Letter d) _ _ (digit_no_letter d is) ∙ cond-true (is_in class.Digit d) _ _ is ∙ ap (λ (n : ℕ). (k.Number, n)) end

pub digits_over : (ds c : List ℕ) → 0 < length ds → list_all is_ascii_digit ds ≡ true → is_apart c ≡ true → Over (ds ++ c) (number (number_of ds) ∷ []) c
unfolding same_kind
digits_over [] c some h a = absurd (omega arith)
digits_over (d ∷ ds) c some h a = over_one (d ∷ (ds ++ c)) c (number (number_of (d ∷ ds))) (k.Number, suc (length ds))
    (no_blank d (ds ++ c) (digit_no_blank d (and_parts (is_ascii_digit d) (list_all is_ascii_digit ds) h).0)) (digits_token d ds c h (no_word c a)) refl
    (ap (λ w. number (number_of (d ∷ w))) (take-append_seam ds c)) (drop-append_seam ds c)

-- the digits of a number that a minus or none before them leaves in 32 bits
digit_tells : (d : ℕ) → d < 10 → is_ascii_digit (48 + d) ≡ true
digit_tells d h = grind (arith, nat_tests)

pub record Digits (n : ℕ) (ds : List ℕ) : Type 0 where
  pub some : 0 < length ds
  pub are_digits : list_all is_ascii_digit ds ≡ true
  pub value : n ≤ 2147483648 → number_of ds ≡ n

one_digit : (n : ℕ) → n < 10 → min (0 * 10 + ((48 + n) - 48)) 2147483649 ≡ n
one_digit n l = omega arith

more_digits : (n : ℕ) (ds : List ℕ) → 10 ≤ n → Digits (n / 10) ds → Digits n (ds ++ ((48 + n % 10) ∷ []))
more_digits n ds l h = record {
  some = let e = length-append ds ((48 + n % 10) ∷ []) in omega arith;
  are_digits = list_all-append is_ascii_digit ds ((48 + n % 10) ∷ []) ∙ and_from _ _ h.are_digits (and_from _ true (digit_tells (n % 10) (omega arith)) refl);
  value = λ (small : n ≤ 2147483648).
      let last : min (n / 10 * 10 + ((48 + n % 10) - 48)) 2147483649 ≡ n = omega arith in
      fold-append (λ (m b : ℕ). min (m * 10 + (b - 48)) 2147483649) 0 ds ((48 + n % 10) ∷ [])
      ∙ ap (λ (m : ℕ). min (m * 10 + ((48 + n % 10) - 48)) 2147483649) (h.value (omega arith)) ∙ last;
}

pub decimal_digits : (n : ℕ) → n < 2 ^ 64 → Digits n (decimal n)
decimal_digits = decimal_by_steps Digits
    (λ n l. record { some = omega arith; are_digits = and_from _ true (digit_tells n l) refl; value = λ _. one_digit n l })
    more_digits

-- ---- texts in double quotes

-- each byte by computation
rows : {A : Type 0} → (ℕ → A) → ℕ → List A
rows f zero = []
rows f (suc n) = f n ∷ rows f n

rows_agree : {A : Type 0} (f g : ℕ → A) (n b : ℕ) → rows f n ≡ rows g n → b < n → f b ≡ g b
unfolding rows
rows_agree f g zero b h l = absurd (omega arith)
rows_agree f g (suc n) b h l = ⊎_elim
    (λ e. ap f e ∙ ap (λ xs. get_or xs 0 (f n)) h ∙ ap g (sym e))
    (λ below. rows_agree f g n b (ap (drop 1) h) below) (eq-or-lt_of_le {n = b} {m = n} (omega arith))

abbrev past_all : ℕ → List ℕ → ℕ
past_all place [] = place
past_all place (b ∷ text) = past_all (place + 1) text

past_all_is : (place : ℕ) (text : List ℕ) → past_all place text ≡ place + length text
past_all_is place [] = omega arith
past_all_is place (b ∷ text) = let more : place + 1 + length text ≡ place + suc (length text) = omega arith in past_all_is (place + 1) text ∙ more

byte_closes : (place : ℕ) (rest : List ℕ) (b : ℕ) → b < 128
    → closing 34 false place (debug_escape 34 b ++ rest) ≡ closing 34 false (past_all place (debug_escape 34 b)) rest
unfolding rows debug_escape Rattle.std.specs.Fmt.digits
byte_closes place rest b l = rows_agree (λ b. closing 34 false place (debug_escape 34 b ++ rest)) (λ b. closing 34 false (past_all place (debug_escape 34 b)) rest) 128 b refl l

byte_plain : (front : List ℕ) (b : ℕ) → b < 128 → unescaped_from (mode.Plain, front) (debug_escape 34 b) ≡ (mode.Plain, front ++ b ∷ [])
unfolding rows debug_escape Rattle.std.specs.Fmt.digits unescape with_digit escaped with_character lib.Utf8.encode
byte_plain front b l = rows_agree (λ b. unescaped_from (mode.Plain, front) (debug_escape 34 b)) (λ b. (mode.Plain, front ++ b ∷ [])) 128 b refl l

abbrev pub body : List ℕ → List ℕ
body = flat_map (debug_escape 34)

closes : (place : ℕ) (text c : List ℕ) → list_all is_ascii text ≡ true → closing 34 false place (body text ++ 34 ∷ c) ≡ Some (place + length (body text) + 1)
closes place [] c h = let none : place + 1 ≡ place + 0 + 1 = omega arith in ap (λ (n : ℕ). Some n) none
closes place (b ∷ text) c h =
    let parts = and_parts (is_ascii b) (list_all is_ascii text) h in
    let long : length (debug_escape 34 b ++ body text) ≡ length (debug_escape 34 b) + length (body text) = length-append (debug_escape 34 b) (body text) in
    let sum : place + length (debug_escape 34 b) + length (body text) + 1 ≡ place + length (debug_escape 34 b ++ body text) + 1 = omega arith in
    ap (closing 34 false place) (append_assoc (debug_escape 34 b) (body text) (34 ∷ c))
    ∙ byte_closes place (body text ++ 34 ∷ c) b (ltb-true b 128 parts.0)
    ∙ ap (λ (n : ℕ). closing 34 false n (body text ++ 34 ∷ c)) (past_all_is place (debug_escape 34 b))
    ∙ closes (place + length (debug_escape 34 b)) text c parts.1 ∙ ap (λ (n : ℕ). Some n) sum

plains : (front text : List ℕ) → list_all is_ascii text ≡ true → unescaped_from (mode.Plain, front) (body text) ≡ (mode.Plain, front ++ text)
plains front [] h = ap (λ (t : List ℕ). (mode.Plain, t)) (sym (append-nil front))
plains front (b ∷ text) h =
    let parts = and_parts (is_ascii b) (list_all is_ascii text) h in
    fold-append (λ (s : Mode × List ℕ) (b : ℕ). unescape s.0 s.1 b) (mode.Plain, front) (debug_escape 34 b) (body text)
    ∙ ap (λ (s : Mode × List ℕ). unescaped_from s (body text)) (byte_plain front b (ltb-true b 128 parts.0))
    ∙ plains (front ++ b ∷ []) text parts.1 ∙ ap (λ (t : List ℕ). (mode.Plain, t)) (append_assoc front (b ∷ []) text)

unescapes : (text : List ℕ) → list_all is_ascii text ≡ true → unescaped (body text) ≡ Some text
unfolding unescaped
unescapes text h = ap (λ (s : Mode × List ℕ). plain_or_none s.0 s.1) (plains [] text h)

ascii_at : (text : List ℕ) (i : ℕ) → list_all is_ascii text ≡ true → get_or text i 0 < 128
ascii_at [] i h = omega arith
ascii_at (b ∷ text) zero h = ltb-true b 128 (and_parts (is_ascii b) (list_all is_ascii text) h).0
ascii_at (b ∷ text) (suc i) h = ascii_at text i (and_parts (is_ascii b) (list_all is_ascii text) h).1

ascii_utf8 : (text : List ℕ) → list_all is_ascii text ≡ true → is_utf8 text ≡ true
ascii_utf8 text h = is_utf8-from_IsUtf8 text (IsUtf8-from_ascii text (λ i. ascii_at text i h))

pub inside_of : (q : ℕ) (t : List ℕ) → inside (q ∷ (t ++ q ∷ [])) ≡ t
inside_of q t =
    let one : min 1 (suc (length (t ++ q ∷ []))) ≡ 1 = omega arith in
    let long : length (t ++ q ∷ []) ≡ length t + 1 = length-append t (q ∷ []) in
    let less : length (t ++ q ∷ []) - 1 ≡ length t = omega arith in
    ap (λ (n : ℕ). take (length (drop n (q ∷ (t ++ q ∷ []))) - 1) (drop n (q ∷ (t ++ q ∷ [])))) one
    ∙ ap (λ (n : ℕ). take n (t ++ q ∷ [])) less ∙ take-append_seam t (q ∷ [])

quoted_token : (text c : List ℕ) → list_all is_ascii text ≡ true → token (34 ∷ ((body text ++ 34 ∷ []) ++ c)) ≡ (k.DoubleQuoted, suc (length (body text ++ 34 ∷ [])))
unfolding token
quoted_token text c h =
    let long : length (body text ++ 34 ∷ []) ≡ length (body text) + 1 = length-append (body text) (34 ∷ []) in
    let end : 1 + length (body text) + 1 ≡ suc (length (body text ++ 34 ∷ [])) = omega arith in
    ap (λ t. closed k.DoubleQuoted (closing 34 false 1 t)) (append_assoc (body text) (34 ∷ []) c)
    ∙ ap (closed k.DoubleQuoted) (closes 1 text c h) ∙ ap (λ (n : ℕ). (k.DoubleQuoted, n)) end

quoted_symbol : (text : List ℕ) → list_all is_ascii text ≡ true → symbol_of k.DoubleQuoted (34 ∷ (body text ++ 34 ∷ [])) ≡ quote text
quoted_symbol text h =
    ap (λ t. with_bytes quote (checked_bytes (unescaped t))) (inside_of 34 (body text))
    ∙ ap (λ o. with_bytes quote (checked_bytes o)) (unescapes text h)
    ∙ ap (λ b. with_bytes quote (cond b (Some text) None)) (ascii_utf8 text h)

pub quoted_over : (text c : List ℕ) → list_all is_ascii text ≡ true → Over (34 ∷ (body text ++ 34 ∷ []) ++ c) (quote text ∷ []) c
unfolding same_kind
quoted_over text c h = over_one (34 ∷ ((body text ++ 34 ∷ []) ++ c)) c (quote text) (k.DoubleQuoted, suc (length (body text ++ 34 ∷ [])))
    (no_blank 34 _ refl) (quoted_token text c h) refl
    (ap (λ w. symbol_of k.DoubleQuoted (34 ∷ w)) (take-append_seam (body text ++ 34 ∷ []) c) ∙ quoted_symbol text h)
    (drop-append_seam (body text ++ 34 ∷ []) c)
