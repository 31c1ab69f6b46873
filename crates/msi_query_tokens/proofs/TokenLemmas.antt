-- Tokens: kinds are told apart, each token takes bytes, and a plain name is UTF-8.
use Rattle.std.proofs.Common.{◌≡◌, ◌≢◌, ℕ, zero, suc, ◌+◌, ◌<◌, ◌≤◌, ◌==◌, ◌&&◌, Bool, true, false, cond, if◌then◌else◌, List, [], ◌∷◌, length, take, drop, slice_index, Option, Some, None, IsAscii, refl, sym, ap, subst, ◌∙◌, arith, eq-eqb}
use Rattle.std.specs.List.{prefix_len}
use Rattle.std.specs.Str.{is_utf8}
use Rattle.std.proofs.lemmas.Grind.{common_steps}
use Rattle.std.proofs.lemmas.Str.{IsUtf8-from_ascii, is_utf8-from_IsUtf8}
use Rattle.std.proofs.lemmas.Str.Ascii.{IsAscii-nil, IsAscii-cons}
use denote.Enum.Bare.{same_true, true_same, false_same}
use Rattle.msi_query_tokens.specs.contracts.token.Kind.{the_type}
use Rattle.msi_query_tokens.specs.declared.lex.Class.TheVariants as class
use Rattle.msi_query_tokens.specs.declared.token.Kind.{Kind}
use Rattle.msi_query_tokens.specs.declared.token.Kind.TheVariants as k
use Rattle.msi_query_tokens.specs.Tokens.{Cut, IsShort, token, token_at, word, closing, closed, quoted, semicolon, marks, mark, past, is_in, takes_next, same_kind}
use Rattle.msi_query_tokens.specs.Symbols.{ends}

-- ---- kinds

pub kind_is : (a b : Kind) → same_kind a b ≡ true → a ≡ b
unfolding same_kind
kind_is a b e = same_true the_type tt a b e

pub is_kind : (a b : Kind) → a ≡ b → same_kind a b ≡ true
unfolding same_kind
is_kind a b e = true_same the_type a b e

pub other_kind : (a b : Kind) → (a ≡ b → ⊥) → same_kind a b ≡ false
unfolding same_kind
other_kind a b f = false_same the_type tt a b f

-- ---- what holds of both sides of a choice

either_way : {A : Type 0} (P : A → Type 0) (x : Bool) (u v : A) → P u → P v → P (if x then u else v)
either_way P true u v p q = p
either_way P false u v p q = q

known_way : {A : Type 0} (P : A → Type 0) (x : Bool) (u v : A) → (x ≡ true → P u) → P v → P (if x then u else v)
known_way P true u v p q = p refl
known_way P false u v p q = q

-- ---- each token takes bytes

abbrev Takes : Cut → Type 0
Takes c = 0 < c.1

closing_behind : (quote : ℕ) (taken : Bool) (place : ℕ) (text : List ℕ) (end : ℕ) → closing quote taken place text ≡ Some end → place < end
closing_behind quote taken place [] end e = absurd (cc)
closing_behind quote true place (b ∷ text) end e = let h = closing_behind quote false (place + 1) text end e in omega arith
closing_behind quote false place (b ∷ text) end e = by (takes_next quote b (slice_index text 0)) (b == quote) (closing_behind quote true (place + 1) text end) (closing_behind quote false (place + 1) text end) e
  where
    by : (x y : Bool) → (closing quote true (place + 1) text ≡ Some end → place + 1 < end) → (closing quote false (place + 1) text ≡ Some end → place + 1 < end)
        → (if x then closing quote true (place + 1) text else (if y then Some (place + 1) else closing quote false (place + 1) text)) ≡ Some end → place < end
    by true y f g h = let l = f h in omega arith
    by false true f g h = grind arith
    by false false f g h = let l = g h in omega arith

closed_takes : (kind : Kind) (o : Option ℕ) → ((end : ℕ) → o ≡ Some end → 0 < end) → Takes (closed kind o)
closed_takes kind None f = omega arith
closed_takes kind (Some end) f = f end refl

quoted_takes : (kind : Kind) (text : List ℕ) → Takes (quoted kind text)
quoted_takes kind text = closed_takes kind _ (λ end e. let h = closing_behind (slice_index text 0) false 1 (drop 1 text) end e in omega arith)

mark_any : (P : Kind → Type 0) (b : ℕ) → P k.Open → P k.Close → P k.Comma → P k.Dot → P k.Eq → P k.BitOr → P k.BitXor → P k.BitAnd → P k.BitNot → P k.Add → P k.Sub → P k.Star → P k.Div → P k.Unknown → P (mark b)
mark_any P b p1 p2 p3 p4 p5 p6 p7 p8 p9 p10 p11 p12 p13 p14 = either_way P _ _ _ p1 (either_way P _ _ _ p2 (either_way P _ _ _ p3 (either_way P _ _ _ p4
    (either_way P _ _ _ p5 (either_way P _ _ _ p6 (either_way P _ _ _ p7 (either_way P _ _ _ p8 (either_way P _ _ _ p9 (either_way P _ _ _ p10
    (either_way P _ _ _ p11 (either_way P _ _ _ p12 (either_way P _ _ _ p13 p14))))))))))))

marks_any : (P : Cut → Type 0) (b next : ℕ) → P (k.Le, 2) → P (k.Ne, 2) → P (k.Shl, 2) → P (k.Lt, 1) → P (k.Ge, 2) → P (k.Shr, 2) → P (k.Gt, 1) → P (mark b, 1) → P (marks b next)
marks_any P b next le ne shl lt ge shr gt one = either_way P (b == 60) _ _ (either_way P (next == 61) _ _ le (either_way P (next == 62) _ _ ne (either_way P (next == 60) _ _ shl lt)))
    (either_way P (b == 62) _ _ (either_way P (next == 61) _ _ ge (either_way P (next == 62) _ _ shr gt)) (either_way P (b == 33 && next == 61) _ _ ne one))

marks_take : (b next : ℕ) → Takes (marks b next)
marks_take b next = marks_any Takes b next (omega arith) (omega arith) (omega arith) (omega arith) (omega arith) (omega arith) (omega arith) (omega arith)

digits_take : (b : ℕ) (text : List ℕ) → is_in class.Digit b ≡ true → 0 < past class.Digit (b ∷ text) 0
digits_take b text e = let h : prefix_len (is_in class.Digit) (b ∷ text) ≡ 1 + prefix_len (is_in class.Digit) text = ap (λ t. cond t (1 + prefix_len (is_in class.Digit) text) 0) e in omega arith

end_ends : same_kind k.End k.End ≡ false → ⊥
unfolding same_kind
end_ends e = cc

-- where it is no end
abbrev TakesMore : Cut → Type 0
TakesMore c = same_kind c.0 k.End ≡ false → 0 < c.1

semicolon_takes : (text : List ℕ) → TakesMore (semicolon text)
semicolon_takes text = either_way TakesMore (past class.Blank text 1 == length text) (k.End, 0) (k.Unknown, 1) (λ e. absurd (end_ends e)) (λ e. omega arith)

pub token_takes : (text : List ℕ) → ends text ≡ false → 0 < (token text).1
unfolding token
token_takes [] e = absurd (end_ends e)
token_takes (b ∷ text) e =
    let all = b ∷ text in
    (either_way TakesMore (is_in class.Letter b) (word all) _ (λ _. omega arith) (known_way TakesMore (is_in class.Digit b) (k.Number, past class.Digit all 0) _ (λ d _. digits_take b text d)
    (either_way TakesMore (b == 39) (quoted k.SingleQuoted all) _ (λ _. quoted_takes k.SingleQuoted all) (either_way TakesMore (b == 34) (quoted k.DoubleQuoted all) _ (λ _. quoted_takes k.DoubleQuoted all)
    (either_way TakesMore (b == 96) (quoted k.QuotedName all) _ (λ _. quoted_takes k.QuotedName all) (either_way TakesMore (b == 59) (semicolon all) (marks b (slice_index all 1)) (semicolon_takes all)
    (λ _. marks_take b (slice_index all 1)))))))) e

-- ---- plain names

small : (b : ℕ) → is_in class.Name b ≡ true → b < 128
small b e = grind (arith, common_steps)

small_letter : (b : ℕ) → is_in class.Letter b ≡ true → b < 128
small_letter b e = grind (arith, common_steps)

front_ascii : (xs : List ℕ) → IsAscii (take (prefix_len (is_in class.Name) xs) xs)
front_ascii [] = IsAscii-nil
front_ascii (x ∷ xs) = by (is_in class.Name x) refl (front_ascii xs)
  where
    by : (t : Bool) → is_in class.Name x ≡ t → IsAscii (take (prefix_len (is_in class.Name) xs) xs) → IsAscii (take (cond t (1 + prefix_len (is_in class.Name) xs) 0) (x ∷ xs))
    by true e h = let one : suc (prefix_len (is_in class.Name) xs) ≡ 1 + prefix_len (is_in class.Name) xs = omega arith in
        subst (λ n. IsAscii (take n (x ∷ xs))) one (IsAscii-cons x (take (prefix_len (is_in class.Name) xs) xs) (small x e) h)
    by false e h = IsAscii-nil

word_ascii : (b : ℕ) (text : List ℕ) → is_in class.Letter b ≡ true → is_utf8 (take (past class.Name (b ∷ text) 1) (b ∷ text)) ≡ true
word_ascii b text e =
    let one : suc (prefix_len (is_in class.Name) text) ≡ 1 + prefix_len (is_in class.Name) text = omega arith in
    subst (λ n. is_utf8 (take n (b ∷ text)) ≡ true) one (is_utf8-from_IsUtf8 _ (IsUtf8-from_ascii _ (IsAscii-cons b (take (prefix_len (is_in class.Name) text) text) (small_letter b e) (front_ascii text))))

abbrev is_plain : Kind → Bool
is_plain k.Name = true
is_plain _ = false

abbrev Other : Cut → Type 0
Other c = is_plain c.0 ≡ false

abbrev OtherKind : Kind → Type 0
OtherKind kind = is_plain kind ≡ false

mark_other : (b : ℕ) → OtherKind (mark b)
mark_other b = mark_any OtherKind b refl refl refl refl refl refl refl refl refl refl refl refl refl refl

marks_other : (b next : ℕ) → Other (marks b next)
marks_other b next = marks_any Other b next refl refl refl refl refl refl refl (mark_other b)

semicolon_other : (text : List ℕ) → Other (semicolon text)
semicolon_other text = either_way Other (past class.Blank text 1 == length text) (k.End, 0) (k.Unknown, 1) refl refl

closed_other : (kind : Kind) (o : Option ℕ) → OtherKind kind → Other (closed kind o)
closed_other kind None e = refl
closed_other kind (Some end) e = e

abbrev Fits : List ℕ → Cut → Type 0
Fits text c = is_plain c.0 ≡ true → is_utf8 (take c.1 text) ≡ true

unfit : (text : List ℕ) (c : Cut) → Other c → Fits text c
unfit text c e h = absurd (cc)

fitting : (text : List ℕ) → Fits text (token text)
unfolding token
fitting [] h = absurd (cc)
fitting (b ∷ text) h =
    let all = b ∷ text in
    (known_way (Fits all) (is_in class.Letter b) (word all) _ (λ e _. word_ascii b text e) (either_way (Fits all) (is_in class.Digit b) (k.Number, past class.Digit all 0) _ (λ h. absurd (cc))
    (either_way (Fits all) (b == 39) _ _ (unfit all (quoted k.SingleQuoted all) (closed_other k.SingleQuoted (closing (slice_index all 0) false 1 (drop 1 all)) refl))
    (either_way (Fits all) (b == 34) _ _ (unfit all (quoted k.DoubleQuoted all) (closed_other k.DoubleQuoted (closing (slice_index all 0) false 1 (drop 1 all)) refl))
    (either_way (Fits all) (b == 96) _ _ (unfit all (quoted k.QuotedName all) (closed_other k.QuotedName (closing (slice_index all 0) false 1 (drop 1 all)) refl))
    (either_way (Fits all) (b == 59) _ _ (unfit all (semicolon all) (semicolon_other all))
    (unfit all (marks b (slice_index all 1)) (marks_other b (slice_index all 1))))))))) h

pub plain_name : (text : List ℕ) → (token text).0 ≡ k.Name → is_utf8 (take (token text).1 text) ≡ true
plain_name text e = fitting text (ap is_plain e)

-- ---- the token, by the tests of its first byte in turn

chosen : {A : Type 0} (x : Bool) (u v : A) → x ≡ true → (if x then u else v) ≡ u
chosen true u v e = refl
chosen false u v e = cc

passed : {A : Type 0} (x : Bool) (u v : A) → x ≡ false → (if x then u else v) ≡ v
passed true u v e = cc
passed false u v e = refl

differ : (m n : ℕ) → (m ≡ n → ⊥) → (m == n) ≡ false
differ m n h = grind arith

pub some_bytes : (text : List ℕ) → (length text == 0) ≡ false → 0 < length text
some_bytes [] e = absurd (cc)
some_bytes (b ∷ text) e = omega arith

none_or_some : (n : ℕ) → 0 < n → (n == 0) ≡ true → ⊥
none_or_some n some e = grind arith

pub end_token : (text : List ℕ) → (length text == 0) ≡ true → token text ≡ (k.End, 0)
unfolding token
end_token [] e = refl
end_token (b ∷ text) e = absurd (none_or_some (length (b ∷ text)) (omega arith) e)

first_byte : (text : List ℕ) → 0 < length text → token text ≡ token_at (slice_index text 0) text
unfolding token
first_byte [] some = absurd (omega arith)
first_byte (b ∷ text) some = refl

module _ (text : List ℕ) (b : ℕ) (is : b ≡ slice_index text 0) (some : 0 < length text) where
  at_first : token text ≡ token_at b text
  at_first = first_byte text some ∙ ap (λ x. token_at x text) (sym is)

  pub letter_token : is_in class.Letter b ≡ true → token text ≡ word text
  letter_token is_letter = at_first ∙ chosen (is_in class.Letter b) (word text) _ is_letter

  pub digit_token : (end : ℕ) → end ≡ past class.Digit text 0 → is_in class.Letter b ≡ false → is_in class.Digit b ≡ true → token text ≡ (k.Number, end)
  digit_token end e letter digit = subst (λ n. token text ≡ (k.Number, n)) (sym e)
      (at_first ∙ passed (is_in class.Letter b) (word text) _ letter ∙ chosen (is_in class.Digit b) (k.Number, past class.Digit text 0) _ digit)

  abbrev behind_names : Cut
  behind_names = if b == 59 then semicolon text else marks b (slice_index text 1)

  abbrev behind_words : Cut
  behind_words =
      if b == 39 then quoted k.SingleQuoted text
      else (if b == 34 then quoted k.DoubleQuoted text
      else (if b == 96 then quoted k.QuotedName text else behind_names))

  no_word : is_in class.Letter b ≡ false → is_in class.Digit b ≡ false → token text ≡ behind_words
  no_word letter digit = at_first ∙ passed (is_in class.Letter b) (word text) _ letter ∙ passed (is_in class.Digit b) (k.Number, past class.Digit text 0) _ digit

  pub single_token : is_in class.Letter b ≡ false → is_in class.Digit b ≡ false → b ≡ 39 → token text ≡ quoted k.SingleQuoted text
  single_token letter digit quote = no_word letter digit ∙ chosen (b == 39) (quoted k.SingleQuoted text) _ (eq-eqb b 39 quote)

  pub double_token : is_in class.Letter b ≡ false → is_in class.Digit b ≡ false → b ≢ 39 → b ≡ 34 → token text ≡ quoted k.DoubleQuoted text
  double_token letter digit single quote =
      no_word letter digit ∙ passed (b == 39) (quoted k.SingleQuoted text) _ (differ b 39 single)
      ∙ chosen (b == 34) (quoted k.DoubleQuoted text) _ (eq-eqb b 34 quote)

  no_text : is_in class.Letter b ≡ false → is_in class.Digit b ≡ false → b ≢ 39 → b ≢ 34
      → token text ≡ (if b == 96 then quoted k.QuotedName text else behind_names)
  no_text letter digit single double =
      no_word letter digit ∙ passed (b == 39) (quoted k.SingleQuoted text) _ (differ b 39 single)
      ∙ passed (b == 34) (quoted k.DoubleQuoted text) _ (differ b 34 double)

  pub name_token : is_in class.Letter b ≡ false → is_in class.Digit b ≡ false → b ≢ 39 → b ≢ 34 → b ≡ 96 → token text ≡ quoted k.QuotedName text
  name_token letter digit single double quote =
      no_text letter digit single double ∙ chosen (b == 96) (quoted k.QuotedName text) _ (eq-eqb b 96 quote)

  no_name : is_in class.Letter b ≡ false → is_in class.Digit b ≡ false → b ≢ 39 → b ≢ 34 → b ≢ 96 → token text ≡ behind_names
  no_name letter digit single double back =
      no_text letter digit single double ∙ passed (b == 96) (quoted k.QuotedName text) _ (differ b 96 back)

  pub semicolon_token : is_in class.Letter b ≡ false → is_in class.Digit b ≡ false → b ≢ 39 → b ≢ 34 → b ≢ 96 → b ≡ 59 → token text ≡ semicolon text
  semicolon_token letter digit single double back is =
      no_name letter digit single double back ∙ chosen (b == 59) (semicolon text) _ (eq-eqb b 59 is)

  pub mark_token : is_in class.Letter b ≡ false → is_in class.Digit b ≡ false → b ≢ 39 → b ≢ 34 → b ≢ 96 → b ≢ 59 → token text ≡ marks b (slice_index text 1)
  mark_token letter digit single double back other =
      no_name letter digit single double back ∙ passed (b == 59) (semicolon text) _ (differ b 59 other)

-- one byte, or two where there are as many
pub short_fits : (next len n : ℕ) → IsShort next len → (next ≢ 0 → 1 < n) → 0 < n → len ≤ n
short_fits zero len n short more some = let one = short.2 refl in omega arith
short_fits (suc next) len n short more some = let two : 1 < n = more (λ e. absurd (cc)) in let most = short.1 in omega arith
