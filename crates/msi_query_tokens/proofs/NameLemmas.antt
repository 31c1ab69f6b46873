-- Names in back quotes: how they are written, and that they are read back.
use Rattle.std.proofs.Common.{◌≡◌, ℕ, suc, ◌+◌, ◌-◌, ◌<◌, Bool, true, false, not, ◌&&◌, ◌==◌, cond, List, [], ◌∷◌, ◌++◌, length, take, drop, slice_index, Some, None, Result, IsOk, codes, refl, sym, ap, ap₂, ◌∙◌, append_assoc, eqb-true, length-append, arith}
use denote.Bor.{Bor}
use Rattle.std.proofs.lemmas.Str.Pattern.{IsSplitOnceResult, split_once_first}
use Rattle.std.specs.List.{position_or_len, before_first, after_first}
use Rattle.std.specs.Str.{is_utf8}
use Rattle.std.specs.Fmt.{DisplaysOnOk}
use Rattle.std.specs.declared.fmt.Error.{Error}
use Rattle.std.specs.declared.fmt.Formatter.{Formatter}
use Rattle.std.proofs.Output.{displays_on_IsOk_append, displays_on_ok_of_eq}
use Rattle.std.proofs.Math.Seq.{take-append_seam, drop-append_seam}
use Rattle.std.proofs.lemmas.List.{length-drop}
use Rattle.std.proofs.lemmas.Bool.{and_parts}
use Rattle.msi_query_tokens.specs.declared.token.Kind.TheVariants as k
use Rattle.msi_query_tokens.specs.Names.{is_plain_name, doubled, name_text}
use Rattle.msi_query_tokens.specs.Tokens.{token, same_kind, kind_of_word, closing, closed}
use Rattle.msi_categories.specs.CategoryRules.{is_identifier}
use Rattle.msi_query_tokens.specs.Texts.{undoubled}
use Rattle.msi_query_tokens.specs.Symbols.{named, symbol_of, with_bytes, checked_bytes}
use Rattle.msi_query_tokens.proofs.CutLemmas.{Over, over_one, no_blank, is_apart, no_quote, inside_of, name_over}

-- ---- writing

-- what writes the rest behind what is written writes the whole
pub record GoesOn {W : Type 0} (took : W → List ℕ → W → Type 0) (first : Formatter W) (text : List ℕ) (now : Formatter W) (rest : List ℕ) : Type 0 where
  pub whole : (r : Result (Unit {0}) Error) (last : Formatter W) → DisplaysOnOk took now r (Some (doubled rest)) last → DisplaysOnOk took first r (Some (doubled text)) last

pub goes_on : {W : Type 0} (took : W → List ℕ → W → Type 0) (first now middle after : Formatter W) (text rest front behind : List ℕ) (r s : Result (Unit {0}) Error)
    → GoesOn took first text now rest → doubled rest ≡ front ++ (96 ∷ 96 ∷ doubled behind) → IsOk r → IsOk s
    → DisplaysOnOk took now r (Some front) middle → DisplaysOnOk took middle s (Some (codes "``")) after → GoesOn took first text after behind
goes_on took first now middle after text rest front behind r s h e a b x y = record {
  whole = λ t last w. h.whole t last (displays_on_ok_of_eq took now last t _ _ (ap (λ (bs : List ℕ). Some bs) (sym e))
      (displays_on_IsOk_append took now middle last r t (Some front) (Some (96 ∷ 96 ∷ doubled behind)) (λ _. a) x
      (displays_on_IsOk_append took middle after last s t (Some (codes "``")) (Some (doubled behind)) (λ _. b) y w)));
}

abbrev is_quote : ℕ → Bool
is_quote b = b == 96

pub doubled_once : (xs : List ℕ) → position_or_len is_quote xs < length xs → doubled xs ≡ before_first is_quote xs ++ (96 ∷ 96 ∷ doubled (after_first is_quote xs))
doubled_once [] h = absurd (omega arith)
doubled_once (x ∷ xs) h = go (is_quote x) refl (doubled_once xs)
  where
    go : (b : Bool) → is_quote x ≡ b → (position_or_len is_quote xs < length xs → doubled xs ≡ before_first is_quote xs ++ (96 ∷ 96 ∷ doubled (after_first is_quote xs)))
        → doubled (x ∷ xs) ≡ before_first is_quote (x ∷ xs) ++ (96 ∷ 96 ∷ doubled (after_first is_quote (x ∷ xs)))
    go true e more = ap (λ (b : Bool). cond b (96 ∷ 96 ∷ []) (x ∷ []) ++ doubled xs) e
        ∙ sym (ap (λ (b : Bool). take (cond (not b) (1 + position_or_len is_quote xs) 0) (x ∷ xs) ++ (96 ∷ 96 ∷ doubled (drop (cond (not b) (1 + position_or_len is_quote xs) 0 + 1) (x ∷ xs)))) e)
    go false e more =
        let place : position_or_len is_quote (x ∷ xs) ≡ 1 + position_or_len is_quote xs = ap (λ (b : Bool). cond (not b) (1 + position_or_len is_quote xs) 0) e in
        let one : 1 + position_or_len is_quote xs ≡ suc (position_or_len is_quote xs) = omega arith in
        let two : suc (position_or_len is_quote xs) + 1 ≡ suc (position_or_len is_quote xs + 1) = omega arith in
        let less : position_or_len is_quote xs < length xs = omega arith in
        ap (λ (b : Bool). cond b (96 ∷ 96 ∷ []) (x ∷ []) ++ doubled xs) e
        ∙ ap (λ (t : List ℕ). x ∷ t) (more less)
        ∙ sym (ap (λ (m : ℕ). take m (x ∷ xs) ++ (96 ∷ 96 ∷ doubled (drop (m + 1) (x ∷ xs)))) (place ∙ one)
        ∙ ap (λ (m : ℕ). take (suc (position_or_len is_quote xs)) (x ∷ xs) ++ (96 ∷ 96 ∷ doubled (drop m (x ∷ xs)))) two)

pub doubled_none : (xs : List ℕ) → position_or_len is_quote xs ≡ length xs → doubled xs ≡ xs
doubled_none [] h = refl
doubled_none (x ∷ xs) h = go (is_quote x) refl (doubled_none xs)
  where
    go : (b : Bool) → is_quote x ≡ b → (position_or_len is_quote xs ≡ length xs → doubled xs ≡ xs) → doubled (x ∷ xs) ≡ x ∷ xs
    go true e more =
        let place : position_or_len is_quote (x ∷ xs) ≡ 0 = ap (λ (b : Bool). cond (not b) (1 + position_or_len is_quote xs) 0) e in
        absurd (omega arith)
    go false e more =
        let place : position_or_len is_quote (x ∷ xs) ≡ 1 + position_or_len is_quote xs = ap (λ (b : Bool). cond (not b) (1 + position_or_len is_quote xs) 0) e in
        let rest : position_or_len is_quote xs ≡ length xs = omega arith in
        ap (λ (b : Bool). cond b (96 ∷ 96 ∷ []) (x ∷ []) ++ doubled xs) e ∙ ap (λ (t : List ℕ). x ∷ t) (more rest)

-- what `split_once` returns
pub doubled_split : (rest : List ℕ) (x : Bor (List ℕ) × Bor (List ℕ)) → IsSplitOnceResult 96 rest (Some x) → (doubled rest ≡ x.0.now ++ (96 ∷ 96 ∷ doubled x.1.now)) × (length x.1.now < length rest)
doubled_split rest x h =
    let s = split_once_first 96 rest (Some x) h (omega arith) in
    let less : position_or_len is_quote rest < length rest = s.0 in
    let cut : length x.1.now ≡ length rest - (position_or_len is_quote rest + 1) = ap length s.2 ∙ length-drop (position_or_len is_quote rest + 1) rest in
    (doubled_once rest s.0 ∙ ap₂ (λ (f b : List ℕ). f ++ (96 ∷ 96 ∷ doubled b)) (sym s.1) (sym s.2), omega (arith, less, cut))

pub doubled_whole : (rest : List ℕ) → IsSplitOnceResult 96 rest None → doubled rest ≡ rest
doubled_whole rest h = doubled_none rest (split_once_first 96 rest None h (omega arith))

-- ---- reading

closes_name : (place : ℕ) (name c : List ℕ) → is_quote (slice_index c 0) ≡ false → closing 96 false place (doubled name ++ 96 ∷ c) ≡ Some (place + length (doubled name) + 1)
closes_name place [] c h =
    let end : place + 1 ≡ place + 0 + 1 = omega arith in
    ap (λ (b : Bool). cond b (closing 96 true (place + 1) c) (Some (place + 1))) h ∙ ap (λ (n : ℕ). Some n) end
closes_name place (b ∷ name) c h = go (is_quote b) refl (λ n. closes_name n name c h)
  where
    go : (q : Bool) → is_quote b ≡ q → ((n : ℕ) → closing 96 false n (doubled name ++ 96 ∷ c) ≡ Some (n + length (doubled name) + 1)) → closing 96 false place (doubled (b ∷ name) ++ 96 ∷ c) ≡ Some (place + length (doubled (b ∷ name)) + 1)
    go true e more =
        let long : place + 1 + 1 + length (doubled name) + 1 ≡ place + suc (suc (length (doubled name))) + 1 = omega arith in
        ap (λ (q : Bool). closing 96 false place ((cond q (96 ∷ 96 ∷ []) (b ∷ []) ++ doubled name) ++ 96 ∷ c)) e
        ∙ more (place + 1 + 1)
        ∙ ap (λ (n : ℕ). Some n) long
        ∙ sym (ap (λ (q : Bool). Some (place + length (cond q (96 ∷ 96 ∷ []) (b ∷ []) ++ doubled name) + 1)) e)
    go false e more =
        let long : place + 1 + length (doubled name) + 1 ≡ place + suc (length (doubled name)) + 1 = omega arith in
        ap (λ (q : Bool). closing 96 false place ((cond q (96 ∷ 96 ∷ []) (b ∷ []) ++ doubled name) ++ 96 ∷ c)) e
        ∙ ap (λ (q : Bool). cond (q && is_quote (slice_index (doubled name ++ 96 ∷ c) 0)) (closing 96 true (place + 1) (doubled name ++ 96 ∷ c))
        (cond q (Some (place + 1)) (closing 96 false (place + 1) (doubled name ++ 96 ∷ c)))) e
        ∙ more (place + 1)
        ∙ ap (λ (n : ℕ). Some n) long
        ∙ sym (ap (λ (q : Bool). Some (place + length (cond q (96 ∷ 96 ∷ []) (b ∷ []) ++ doubled name) + 1)) e)

undoubles : (name : List ℕ) → undoubled 96 false (doubled name) ≡ name
undoubles [] = refl
undoubles (b ∷ name) = go (is_quote b) refl (undoubles name)
  where
    go : (q : Bool) → is_quote b ≡ q → undoubled 96 false (doubled name) ≡ name → undoubled 96 false (doubled (b ∷ name)) ≡ b ∷ name
    go true e more = ap (λ (q : Bool). undoubled 96 false (cond q (96 ∷ 96 ∷ []) (b ∷ []) ++ doubled name)) e
        ∙ ap (λ (t : List ℕ). 96 ∷ t) more ∙ ap (λ (c : ℕ). c ∷ name) (sym (eqb-true b 96 e))
    go false e more = ap (λ (q : Bool). undoubled 96 false (cond q (96 ∷ 96 ∷ []) (b ∷ []) ++ doubled name)) e
        ∙ ap (λ (q : Bool). b ∷ undoubled 96 q (doubled name)) e ∙ ap (λ (t : List ℕ). b ∷ t) more

quoted_name_token : (name c : List ℕ) → is_quote (slice_index c 0) ≡ false
    → token (96 ∷ ((doubled name ++ 96 ∷ []) ++ c)) ≡ (k.QuotedName, suc (length (doubled name ++ 96 ∷ [])))
unfolding token
quoted_name_token name c h =
    let long : length (doubled name ++ 96 ∷ []) ≡ length (doubled name) + 1 = length-append (doubled name) (96 ∷ []) in
    let end : 1 + length (doubled name) + 1 ≡ suc (length (doubled name ++ 96 ∷ [])) = omega arith in
    ap (λ t. closed k.QuotedName (closing 96 false 1 t)) (append_assoc (doubled name) (96 ∷ []) c)
    ∙ ap (closed k.QuotedName) (closes_name 1 name c h) ∙ ap (λ (n : ℕ). (k.QuotedName, n)) end

quoted_name_symbol : (name : List ℕ) → is_utf8 name ≡ true → symbol_of k.QuotedName (96 ∷ (doubled name ++ 96 ∷ [])) ≡ named name
quoted_name_symbol name u =
    ap (λ t. with_bytes named (checked_bytes (Some (undoubled 96 false t)))) (inside_of 96 (doubled name))
    ∙ ap (λ t. with_bytes named (checked_bytes (Some t))) (undoubles name)
    ∙ ap (λ b. with_bytes named (cond b (Some name) None)) u

quoted_name_over : (name c : List ℕ) → is_utf8 name ≡ true → is_apart c ≡ true → Over ((96 ∷ (doubled name ++ 96 ∷ [])) ++ c) (named name ∷ []) c
unfolding same_kind
quoted_name_over name c u a = over_one (96 ∷ ((doubled name ++ 96 ∷ []) ++ c)) c (named name) (k.QuotedName, suc (length (doubled name ++ 96 ∷ [])))
    (no_blank 96 _ refl) (quoted_name_token name c (no_quote c a)) refl
    (ap (λ w. symbol_of k.QuotedName (96 ∷ w)) (take-append_seam (doubled name ++ 96 ∷ []) c) ∙ quoted_name_symbol name u)
    (drop-append_seam (doubled name ++ 96 ∷ []) c)

-- a printed name is read as the name
pub name_text_over : (name c : List ℕ) → is_utf8 name ≡ true → is_apart c ≡ true → Over (name_text name ++ c) (named name ∷ []) c
name_text_over name c u a = go (is_plain_name name) refl
  where
    go : (b : Bool) → is_plain_name name ≡ b → Over (cond b name (96 ∷ (doubled name ++ 96 ∷ [])) ++ c) (named name ∷ []) c
    go true e = let parts = and_parts (is_identifier name) (same_kind (kind_of_word name) k.Name) e in name_over name c parts.0 parts.1 a
    go false e = quoted_name_over name c u a
