-- The reader of printed expressions reads the tokens: names, numbers, quoted texts and links.
use Rattle.std.proofs.Common.{◌≡◌, ℕ, zero, suc, ◌+◌, ◌%◌, ◌^◌, ◌<◌, ◌==◌, Bool, true, false, cond, List, [], ◌∷◌, ◌++◌, get_or, drop, ⊎_elim, eq-or-lt_of_le, eqb-true, codes, bytes_eq, refl, sym, ap, ◌∙◌, append_assoc, append-nil, arith, flat_map}
use Rattle.std.specs.List.{list_all}
use Rattle.std.specs.Char.{is_ascii_digit, is_ascii}
use Rattle.std.specs.Fmt.{decimal, debug_escape}
use Rattle.std.proofs.lemmas.Fmt.{decimal_by_steps}
use Rattle.std.proofs.lemmas.Bool.{and_parts, ltb-true, not-true, cond-true, cond-false}
use Rattle.std.proofs.lemmas.Bool.Decides.{nat_tests}
use Rattle.msi_table_values.specs.CategoryRules.{starts_name, continues_name, is_identifier}
use Rattle.msi_table_values.specs.declared.value.Value.TheVariants.{Str}
use Rattle.msi_query_tokens.specs.Names.{doubled, doubled_byte}
use Rattle.msi_query_expressions.specs.declared.operators.BinaryOp.TheVariants as two
use Rattle.msi_query_expressions.specs.Expressions.{literal}
use Rattle.msi_query_expressions.proofs.ReaderLemmas.{Link, by, link_level, link_text, Frame, Place, place, settle, State, wanting, word, number, quoted_name, name_end, quote, after, right_of, step, step_after, run, is_ready, place_of}

pub run_append : (s : State) (a b : List ℕ) → run s (a ++ b) ≡ run (run s a) b
run_append s [] b = refl
run_append s (c ∷ cs) b = run_append (step s c) cs b

-- where an operand may end, a byte that continues none ends it
pub step_ready : (s : State) (c : ℕ) → is_ready s ≡ true → continues_name c ≡ false → is_ascii_digit c ≡ false → (c == 96) ≡ false → step s c ≡ step_after (place_of s) c
step_ready (word name fs) c ready e d q = cond-false (continues_name c) _ _ e ∙ cond-false (bytes_eq name (codes "NOT")) _ _ (not-true _ ready)
step_ready (number n fs) c ready e d q = rw d refl
step_ready (name_end name fs) c ready e d q = cond-false (c == 96) _ _ q
step_ready (after p) c ready e d q = refl
step_ready _ c ready e d q = absurd (let clash : false ≡ true = ready in cc)

-- a link begins with a space, and is known at the next one
link_text_first : (link : Link) → link_text link ≡ 32 ∷ drop 1 (link_text link)
link_text_first (by two.Eq) = refl
link_text_first (by _) = refl
link_text_first _ = refl

link_after : (link : Link) (p : Place) → run (after p) (link_text link) ≡ right_of link (settle (link_level link) p)
link_after (by two.Eq) p = refl
link_after (by _) p = refl
link_after _ p = refl

pub link_run : (link : Link) (s : State) → is_ready s ≡ true → run s (link_text link) ≡ right_of link (settle (link_level link) (place_of s))
link_run link s ready = ap (run s) (link_text_first link) ∙ ap (λ t. run t (drop 1 (link_text link))) (step_ready s 32 ready refl refl refl)
    ∙ sym (ap (run (after (place_of s))) (link_text_first link)) ∙ link_after link (place_of s)

-- a name
name_run : (fs : List Frame) (front cs : List ℕ) → list_all continues_name cs ≡ true → run (word front fs) cs ≡ word (front ++ cs) fs
name_run fs front [] h = ap (λ n. word n fs) (sym (append-nil front))
name_run fs front (c ∷ cs) h = let parts = and_parts _ _ h in
    ap (λ s. run s cs) (cond-true (continues_name c) _ _ parts.0) ∙ name_run fs (front ++ c ∷ []) cs parts.1 ∙ ap (λ n. word n fs) (append_assoc front (c ∷ []) cs)

no_digit : (c : ℕ) → starts_name c ≡ true → is_ascii_digit c ≡ false
no_digit c h = grind (arith, nat_tests)

pub identifier_run : (fs : List Frame) (name : List ℕ) → is_identifier name ≡ true → run (wanting fs) name ≡ word name fs
identifier_run fs [] h = absurd (let clash : false ≡ true = h in cc)
identifier_run fs (c ∷ cs) h = let parts = and_parts _ _ h in
    ap (λ s. run s cs) (cond-false (is_ascii_digit c) _ _ (no_digit c parts.0) ∙ cond-true (starts_name c) _ _ parts.0) ∙ name_run fs (c ∷ []) cs parts.1

-- a name in back quotes
quoted_byte_run : (fs : List Frame) (front : List ℕ) (b : ℕ) → run (quoted_name front fs) (doubled_byte b) ≡ quoted_name (front ++ b ∷ []) fs
quoted_byte_run fs front b = go (b == 96) refl
  where
    go : (q : Bool) → (b == 96) ≡ q → run (quoted_name front fs) (cond (b == 96) (96 ∷ 96 ∷ []) (b ∷ [])) ≡ quoted_name (front ++ b ∷ []) fs
    go true e = ap (λ (q : Bool). run (quoted_name front fs) (cond q (96 ∷ 96 ∷ []) (b ∷ []))) e
        ∙ ap (λ (c : ℕ). quoted_name (front ++ c ∷ []) fs) (sym (eqb-true b 96 e))
    go false e = ap (λ (q : Bool). run (quoted_name front fs) (cond q (96 ∷ 96 ∷ []) (b ∷ []))) e
        ∙ cond-false (b == 96) (name_end front fs) (quoted_name (front ++ b ∷ []) fs) e

quoted_bytes_run : (fs : List Frame) (front name : List ℕ) → run (quoted_name front fs) (doubled name) ≡ quoted_name (front ++ name) fs
quoted_bytes_run fs front [] = ap (λ n. quoted_name n fs) (sym (append-nil front))
quoted_bytes_run fs front (b ∷ name) = run_append (quoted_name front fs) (doubled_byte b) (doubled name)
    ∙ ap (λ s. run s (doubled name)) (quoted_byte_run fs front b)
    ∙ quoted_bytes_run fs (front ++ b ∷ []) name ∙ ap (λ n. quoted_name n fs) (append_assoc front (b ∷ []) name)

pub quoted_name_run : (fs : List Frame) (name : List ℕ) → run (wanting fs) (96 ∷ (doubled name ++ 96 ∷ [])) ≡ name_end name fs
quoted_name_run fs name = run_append (quoted_name [] fs) (doubled name) (96 ∷ []) ∙ ap (λ s. run s (96 ∷ [])) (quoted_bytes_run fs [] name)

-- a number
digit_tells : (d : ℕ) → d < 10 → is_ascii_digit (48 + d) ≡ true
digit_tells d h = grind (arith, nat_tests)

pub decimal_run : (fs : List Frame) (n : ℕ) → n < 2 ^ 64 → run (wanting fs) (decimal n) ≡ number n fs
decimal_run fs = decimal_by_steps (λ n ds. run (wanting fs) ds ≡ number n fs)
    (λ n l. cond-true (is_ascii_digit (48 + n)) _ _ (digit_tells n l) ∙ ap (λ m. number m fs) (omega arith))
    (λ n ds l h. run_append (wanting fs) ds ((48 + n % 10) ∷ []) ∙ ap (λ s. step s (48 + n % 10)) h
    ∙ cond-true (is_ascii_digit (48 + n % 10)) _ _ (digit_tells (n % 10) (omega arith)) ∙ ap (λ m. number m fs) (omega arith))

-- a quoted text: each byte by computation
rows : {A : Type 0} → (ℕ → A) → ℕ → List A
rows f zero = []
rows f (suc n) = f n ∷ rows f n

rows_agree : {A : Type 0} (f g : ℕ → A) (n b : ℕ) → rows f n ≡ rows g n → b < n → f b ≡ g b
unfolding rows
rows_agree f g zero b h l = absurd (omega arith)
rows_agree f g (suc n) b h l = ⊎_elim
    (λ e. ap f e ∙ ap (λ xs. get_or xs 0 (f n)) h ∙ ap g (sym e))
    (λ below. rows_agree f g n b (ap (drop 1) h) below) (eq-or-lt_of_le {n = b} {m = n} (omega arith))

byte_run : (fs : List Frame) (text : List ℕ) (b : ℕ) → b < 128 → run (quote text fs) (debug_escape 34 b) ≡ quote (text ++ b ∷ []) fs
unfolding rows debug_escape Rattle.std.specs.Fmt.digits
byte_run fs text b l = rows_agree (λ b. run (quote text fs) (debug_escape 34 b)) (λ b. quote (text ++ b ∷ []) fs) 128 b refl l

bytes_run : (fs : List Frame) (front text : List ℕ) → list_all is_ascii text ≡ true → run (quote front fs) (flat_map (debug_escape 34) text) ≡ quote (front ++ text) fs
bytes_run fs front [] h = ap (λ n. quote n fs) (sym (append-nil front))
bytes_run fs front (b ∷ text) h = let parts = and_parts _ _ h in
    run_append (quote front fs) (debug_escape 34 b) (flat_map (debug_escape 34) text)
    ∙ ap (λ s. run s (flat_map (debug_escape 34) text)) (byte_run fs front b (ltb-true b 128 parts.0))
    ∙ bytes_run fs (front ++ b ∷ []) text parts.1 ∙ ap (λ n. quote n fs) (append_assoc front (b ∷ []) text)

pub quoted_run : (fs : List Frame) (text : List ℕ) → list_all is_ascii text ≡ true
    → run (wanting fs) (34 ∷ (flat_map (debug_escape 34) text ++ 34 ∷ [])) ≡ after (place (literal (Str text)) fs)
quoted_run fs text h = run_append (quote [] fs) (flat_map (debug_escape 34) text) (34 ∷ []) ∙ ap (λ s. run s (34 ∷ [])) (bytes_run fs [] text h)
