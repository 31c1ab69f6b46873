-- Expressions that are spelled are read.
use Rattle.std.proofs.Common.{◌≡◌, ℕ, zero, suc, ◌+◌, ◌-◌, ◌^◌, ◌<◌, ◌≤◌, max, min, Bool, true, false, not, ◌&&◌, if◌then◌else◌, List, [], ◌∷◌, ◌++◌, length, Ok, Err, refl, sym, ◌∙◌, ap, subst, nat_le, pos, negsuc, neg_ℤ, arith}
use Rattle.std.proofs.lemmas.Bool.{leb-true, le-leb, lt-ltb, le-ltb}
use Rattle.msi_table_values.specs.declared.value.Value.{Value}
use Rattle.msi_table_values.specs.declared.value.Value.TheVariants as v
use Rattle.msi_query_expressions.specs.declared.operators.UnaryOp.{UnaryOp}
use Rattle.msi_query_expressions.specs.declared.operators.UnaryOp.TheVariants as one
use Rattle.msi_query_expressions.specs.Expressions.{Expression, literal, column as column_of}
use Rattle.msi_query_expressions.specs.Folding.{folded_unary}
use Rattle.msi_query_tokens.specs.declared.token.Kind.{Kind}
use Rattle.msi_query_tokens.specs.declared.token.Kind.TheVariants as k
use Rattle.msi_query_tokens.specs.declared.refusal.Expected.TheVariants as expected
use Rattle.msi_query_tokens.specs.Tokens.{is_name}
use Rattle.msi_query_tokens.specs.Input.{Input, Outcome, Reader, and_then, ◌<$>◌, ◌>>=◌, pure, peek, refuse, expect, kind, spelling, next, sees, after, left, start_of}
use Rattle.msi_query_tokens.specs.Texts.{text, negative}
use Rattle.msi_query_tokens.specs.Symbols.{Symbol, mark, named, number, quote, symbol_of}
use Rattle.msi_query_tokens.proofs.SymbolLemmas.{is_text, quoted_token, spans_split, spans_shorter}
use Rattle.msi_query_tokens.proofs.StepLemmas.{Next, Leads, after_yes, after_no, risen, risen_height}
use Rattle.msi_query_parse.specs.Operators.{binds, links, linked, null_compared}
use Rattle.msi_query_parse.specs.Reading.{column, term_by, term, compared, null_test, negated, bracketed, operand_by, operand, behind, operation_by, operation, climb, operations, level, expression, condition, whole}
use Rattle.msi_query_parse.specs.Grammar.{Phrase, constant, minus_zero, reference, grouped, front, link, null_test as null_test_of, null_symbols, ColumnName, plain, parts, bytes_of, name_symbols, value_symbols, phrase_symbols, phrase_level, phrase_height, is_phrase, is_digits, front_mark, expression_of, SpellsExpression}
use Rattle.msi_query_parse.proofs.NamesRead.{first_kind, at, kind_at, next_at, leads_next, then_read, mark_kind, sees_yes, sees_no, expect_read, risen_read, text_read, named_here, column_read, positive_read, negative_read, number_here, whole_read, end_kind}
use Rattle.msi_query_parse.proofs.ExpressionsSpelled.{binds_small, links_some}

-- ---- rules in parts

pub both_left : (a b : Bool) → (a && b) ≡ true → a ≡ true
both_left true b e = refl
both_left false b e = absurd (cc)

pub both_right : (a b : Bool) → (a && b) ≡ true → b ≡ true
both_right true b e = e
both_right false b e = absurd (cc)

pub denied : (b : Bool) → not b ≡ true → b ≡ false
denied true e = absurd (cc)
denied false e = refl

pub leads_split : (s t : List Symbol) (a c : List ℕ) → Leads a (s ++ t) c → (b : List ℕ) × Leads a s b × Leads b t c
leads_split s t a c h = let g = spans_split s t a c h.spans in (g.0, record { spans = g.1 }, record { spans = g.2 })

-- past the token, a level higher
risen_leads : (i : Input) (symbol : Symbol) (symbols : List Symbol) (b : List ℕ) → Leads i.ahead (symbol ∷ symbols) b → Next i symbol × Leads (risen i).ahead symbols b
unfolding next
risen_leads i symbol symbols b h = let l = leads_next i symbol symbols b h in (l.0, l.1)

risen_at : (i : Input) (b : List ℕ) (h m : ℕ) → h ≡ m → at (risen i) b h ≡ at i b m
unfolding next
risen_at i b h m e = ap (λ x. at i b x) e

pub past_at : (i : Input) (b : List ℕ) → at (next i) b (next i).height ≡ at i b i.height
unfolding next
past_at i b = refl

-- ---- operands of one token

is_number : Symbol → Bool
is_number (number n) = true
is_number _ = false

-- what is no number doesn't begin with digits
not_number : (i : Input) (symbol : Symbol) → Next i symbol → (symbol_of k.Number (spelling i) ≡ symbol → ⊥) → sees k.Number i ≡ false
not_number i symbol n other = sees_no k.Number i (λ e. other (ap (λ c. symbol_of c (spelling i)) (sym e) ∙ n.is))

not_digits : (p : Phrase) (i : Input) (b : List ℕ) → is_phrase p ≡ true → 10 ≤ phrase_level p → is_digits p ≡ false → Leads i.ahead (phrase_symbols p) b → sees k.Number i ≡ false
not_digits (constant v.Null) i b rules tight other h = not_number (i) (mark k.Null) (leads_next (i) (mark k.Null) ([]) (b) h).0 (λ e. cc)
not_digits (constant (v.Int (pos n))) i b rules tight other h = absurd (cc)
not_digits (constant (v.Int (negsuc n))) i b rules tight other h = not_number (i) (mark k.Sub) (leads_next (i) (mark k.Sub) (number (n + 1) ∷ []) (b) h).0 (λ e. cc)
not_digits (constant (v.Str t)) i b rules tight other h = not_number (i) (quote t) (leads_next (i) (quote t) ([]) (b) h).0 (λ e. cc)
not_digits (constant v.Binary) i b rules tight other h = absurd (cc)
not_digits minus_zero i b rules tight other h = not_number (i) (mark k.Sub) (leads_next (i) (mark k.Sub) (number 0 ∷ []) (b) h).0 (λ e. cc)
not_digits (reference (plain n)) i b rules tight other h = not_number (i) (named n) (leads_next (i) (named n) ([]) (b) h).0 (λ e. cc)
not_digits (reference (parts n s)) i b rules tight other h = not_number (i) (named n) (leads_next (i) (named n) (mark k.Dot ∷ named s ∷ []) (b) h).0 (λ e. cc)
not_digits (grouped p) i b rules tight other h = not_number (i) (mark k.Open) (leads_next (i) (mark k.Open) (phrase_symbols p ++ mark k.Close ∷ []) (b) h).0 (λ e. cc)
not_digits (front op p) i b rules tight other h = not_number (i) (mark (front_mark op)) (leads_next (i) (mark (front_mark op)) (phrase_symbols p) (b) h).0 (λ e. cc)
not_digits (link kind l r) i b rules tight other h = let low = binds_small kind in absurd (omega arith)
not_digits (null_test_of is_not p) i b rules tight other h = absurd (omega arith)

text_by : (d : ℕ) (below : ℕ → Reader Expression) (i : Input) (c : Kind) → kind i ≡ c → is_text c ≡ true → operand_by d below c i ≡ ((λ t. literal (v.Str t)) <$> text) i
unfolding term
text_by d below i k.SingleQuoted e is = ap (λ c. term_by c i) e
text_by d below i k.DoubleQuoted e is = ap (λ c. term_by c i) e
text_by d below i c e is = absurd (cc)

column_by : (d : ℕ) (below : ℕ → Reader Expression) (i : Input) (c : Kind) → kind i ≡ c → is_name c ≡ true → operand_by d below c i ≡ (column_of <$> column expected.Name) i
unfolding term
column_by d below i k.Name e is = ap (λ c. term_by c i) e
column_by d below i k.QuotedName e is = ap (λ c. term_by c i) e
column_by d below i c e is = absurd (cc)

first_named : (c : ColumnName) (i : Input) (b : List ℕ) → Leads i.ahead (name_symbols c) b → is_name (kind i) ≡ true
first_named (plain n) i b h = (named_here i n (leads_next (i) (named n) ([]) (b) h).0).0
first_named (parts n s) i b h = (named_here i n (leads_next (i) (named n) (mark k.Dot ∷ named s ∷ []) (b) h).0).0

-- a reader of what is less high
abbrev pub ReadsInner : ℕ → (ℕ → Reader Expression) → Type 0
ReadsInner d below = (p : Phrase) (least : ℕ) (i : Input) (b : List ℕ) → Leads i.ahead (phrase_symbols p) b → is_phrase p ≡ true → phrase_height p < d → 1 ≤ least → least ≤ phrase_level p
    → binds (first_kind b) < least → (first_kind b ≡ k.Dot → ⊥) → below least i ≡ Ok (expression_of p, at i b (max i.height (phrase_height p + 1)))

loosest : (p : Phrase) → is_phrase p ≡ true → 1 ≤ phrase_level p
loosest (link kind l r) rules = links_some kind (both_right _ _ (both_left _ _ (both_left _ _ rules)))
loosest p rules = omega arith

-- ---- behind IS

compared_read : (e : Expression) (i : Input) → binds (kind i) ≤ 3 → compared e (kind i) i ≡ Ok (e, i)
compared_read e i h = ap (λ t. (if t then refuse expected.End else pure e) i) (le-ltb 3 (binds (kind i)) h)

null_read : (left : Expression) (i : Input) (b : List ℕ) → kind i ≡ k.Null → (next i).ahead ≡ b → binds (first_kind b) ≤ 3 → (t : Bool)
    → and_then (expect k.Null expected.Null i) (λ _. peek >>= compared (null_compared t left)) ≡ Ok (null_compared t left, at i b i.height)
null_read left i b is past loose t =
    let end = next_at i b i.height past refl in
    let binding : binds (kind (next i)) ≡ binds (first_kind b) = ap binds (kind_at (next i) b past) in
    then_read _ (expect_read k.Null expected.Null i is) (compared_read (null_compared t left) (next i) (omega arith) ∙ ap (λ x. Ok (null_compared t left, x)) end)

null_test_read : (t : Bool) (left : Expression) (i : Input) (b : List ℕ) → Leads i.ahead (null_symbols t) b → binds (first_kind b) ≤ 3 → null_test left i ≡ Ok (null_compared t left, at i b i.height)
unfolding null_test
null_test_read false left i b h loose =
    let l = leads_next i (mark k.Null) [] b h in
    let is = mark_kind l.0 (λ x. cc) in
    let off = sees_no k.Not i (λ e. let f : k.Null ≡ k.Not = sym is ∙ e in cc) in
    ap (λ t. and_then (expect k.Null expected.Null (after k.Not i)) (λ _. peek >>= compared (null_compared t left))) off
    ∙ ap (λ x. and_then (expect k.Null expected.Null x) (λ _. peek >>= compared (null_compared false left))) (after_no k.Not i off)
    ∙ null_read left i b is l.1.spans loose false
null_test_read true left i b h loose =
    let l = leads_next i (mark k.Not) (mark k.Null ∷ []) b h in
    let n = leads_next (next i) (mark k.Null) [] b l.1 in
    let on = sees_yes k.Not i (mark_kind l.0 (λ x. cc)) in
    ap (λ t. and_then (expect k.Null expected.Null (after k.Not i)) (λ _. peek >>= compared (null_compared t left))) on
    ∙ ap (λ x. and_then (expect k.Null expected.Null x) (λ _. peek >>= compared (null_compared true left))) (after_yes k.Not i on)
    ∙ null_read left (next i) b (mark_kind n.0 (λ x. cc)) n.1.spans loose true ∙ ap (λ x. Ok (null_compared true left, x)) (past_at i b)

behind_link : (d : ℕ) (below : ℕ → Reader Expression) (left : Expression) (c : Kind) (i : Input) → links c ≡ true → behind d below left c i ≡ (linked c left <$> below (binds c + 1)) i
behind_link d below left k.Is i e = absurd (cc)
behind_link d below left c i e = refl

-- what follows two readers follows the second
regrouped : {A B C : Type 0} (p : Outcome A) (f : A → Reader B) (g : B → Reader C) → and_then p (λ a m. and_then (f a m) g) ≡ and_then (and_then p f) g
regrouped (Ok p) f g = refl
regrouped (Err e) f g = refl

module _ (d : ℕ) (below : ℕ → Reader Expression) (reads : ReadsInner d below) where
  by_kind : (i : Input) (c : Kind) → kind i ≡ c → operand d below i ≡ operand_by d below c i
  unfolding operand
  by_kind i c e = ap (λ c. operand_by d below c i) e

  by_term : (i : Input) (c : Kind) → kind i ≡ c → term i ≡ term_by c i
  unfolding term
  by_term i c e = ap (λ c. term_by c i) e

  -- a minus and digits
  minus_read : (n : ℕ) (i : Input) (b : List ℕ) → 0 < d → i.height ≡ 0 → nat_le n 2147483648 ≡ true → Leads i.ahead (mark k.Sub ∷ number n ∷ []) b
      → operand d below i ≡ Ok (literal (v.Int (neg_ℤ (pos n))), at i b 1)
  unfolding negated
  minus_read n i b room flat low h =
      let l = risen_leads (i) (mark k.Sub) (number n ∷ []) (b) h in
      let digits = leads_next (risen i) (number n) ([]) (b) l.1 in
      let here = number_here (risen i) n digits.0 in
      let up = risen_height i in
      let end : next (risen i) ≡ at i b 1 = next_at (risen i) b 1 digits.1.spans (omega arith) ∙ risen_at i b 1 1 refl in
      by_kind i k.Sub (mark_kind l.0 (λ x. cc)) ∙ risen_read d (negated d below) i (omega arith)
      ∙ ap (λ t. if t then ((λ n. literal (v.Int n)) <$> negative) (risen i) else (folded_unary one.Neg <$> below 10) (risen i)) (sees_yes k.Number (risen i) here.0)
      ∙ then_read _ (negative_read (risen i) n here.1 low) (ap (λ x. Ok (literal (v.Int (neg_ℤ (pos n))), x)) end)

  constant_read : (x : Value) (i : Input) (b : List ℕ) → Leads i.ahead (value_symbols x) b → is_phrase (constant x) ≡ true → phrase_height (constant x) ≤ d → i.height ≡ 0
      → operand d below i ≡ Ok (literal x, at i b (phrase_height (constant x)))
  constant_read v.Null i b h rules high flat =
      let l = leads_next (i) (mark k.Null) ([]) (b) h in
      let is = mark_kind l.0 (λ x. cc) in
      by_kind i k.Null is ∙ by_term i k.Null is ∙ ap (λ x. Ok (literal v.Null, x)) (next_at i b 0 l.1.spans flat)
  constant_read (v.Int (pos n)) i b h rules high flat =
      let l = leads_next (i) (number n) ([]) (b) h in
      let here = number_here i n l.0 in
      by_kind i k.Number here.0 ∙ by_term i k.Number here.0 ∙ then_read _ (positive_read i n here.1 rules) (ap (λ x. Ok (literal (v.Int (pos n)), x)) (next_at i b 0 l.1.spans flat))
  constant_read (v.Int (negsuc n)) i b h rules high flat =
      let low = leb-true n 2147483647 rules in
      let same : n + 1 ≡ suc n = omega arith in
      minus_read (suc n) i b high flat (le-leb (suc n) 2147483648 (omega arith)) (subst (λ m. Leads i.ahead (mark k.Sub ∷ number m ∷ []) b) same h)
  constant_read (v.Str t) i b h rules high flat =
      let l = leads_next (i) (quote t) ([]) (b) h in
      let here = quoted_token (kind i) (spelling i) t l.0.is in
      by_kind i (kind i) refl ∙ text_by d below i (kind i) refl here.0 ∙ then_read _ (text_read i t here.1) (ap (λ x. Ok (literal (v.Str t), x)) (next_at i b 0 l.1.spans flat))
  constant_read v.Binary i b h rules high flat = absurd (cc)

  -- an operator in front
  front_read : (op : UnaryOp) (p : Phrase) (i : Input) (b : List ℕ) → Leads i.ahead (mark (front_mark op) ∷ phrase_symbols p) b → is_phrase (front op p) ≡ true → phrase_height p + 1 ≤ d → i.height ≡ 0
      → (first_kind b ≡ k.Dot → ⊥) → below 10 (risen i) ≡ Ok (expression_of p, at i b (phrase_height p + 1))
  front_read op p i b h rules high flat no_dot =
      let l = risen_leads (i) (mark (front_mark op)) (phrase_symbols p) (b) h in
      let two = both_left _ _ rules in
      let up = risen_height i in
      let tight = leb-true 10 (phrase_level p) (both_right _ _ two) in
      let small = binds_small (first_kind b) in
      reads p 10 (risen i) b l.1 (both_left _ _ two) (omega arith) (omega arith) tight (omega arith) no_dot
      ∙ ap (λ x. Ok (expression_of p, x)) (risen_at i b _ (phrase_height p + 1) (omega arith))

  operand_read : (p : Phrase) (i : Input) (b : List ℕ) → 10 ≤ phrase_level p → Leads i.ahead (phrase_symbols p) b → is_phrase p ≡ true → phrase_height p ≤ d → i.height ≡ 0 → (first_kind b ≡ k.Dot → ⊥)
      → operand d below i ≡ Ok (expression_of p, at i b (phrase_height p))
  unfolding negated bracketed
  operand_read (constant x) i b tight h rules high flat no_dot = constant_read x i b h rules high flat
  operand_read minus_zero i b tight h rules high flat no_dot = minus_read 0 i b high flat refl h
  operand_read (reference c) i b tight h rules high flat no_dot =
      by_kind i (kind i) refl ∙ column_by d below i (kind i) refl (first_named c i b h)
      ∙ then_read _ (column_read expected.Name c i b h no_dot) (ap (λ x. Ok (column_of (bytes_of c), at i b x)) flat)
  operand_read (grouped p) i b tight h rules high flat no_dot =
      let l = risen_leads (i) (mark k.Open) (phrase_symbols p ++ mark k.Close ∷ []) (b) h in
      let s = leads_split (phrase_symbols p) (mark k.Close ∷ []) (risen i).ahead b l.1 in
      let inner = at i s.0 (phrase_height p + 1) in
      let c = leads_next (inner) (mark k.Close) ([]) (b) s.2 in
      let close = mark_kind {i = inner} {other = k.Close} c.0 (λ x. cc) in
      let first : first_kind s.0 ≡ k.Close = sym (kind_at inner s.0 refl) ∙ close in
      let loose : binds (first_kind s.0) ≡ 0 = ap binds first in
      let up = risen_height i in
      let read = reads p 1 (risen i) s.0 s.1 rules (omega arith) (omega arith) (loosest p rules) (omega arith) (λ e. let f : k.Close ≡ k.Dot = sym first ∙ e in cc)
      ∙ ap (λ x. Ok (expression_of p, x)) (risen_at i s.0 _ (phrase_height p + 1) (omega arith)) in
      by_kind i k.Open (mark_kind l.0 (λ x. cc)) ∙ risen_read d (bracketed d below) i (omega arith)
      ∙ then_read _ read (then_read _ (expect_read k.Close expected.CloseBracket inner close) (ap (λ x. Ok (expression_of p, x)) (next_at inner b (phrase_height p + 1) c.1.spans refl)))
  operand_read (front one.Neg p) i b tight h rules high flat no_dot =
      let l = risen_leads (i) (mark k.Sub) (phrase_symbols p) (b) h in
      let two = both_left _ _ rules in
      let other = denied _ (both_right _ _ rules) in
      let strong = leb-true 10 (phrase_level p) (both_right _ _ two) in
      by_kind i k.Sub (mark_kind l.0 (λ x. cc)) ∙ risen_read d (negated d below) i (omega arith)
      ∙ ap (λ t. if t then ((λ n. literal (v.Int n)) <$> negative) (risen i) else (folded_unary one.Neg <$> below 10) (risen i)) (not_digits p (risen i) b (both_left _ _ two) strong other l.1)
      ∙ then_read _ (front_read one.Neg p i b h rules high flat no_dot) refl
  operand_read (front one.BitNot p) i b tight h rules high flat no_dot =
      by_kind i k.BitNot (mark_kind (leads_next (i) (mark k.BitNot) (phrase_symbols p) (b) h).0 (λ x. cc)) ∙ risen_read d (folded_unary one.BitNot <$> below 10) i (omega arith)
      ∙ then_read _ (front_read one.BitNot p i b h rules high flat no_dot) refl
  operand_read (front one.BoolNot p) i b tight h rules high flat no_dot =
      by_kind i k.Not (mark_kind (leads_next (i) (mark k.Not) (phrase_symbols p) (b) h).0 (λ x. cc)) ∙ risen_read d (folded_unary one.BoolNot <$> below 10) i (omega arith)
      ∙ then_read _ (front_read one.BoolNot p i b h rules high flat no_dot) refl
  operand_read (link kind l r) i b tight h rules high flat no_dot = let low = binds_small kind in absurd (omega arith)
  operand_read (null_test_of is_not p) i b tight h rules high flat no_dot = absurd (omega arith)

  -- ---- operators between operands

  operation_read : (l r : Phrase) (kind_seen : Kind) (i : Input) (a b : List ℕ) → kind (at i a (phrase_height l)) ≡ kind_seen → Leads (risen (at i a (phrase_height l))).ahead (phrase_symbols r) b
      → is_phrase r ≡ true → links kind_seen ≡ true → phrase_height l < d → phrase_height r < d → binds kind_seen + 1 ≤ phrase_level r → binds (first_kind b) ≤ binds kind_seen → (first_kind b ≡ k.Dot → ⊥)
      → operation d below (expression_of l) (at i a (phrase_height l)) ≡ Ok (linked kind_seen (expression_of l) (expression_of r), at i b (max (phrase_height l) (phrase_height r) + 1))
  unfolding operation
  operation_read l r kind_seen i a b is h rules operator left right tight follow no_dot =
      let m = at i a (phrase_height l) in
      let up = risen_height m in
      ap (λ c. operation_by d below (expression_of l) c m) is
      ∙ risen_read d (behind d below (expression_of l) kind_seen) m left
      ∙ behind_link d below (expression_of l) kind_seen (risen m) operator
      ∙ then_read _ (reads r (binds kind_seen + 1) (risen m) b h rules right (omega arith) tight (omega arith) no_dot)
      (ap (λ x. Ok (linked kind_seen (expression_of l) (expression_of r), x)) (risen_at m b _ (max (phrase_height l) (phrase_height r) + 1) (omega arith)))

  null_operation : (t : Bool) (p : Phrase) (i : Input) (a b : List ℕ) → kind (at i a (phrase_height p)) ≡ k.Is → Leads (risen (at i a (phrase_height p))).ahead (null_symbols t) b
      → phrase_height p < d → binds (first_kind b) ≤ 3 → operation d below (expression_of p) (at i a (phrase_height p)) ≡ Ok (null_compared t (expression_of p), at i b (phrase_height p + 1))
  unfolding operation
  null_operation t p i a b is h room loose =
      let m = at i a (phrase_height p) in
      ap (λ c. operation_by d below (expression_of p) c m) is
      ∙ risen_read d (null_test (expression_of p)) m room
      ∙ null_test_read t (expression_of p) (risen m) b h loose
      ∙ ap (λ x. Ok (null_compared t (expression_of p), x)) (risen_at m b _ (phrase_height p + 1) (risen_height m))

  climb_on : (least n : ℕ) (left e : Expression) (m j : Input) → least ≤ binds (kind m) → operation d below left m ≡ Ok (e, j) → climb d below least (suc n) left m ≡ climb d below least n e j
  unfolding climb
  climb_on least n left e m j met h = ap (λ t. (if t then pure left else (operation d below left >>= climb d below least n)) m) (le-ltb (binds (kind m)) least met) ∙ then_read _ h refl

  climb_stops : (least n : ℕ) (e : Expression) (m : Input) → binds (kind m) < least → climb d below least n e m ≡ Ok (e, m)
  unfolding climb
  climb_stops least zero e m loose = refl
  climb_stops least (suc n) e m loose = ap (λ t. (if t then pure e else (operation d below e >>= climb d below least n)) m) (lt-ltb (binds (kind m)) least loose)

  -- a phrase that was read, and how many turns are left to go on
  pub record Reached (p : Phrase) (least : ℕ) (i : Input) (b : List ℕ) : Type 0 where
    pub turns_left : ℕ
    pub enough : length b ≤ turns_left
    pub read : and_then (operand d below i) (operations d below least) ≡ climb d below least turns_left (expression_of p) (at i b (phrase_height p))

  -- an operator took what was read before it
  reached : (p q : Phrase) (c : Kind) (symbols : List Symbol) (least : ℕ) (i : Input) (a b : List ℕ) → Leads a (mark c ∷ symbols) b → kind (at i a (phrase_height p)) ≡ c → least ≤ binds c
      → operation d below (expression_of p) (at i a (phrase_height p)) ≡ Ok (expression_of q, at i b (phrase_height q))
      → (n : ℕ) → length a ≤ n → and_then (operand d below i) (operations d below least) ≡ climb d below least n (expression_of p) (at i a (phrase_height p))
      → Reached q least i b
  reached p q c symbols least i a b h is met o zero short e = let fewer = spans_shorter (mark c ∷ symbols) a b h.spans in absurd (omega arith)
  reached p q c symbols least i a b h is met o (suc n) short e =
      let fewer = spans_shorter (mark c ∷ symbols) a b h.spans in
      let binding : binds (kind (at i a (phrase_height p))) ≡ binds c = ap binds is in
      record {
        turns_left = n;
        enough = omega arith;
        read = e ∙ climb_on least n (expression_of p) _ (at i a (phrase_height p)) _ (omega arith) o;
      }

  linked_read : (p : Phrase) (least : ℕ) (i : Input) (b : List ℕ) → Leads i.ahead (phrase_symbols p) b → is_phrase p ≡ true → phrase_height p ≤ d → i.height ≡ 0 → least ≤ phrase_level p
      → binds (first_kind b) ≤ phrase_level p → (first_kind b ≡ k.Dot → ⊥) → Reached p least i b
  unfolding operations left
  linked_read (link kind_seen l r) least i b h rules high flat meets follow no_dot =
      let s = leads_split (phrase_symbols l) (mark kind_seen ∷ phrase_symbols r) i.ahead b h in
      let m = at i s.0 (phrase_height l) in
      let right = leb-true (binds kind_seen + 1) (phrase_level r) (both_right _ _ rules) in
      let rest = both_left _ _ rules in
      let left = leb-true (binds kind_seen) (phrase_level l) (both_right _ _ rest) in
      let operator = both_right _ _ (both_left _ _ rest) in
      let some = links_some kind_seen operator in
      let sides = both_left _ _ (both_left _ _ rest) in
      let next_kind = risen_leads (m) (mark kind_seen) (phrase_symbols r) (b) s.2 in
      let is = mark_kind {i = m} {other = kind_seen} next_kind.0 (λ e. let none : binds kind_seen ≡ 0 = ap binds e in omega arith) in
      let first : first_kind s.0 ≡ kind_seen = sym (kind_at m s.0 refl) ∙ is in
      let binding : binds (first_kind s.0) ≡ binds kind_seen = ap binds first in
      let before = linked_read l least i s.0 s.1 (both_left _ _ sides) (omega arith) flat (omega arith) (omega arith) (λ e. let none : binds kind_seen ≡ 0 = ap binds (sym first ∙ e) in omega arith) in
      reached l (link kind_seen l r) kind_seen (phrase_symbols r) least i s.0 b s.2 is meets
      (operation_read l r kind_seen i s.0 b is next_kind.1 (both_right _ _ sides) operator (omega arith) (omega arith) right follow no_dot)
      before.turns_left before.enough before.read
  linked_read (null_test_of t p) least i b h rules high flat meets follow no_dot =
      let s = leads_split (phrase_symbols p) (mark k.Is ∷ null_symbols t) i.ahead b h in
      let m = at i s.0 (phrase_height p) in
      let tight = leb-true 3 (phrase_level p) (both_right _ _ rules) in
      let next_kind = risen_leads m (mark k.Is) (null_symbols t) b s.2 in
      let is = mark_kind {i = m} {other = k.Is} next_kind.0 (λ x. cc) in
      let first : first_kind s.0 ≡ k.Is = sym (kind_at m s.0 refl) ∙ is in
      let binding : binds (first_kind s.0) ≡ 3 = ap binds first in
      let before = linked_read p least i s.0 s.1 (both_left _ _ rules) (omega arith) flat (omega arith) (omega arith) (λ e. let f : k.Is ≡ k.Dot = sym first ∙ e in cc) in
      reached p (null_test_of t p) k.Is (null_symbols t) least i s.0 b s.2 is meets (null_operation t p i s.0 b is next_kind.1 (omega arith) follow) before.turns_left before.enough before.read
  linked_read p least i b h rules high flat meets follow no_dot = record {
    turns_left = length b;
    enough = omega arith;
    read = then_read _ (operand_read p i b (omega arith) h rules high flat no_dot) refl;
  }

  level_read : (p : Phrase) (least : ℕ) (i : Input) (b : List ℕ) → d ≤ 200 → Leads i.ahead (phrase_symbols p) b → is_phrase p ≡ true → phrase_height p ≤ d → 1 ≤ least → least ≤ phrase_level p
      → binds (first_kind b) < least → (first_kind b ≡ k.Dot → ⊥) → level d below least i ≡ Ok (expression_of p, at i b (max i.height (phrase_height p + 1)))
  unfolding level
  level_read p least i b deep h rules high one meets loose no_dot =
      let flat = record i { height = 0 } in
      let r = linked_read p least flat b h rules high refl meets (omega arith) no_dot in
      let m = at flat b (phrase_height p) in
      let binding : binds (kind m) ≡ binds (first_kind b) = ap binds (kind_at m b refl) in
      let capped : max i.height (min (phrase_height p + 1) (2 ^ 64 - 1)) ≡ max i.height (phrase_height p + 1) = omega arith in
      regrouped (operand d below flat) (operations d below least) _
      ∙ then_read _ (r.read ∙ climb_stops least r.turns_left (expression_of p) m (omega arith)) (ap (λ x. Ok (expression_of p, at i b x)) capped)

pub expression_read : (d : ℕ) → d ≤ 201 → ReadsInner d (expression d)
unfolding expression
expression_read zero deep p least i b h rules high one meets loose no_dot = absurd (omega arith)
expression_read (suc d) deep p least i b h rules high one meets loose no_dot =
    level_read d (expression d) (expression_read d (omega arith)) p least i b (omega arith) h rules (omega arith) one meets loose no_dot

-- ---- conditions

pub condition_read : (p : Phrase) (i : Input) (b : List ℕ) → Leads i.ahead (phrase_symbols p) b → is_phrase p ≡ true → phrase_height p ≤ 200 → binds (first_kind b) ≡ 0 → (first_kind b ≡ k.Dot → ⊥)
    → condition i ≡ Ok (expression_of p, at i b i.height)
unfolding condition
condition_read p i b h rules high loose no_dot =
    let lowest = loosest p rules in
    then_read _ (expression_read 201 (omega arith) p 1 (record i { height = 0 }) b h rules (omega arith) (omega arith) lowest (omega arith) no_dot) refl

pub expression_spells : (text : List ℕ) (e : Expression) → SpellsExpression text e → whole condition text ≡ Ok e
expression_spells text e s =
    let last = end_kind s.symbols.rest s.symbols.end in
    let none : binds (first_kind s.symbols.rest) ≡ 0 = ap binds last in
    let read = condition_read s.phrase (start_of text) s.symbols.rest (record { spans = s.symbols.spans }) s.rules.0 s.rules.1 none (λ e. let f : k.End ≡ k.Dot = sym last ∙ e in cc) in
    whole_read condition text _ _ read s.symbols.end ∙ ap Ok s.value
