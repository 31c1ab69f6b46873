-- What an expression prints spells it: the phrase that it prints as follows the rules, has its symbols, and stands for it.
use Rattle.std.proofs.Common.{◌≡◌, ℕ, suc, ◌+◌, ◌≤◌, Bool, true, false, not, cond, ◌&&◌, List, [], ◌∷◌, ◌++◌, nat_lt, nat_le, leb, codes, pos, negsuc, refl, sym, ap, ap₂, subst, ◌∙◌, Option, Some, None, arith, decimal}
use Rattle.std.specs.List.{list_all}
use Rattle.std.specs.Char.{is_ascii}
use Rattle.std.specs.Fmt.{debug_str, ◌++?◌}
use Rattle.std.proofs.lemmas.List.Folds.{list_all-append}
use Rattle.std.proofs.lemmas.Bool.{and_parts, and_from, leb-true, le-leb, not-true, ltb-false}
use Rattle.msi_table_values.specs.declared.value.Value.{Value}
use Rattle.msi_table_values.specs.declared.value.Value.TheVariants as v
use Rattle.msi_table_values.specs.Values.{value_text}
use Rattle.msi_query_expressions.specs.declared.operators.UnaryOp.{UnaryOp}
use Rattle.msi_query_expressions.specs.declared.operators.BinaryOp.{BinaryOp}
use Rattle.msi_query_expressions.specs.declared.operators.BinaryOp.TheVariants as two
use Rattle.msi_query_expressions.specs.OperatorTexts.{op_level, op_text, unary_text}
use Rattle.msi_query_expressions.specs.Expressions.{Expression, literal, column, unary, binary, both, either, names_in}
use Rattle.msi_query_expressions.specs.Folding.{folded_unary, folded_binary, fits_literal, is_built, is_folded, is_literal, literals_fit}
use Rattle.msi_query_expressions.specs.Printing.{expression_text, level, bracketed}
use Rattle.msi_query_tokens.specs.declared.token.Kind.{Kind}
use Rattle.msi_query_tokens.specs.declared.token.Kind.TheVariants as k
use Rattle.msi_query_tokens.specs.Tokens.{same_kind, kind_of_word}
use Rattle.msi_query_tokens.specs.Symbols.{mark, named, number, quote}
use Rattle.msi_query_tokens.proofs.CutLemmas.{Over, word_over, digits_over, Digits, decimal_digits, quoted_over, body}
use Rattle.msi_query_tokens.specs.Names.{name_text}
use Rattle.msi_query_tokens.proofs.NameLemmas.{name_text_over}
use Rattle.msi_query_tokens.proofs.LeadsLemmas.{Leads, Link, Prints, text_prints, front_leads, front_prints, linked_prints, enclosed_prints, symbols_of}
use Rattle.msi_query_parse.specs.Operators.{binds, links, linked}
use Rattle.msi_query_parse.specs.Grammar.{Phrase, grouped, link, value_symbols, phrase_symbols, phrase_level, phrase_height, is_phrase, is_constant, is_digits, is_minus, is_value, expression_of, front_mark}
use Rattle.msi_query_parse.specs.Printed.{op_mark, within, phrase_of, is_readable_name, is_readable, PrintedExpressionsAreReadBack}
use Rattle.msi_query_parse.proofs.PieceLemmas.{open_front, close_link, minus_front, in_front, between, and_link, or_link}

-- ---- what the phrase stands for

within_meant : (n has : ℕ) (p : Phrase) → expression_of (within n has p) ≡ expression_of p
within_meant n has p = go (nat_lt has n)
  where
    go : (b : Bool) → expression_of (cond b (grouped p) p) ≡ expression_of p
    go true = refl
    go false = refl

folded_unary_is : (op : UnaryOp) (e : Expression) → is_literal e ≡ false → folded_unary op e ≡ unary op e
folded_unary_is op (literal v) h = absurd (let clash : true ≡ false = h in cc)
folded_unary_is op _ h = refl

folded_binary_is : (op : BinaryOp) (l r : Expression) → (is_literal l && is_literal r) ≡ false → folded_binary op l r ≡ binary op l r
folded_binary_is op (literal v) (literal w) h = absurd (let clash : true ≡ false = h in cc)
folded_binary_is op (literal v) _ h = refl
folded_binary_is op _ _ h = refl

linked_is : (op : BinaryOp) (l r : Expression) → linked (op_mark op) l r ≡ folded_binary op l r
linked_is two.Eq l r = refl
linked_is _ l r = refl

pub meant : (e : Expression) → is_folded e ≡ true → expression_of (phrase_of e) ≡ e
meant (literal v) h = refl
meant (column n) h = refl
meant (unary op e) h =
    let parts = and_parts (not (is_literal e)) (is_folded e) h in
    ap (folded_unary op) (within_meant 10 (level e) (phrase_of e) ∙ meant e parts.1) ∙ folded_unary_is op e (not-true _ parts.0)
meant (binary op l r) h =
    let parts = and_parts (not (is_literal l && is_literal r) && is_folded l) (is_folded r) h in
    let first = and_parts (not (is_literal l && is_literal r)) (is_folded l) parts.0 in
    ap₂ (linked (op_mark op)) (within_meant _ _ (phrase_of l) ∙ meant l first.1) (within_meant _ _ (phrase_of r) ∙ meant r parts.1)
    ∙ linked_is op l r ∙ folded_binary_is op l r (not-true _ first.0)
meant (both l r) h =
    let parts = and_parts (is_folded l) (is_folded r) h in
    ap₂ both (within_meant 2 (level l) (phrase_of l) ∙ meant l parts.0) (within_meant 3 (level r) (phrase_of r) ∙ meant r parts.1)
meant (either l r) h =
    let parts = and_parts (is_folded l) (is_folded r) h in
    ap₂ either (within_meant 1 (level l) (phrase_of l) ∙ meant l parts.0) (within_meant 2 (level r) (phrase_of r) ∙ meant r parts.1)

-- ---- the rules of phrases

within_level : (n has : ℕ) (p : Phrase) → n ≤ 10 → phrase_level p ≡ has → nat_le n (phrase_level (within n has p)) ≡ true
within_level n has p h e = go (nat_lt has n) refl
  where
    go : (b : Bool) → nat_lt has n ≡ b → nat_le n (phrase_level (cond b (grouped p) p)) ≡ true
    go true q = le-leb n 10 h
    go false q = let enough : n ≤ has = ltb-false has n q in le-leb n (phrase_level p) (omega arith)

within_phrase : (n has : ℕ) (p : Phrase) → is_phrase p ≡ true → is_phrase (within n has p) ≡ true
within_phrase n has p h = go (nat_lt has n)
  where
    go : (b : Bool) → is_phrase (cond b (grouped p) p) ≡ true
    go true = h
    go false = h

binds-op_mark : (op : BinaryOp) → binds (op_mark op) ≡ op_level op
binds-op_mark two.Eq = refl
binds-op_mark _ = refl

level_is : (e : Expression) → phrase_level (phrase_of e) ≡ level e
level_is (literal v) = refl
level_is (column n) = refl
level_is (unary op e) = refl
level_is (binary op l r) = binds-op_mark op
level_is (both l r) = refl
level_is (either l r) = refl

op_level-le : (op : BinaryOp) → op_level op ≤ 9
op_level-le two.Eq = omega arith
op_level-le _ = omega arith

links-op_mark : (op : BinaryOp) → links (op_mark op) ≡ true
links-op_mark two.Eq = refl
links-op_mark _ = refl

-- a link whose operands bind tightly enough
link_rules : (kind : Kind) (n : ℕ) (l r : Phrase) → binds kind ≡ n → links kind ≡ true → is_phrase l ≡ true → is_phrase r ≡ true
    → nat_le n (phrase_level l) ≡ true → nat_le (n + 1) (phrase_level r) ≡ true → is_phrase (link kind l r) ≡ true
link_rules kind n l r e operator h g a b =
    subst (λ (m : ℕ). (is_phrase l && is_phrase r && links kind && nat_le m (phrase_level l) && nat_le (m + 1) (phrase_level r)) ≡ true) (sym e)
    (and_from _ _ (and_from _ _ (and_from _ _ (and_from _ _ h g) operator) a) b)

link_within : (kind : Kind) (n : ℕ) (l r : Expression) → binds kind ≡ n → links kind ≡ true → n ≤ 9 → is_phrase (phrase_of l) ≡ true → is_phrase (phrase_of r) ≡ true
    → is_phrase (link kind (within n (level l) (phrase_of l)) (within (n + 1) (level r) (phrase_of r))) ≡ true
link_within kind n l r e operator high h g = link_rules kind n (within n (level l) (phrase_of l)) (within (n + 1) (level r) (phrase_of r)) e operator
    (within_phrase n (level l) (phrase_of l) h) (within_phrase (n + 1) (level r) (phrase_of r) g)
    (within_level n (level l) (phrase_of l) (omega arith) (level_is l)) (within_level (n + 1) (level r) (phrase_of r) (omega arith) (level_is r))

no_digits : (e : Expression) (n : ℕ) → is_literal e ≡ false → is_digits (within n (level e) (phrase_of e)) ≡ false
no_digits e n h = go (nat_lt (level e) n)
  where
    bare : (e : Expression) → is_literal e ≡ false → is_digits (phrase_of e) ≡ false
    bare (literal v) h = absurd (let clash : true ≡ false = h in cc)
    bare (column n) h = refl
    bare _ h = refl

    go : (b : Bool) → is_digits (cond b (grouped (phrase_of e)) (phrase_of e)) ≡ false
    go true = refl
    go false = bare e h

not_both : (a b : Bool) → b ≡ false → not (a && b) ≡ true
not_both true b h = ap not h
not_both false b h = refl

fits_constant : (x : Value) → fits_literal x ≡ true → is_constant x ≡ true
fits_constant v.Null h = refl
fits_constant (v.Int (pos n)) h = h
fits_constant (v.Int (negsuc n)) h = (and_parts (leb n 2147483647) true h).0
fits_constant (v.Str text) h = refl
fits_constant v.Binary h = h

pub follows_rules : (e : Expression) → is_folded e ≡ true → literals_fit e ≡ true → is_phrase (phrase_of e) ≡ true
follows_rules (literal x) f g = fits_constant x g
follows_rules (column n) f g = refl
follows_rules (unary op e) f g =
    let parts = and_parts (not (is_literal e)) (is_folded e) f in
    and_from _ _ (and_from _ _ (within_phrase 10 (level e) (phrase_of e) (follows_rules e parts.1 g))
    (within_level 10 (level e) (phrase_of e) (omega arith) (level_is e))) (not_both (is_minus op) _ (no_digits e 10 (not-true _ parts.0)))
follows_rules (binary op l r) f g =
    let parts = and_parts (not (is_literal l && is_literal r) && is_folded l) (is_folded r) f in
    let fit = and_parts (literals_fit l) (literals_fit r) g in
    link_within (op_mark op) (op_level op) l r (binds-op_mark op) (links-op_mark op) (op_level-le op)
    (follows_rules l (and_parts (not (is_literal l && is_literal r)) (is_folded l) parts.0).1 fit.0) (follows_rules r parts.1 fit.1)
follows_rules (both l r) f g =
    let parts = and_parts (is_folded l) (is_folded r) f in
    let fit = and_parts (literals_fit l) (literals_fit r) g in
    link_within k.And 2 l r refl refl (omega arith) (follows_rules l parts.0 fit.0) (follows_rules r parts.1 fit.1)
follows_rules (either l r) f g =
    let parts = and_parts (is_folded l) (is_folded r) f in
    let fit = and_parts (literals_fit l) (literals_fit r) g in
    link_within k.Or 1 l r refl refl (omega arith) (follows_rules l parts.0 fit.0) (follows_rules r parts.1 fit.1)

-- ---- names

pub name_leads : (name : List ℕ) → is_readable_name name ≡ true → Leads (name_text name) (named name ∷ [])
name_leads name h = record { over = λ after a. name_text_over name after h a }

-- ---- values

decimal_leads : (n : ℕ) → n ≤ 2147483648 → Leads (decimal n) (number n ∷ [])
decimal_leads n small =
    let d : Digits n (decimal n) = decimal_digits n (omega arith) in
    record {
      over = λ after a. subst (λ (m : ℕ). Over (decimal n ++ after) (number m ∷ []) after) (d.value small) (digits_over (decimal n) after d.some d.are_digits a);
    }

null_leads : Leads (codes "NULL") (mark k.Null ∷ [])
unfolding kind_of_word same_kind
null_leads = record { over = λ after a. word_over 78 (codes "ULL") after refl refl a refl }

stream_leads : Leads (codes "BINARY_STREAM") (mark k.BinaryStream ∷ [])
unfolding kind_of_word same_kind
stream_leads = record { over = λ after a. word_over 66 (codes "INARY_STREAM") after refl refl a refl }

text_value_prints : (text : List ℕ) → Prints (debug_str text) (quote text ∷ [])
text_value_prints text = go (list_all is_ascii text) refl
  where
    go : (b : Bool) → list_all is_ascii text ≡ b → Prints (cond b (Some (34 ∷ (body text ++ 34 ∷ []))) None) (quote text ∷ [])
    go true e = text_prints (34 ∷ (body text ++ 34 ∷ [])) (quote text ∷ []) (record { over = λ after _. quoted_over text after e })
    go false e = record { leads = λ t is. absurd (let clash : None ≡ Some t = is in cc) }

pub value_prints : (x : Value) → is_value x ≡ true → Prints (value_text x) (value_symbols x)
value_prints v.Null h = text_prints (codes "NULL") (mark k.Null ∷ []) null_leads
value_prints (v.Int (pos n)) h =
    let small : n ≤ 2147483647 = leb-true n 2147483647 h in
    text_prints (decimal n) (number n ∷ []) (decimal_leads n (omega arith))
value_prints (v.Int (negsuc n)) h =
    let small : n ≤ 2147483647 = leb-true n 2147483647 h in
    let one_more : suc n ≡ n + 1 = omega arith in
    subst (λ (m : ℕ). Prints (Some (45 ∷ decimal (suc n))) (mark k.Sub ∷ number m ∷ [])) one_more
    (text_prints (45 ∷ decimal (suc n)) (mark k.Sub ∷ number (suc n) ∷ [])
    (front_leads (codes "-") (decimal (suc n)) (mark k.Sub ∷ []) (number (suc n) ∷ []) minus_front (decimal_leads (suc n) (omega arith))))
value_prints (v.Str text) h = text_value_prints text
value_prints v.Binary h = text_prints (codes "BINARY_STREAM") (mark k.BinaryStream ∷ []) stream_leads

constant_value : (x : Value) → is_constant x ≡ true → is_value x ≡ true
constant_value v.Binary h = refl
constant_value v.Null h = h
constant_value (v.Int n) h = h
constant_value (v.Str text) h = h

-- ---- expressions

within_prints : (n has : ℕ) (o : Option (List ℕ)) (p : Phrase) → Prints o (phrase_symbols p) → Prints (bracketed n has o) (phrase_symbols (within n has p))
within_prints n has o p h = go (nat_lt has n)
  where
    go : (b : Bool) → Prints (cond b (Some (codes "(") ++? o ++? Some (codes ")")) o) (phrase_symbols (cond b (grouped p) p))
    go true = enclosed_prints (codes "(") (codes ")") o (mark k.Open ∷ []) (phrase_symbols p) (mark k.Close ∷ []) open_front h close_link
    go false = h

abbrev has_names : Expression → Bool
has_names e = list_all is_readable_name (names_in e)

names_of_both : (l r : Expression) → list_all is_readable_name (names_in l ++ names_in r) ≡ true → (has_names l ≡ true) × (has_names r ≡ true)
names_of_both l r h = and_parts _ _ (sym (list_all-append is_readable_name (names_in l) (names_in r)) ∙ h)

link_prints_within : (kind : Kind) (text : List ℕ) (n m : ℕ) (l r : Expression) → Link text (mark kind ∷ []) → Prints (expression_text l) (phrase_symbols (phrase_of l))
    → Prints (expression_text r) (phrase_symbols (phrase_of r)) → Prints (bracketed n (level l) (expression_text l) ++? Some text ++? bracketed m (level r) (expression_text r))
    (phrase_symbols (within n (level l) (phrase_of l)) ++ mark kind ∷ phrase_symbols (within m (level r) (phrase_of r)))
link_prints_within kind text n m l r w h g = linked_prints text _ _ (phrase_symbols (within n (level l) (phrase_of l))) (mark kind ∷ []) (phrase_symbols (within m (level r) (phrase_of r)))
    (within_prints n (level l) (expression_text l) (phrase_of l) h) w (within_prints m (level r) (expression_text r) (phrase_of r) g)

pub prints : (e : Expression) → literals_fit e ≡ true → has_names e ≡ true → Prints (expression_text e) (phrase_symbols (phrase_of e))
prints (literal x) g h = value_prints x (constant_value x (fits_constant x g))
prints (column n) g h = text_prints (name_text n) (named n ∷ []) (name_leads n (and_parts (is_readable_name n) true h).0)
prints (unary op e) g h = front_prints (unary_text op) _ (mark (front_mark op) ∷ []) _ (in_front op) (within_prints 10 (level e) (expression_text e) (phrase_of e) (prints e g h))
prints (binary op l r) g h =
    let fit = and_parts (literals_fit l) (literals_fit r) g in let names = names_of_both l r h in
    link_prints_within (op_mark op) (op_text op) (op_level op) (op_level op + 1) l r (between op) (prints l fit.0 names.0) (prints r fit.1 names.1)
prints (both l r) g h =
    let fit = and_parts (literals_fit l) (literals_fit r) g in let names = names_of_both l r h in
    link_prints_within k.And (codes " AND ") 2 3 l r and_link (prints l fit.0 names.0) (prints r fit.1 names.1)
prints (either l r) g h =
    let fit = and_parts (literals_fit l) (literals_fit r) g in let names = names_of_both l r h in
    link_prints_within k.Or (codes " OR ") 1 2 l r or_link (prints l fit.0 names.0) (prints r fit.1 names.1)

-- what a readable expression prints, beside its parts
pub record Readable (e : Expression) : Type 0 where
  pub means : expression_of (phrase_of e) ≡ e
  pub follows : is_phrase (phrase_of e) ≡ true
  pub low : nat_le (phrase_height (phrase_of e)) 200 ≡ true
  pub prints : Prints (expression_text e) (phrase_symbols (phrase_of e))

pub readable : (e : Expression) → is_readable e ≡ true → Readable e
readable e h =
    let parts = and_parts (is_built e && has_names e) (nat_le (phrase_height (phrase_of e)) 200) h in
    let outer = and_parts (is_built e) (has_names e) parts.0 in
    let built = and_parts (is_folded e) (literals_fit e) outer.0 in
    record { means = meant e built.0; follows = follows_rules e built.0 built.1; low = parts.1; prints = prints e built.1 outer.1 }

pub expressions_are_read_back : PrintedExpressionsAreReadBack
expressions_are_read_back e text h is = let r = readable e h in record {
  phrase = phrase_of e;
  rules = (r.follows, leb-true _ 200 r.low);
  symbols = symbols_of (expression_text e) _ r.prints text is;
  value = r.means;
}
