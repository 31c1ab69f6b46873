-- No two expressions print alike.
use Rattle.std.proofs.Common.{◌≡◌, ℕ, suc, ◌+◌, ◌^◌, ◌<◌, ◌≤◌, Bool, true, false, List, [], ◌∷◌, ◌++◌, nat_lt, leb, cond, codes, bytes_eq, pos, negsuc, refl, sym, ap, ap₂, subst, ◌∙◌, Option, Some, arith, unwrap_or, flat_map}
use Rattle.std.specs.List.{list_all}
use Rattle.std.specs.Char.{is_ascii}
use Rattle.std.specs.Fmt.{decimal, debug_escape, ◌++?◌}
use Rattle.std.proofs.lemmas.Bool.{and_parts, lt-ltb, le-ltb, leb-true, not-true, cond-true, cond-false, ltb-false, not_from_false}
use Rattle.std.proofs.lemmas.Slice.Eq.{bytes_eq-Decides}
use Rattle.msi_table_values.specs.CategoryRules.{is_identifier}
use Rattle.msi_query_tokens.specs.declared.token.Kind.TheVariants as k
use Rattle.msi_query_tokens.specs.Tokens.{kind_of_word, same_kind}
use Rattle.msi_query_tokens.specs.Names.{is_plain_name, doubled, name_text}
use Rattle.msi_table_values.specs.declared.value.Value.{Value}
use Rattle.msi_table_values.specs.declared.value.Value.TheVariants.{Null, Int, Str, Binary}
use Rattle.msi_query_expressions.specs.declared.operators.UnaryOp.{UnaryOp}
use Rattle.msi_query_expressions.specs.declared.operators.UnaryOp.TheVariants as one
use Rattle.msi_query_expressions.specs.declared.operators.BinaryOp.TheVariants as two
use Rattle.msi_query_expressions.specs.Expressions.{Expression, literal, column, unary, binary, both, either}
use Rattle.msi_query_expressions.specs.OperatorValues.{is_i32}
use Rattle.msi_query_expressions.specs.Folding.{fits_literal, is_built, is_folded, is_literal, literals_fit}
use Rattle.msi_query_expressions.specs.OperatorTexts.{op_level, unary_text}
use Rattle.msi_query_expressions.specs.Printing.{expression_text, level, bracketed}
use Rattle.msi_query_expressions.specs.Vocabulary.{is_plain, is_plain_value, PrintsAlone}
use Rattle.msi_query_expressions.proofs.ReaderLemmas.{Link, by, and_link, or_link, linked, link_level, link_text, Frame, prefix, left, bracket, frame_level, top_level, prefixed, filled, place, settle, settled, State, wanting, word, name_end, number, after, right_of, closed, run, is_ready, place_of, read}
use Rattle.msi_query_expressions.proofs.TokenLemmas.{run_append, step_ready, link_run, identifier_run, quoted_name_run, decimal_run, quoted_run}

-- frames
stops : (k : ℕ) (e : Expression) (fs : List Frame) → top_level fs < k → settled k e fs ≡ place e fs
stops k e [] h = refl
stops k e (f ∷ fs) h = cond-true (nat_lt (frame_level f) k) _ _ (lt-ltb _ _ h)

fills : (k : ℕ) (e : Expression) (f : Frame) (fs : List Frame) → k ≤ frame_level f → settled k e (f ∷ fs) ≡ settled k (filled f e) fs
fills k e f fs h = cond-false (nat_lt (frame_level f) k) _ _ (le-ltb _ _ h)

-- in front of what stops a level of n, the reader reads the text as the operand e: links of level n and less find e
record Reads (e : Expression) (n : ℕ) (text : List ℕ) (fs : List Frame) : Type 0 where
  ready : is_ready (run (wanting fs) text) ≡ true
  settles : (k : ℕ) → k ≤ n → k < 10 → settle k (place_of (run (wanting fs) text)) ≡ settled k e fs

-- the text is there, and is read so
record Prints (e : Expression) (n : ℕ) (o : Option (List ℕ)) : Type 0 where
  text : List ℕ
  is : o ≡ Some text
  reads : (fs : List Frame) → top_level fs < n → Reads e n text fs

-- what leads to an operand at once
at_place : (e : Expression) (n : ℕ) (text : List ℕ) (fs : List Frame) (s : State) → run (wanting fs) text ≡ s → is_ready s ≡ true → place_of s ≡ place e fs → Reads e n text fs
at_place e n text fs s r ready p = record {
  ready = ap is_ready r ∙ ready;
  settles = λ k _ _. ap (λ s. settle k (place_of s)) r ∙ ap (settle k) p;
}

level-pos : (e : Expression) → 0 < level e
level-pos (literal v) = omega arith
level-pos (column n) = omega arith
level-pos (unary op e) = omega arith
level-pos (binary two.Eq l r) = omega arith
level-pos (binary _ l r) = omega arith
level-pos (both l r) = omega arith
level-pos (either l r) = omega arith

-- brackets
in_brackets : (e : Expression) (n : ℕ) (text : List ℕ) (fs : List Frame) → Reads e (level e) text (bracket ∷ fs) → Reads e n (codes "(" ++ text ++ codes ")") fs
in_brackets e n text fs h = at_place e n (codes "(" ++ text ++ codes ")") fs (after (place e fs))
    (run_append (wanting (bracket ∷ fs)) text (codes ")") ∙ step_ready (run (wanting (bracket ∷ fs)) text) 41 h.ready refl refl refl
    ∙ ap closed (h.settles 1 (level-pos e) (omega arith) ∙ stops 1 e (bracket ∷ fs) (omega arith))) refl refl

brackets : (e : Expression) (n : ℕ) (o : Option (List ℕ)) → Prints e (level e) o → Prints e n (bracketed n (level e) o)
brackets e n o h = go (nat_lt (level e) n) refl
  where
    go : (b : Bool) → nat_lt (level e) n ≡ b → Prints e n (cond b (Some (codes "(") ++? o ++? Some (codes ")")) o)
    go true q = record {
      text = codes "(" ++ h.text ++ codes ")";
      is = ap (λ t. Some (codes "(") ++? t ++? Some (codes ")")) h.is;
      reads = λ fs _. in_brackets e n h.text fs (h.reads (bracket ∷ fs) (level-pos e));
    }
    go false q = let enough : n ≤ level e = ltb-false _ _ q in record {
      text = h.text;
      is = h.is;
      reads = λ fs l. let r = h.reads fs (omega arith) in record { ready = r.ready; settles = λ k a b. r.settles k (omega arith) b };
    }

-- a link between two operands
link_level-lt : (link : Link) → link_level link < 10
link_level-lt (by two.Eq) = omega arith
link_level-lt (by _) = omega arith
link_level-lt _ = omega arith

link_reads : (link : Link) (l r : Expression) (s t : List ℕ) (fs : List Frame) → top_level fs < link_level link → Reads l (link_level link) s fs → Reads r (link_level link + 1) t (left link l ∷ fs)
    → Reads (linked link l r) (link_level link) (s ++ (link_text link ++ t)) fs
link_reads link l r s t fs h a b =
    let path : run (wanting fs) (s ++ (link_text link ++ t)) ≡ run (wanting (left link l ∷ fs)) t =
    run_append (wanting fs) s (link_text link ++ t) ∙ run_append (run (wanting fs) s) (link_text link) t
    ∙ ap (λ x. run x t) (link_run link (run (wanting fs) s) a.ready ∙ ap (right_of link) (a.settles (link_level link) (omega arith) (link_level-lt link) ∙ stops (link_level link) l fs h)) in
    record {
      ready = ap is_ready path ∙ b.ready;
      settles = λ k m n. ap (λ x. settle k (place_of x)) path ∙ b.settles k (omega arith) n ∙ fills k r (left link l) fs m;
    }

links : (link : Link) (l r : Expression) (o p : Option (List ℕ)) → Prints l (link_level link) o → Prints r (link_level link + 1) p
    → Prints (linked link l r) (link_level link) (o ++? Some (link_text link) ++? p)
links link l r o p a b = record {
  text = a.text ++ (link_text link ++ b.text);
  is = ap₂ (λ x y. x ++? Some (link_text link) ++? y) a.is b.is;
  reads = λ fs h. link_reads link l r a.text b.text fs h (a.reads fs h) (b.reads (left link l ∷ fs) (omega arith));
}

-- an operator in front
front_run : (op : UnaryOp) (text : List ℕ) (fs : List Frame) → run (wanting fs) (unary_text op ++ text) ≡ run (wanting (prefix op ∷ fs)) text
front_run one.Neg text fs = refl
front_run _ text fs = refl

prefixed_is : (op : UnaryOp) (e : Expression) → is_literal e ≡ false → prefixed op e ≡ unary op e
prefixed_is op (literal v) h = absurd (let clash : true ≡ false = h in cc)
prefixed_is one.Neg (column n) h = refl
prefixed_is one.Neg _ h = refl
prefixed_is op _ h = refl

fronts : (op : UnaryOp) (e : Expression) (o : Option (List ℕ)) → is_literal e ≡ false → Prints e 10 o → Prints (unary op e) 10 (Some (unary_text op) ++? o)
fronts op e o h a = record {
  text = unary_text op ++ a.text;
  is = ap (λ t. Some (unary_text op) ++? t) a.is;
  reads = λ fs _. let r = a.reads (prefix op ∷ fs) (omega arith) in record {
    ready = ap is_ready (front_run op a.text fs) ∙ r.ready;
    settles = λ k m n. ap (λ x. settle k (place_of x)) (front_run op a.text fs) ∙ r.settles k m n ∙ fills k e (prefix op) fs (omega arith) ∙ ap (λ x. settled k x fs) (prefixed_is op e h);
  };
}

-- literals
positive : (n : ℕ) → is_i32 (pos n) ≡ true → n < 2 ^ 64
positive n h = let bound : n ≤ 2147483647 = leb-true n 2147483647 h in omega arith

negative : (n : ℕ) → is_i32 (negsuc n) ≡ true → suc n < 2 ^ 64
negative n h = let bound : n ≤ 2147483647 = leb-true n 2147483647 (and_parts (leb n 2147483647) true h).0 in omega arith

values : (v : Value) → is_plain_value v ≡ true → fits_literal v ≡ true
    → Prints (literal v) 10 (expression_text (literal v))
values Null h g = record { text = codes "NULL"; is = refl; reads = λ fs _. at_place _ 10 (codes "NULL") fs (word (codes "NULL") fs) refl refl refl }
values (Int (pos n)) h g = record {
  text = decimal n;
  is = refl;
  reads = λ fs _. at_place (literal (Int (pos n))) 10 (decimal n) fs (number n fs) (decimal_run fs n (positive n g)) refl refl;
}
values (Int (negsuc n)) h g = record {
  text = 45 ∷ decimal (suc n);
  is = refl;
  reads = λ fs _. let path = decimal_run (prefix one.Neg ∷ fs) (suc n) (negative n g) in record {
    ready = ap is_ready path;
    settles = λ k m l. ap (λ x. settle k (place_of x)) path ∙ fills k (literal (Int (pos (suc n)))) (prefix one.Neg) fs (omega arith);
  };
}
values (Str text) h g = record {
  text = 34 ∷ (flat_map (debug_escape 34) text ++ 34 ∷ []);
  is = cond-true (list_all is_ascii text) _ _ h;
  reads = λ fs _. at_place (literal (Str text)) 10 (34 ∷ (flat_map (debug_escape 34) text ++ 34 ∷ [])) fs (after (place (literal (Str text)) fs)) (quoted_run fs text h) refl refl;
}
values Binary h g = absurd (let clash : false ≡ true = g in cc)

-- columns
other_word : (n taken : List ℕ) → same_kind (kind_of_word taken) k.Name ≡ false → same_kind (kind_of_word n) k.Name ≡ true → bytes_eq n taken ≡ false
other_word n taken h g = go (bytes_eq n taken) refl
  where
    go : (b : Bool) → bytes_eq n taken ≡ b → bytes_eq n taken ≡ false
    go true e =
        let same : n ≡ taken = (bytes_eq-Decides n taken).0 e in
        let clash : false ≡ true = sym h ∙ sym (ap (λ (w : List ℕ). same_kind (kind_of_word w) k.Name) same) ∙ g in
        absurd (cc)
    go false e = e

no_null : same_kind (kind_of_word (codes "NULL")) k.Name ≡ false
unfolding same_kind kind_of_word
no_null = refl

no_not : same_kind (kind_of_word (codes "NOT")) k.Name ≡ false
unfolding same_kind kind_of_word
no_not = refl

names : (n : List ℕ) → Prints (column n) 10 (Some (name_text n))
names n = record { text = name_text n; is = refl; reads = λ fs _. go fs (is_plain_name n) refl }
  where
    go : (fs : List Frame) (b : Bool) → is_plain_name n ≡ b → Reads (column n) 10 (cond (is_plain_name n) n (96 ∷ (doubled n ++ 96 ∷ []))) fs
    go fs true e =
        let parts = and_parts (is_identifier n) (same_kind (kind_of_word n) k.Name) e in
        subst (λ (b : Bool). Reads (column n) 10 (cond b n (96 ∷ (doubled n ++ 96 ∷ []))) fs) (sym e)
        (at_place (column n) 10 n fs (word n fs) (identifier_run fs n parts.0)
        (not_from_false (bytes_eq n (codes "NOT")) (other_word n (codes "NOT") no_not parts.1))
        (ap (λ e. place e fs) (cond-false (bytes_eq n (codes "NULL")) _ _ (other_word n (codes "NULL") no_null parts.1))))
    go fs false e = subst (λ (b : Bool). Reads (column n) 10 (cond b n (96 ∷ (doubled n ++ 96 ∷ []))) fs) (sym e)
        (at_place (column n) 10 (96 ∷ (doubled n ++ 96 ∷ [])) fs (name_end n fs) (quoted_name_run fs n) refl refl)

prints : (e : Expression) → is_plain e ≡ true → is_folded e ≡ true → literals_fit e ≡ true
    → Prints e (level e) (expression_text e)
prints (literal v) h f g = values v h g
prints (column n) h f g = names n
prints (unary op e) h f g = let folded = and_parts _ _ f in
    fronts op e _ (not-true _ folded.0) (brackets e 10 _ (prints e h folded.1 g))
prints (binary op l r) h f g =
    let plain = and_parts _ _ h in let folded = and_parts _ _ f in let fit = and_parts _ _ g in
    links (by op) l r _ _ (brackets l (op_level op) _ (prints l plain.0 (and_parts _ _ folded.0).1 fit.0))
    (brackets r (op_level op + 1) _ (prints r plain.1 folded.1 fit.1))
prints (both l r) h f g =
    let plain = and_parts _ _ h in let folded = and_parts _ _ f in let fit = and_parts _ _ g in
    links and_link l r _ _ (brackets l 2 _ (prints l plain.0 folded.0 fit.0))
    (brackets r 3 _ (prints r plain.1 folded.1 fit.1))
prints (either l r) h f g =
    let plain = and_parts _ _ h in let folded = and_parts _ _ f in let fit = and_parts _ _ g in
    links or_link l r _ _ (brackets l 1 _ (prints l plain.0 folded.0 fit.0))
    (brackets r 2 _ (prints r plain.1 folded.1 fit.1))

prints_built : (e : Expression) → is_plain e ≡ true → is_built e ≡ true → Prints e (level e) (expression_text e)
prints_built e h built = let parts = and_parts (is_folded e) (literals_fit e) built in prints e h parts.0 parts.1

reads_back : (e : Expression) (o : Option (List ℕ)) (h : Prints e (level e) o) → read h.text ≡ e
reads_back e o h = let r = h.reads [] (level-pos e) in ap (λ p. p.operand) (r.settles 1 (level-pos e) (omega arith))

pub prints_alone : (e : Expression) → is_built e ≡ true → PrintsAlone e
prints_alone e built plain other other_plain other_built same =
    let a = prints_built other other_plain other_built in
    let b = prints_built e plain built in
    let texts : Some a.text ≡ Some b.text = sym a.is ∙ same ∙ b.is in
    sym (reads_back other _ a) ∙ ap (λ o. read (unwrap_or o [])) texts ∙ reads_back e _ b
