-- Queries for rows that are spelled are read.
use Rattle.std.proofs.Common.{◌≡◌, ℕ, zero, suc, ◌+◌, ◌-◌, ◌^◌, ◌==◌, ◌<◌, ◌≤◌, max, min, Bool, true, false, ◌||◌, if◌then◌else◌, List, [], ◌∷◌, ◌++◌, map, length, Option, Some, None, option_map, Ok, Err, refl, sym, ◌∙◌, ap, ap₂, arith}
use Rattle.std.proofs.lemmas.Bool.{leb-true}
use Rattle.msi_query_expressions.specs.declared.joins.JoinKind.{JoinKind}
use Rattle.msi_query_expressions.specs.declared.joins.JoinKind.TheVariants.{Inner, Left}
use Rattle.msi_query.specs.Queries.{Query, table, join, product, no_clauses, narrowed_query, projected_query, ordered_query}
use Rattle.msi_query_tokens.specs.declared.token.Kind.{Kind}
use Rattle.msi_query_tokens.specs.declared.token.Kind.TheVariants as k
use Rattle.msi_query_tokens.specs.declared.refusal.Expected.TheVariants as expected
use Rattle.msi_query_tokens.specs.Tokens.{is_name}
use Rattle.msi_query_tokens.specs.Input.{Input, Outcome, Reader, ◌>>=◌, kind, next, sees, after, refusal, left, start_of}
use Rattle.msi_query_tokens.specs.Texts.{text}
use Rattle.msi_query_tokens.specs.Symbols.{Symbol, mark, named}
use Rattle.msi_query_tokens.proofs.SymbolLemmas.{spans_shorter}
use Rattle.msi_query_tokens.proofs.StepLemmas.{Next, Leads, leads_on, risen, risen_height, after_yes, after_no}
use Rattle.msi_query_parse.specs.Operators.{binds}
use Rattle.msi_query_parse.specs.Tables.{FromTable, side_of}
use Rattle.msi_query_parse.specs.Reading as reading
use Rattle.msi_query_parse.specs.Reading.{order, condition, table_named, narrowed, once_each, joined_by, sees_join, bracketed_query, side, joined, joins_from, joins, joins_behind, first_bracketed, tables, tables_by, from_tables, source, selection, select, query, whole}
use Rattle.msi_query_parse.specs.Grammar.{Phrase, ColumnName, SelectClauses, Source, whole as whole_table, tables_of, both_of, query_of, bytes_of, name_symbols, separated, distinct_symbols, column_symbols, order_symbols, front_symbols, back_symbols, in_brackets, join_mark, source_symbols, is_query, is_join, is_product, is_source, is_where, source_height, query_meant, where_symbols, phrase_symbols, expression_of, SpellsSelect}
use Rattle.msi_query_parse.proofs.NamesRead.{first_kind, at, kind_at, next_at, leads_next, then_read, mark_kind, sees_yes, sees_no, expect_read, risen_then, name_read, named_here, whole_read, end_kind}
use Rattle.msi_query_parse.proofs.ExpressionsRead.{both_left, both_right, denied, leads_split, condition_read}
use Rattle.msi_query_parse.proofs.ColumnLemmas.{not_distinct, selected_read, order_read}
use Rattle.msi_query_parse.proofs.TableLemmas.{tables_read, begins_named, none_alone}
use Rattle.msi_query_parse.proofs.ChangesRead.{where_read}
use Rattle.msi_query_parse.proofs.SourcesSpelled.{side_height, side_high, narrowed_is, join_rest, join_value}

-- ---- what follows

-- what may come behind a query, behind its condition and behind its source
abbrev pub ends_query : Kind → Bool
ends_query k.End = true
ends_query k.Close = true
ends_query _ = false

abbrev ends_condition : Kind → Bool
ends_condition k.Order = true
ends_condition kind_seen = ends_query kind_seen

abbrev ends_source : Kind → Bool
ends_source k.Where = true
ends_source kind_seen = ends_condition kind_seen

abbrev pub Ends : List ℕ → Type 0
Ends b = ends_query (first_kind b) ≡ true

-- a kind that a test tells from another
differs : (f : Kind → Bool) (c other : Kind) → f c ≡ true → f other ≡ false → c ≡ other → ⊥
differs f c other h g e = let both : true ≡ false = sym h ∙ ap f e ∙ g in cc

source_loose : (c : Kind) → ends_source c ≡ true → binds c ≡ 0
source_loose k.Where e = refl
source_loose k.Order e = refl
source_loose k.End e = refl
source_loose k.Close e = refl
source_loose _ e = absurd (cc)

source_unnamed : (c : Kind) → ends_source c ≡ true → is_name c ≡ false
source_unnamed k.Where e = refl
source_unnamed k.Order e = refl
source_unnamed k.End e = refl
source_unnamed k.Close e = refl
source_unnamed _ e = absurd (cc)

as_condition_end : (c : Kind) → ends_query c ≡ true → ends_condition c ≡ true
as_condition_end k.Order e = refl
as_condition_end c e = e

as_source_end : (c : Kind) → ends_condition c ≡ true → ends_source c ≡ true
as_source_end k.Where e = refl
as_source_end c e = e

-- what stands where an order, or what ends the query, comes next
order_starts : (cs : List ColumnName) (i : Input) (b : List ℕ) → Leads i.ahead (order_symbols cs) b → Ends b → ends_condition (kind i) ≡ true
order_starts [] i b h end = ap ends_condition (kind_at i b h.spans) ∙ as_condition_end (first_kind b) end
order_starts (c ∷ cs) i b h end = ap ends_condition (mark_kind {i = i} {other = k.Order} (leads_next i (mark k.Order) (mark k.By ∷ separated (map name_symbols (c ∷ cs))) b h).0 (λ x. cc))

where_starts : (c : Option Phrase) (i : Input) (b : List ℕ) → Leads i.ahead (where_symbols c) b → ends_condition (first_kind b) ≡ true → ends_source (kind i) ≡ true
where_starts None i b h end = ap ends_source (kind_at i b h.spans) ∙ as_source_end (first_kind b) end
where_starts (Some p) i b h end = ap ends_source (mark_kind {i = i} {other = k.Where} (leads_next i (mark k.Where) (phrase_symbols p) b h).0 (λ x. cc))

join_loose : (kind_seen : JoinKind) → binds (join_mark kind_seen) ≡ 0
join_loose Inner = refl
join_loose Left = refl

join_no_dot : (kind_seen : JoinKind) → join_mark kind_seen ≡ k.Dot → ⊥
join_no_dot Inner e = cc
join_no_dot Left e = cc

join_no_comma : (kind_seen : JoinKind) → join_mark kind_seen ≡ k.Comma → ⊥
join_no_comma Inner e = cc
join_no_comma Left e = cc

join_unnamed : (kind_seen : JoinKind) → is_name (join_mark kind_seen) ≡ false
join_unnamed Inner = refl
join_unnamed Left = refl

join_known : (kind_seen : JoinKind) → join_mark kind_seen ≡ k.Unknown → ⊥
join_known Inner e = cc
join_known Left e = cc

join_seen : (kind_seen : JoinKind) (i : Input) → kind i ≡ join_mark kind_seen → sees_join i ≡ true
join_seen Inner i e = ap (λ t. t || sees k.Left i) (sees_yes k.Inner i e)
join_seen Left i e = ap (λ t. t || sees k.Left i) (sees_no k.Inner i (λ f. let g : k.Inner ≡ k.Left = sym f ∙ e in cc)) ∙ sees_yes k.Left i e

join_unseen : (i : Input) → (kind i ≡ k.Inner → ⊥) → (kind i ≡ k.Left → ⊥) → sees_join i ≡ false
join_unseen i f g = ap (λ t. t || sees k.Left i) (sees_no k.Inner i f) ∙ sees_no k.Left i g

not_name : (i : Input) (c : Kind) → kind i ≡ c → is_name c ≡ false → is_name (kind i) ≡ false
not_name i c e f = ap is_name e ∙ f

-- ---- sides

table_read : (n : List ℕ) (i : Input) → Next i (named n) → table_named i ≡ Ok (table n no_clauses, next i)
unfolding table_named
table_read n i h = then_read _ (name_read expected.Side i n h) refl

-- a reader of queries less high
abbrev pub ReadsQuery : ℕ → Reader Query → Type 0
ReadsQuery d below = (s : Source) (i : Input) (b : List ℕ) → is_query s ≡ true → is_source s ≡ true → source_height s < d → Leads i.ahead (source_symbols s) b → Ends b
    → below i ≡ Ok (query_meant s, at i b (max i.height (source_height s + 1)))

same_at : {A : Type 0} (a : A) (i : Input) (b : List ℕ) (m n : ℕ) → m ≡ n → ◌≡◌ {A = Outcome A} (Ok (a, at i b m)) (Ok (a, at i b n))
same_at a i b m n e = ap (λ x. Ok (a, at i b x)) e

some_deep : (d : ℕ) → 1 ≤ d → (d == 0) ≡ false
some_deep d h = grind arith

close_at : (i : Input) (a b : List ℕ) (h : ℕ) → (next (at (next i) a (max (next i).height h))).ahead ≡ b → next (at (next i) a (max (next i).height h)) ≡ at i b (max i.height h)
unfolding next
close_at i a b h e = ap (λ x. at i x (max i.height h)) e

joined_at_end : (i : Input) (a c b : List ℕ) (l r h : ℕ) → max (l + 1) r ≡ h
    → at (next (at (next (risen (at i a l))) c (max (next (risen (at i a l))).height r))) b (next (at (next (risen (at i a l))) c (max (next (risen (at i a l))).height r))).height ≡ at i b h
unfolding next
joined_at_end i a c b l r h e = ap (λ x. at i b x) e

selection_end : (i : Input) (a c b : List ℕ) (h n : ℕ) → max i.height h ≡ n
    → at (at (record (next (at i a i.height)) { height = 0 }) c (max (next (at i a i.height)).height h)) b (max (next (at i a i.height)).height h) ≡ at i b n
unfolding next
selection_end i a c b h n e = ap (λ x. at i b x) e

past_height : (i : Input) (a b : List ℕ) (h : ℕ) → at (at (next i) a (next i).height) b (max (next i).height h) ≡ at i b (max i.height h)
unfolding next
past_height i a b h = refl

leads_both : (s t : List Symbol) (a b c : List ℕ) → Leads a s b → Leads b t c → Leads a (s ++ t) c
leads_both s t a b c h g = leads_on h g

-- SELECT, and what stands behind it
select_symbols_split : (c : SelectClauses) (s : Source) (a e : List ℕ) → Leads a (source_symbols (query_of c s)) e
    → (b : List ℕ) × Leads a (mark k.Select ∷ distinct_symbols c.is_distinct) b × Leads b (column_symbols c.columns ++ mark k.From ∷ source_symbols s ++ back_symbols c) e
select_symbols_split c s a e h =
    let outer = leads_split (front_symbols c ++ source_symbols s) (back_symbols c) a e h in
    let inner = leads_split (front_symbols c) (source_symbols s) a outer.0 outer.1 in
    let from = leads_split (mark k.Select ∷ distinct_symbols c.is_distinct ++ column_symbols c.columns) (mark k.From ∷ []) a inner.0 inner.1 in
    let first = leads_split (mark k.Select ∷ distinct_symbols c.is_distinct) (column_symbols c.columns) a from.0 from.1 in
    let source_part = leads_both (mark k.From ∷ []) (source_symbols s) from.0 inner.0 outer.0 from.2 inner.2 in
    let middle = leads_both (column_symbols c.columns) (mark k.From ∷ source_symbols s) first.0 from.0 outer.0 first.2 source_part in
    (first.0, first.1, leads_both (column_symbols c.columns ++ mark k.From ∷ source_symbols s) (back_symbols c) first.0 outer.0 e middle outer.2)

-- past a token, a level higher
leads_up : (i : Input) (c : Kind) (symbols : List Symbol) (b : List ℕ) → Leads i.ahead (mark c ∷ symbols) b → Next i (mark c) × Leads (risen i).ahead symbols b
unfolding next
leads_up i c symbols b h = let l = leads_next i (mark c) symbols b h in (l.0, l.1)

side_low : {d : ℕ} (s : Source) → source_height s < d → side_height s ≤ d
side_low (whole_table n) h = omega arith
side_low (tables_of found) h = omega arith
side_low (query_of c from) h = omega arith
side_low (both_of kind_seen l r on) h = omega arith

plain_low : {d : ℕ} (s : Source) → is_query s ≡ false → side_height s ≤ d
plain_low {d} s e = let none : side_height s ≡ 0 = ap (λ t. if t then source_height s + 1 else 0) e in omega arith

module _ (d : ℕ) (below : Reader Query) (reads : ReadsQuery d below) where
  side_read : (s : Source) (i : Input) (b : List ℕ) → is_join s ≡ false → is_source s ≡ true → side_height s ≤ d → Leads i.ahead (in_brackets s (source_symbols s)) b
      → side d below i ≡ Ok (query_meant s, at i b (max i.height (side_height s)))
  unfolding side bracketed_query
  side_read (whole_table n) i b no_join rules low h =
      let l = leads_next i (named n) [] b h in
      let off = sees_no k.Open i (λ e. let f : is_name (kind i) ≡ false = ap is_name e in let g : is_name (kind i) ≡ true = (named_here i n l.0).0 in let both : true ≡ false = sym g ∙ f in cc) in
      let level : i.height ≡ max i.height 0 = omega arith in
      ap (λ t. if t then bracketed_query d below i else table_named i) off ∙ table_read n i l.0 ∙ ap (λ y. Ok (table n no_clauses, y)) (next_at i b (max i.height 0) l.1.spans level)
  side_read (query_of c from) i b no_join rules low h =
      let s = query_of c from in
      let l = leads_next i (mark k.Open) (source_symbols s ++ mark k.Close ∷ []) b h in
      let m = next i in
      let p = leads_split (source_symbols s) (mark k.Close ∷ []) m.ahead b l.1 in
      let place = at m p.0 (max m.height (source_height s + 1)) in
      let close = leads_next place (mark k.Close) [] b p.2 in
      let is = mark_kind {i = place} {other = k.Close} close.0 (λ x. cc) in
      let opens = mark_kind {i = i} {other = k.Open} l.0 (λ x. cc) in
      ap (λ t. if t then bracketed_query d below i else table_named i) (sees_yes k.Open i opens)
      ∙ ap (λ t. if t then Err (refusal expected.FewerLevels i) else reading.in_brackets d below i) (some_deep d (omega arith))
      ∙ then_read _ (reads s m p.0 refl rules (omega arith) p.1 (ap ends_query (sym (kind_at place p.0 refl) ∙ is)))
      (then_read _ (expect_read k.Close expected.CloseBracket place is) (ap (λ y. Ok (query_meant s, y)) (close_at i p.0 b (source_height s + 1) close.1.spans)))
  side_read (both_of kind_seen l r on) i b no_join rules low h = absurd (cc)
  side_read (tables_of found) i b no_join rules low h = absurd (cc)

  -- ---- joins

  joined_read : (kind_seen : JoinKind) (l r : Source) (on : Phrase) (i : Input) (a b : List ℕ) → kind (at i a (source_height l)) ≡ join_mark kind_seen
      → Leads (risen (at i a (source_height l))).ahead ((mark k.Join ∷ in_brackets r (source_symbols r)) ++ mark k.On ∷ phrase_symbols on) b
      → is_source r ≡ true → is_join r ≡ false → is_where (Some on) ≡ true → source_height l < d → source_height r < d → binds (first_kind b) ≡ 0 → (first_kind b ≡ k.Dot → ⊥)
      → joined d below (query_meant l) (at i a (source_height l)) ≡ Ok (query_meant (both_of kind_seen l r on), at i b (max (source_height l) (source_height r) + 1))
  unfolding joined
  joined_read kind_seen l r on i a b is h rules no_join good left right loose no_dot =
      let m = at i a (source_height l) in
      let up = risen m in
      let level = risen_height m in
      let high = side_high r no_join in
      let w = leads_next up (mark k.Join) (in_brackets r (source_symbols r) ++ mark k.On ∷ phrase_symbols on) b h in
      let word = mark_kind {i = up} {other = k.Join} w.0 (λ x. cc) in
      let p = leads_split (in_brackets r (source_symbols r)) (mark k.On ∷ phrase_symbols on) (next up).ahead b w.1 in
      let past = at (next up) p.0 (max (next up).height (side_height r)) in
      let o = leads_next past (mark k.On) (phrase_symbols on) b p.2 in
      let on_word = mark_kind {i = past} {other = k.On} o.0 (λ x. cc) in
      let same : join kind_seen (query_meant l) (query_meant r) (expression_of on) no_clauses ≡ joined_by (kind m) (query_meant l) (query_meant r) (expression_of on) = join_value kind_seen m (query_meant l) (query_meant r) (expression_of on) is in
      risen_then d (join_rest d below (query_meant l) (kind m)) m left
      ∙ then_read _ (expect_read k.Join expected.Join up word)
      (then_read _ (side_read r (next up) p.0 no_join rules (omega arith) p.1)
      (then_read _ (expect_read k.On expected.On past on_word)
      (then_read _ (condition_read on (next past) b o.1 (both_left _ _ good) (leb-true _ 200 (both_right _ _ good)) loose no_dot)
      (ap (λ q. Ok (q, at (next past) b (next past).height)) (sym same)
      ∙ ap (λ y. Ok (join kind_seen (query_meant l) (query_meant r) (expression_of on) no_clauses, y)) (joined_at_end i a p.0 b (source_height l) (side_height r) (max (source_height l) (source_height r) + 1) (omega arith))))))

  pub record SourceReached (s : Source) (i : Input) (b : List ℕ) : Type 0 where
    pub turns_left : ℕ
    pub enough : length b ≤ turns_left
    pub read : source d below i ≡ joins_from d below turns_left (query_meant s) (at i b (source_height s))

  reached : (kind_seen : JoinKind) (l r : Source) (on : Phrase) (i : Input) (a b : List ℕ) (symbols : List Symbol) → Leads a (mark (join_mark kind_seen) ∷ symbols) b → kind (at i a (source_height l)) ≡ join_mark kind_seen
      → joined d below (query_meant l) (at i a (source_height l)) ≡ Ok (query_meant (both_of kind_seen l r on), at i b (max (source_height l) (source_height r) + 1))
      → (n : ℕ) → length a ≤ n → source d below i ≡ joins_from d below n (query_meant l) (at i a (source_height l)) → SourceReached (both_of kind_seen l r on) i b
  unfolding joins_from
  reached kind_seen l r on i a b symbols h is o zero short e = let fewer = spans_shorter (mark (join_mark kind_seen) ∷ symbols) a b h.spans in absurd (omega arith)
  reached kind_seen l r on i a b symbols h is o (suc n) short e =
      let fewer = spans_shorter (mark (join_mark kind_seen) ∷ symbols) a b h.spans in
      let m = at i a (source_height l) in
      record {
        turns_left = n;
        enough = omega arith;
        read = e ∙ ap (λ t. if t then (joined d below (query_meant l) >>= joins_from d below n) m else Ok (query_meant l, m)) (join_seen kind_seen m is) ∙ then_read _ o refl;
      }

  source_reached : (s : Source) (i : Input) (b : List ℕ) → is_source s ≡ true → is_product s ≡ false → source_height s ≤ d → side_height s ≤ d → i.height ≡ 0 → Leads i.ahead (in_brackets s (source_symbols s)) b
      → (is_query s ≡ true → sees_join (at i b (source_height s)) ≡ true) → binds (first_kind b) ≡ 0 → (first_kind b ≡ k.Dot → ⊥) → (first_kind b ≡ k.Comma → ⊥) → is_name (first_kind b) ≡ false → SourceReached s i b
  unfolding source from_tables joins left
  source_reached (tables_of found) i b rules no_product low room flat h more loose no_dot no_comma unnamed = absurd (cc)
  source_reached (whole_table n) i b rules no_product low room flat h more loose no_dot no_comma unnamed =
      let one : FromTable = record { table = n; own = None } in
      record {
        turns_left = length b;
        enough = omega arith;
        read = ap (λ t. if t then (tables >>= from_tables d below) i else first_bracketed d below i) (begins_named one [] i b h)
            ∙ then_read _ (tables_read one [] i b h no_comma unnamed) (ap (λ x. joins d below (table n no_clauses) (at i b x)) flat);
      }
  source_reached (query_of c from) i b rules no_product low room flat h more loose no_dot no_comma unnamed =
      let s = query_of c from in
      let l = leads_next i (mark k.Open) (source_symbols s ++ mark k.Close ∷ []) b h in
      let opens = mark_kind {i = i} {other = k.Open} l.0 (λ x. cc) in
      let lowered : max i.height (source_height s + 1) - 1 ≡ source_height s = omega arith in
      let m = at i b (source_height s) in
      record {
        turns_left = length b;
        enough = omega arith;
        read = ap (λ t. if t then (tables >>= from_tables d below) i else first_bracketed d below i) (not_name i k.Open opens refl)
            ∙ then_read _ (side_read s i b refl rules room h)
            (ap (λ x. joins_behind d below (query_meant s) (at i b x)) lowered
            ∙ ap (λ t. if t then joins d below (query_meant s) m else Err (refusal expected.JoinKind m)) (more refl));
      }
  source_reached (both_of kind_seen l r on) i b rules no_product low room flat h more loose no_dot no_comma unnamed =
      let outer = leads_split (in_brackets l (source_symbols l) ++ mark (join_mark kind_seen) ∷ mark k.Join ∷ in_brackets r (source_symbols r)) (mark k.On ∷ phrase_symbols on) i.ahead b h in
      let inner = leads_split (in_brackets l (source_symbols l)) (mark (join_mark kind_seen) ∷ mark k.Join ∷ in_brackets r (source_symbols r)) i.ahead outer.0 outer.1 in
      let a = inner.0 in
      let rest = leads_both (mark (join_mark kind_seen) ∷ mark k.Join ∷ in_brackets r (source_symbols r)) (mark k.On ∷ phrase_symbols on) a outer.0 b inner.2 outer.2 in
      let m = at i a (source_height l) in
      let n = leads_up m (join_mark kind_seen) ((mark k.Join ∷ in_brackets r (source_symbols r)) ++ mark k.On ∷ phrase_symbols on) b rest in
      let is = mark_kind {i = m} {other = join_mark kind_seen} n.0 (join_known kind_seen) in
      let first : first_kind a ≡ join_mark kind_seen = sym (kind_at m a refl) ∙ is in
      let where_part = both_right _ _ rules in
      let parts = both_left _ _ rules in
      let no_join = denied _ (both_right _ _ parts) in
      let sides = both_left _ _ parts in
      let left_side = both_left _ _ sides in
      let high = side_low l (omega arith) in
      let before = source_reached l i a (both_left _ _ left_side) (denied _ (both_right _ _ left_side)) (omega arith) high flat inner.1 (λ e. join_seen kind_seen m is) (ap binds first ∙ join_loose kind_seen) (λ e. join_no_dot kind_seen (sym first ∙ e))
      (λ e. join_no_comma kind_seen (sym first ∙ e)) (ap is_name first ∙ join_unnamed kind_seen) in
      reached kind_seen l r on i a b ((mark k.Join ∷ in_brackets r (source_symbols r)) ++ mark k.On ∷ phrase_symbols on) rest is
      (joined_read kind_seen l r on i a b is n.1 (both_right _ _ sides) no_join where_part (omega arith) (omega arith) loose no_dot) before.turns_left before.enough before.read

  joins_stop : (n : ℕ) (q : Query) (m : Input) → sees_join m ≡ false → joins_from d below n q m ≡ Ok (q, m)
  unfolding joins_from
  joins_stop zero q m e = refl
  joins_stop (suc n) q m e = ap (λ t. if t then (joined d below q >>= joins_from d below n) m else Ok (q, m)) e

  -- a source behind which no join comes
  source_read : (s : Source) (i : Input) (b : List ℕ) → is_source s ≡ true → is_query s ≡ false → source_height s ≤ d → i.height ≡ 0 → Leads i.ahead (source_symbols s) b → sees_join (at i b (source_height s)) ≡ false
      → binds (first_kind b) ≡ 0 → (first_kind b ≡ k.Dot → ⊥) → (first_kind b ≡ k.Comma → ⊥) → is_name (first_kind b) ≡ false → source d below i ≡ Ok (query_meant s, at i b (source_height s))
  unfolding source from_tables
  source_read (query_of c from) i b rules no_query low flat h unseen loose no_dot no_comma unnamed = absurd (cc)
  source_read (tables_of []) i b rules no_query low flat h unseen loose no_dot no_comma unnamed = absurd (cc)
  source_read (tables_of (t ∷ ts)) i b rules no_query low flat h unseen loose no_dot no_comma unnamed =
      ap (λ y. if y then (tables >>= from_tables d below) i else first_bracketed d below i) (begins_named t ts i b h)
      ∙ then_read _ (tables_read t ts i b h no_comma unnamed) (ap (λ o. tables_by d below (t ∷ ts) o (at i b i.height)) (none_alone t ts rules) ∙ ap (λ x. Ok (product (map side_of (t ∷ ts)) no_clauses, at i b x)) flat)
  source_read (whole_table n) i b rules no_query low flat h unseen loose no_dot no_comma unnamed =
      let s = whole_table n in
      let r = source_reached s i b rules refl low (plain_low s no_query) flat h (λ e. let g : true ≡ false = sym e ∙ no_query in cc) loose no_dot no_comma unnamed in
      r.read ∙ joins_stop r.turns_left (query_meant s) (at i b (source_height s)) unseen
  source_read (both_of kind_seen l r on) i b rules no_query low flat h unseen loose no_dot no_comma unnamed =
      let s = both_of kind_seen l r on in
      let r = source_reached s i b rules refl low (plain_low s no_query) flat h (λ e. let g : true ≡ false = sym e ∙ no_query in cc) loose no_dot no_comma unnamed in
      r.read ∙ joins_stop r.turns_left (query_meant s) (at i b (source_height s)) unseen

  -- ---- queries

  selection_read : (c : SelectClauses) (s : Source) (i : Input) (b : List ℕ) → d ≤ 200 → is_source (query_of c s) ≡ true → source_height s ≤ d
      → Leads i.ahead (column_symbols c.columns ++ mark k.From ∷ source_symbols s ++ back_symbols c) b → Ends b
      → selection d below c.is_distinct i ≡ Ok (query_meant (query_of c s), at i b (max i.height (source_height s + 1)))
  unfolding selection narrowed
  selection_read c s i b deep rules low h end =
      let good = both_right _ _ rules in
      let parts = both_left _ _ rules in
      let no_query = denied _ (both_right _ _ parts) in
      let outer = leads_split (column_symbols c.columns ++ mark k.From ∷ source_symbols s) (back_symbols c) i.ahead b h in
      let back = leads_split (where_symbols c.condition) (order_symbols c.order) outer.0 b outer.2 in
      let inner = leads_split (column_symbols c.columns) (mark k.From ∷ source_symbols s) i.ahead outer.0 outer.1 in
      let cols = at i inner.0 i.height in
      let f = leads_next cols (mark k.From) (source_symbols s) outer.0 inner.2 in
      let from = mark_kind {i = cols} {other = k.From} f.0 (λ x. cc) in
      let flat = record (next cols) { height = 0 } in
      let place = at flat outer.0 (source_height s) in
      let last = at place back.0 0 in
      let order_end : ends_condition (first_kind back.0) ≡ true = ap ends_condition (sym (kind_at last back.0 refl)) ∙ order_starts c.order last b back.2 end in
      let stop = where_starts c.condition place back.0 back.1 order_end in
      let first_stop : ends_source (first_kind outer.0) ≡ true = ap ends_source (sym (kind_at place outer.0 refl)) ∙ stop in
      let unseen = join_unseen place (differs ends_source (kind place) k.Inner stop refl) (differs ends_source (kind place) k.Left stop refl) in
      let read_source = source_read s flat outer.0 (both_left _ _ parts) no_query low refl f.1 unseen
      (source_loose (first_kind outer.0) first_stop) (differs ends_source (first_kind outer.0) k.Dot first_stop refl) (differs ends_source (first_kind outer.0) k.Comma first_stop refl) (source_unnamed (first_kind outer.0) first_stop) in
      let o = option_map expression_of c.condition in
      let left_at = at flat outer.0 (max (next cols).height (min (source_height s + 1) (2 ^ 64 - 1))) in
      let order_stop = as_source_end (first_kind back.0) order_end in
      let read_where = where_read (narrowed_query (query_meant s)) (query_meant s) c.condition left_at back.0 good back.1 (source_loose (first_kind back.0) order_stop)
      (differs ends_source (first_kind back.0) k.Dot order_stop refl) (differs ends_condition (first_kind back.0) k.Where order_end refl) in
      let order_at = at left_at back.0 left_at.height in
      let read_order = order_read c.order order_at b back.2 (differs ends_query (first_kind b) k.Order end refl) (differs ends_query (first_kind b) k.Comma end refl) (differs ends_query (first_kind b) k.Dot end refl) in
      let capped : max i.height (min (source_height s + 1) (2 ^ 64 - 1)) ≡ max i.height (source_height s + 1) = omega arith in
      then_read _ (selected_read c.columns i inner.0 inner.1 (sym (kind_at cols inner.0 refl) ∙ from))
      (then_read _ (expect_read k.From expected.From cols from)
      (then_read _ read_source
      (then_read _ read_where
      (then_read _ read_order
      (ap (λ q. Ok (ordered_query (once_each c.is_distinct (projected_query q (map bytes_of c.columns))) (map bytes_of c.order), at order_at b order_at.height)) (narrowed_is (query_meant s) o)
      ∙ ap (λ y. Ok (query_meant (query_of c s), y)) (selection_end i inner.0 back.0 b (min (source_height s + 1) (2 ^ 64 - 1)) (max i.height (source_height s + 1)) capped))))))

  distinct_read : (t : Bool) (i : Input) (b : List ℕ) → Leads i.ahead (distinct_symbols t) b → (first_kind b ≡ k.Distinct → ⊥) → (sees k.Distinct i ≡ t) × (after k.Distinct i ≡ at i b i.height)
  distinct_read true i b h other =
      let l = leads_next i (mark k.Distinct) [] b h in
      let on = sees_yes k.Distinct i (mark_kind l.0 (λ x. cc)) in
      (on, after_yes k.Distinct i on ∙ next_at i b i.height l.1.spans refl)
  distinct_read false i b h other =
      let off = sees_no k.Distinct i (λ e. other (sym (kind_at i b h.spans) ∙ e)) in
      (off, after_no k.Distinct i off ∙ ap (λ x. at i x i.height) h.spans)

  select_read : (c : SelectClauses) (s : Source) (i : Input) (b : List ℕ) → d ≤ 200 → is_source (query_of c s) ≡ true → source_height s ≤ d → Leads i.ahead (source_symbols (query_of c s)) b → Ends b
      → select d below i ≡ Ok (query_meant (query_of c s), at i b (max i.height (source_height s + 1)))
  unfolding select
  select_read c s i b deep rules low h end =
      let p = select_symbols_split c s i.ahead b h in
      let l = leads_next i (mark k.Select) (distinct_symbols c.is_distinct) p.0 p.1 in
      let m = next i in
      let x = at m p.0 m.height in
      let cols = leads_split (column_symbols c.columns ++ mark k.From ∷ source_symbols s) (back_symbols c) p.0 b p.2 in
      let first = leads_split (column_symbols c.columns) (mark k.From ∷ source_symbols s) p.0 cols.0 cols.1 in
      let each = distinct_read c.is_distinct m p.0 l.1 (λ e. not_distinct c.columns x first.0 first.1 (kind_at x p.0 refl ∙ e)) in
      then_read _ (expect_read k.Select expected.Select i (mark_kind l.0 (λ x. cc)))
      (ap₂ (λ t y. selection d below t y) each.0 each.1 ∙ selection_read c s x b deep rules low p.2 end ∙ ap (λ y. Ok (query_meant (query_of c s), y)) (past_height i p.0 b (source_height s + 1)))

pub query_read : (d : ℕ) → d ≤ 201 → ReadsQuery d (query d)
unfolding query
query_read zero deep s i b is rules low h end = absurd (omega arith)
query_read (suc d) deep (query_of c s) i b is rules low h end = select_read d (query d) (query_read d (omega arith)) c s i b (omega arith) rules (omega arith) h end
query_read (suc d) deep (whole_table n) i b is rules low h end = absurd (cc)
query_read (suc d) deep (tables_of found) i b is rules low h end = absurd (cc)
query_read (suc d) deep (both_of kind_seen l r on) i b is rules low h end = absurd (cc)

pub select_spells : (text : List ℕ) (q : Query) → SpellsSelect text q → whole (query 201) text ≡ Ok q
select_spells text q s =
    let high = s.height in
    let read = query_read 201 (omega arith) s.source (start_of text) s.symbols.rest (both_left _ _ s.rules) (both_right _ _ s.rules) (omega arith) (record { spans = s.symbols.spans }) (ap ends_query (end_kind s.symbols.rest s.symbols.end)) in
    whole_read (query 201) text _ _ read s.symbols.end ∙ ap Ok s.value
