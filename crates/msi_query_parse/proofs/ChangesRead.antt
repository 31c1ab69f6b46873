-- Queries that change rows: what is spelled is read.
use Rattle.std.proofs.Common.{◌≡◌, ℕ, ◌≤◌, true, if◌then◌else◌, List, [], ◌∷◌, ◌++◌, map, length, Option, Some, None, option_map, Ok, refl, sym, ◌∙◌, ap, ap₂, arith}
use Rattle.std.specs.List.{list_all}
use Rattle.std.proofs.lemmas.Bool.{leb-true}
use Rattle.msi_query_expressions.specs.Expressions.{Expression}
use Rattle.msi_query.specs.Queries.{InsertQuery, UpdateQuery, DeleteQuery}
use Rattle.msi_query_tokens.specs.declared.token.Kind.{Kind}
use Rattle.msi_query_tokens.specs.declared.token.Kind.TheVariants as k
use Rattle.msi_query_tokens.specs.declared.refusal.Expected.TheVariants as expected
use Rattle.msi_query_tokens.specs.Input.{Input, ◌<$>◌, pure, kind, next, sees, after, left, start_of}
use Rattle.msi_query_tokens.specs.Symbols.{Symbol, mark, named}
use Rattle.msi_query_tokens.proofs.StepLemmas.{Leads, after_yes, after_no}
use Rattle.msi_query_parse.specs.Operators.{binds}
use Rattle.msi_query_parse.specs.Reading.{condition, rows, one_row, insert_into, insert, assignment, assignments, sets, update_of, where_also, update, delete_from, delete, whole}
use Rattle.msi_query_parse.specs.Grammar.{Phrase, ColumnName, plain, parts, Constant, name_symbols, bytes_of, constant_symbols, is_literal, is_where, where_symbols, phrase_symbols, expression_of, row_symbols, named_columns_symbols, rows_symbols, set_symbols, sets_symbols, separated, SpellsInsert, SpellsUpdate, SpellsDelete}
use Rattle.msi_query_parse.proofs.NamesRead.{first_kind, at, kind_at, leads_next, then_read, mark_kind, sees_yes, sees_no, expect_read, name_read, column_read, whole_read, end_kind}
use Rattle.msi_query_parse.proofs.ExpressionsRead.{both_left, both_right, leads_split, condition_read}
use Rattle.msi_query_parse.proofs.ListLemmas.{listed_read}
use Rattle.msi_query_parse.proofs.ColumnLemmas.{named_columns_read}
use Rattle.msi_query_parse.proofs.ValueLemmas.{value_read, row_read}
use Rattle.msi_query_parse.proofs.ChangesSpelled.{chosen, with_rows, goes_rows, with_sets, is_set, goes_sets, met, deleted}

-- ---- conditions

pub after_mark : (i : Input) (a b : List ℕ) (h : ℕ) → at (next (at i a h)) b (next (at i a h)).height ≡ at i b h
unfolding next
after_mark i a b h = refl

pub where_read : {B : Type 0} (f : Expression → B) (r : B) (c : Option Phrase) (i : Input) (b : List ℕ) → is_where c ≡ true → Leads i.ahead (where_symbols c) b
    → binds (first_kind b) ≡ 0 → (first_kind b ≡ k.Dot → ⊥) → (first_kind b ≡ k.Where → ⊥)
    → (if sees k.Where i then f <$> condition else pure r) (after k.Where i) ≡ Ok (chosen f r (option_map expression_of c), at i b i.height)
where_read f r None i b good h loose no_dot no_where =
    let off = sees_no k.Where i (λ e. no_where (sym (kind_at i b h.spans) ∙ e)) in
    ap (λ t. (if t then f <$> condition else pure r) (after k.Where i)) off ∙ ap (λ y. Ok (r, y)) (after_no k.Where i off) ∙ ap (λ x. Ok (r, at i x i.height)) h.spans
where_read f r (Some p) i b good h loose no_dot no_where =
    let l = leads_next i (mark k.Where) (phrase_symbols p) b h in
    let on = sees_yes k.Where i (mark_kind l.0 (λ x. cc)) in
    ap (λ t. (if t then f <$> condition else pure r) (after k.Where i)) on ∙ ap (f <$> condition) (after_yes k.Where i on)
    ∙ then_read _ (condition_read p (next i) b l.1 (both_left _ _ good) (leb-true _ 200 (both_right _ _ good)) loose no_dot) (ap (λ y. Ok (f (expression_of p), y)) (after_mark i i.ahead b i.height))

-- what a condition, or the end in its place, does not begin with
pub where_starts : (c : Option Phrase) (i : Input) (b : List ℕ) (other : Kind) → Leads i.ahead (where_symbols c) b → first_kind b ≡ k.End → (k.Where ≡ other → ⊥) → (k.End ≡ other → ⊥) → kind i ≡ other → ⊥
where_starts None i b other h end f g e = g (sym end ∙ sym (kind_at i b h.spans) ∙ e)
where_starts (Some p) i b other h end f g e = f (sym (mark_kind {i = i} {other = k.Where} (leads_next i (mark k.Where) (phrase_symbols p) b h).0 (λ x. cc)) ∙ e)

-- ---- inserts

row_item : (found : InsertQuery) (x : List Constant) (i : Input) (b : List ℕ) → list_all is_literal x ≡ true → Leads i.ahead (row_symbols x) b → (first_kind b ≡ k.Dot → ⊥) → one_row found i ≡ Ok (with_rows found (x ∷ []), at i b i.height)
row_item found x i b good h no_dot = then_read _ (row_read x i b good h) refl

row_some : (x : List Constant) → 1 ≤ length (row_symbols x)
row_some x = omega arith

rows_read : (xs : List (List Constant)) (into : List ℕ) (columns : List (List ℕ)) (i : Input) (b : List ℕ) → list_all (list_all is_literal) xs ≡ true → Leads i.ahead (rows_symbols xs) b → first_kind b ≡ k.End
    → (if sees k.Values i then rows (insert_into into columns) else pure (insert_into into columns)) (after k.Values i) ≡ Ok (with_rows (insert_into into columns) xs, at i b i.height)
unfolding left
rows_read [] into columns i b good h end =
    let off = sees_no k.Values i (λ e. let f : k.End ≡ k.Values = sym end ∙ sym (kind_at i b h.spans) ∙ e in cc) in
    ap (λ t. (if t then rows (insert_into into columns) else pure (insert_into into columns)) (after k.Values i)) off ∙ ap (λ y. Ok (insert_into into columns, y)) (after_no k.Values i off) ∙ ap (λ x. Ok (insert_into into columns, at i x i.height)) h.spans
rows_read (x ∷ xs) into columns i b good h end =
    let l = leads_next i (mark k.Values) (separated (map row_symbols (x ∷ xs))) b h in
    let on = sees_yes k.Values i (mark_kind l.0 (λ x. cc)) in
    ap (λ t. (if t then rows (insert_into into columns) else pure (insert_into into columns)) (after k.Values i)) on ∙ ap (rows (insert_into into columns)) (after_yes k.Values i on)
    ∙ listed_read InsertQuery (List Constant) expected.OpenBracket one_row row_symbols (list_all is_literal) with_rows row_item row_some goes_rows xs x (length (next i).ahead) (insert_into into columns) (next i) b (omega arith) good l.1
    (λ e. let f : k.End ≡ k.Comma = sym end ∙ e in cc) (λ e. let f : k.End ≡ k.Dot = sym end ∙ e in cc)
    ∙ ap (λ y. Ok (with_rows (insert_into into columns) (x ∷ xs), y)) (after_mark i i.ahead b i.height)

-- rows, or the end in their place, begin with no bracket
rows_no_open : (xs : List (List Constant)) (i : Input) (b : List ℕ) → Leads i.ahead (rows_symbols xs) b → first_kind b ≡ k.End → kind i ≡ k.Open → ⊥
rows_no_open [] i b h end e = let f : k.End ≡ k.Open = sym end ∙ sym (kind_at i b h.spans) ∙ e in cc
rows_no_open (x ∷ xs) i b h end e = let f : k.Values ≡ k.Open = sym (mark_kind {i = i} {other = k.Values} (leads_next i (mark k.Values) (separated (map row_symbols (x ∷ xs))) b h).0 (λ x. cc)) ∙ e in cc

pub insert_spells : (text : List ℕ) (q : InsertQuery) → SpellsInsert text q → whole insert text ≡ Ok q
unfolding insert
insert_spells text q s =
    let i = start_of text in
    let b = s.symbols.rest in
    let one = leads_next i (mark k.Insert) (mark k.Into ∷ named q.table ∷ named_columns_symbols s.columns ++ rows_symbols s.rows) b (record { spans = s.symbols.spans }) in
    let two = leads_next (next i) (mark k.Into) (named q.table ∷ named_columns_symbols s.columns ++ rows_symbols s.rows) b one.1 in
    let three = leads_next (next (next i)) (named q.table) (named_columns_symbols s.columns ++ rows_symbols s.rows) b two.1 in
    let m = next (next (next i)) in
    let p = leads_split (named_columns_symbols s.columns) (rows_symbols s.rows) m.ahead b three.1 in
    let place = at m p.0 m.height in
    let end = end_kind b s.symbols.end in
    let read_columns = named_columns_read s.columns m p.0 p.1 (λ e. rows_no_open s.rows place b p.2 end (kind_at place p.0 refl ∙ e)) in
    whole_read insert text _ _
    (then_read _ (expect_read k.Insert expected.Insert i (mark_kind one.0 (λ x. cc))) (then_read _ (expect_read k.Into expected.Into (next i) (mark_kind two.0 (λ x. cc)))
    (then_read _ (name_read expected.Name (next (next i)) q.table three.0) (then_read _ read_columns
    (rows_read s.rows q.table (map bytes_of s.columns) place b s.rules p.2 end)))))
    s.symbols.end ∙ ap Ok (ap₂ (λ c r. record q { columns = c; rows = r }) s.names s.value)

-- ---- updates

set_item : (found : UpdateQuery) (x : ColumnName × Constant) (i : Input) (b : List ℕ) → is_set x ≡ true → Leads i.ahead (set_symbols x) b → (first_kind b ≡ k.Dot → ⊥) → assignment found i ≡ Ok (with_sets found (x ∷ []), at i b i.height)
unfolding assignment
set_item found x i b good h no_dot =
    let s = leads_split (name_symbols x.0) (mark k.Eq ∷ constant_symbols x.1) i.ahead b h in
    let m = at i s.0 i.height in
    let eq = leads_next m (mark k.Eq) (constant_symbols x.1) b s.2 in
    let is = mark_kind {i = m} {other = k.Eq} eq.0 (λ x. cc) in
    then_read _ (column_read expected.Name x.0 i s.0 s.1 (λ e. let f : k.Eq ≡ k.Dot = sym is ∙ kind_at m s.0 refl ∙ e in cc))
    (then_read _ (expect_read k.Eq expected.Equals m is) (then_read _ (value_read x.1 (next m) b good eq.1) (ap (λ y. Ok (with_sets found (x ∷ []), y)) (after_mark i s.0 b i.height))))

name_some : (c : ColumnName) (others : List Symbol) → 1 ≤ length (name_symbols c ++ others)
name_some (plain n) others = omega arith
name_some (parts n m) others = omega arith

set_some : (x : ColumnName × Constant) → 1 ≤ length (set_symbols x)
set_some x = name_some x.0 (mark k.Eq ∷ constant_symbols x.1)

sets_read : (xs : List (ColumnName × Constant)) (into : List ℕ) (i : Input) (b : List ℕ) → list_all is_set xs ≡ true → Leads i.ahead (sets_symbols xs) b
    → (first_kind b ≡ k.Set → ⊥) → (first_kind b ≡ k.Comma → ⊥) → (first_kind b ≡ k.Dot → ⊥) → sets (update_of into) i ≡ Ok (with_sets (update_of into) xs, at i b i.height)
unfolding sets left
sets_read [] into i b good h no_set no_comma no_dot =
    let off = sees_no k.Set i (λ e. no_set (sym (kind_at i b h.spans) ∙ e)) in
    ap (λ t. (if t then assignments (update_of into) else pure (update_of into)) (after k.Set i)) off ∙ ap (λ y. Ok (update_of into, y)) (after_no k.Set i off) ∙ ap (λ x. Ok (update_of into, at i x i.height)) h.spans
sets_read (x ∷ xs) into i b good h no_set no_comma no_dot =
    let l = leads_next i (mark k.Set) (separated (map set_symbols (x ∷ xs))) b h in
    let on = sees_yes k.Set i (mark_kind l.0 (λ x. cc)) in
    ap (λ t. (if t then assignments (update_of into) else pure (update_of into)) (after k.Set i)) on ∙ ap (assignments (update_of into)) (after_yes k.Set i on)
    ∙ listed_read UpdateQuery (ColumnName × Constant) expected.Name assignment set_symbols is_set with_sets set_item set_some goes_sets xs x (length (next i).ahead) (update_of into) (next i) b (omega arith) good l.1 no_comma no_dot
    ∙ ap (λ y. Ok (with_sets (update_of into) (x ∷ xs), y)) (after_mark i i.ahead b i.height)

pub update_spells : (text : List ℕ) (q : UpdateQuery) → SpellsUpdate text q → whole update text ≡ Ok q
unfolding update
update_spells text q s =
    let i = start_of text in
    let b = s.symbols.rest in
    let end = end_kind b s.symbols.end in
    let one = leads_next i (mark k.Update) (named q.table ∷ sets_symbols s.sets ++ where_symbols s.condition) b (record { spans = s.symbols.spans }) in
    let two = leads_next (next i) (named q.table) (sets_symbols s.sets ++ where_symbols s.condition) b one.1 in
    let m = next (next i) in
    let p = leads_split (sets_symbols s.sets) (where_symbols s.condition) m.ahead b two.1 in
    let place = at m p.0 m.height in
    let o = option_map expression_of s.condition in
    let read_sets = sets_read s.sets q.table m p.0 (both_left _ _ s.rules) p.1
    (λ e. where_starts s.condition place b k.Set p.2 end (λ x. cc) (λ x. cc) (kind_at place p.0 refl ∙ e))
    (λ e. where_starts s.condition place b k.Comma p.2 end (λ x. cc) (λ x. cc) (kind_at place p.0 refl ∙ e))
    (λ e. where_starts s.condition place b k.Dot p.2 end (λ x. cc) (λ x. cc) (kind_at place p.0 refl ∙ e)) in
    let all = with_sets (update_of q.table) s.sets in
    let read_where = where_read (where_also all) all s.condition place b (both_right _ _ s.rules) p.2 (ap binds end)
    (λ e. let f : k.End ≡ k.Dot = sym end ∙ e in cc) (λ e. let f : k.End ≡ k.Where = sym end ∙ e in cc) in
    whole_read update text _ _
    (then_read _ (expect_read k.Update expected.Update i (mark_kind one.0 (λ x. cc))) (then_read _ (name_read expected.Name (next i) q.table two.0) (then_read _ read_sets read_where)))
    s.symbols.end ∙ ap Ok (met q.table s.sets o ∙ ap₂ (λ x y. record q { sets = x; condition = y }) s.value s.met)

-- ---- deletes

pub delete_spells : (text : List ℕ) (q : DeleteQuery) → SpellsDelete text q → whole delete text ≡ Ok q
unfolding delete
delete_spells text q s =
    let i = start_of text in
    let b = s.symbols.rest in
    let end = end_kind b s.symbols.end in
    let one = leads_next i (mark k.Delete) (mark k.From ∷ named q.table ∷ where_symbols s.condition) b (record { spans = s.symbols.spans }) in
    let two = leads_next (next i) (mark k.From) (named q.table ∷ where_symbols s.condition) b one.1 in
    let three = leads_next (next (next i)) (named q.table) (where_symbols s.condition) b two.1 in
    let m = next (next (next i)) in
    let read_where = where_read (λ e. delete_from q.table (Some e)) (delete_from q.table None) s.condition m b s.rules three.1 (ap binds end)
    (λ e. let f : k.End ≡ k.Dot = sym end ∙ e in cc) (λ e. let f : k.End ≡ k.Where = sym end ∙ e in cc) in
    whole_read delete text _ _
    (then_read _ (expect_read k.Delete expected.Delete i (mark_kind one.0 (λ x. cc))) (then_read _ (expect_read k.From expected.From (next i) (mark_kind two.0 (λ x. cc)))
    (then_read _ (name_read expected.Name (next (next i)) q.table three.0) read_where)))
    s.symbols.end ∙ ap Ok (deleted q.table (option_map expression_of s.condition) ∙ ap (delete_from q.table) s.met)
