-- What a query prints spells it.
use Rattle.std.proofs.Common.{◌≡◌, ℕ, suc, Bool, true, false, not, cond, if◌then◌else◌, ◌&&◌, ◌==◌, bytes_eq, List, [], ◌∷◌, ◌++◌, map, length, nat_le, codes, refl, sym, ap, ap₂, subst, ◌∙◌, Option, Some, None, option_map, option_and_then, is_none, append_assoc, append-nil, flat_map, leb-true, eqb-true, arith}
use Rattle.std.specs.List.{list_all, join_by}
use Rattle.std.specs.Fmt.{◌++?◌}
use Rattle.std.proofs.lemmas.Bool.{and_parts, and_from, not-true}
use Rattle.std.proofs.lemmas.Slice.Eq.{bytes_eq-Decides}
use Rattle.msi_base.specs.Lists.{all_present}
use Rattle.msi_table_values.specs.declared.value.Value.{Value}
use Rattle.msi_table_values.specs.Values.{value_text}
use Rattle.msi_query_expressions.specs.declared.operators.BinaryOp.TheVariants as two
use Rattle.msi_query_expressions.specs.Expressions.{Expression}
use Rattle.msi_query_expressions.specs.Printing.{expression_text}
use Rattle.msi_query_expressions.specs.declared.joins.JoinKind.{JoinKind}
use Rattle.msi_query.specs.Queries.{Clauses, Side as SideOf, Query, InsertQuery, table, join, product, no_clauses, projected_query, ordered_query}
use Rattle.msi_query_expressions.specs.Assignments.{set_text}
use Rattle.msi_query.specs.QueryTexts.{listed, where_text, columns_text, order_text, select_word, select_text, join_word, keep_all, bare_name, or_bracketed, side_text, named_table as side_named, sides_text, query_text, row_text, rows_text, named_columns_text, insert_text, sets_text, update_text, delete_text}
use Rattle.msi_query.proofs.ListedLemmas.{listed-each, listed-names}
use Rattle.msi_query_tokens.specs.Names.{name_text}
use Rattle.msi_query_tokens.specs.declared.token.Kind.TheVariants as k
use Rattle.msi_query_tokens.specs.Symbols.{Symbol, mark, named}
use Rattle.msi_query_tokens.proofs.LeadsLemmas.{Front, Leads, Tail, front_leads, link_tail, tail_tail, link_leads, leads_link, leads_tail, as_leads, no_tail, Prints, Tails, text_prints, text_tails, prints_tails, tails_tails, front_prints, link_prints, linked_prints, enclosed_prints, symbols_of}
use Rattle.msi_query_parse.specs.Tables.{side_of as side_named_by, make_product}
use Rattle.msi_query_parse.specs.Reading.{once_each}
use Rattle.msi_query_parse.specs.Grammar.{ColumnName, plain, bytes_of, name_symbols, value_symbols, is_value, separated, phrase_symbols, expression_of}
use Rattle.msi_query_parse.specs.Grammar.{Source, whole, tables_of, both_of, table_symbols, where_symbols, distinct_symbols, column_symbols, order_symbols, front_symbols, back_symbols, in_brackets, source_symbols, is_query, is_join, is_product, is_where, is_source, source_height, narrowed_by, query_meant, join_mark}
use Rattle.msi_query_parse.specs.Grammar.{Constant, of_value, constant_symbols, constant_value, is_literal, row_symbols, named_columns_symbols, rows_symbols, set_symbols, sets_symbols}
use Rattle.msi_query_parse.specs.Printed.{phrase_of, is_readable_name, is_readable, is_readable_condition, are_readable_clauses, printed_clauses, selected, printed_table, is_readable_side, or_whole, source_of, has_readable_parts}
use Rattle.msi_query_parse.specs.Printed.{PrintedSelectsAreReadBack, PrintedInsertsAreReadBack, PrintedUpdatesAreReadBack, PrintedDeletesAreReadBack}
use Rattle.msi_query_parse.proofs.PieceLemmas.{open_front, open_link, close_link, comma_link, between, star_front, select_front, select_distinct_front, order_link, from_link, where_link, blank_link, join_link, on_link, insert_front, values_link, update_front, set_link, delete_front}
use Rattle.msi_query_parse.proofs.PrintedLemmas.{name_leads, value_prints, Readable, readable}

-- ---- lists

abbrev behind_commas : List (List ℕ) → List ℕ
behind_commas = flat_map (λ (t : List ℕ). codes ", " ++ t)

abbrev cons_present : Option (List (List ℕ)) → Option (List ℕ) → Option (List (List ℕ))
cons_present q o = option_and_then (λ (x : List ℕ). option_map (λ (xs : List (List ℕ)). x ∷ xs) q) o

-- the symbols behind the first of a list
abbrev behind : List (List Symbol) → List Symbol
behind [] = []
behind (s ∷ ss) = mark k.Comma ∷ (s ++ behind ss)

separated-behind : (s : List Symbol) (ss : List (List Symbol)) → separated (s ∷ ss) ≡ s ++ behind ss
separated-behind s [] = sym (append-nil s)
separated-behind s (t ∷ ss) = ap (λ (x : List Symbol). s ++ mark k.Comma ∷ x) (separated-behind t ss)

cons_tails : (o : Option (List ℕ)) (q : Option (List (List ℕ))) (s t : List Symbol) → Prints o s → Tails (option_map behind_commas q) t
    → Tails (option_map behind_commas (cons_present q o)) (mark k.Comma ∷ (s ++ t))
cons_tails None q s t h g = record { tail = λ text e. absurd (let clash : None ≡ Some text = e in cc) }
cons_tails (Some a) None s t h g = record { tail = λ text e. absurd (let clash : None ≡ Some text = e in cc) }
cons_tails (Some a) (Some texts) s t h g = text_tails ((codes ", " ++ a) ++ behind_commas texts) (mark k.Comma ∷ (s ++ t))
    (tail_tail (codes ", " ++ a) (behind_commas texts) (mark k.Comma ∷ s) t (link_leads (codes ", ") a (mark k.Comma ∷ []) s comma_link (h.leads a refl)) (g.tail (behind_commas texts) refl))

cons_prints : (o : Option (List ℕ)) (q : Option (List (List ℕ))) (s t : List Symbol) → Prints o s → Tails (option_map behind_commas q) t
    → Prints (option_map (join_by (λ (t : List ℕ). t) (codes ", ")) (cons_present q o)) (s ++ t)
cons_prints None q s t h g = record { leads = λ text e. absurd (let clash : None ≡ Some text = e in cc) }
cons_prints (Some a) None s t h g = record { leads = λ text e. absurd (let clash : None ≡ Some text = e in cc) }
cons_prints (Some a) (Some texts) s t h g = text_prints (a ++ behind_commas texts) (s ++ t) (leads_tail a (behind_commas texts) s t (h.leads a refl) (g.tail (behind_commas texts) refl))

module _ {X : Type 0} (f : X → Option (List ℕ)) (g : X → List Symbol) (p : X → Bool) (one : (x : X) → p x ≡ true → Prints (f x) (g x)) where
  others_tails : (xs : List X) → list_all p xs ≡ true → Tails (option_map behind_commas (all_present (map f xs))) (behind (map g xs))
  others_tails [] h = text_tails [] [] no_tail
  others_tails (x ∷ xs) h = let parts = and_parts (p x) (list_all p xs) h in
      cons_tails (f x) (all_present (map f xs)) (g x) (behind (map g xs)) (one x parts.0) (others_tails xs parts.1)

  listed_prints : (xs : List X) → list_all p xs ≡ true → Prints (listed (map f xs)) (separated (map g xs))
  listed_prints [] h = text_prints [] [] (record { over = λ after a. refl })
  listed_prints (x ∷ xs) h = let parts = and_parts (p x) (list_all p xs) h in
      subst (λ (s : List Symbol). Prints (listed (map f (x ∷ xs))) s) (sym (separated-behind (g x) (map g xs)))
      (cons_prints (f x) (all_present (map f xs)) (g x) (behind (map g xs)) (one x parts.0) (others_tails xs parts.1))

maps : {X Y Z : Type 0} (g : Y → Z) (h : X → Y) (xs : List X) → map g (map h xs) ≡ map (λ (x : X). g (h x)) xs
maps g h [] = refl
maps g h (x ∷ xs) = ap (λ t. g (h x) ∷ t) (maps g h xs)

maps_back : {X Y : Type 0} (g : Y → X) (h : X → Y) → ((x : X) → g (h x) ≡ x) → (xs : List X) → map g (map h xs) ≡ xs
maps_back g h e [] = refl
maps_back g h e (x ∷ xs) = ap₂ (λ a b. a ∷ b) (e x) (maps_back g h e xs)

all_mapped : {X Y : Type 0} (p : Y → Bool) (q : X → Bool) (h : X → Y) → ((x : X) → q x ≡ true → p (h x) ≡ true) → (xs : List X) → list_all q xs ≡ true → list_all p (map h xs) ≡ true
all_mapped p q h e [] a = refl
all_mapped p q h e (x ∷ xs) a = let parts = and_parts (q x) (list_all q xs) a in and_from _ _ (e x parts.0) (all_mapped p q h e xs parts.1)

-- ---- conditions

condition_tails : (c : Option Expression) → is_readable_condition c ≡ true → Tails (where_text c) (where_symbols (option_map phrase_of c))
condition_tails None h = text_tails [] [] no_tail
condition_tails (Some e) h = let r = readable e h in
    link_prints (codes " WHERE ") (expression_text e) (mark k.Where ∷ []) (phrase_symbols (phrase_of e)) where_link r.prints

condition_rules : (c : Option Expression) → is_readable_condition c ≡ true → is_where (option_map phrase_of c) ≡ true
condition_rules None h = refl
condition_rules (Some e) h = let r = readable e h in and_from _ _ r.follows r.low

condition_met : (c : Option Expression) → is_readable_condition c ≡ true → option_map expression_of (option_map phrase_of c) ≡ c
condition_met None h = refl
condition_met (Some e) h = let r = readable e h in ap (λ (x : Expression). Some x) r.means

-- ---- names

names_lead : (n : List ℕ) (ns : List (List ℕ)) → list_all is_readable_name (n ∷ ns) ≡ true → Leads (join_by name_text (codes ", ") (n ∷ ns)) (separated (map name_symbols (map plain (n ∷ ns))))
names_lead n ns h =
    let p = listed_prints (λ (n : List ℕ). Some (name_text n)) (λ (n : List ℕ). named n ∷ []) is_readable_name
    (λ (n : List ℕ) (a : is_readable_name n ≡ true). text_prints (name_text n) (named n ∷ []) (name_leads n a)) (n ∷ ns) h in
    subst (λ (ss : List (List Symbol)). Leads (join_by name_text (codes ", ") (n ∷ ns)) (separated ss)) (sym (maps name_symbols plain (n ∷ ns)))
    (p.leads (join_by name_text (codes ", ") (n ∷ ns)) (listed-names n ns))

named_columns_tail : (names : List (List ℕ)) → list_all is_readable_name names ≡ true → Tail (named_columns_text names) (named_columns_symbols (map plain names))
named_columns_tail [] h = no_tail
named_columns_tail (n ∷ ns) h = tail_tail (codes " (" ++ join_by name_text (codes ", ") (n ∷ ns)) (codes ")") (mark k.Open ∷ separated (map name_symbols (map plain (n ∷ ns)))) (mark k.Close ∷ [])
    (link_leads (codes " (") (join_by name_text (codes ", ") (n ∷ ns)) (mark k.Open ∷ []) (separated (map name_symbols (map plain (n ∷ ns)))) open_link (names_lead n ns h)) (link_tail (codes ")") (mark k.Close ∷ []) close_link)

-- ---- deletes

named_table : (word name : List ℕ) (s : List Symbol) → Front word s → is_readable_name name ≡ true → Prints (Some (word ++ name_text name)) (s ++ (named name ∷ []))
named_table word name s f h = text_prints (word ++ name_text name) (s ++ (named name ∷ [])) (front_leads word (name_text name) s (named name ∷ []) f (name_leads name h))

pub deletes_are_read_back : PrintedDeletesAreReadBack
deletes_are_read_back q text h is =
    let parts = and_parts (is_readable_name q.table) (is_readable_condition q.condition) h in
    record {
      condition = option_map phrase_of q.condition;
      rules = condition_rules q.condition parts.1;
      symbols = symbols_of (delete_text q) (mark k.Delete ∷ mark k.From ∷ named q.table ∷ where_symbols (option_map phrase_of q.condition))
          (prints_tails (Some (codes "DELETE FROM " ++ name_text q.table)) (where_text q.condition) (mark k.Delete ∷ mark k.From ∷ named q.table ∷ []) (where_symbols (option_map phrase_of q.condition))
          (named_table (codes "DELETE FROM ") q.table (mark k.Delete ∷ mark k.From ∷ []) delete_front parts.0) (condition_tails q.condition parts.1)) text is;
      met = condition_met q.condition parts.1;
    }

-- ---- inserts

row_prints : (row : List Value) → list_all is_value row ≡ true → Prints (row_text row) (row_symbols (map of_value row))
row_prints row h = enclosed_prints (codes "(") (codes ")") (listed (map value_text row)) (mark k.Open ∷ []) (separated (map constant_symbols (map of_value row))) (mark k.Close ∷ []) open_front
    (subst (λ (ss : List (List Symbol)). Prints (listed (map value_text row)) (separated ss)) (sym (maps constant_symbols of_value row))
    (listed_prints value_text value_symbols is_value value_prints row h)) close_link

rows_tails : (rows : List (List Value)) → list_all (list_all is_value) rows ≡ true → Tails (rows_text rows) (rows_symbols (map (map of_value) rows))
rows_tails [] h = text_tails [] [] no_tail
rows_tails (row ∷ rows) h = link_prints (codes " VALUES ") (listed (map row_text (row ∷ rows))) (mark k.Values ∷ []) (separated (map row_symbols (map (map of_value) (row ∷ rows)))) values_link
    (subst (λ (ss : List (List Symbol)). Prints (listed (map row_text (row ∷ rows))) (separated ss)) (sym (maps row_symbols (map of_value) (row ∷ rows)))
    (listed_prints row_text (λ (r : List Value). row_symbols (map of_value r)) (list_all is_value) row_prints (row ∷ rows) h))

inserted_table : (q : InsertQuery) → is_readable_name q.table ≡ true → list_all is_readable_name q.columns ≡ true
    → Prints (Some (codes "INSERT INTO " ++ name_text q.table ++ named_columns_text q.columns)) (mark k.Insert ∷ mark k.Into ∷ named q.table ∷ named_columns_symbols (map plain q.columns))
inserted_table q h g = text_prints ((codes "INSERT INTO " ++ name_text q.table) ++ named_columns_text q.columns) (mark k.Insert ∷ mark k.Into ∷ named q.table ∷ named_columns_symbols (map plain q.columns))
    (leads_tail (codes "INSERT INTO " ++ name_text q.table) (named_columns_text q.columns) (mark k.Insert ∷ mark k.Into ∷ named q.table ∷ []) (named_columns_symbols (map plain q.columns))
    (front_leads (codes "INSERT INTO ") (name_text q.table) (mark k.Insert ∷ mark k.Into ∷ []) (named q.table ∷ []) insert_front (name_leads q.table h)) (named_columns_tail q.columns g))

pub inserts_are_read_back : PrintedInsertsAreReadBack
inserts_are_read_back q text h is =
    let outer = and_parts (is_readable_name q.table && list_all is_readable_name q.columns) (list_all (list_all is_value) q.rows) h in
    let parts = and_parts (is_readable_name q.table) (list_all is_readable_name q.columns) outer.0 in
    record {
      columns = map plain q.columns;
      rows = map (map of_value) q.rows;
      rules = all_mapped (list_all is_literal) (list_all is_value) (map of_value) (λ row a. all_mapped is_literal is_value of_value (λ x b. b) row a) q.rows outer.1;
      symbols = symbols_of (insert_text q) (mark k.Insert ∷ mark k.Into ∷ named q.table ∷ named_columns_symbols (map plain q.columns) ++ rows_symbols (map (map of_value) q.rows))
          (prints_tails (Some (codes "INSERT INTO " ++ name_text q.table ++ named_columns_text q.columns)) (rows_text q.rows)
          (mark k.Insert ∷ mark k.Into ∷ named q.table ∷ named_columns_symbols (map plain q.columns)) (rows_symbols (map (map of_value) q.rows))
          (inserted_table q parts.0 parts.1) (rows_tails q.rows outer.1)) text is;
      names = maps_back bytes_of plain (λ n. refl) q.columns;
      value = maps_back (map constant_value) (map of_value) (λ row. maps_back constant_value of_value (λ x. refl) row) q.rows;
    }

-- ---- updates

abbrev set_of : List ℕ × Value → ColumnName × Constant
set_of s = (plain s.0, of_value s.1)

abbrev is_readable_set : List ℕ × Value → Bool
is_readable_set s = is_readable_name s.0 && is_value s.1

set_prints : (s : List ℕ × Value) → is_readable_set s ≡ true → Prints (set_text s) (set_symbols (set_of s))
set_prints s h =
    let parts = and_parts (is_readable_name s.0) (is_value s.1) h in
    front_prints (name_text s.0 ++ codes " = ") (value_text s.1) (named s.0 ∷ mark k.Eq ∷ []) (value_symbols s.1)
    (leads_link (name_text s.0) (codes " = ") (named s.0 ∷ []) (mark k.Eq ∷ []) (name_leads s.0 parts.0) (between two.Eq)) (value_prints s.1 parts.1)

sets_tails : (sets : List (List ℕ × Value)) → list_all is_readable_set sets ≡ true → Tails (sets_text sets) (sets_symbols (map set_of sets))
sets_tails [] h = text_tails [] [] no_tail
sets_tails (s ∷ sets) h = link_prints (codes " SET ") (listed (map set_text (s ∷ sets))) (mark k.Set ∷ []) (separated (map set_symbols (map set_of (s ∷ sets)))) set_link
    (subst (λ (ss : List (List Symbol)). Prints (listed (map set_text (s ∷ sets))) (separated ss)) (sym (maps set_symbols set_of (s ∷ sets)))
    (listed_prints set_text (λ (r : List ℕ × Value). set_symbols (set_of r)) is_readable_set set_prints (s ∷ sets) h))

pub updates_are_read_back : PrintedUpdatesAreReadBack
updates_are_read_back q text h is =
    let outer = and_parts (is_readable_name q.table && list_all is_readable_set q.sets) (is_readable_condition q.condition) h in
    let parts = and_parts (is_readable_name q.table) (list_all is_readable_set q.sets) outer.0 in
    record {
      sets = map set_of q.sets;
      condition = option_map phrase_of q.condition;
      rules = and_from _ _ (all_mapped (λ (s : ColumnName × Constant). is_literal s.1) is_readable_set set_of
          (λ s a. (and_parts (is_readable_name s.0) (is_value s.1) a).1) q.sets parts.1) (condition_rules q.condition outer.1);
      symbols = symbols_of (update_text q) (mark k.Update ∷ named q.table ∷ sets_symbols (map set_of q.sets) ++ where_symbols (option_map phrase_of q.condition))
          (prints_tails (Some (codes "UPDATE " ++ name_text q.table)) (sets_text q.sets ++? where_text q.condition) (mark k.Update ∷ named q.table ∷ [])
          (sets_symbols (map set_of q.sets) ++ where_symbols (option_map phrase_of q.condition))
          (named_table (codes "UPDATE ") q.table (mark k.Update ∷ []) update_front parts.0)
          (tails_tails (sets_text q.sets) (where_text q.condition) (sets_symbols (map set_of q.sets)) (where_symbols (option_map phrase_of q.condition))
          (sets_tails q.sets parts.1) (condition_tails q.condition outer.1))) text is;
      value = maps_back (λ (s : ColumnName × Constant). (bytes_of s.0, constant_value s.1)) set_of (λ s. refl) q.sets;
      met = condition_met q.condition outer.1;
    }

-- ---- selects

columns_lead : (names : List (List ℕ)) → list_all is_readable_name names ≡ true → Leads (columns_text names) (column_symbols (map plain names))
columns_lead [] h = as_leads (codes "*") (mark k.Star ∷ []) star_front
columns_lead (n ∷ ns) h = names_lead n ns h

select_front_of : (is_distinct : Bool) → Front (if is_distinct then codes "SELECT DISTINCT " else codes "SELECT ") (mark k.Select ∷ distinct_symbols is_distinct)
select_front_of true = select_distinct_front
select_front_of false = select_front

order_tail : (names : List (List ℕ)) → list_all is_readable_name names ≡ true → Tail (order_text names) (order_symbols (map plain names))
order_tail [] h = no_tail
order_tail (n ∷ ns) h = link_leads (codes " ORDER BY ") (join_by name_text (codes ", ") (n ∷ ns)) (mark k.Order ∷ mark k.By ∷ []) (separated (map name_symbols (map plain (n ∷ ns)))) order_link (names_lead n ns h)

-- the parts that readable clauses have
record ReadableClauses (c : Clauses) : Type 0 where
  columns : list_all is_readable_name c.columns ≡ true
  condition : is_readable_condition c.condition ≡ true
  order : list_all is_readable_name c.order ≡ true

readable_clauses : (c : Clauses) → are_readable_clauses c ≡ true → ReadableClauses c
readable_clauses c h =
    let outer = and_parts (list_all is_readable_name c.columns && is_readable_condition c.condition) (list_all is_readable_name c.order) h in
    let parts = and_parts (list_all is_readable_name c.columns) (is_readable_condition c.condition) outer.0 in
    record { columns = parts.0; condition = parts.1; order = outer.1 }

select_prints : (c : Clauses) (o : Option (List ℕ)) (source : Source) → are_readable_clauses c ≡ true → Prints o (source_symbols source) → Prints (select_text c o) (source_symbols (selected c source))
select_prints c o source h p =
    let parts = readable_clauses c h in
    let s = printed_clauses c in
    let first : List Symbol = mark k.Select ∷ distinct_symbols c.is_distinct ++ column_symbols (map plain c.columns) in
    subst (λ (t : List Symbol). Prints (select_text c o) t)
    (sym (append_assoc (front_symbols s) (source_symbols source) (back_symbols s)))
    (front_prints ((select_word c ++ columns_text c.columns) ++ codes " FROM ") (o ++? where_text c.condition ++? Some (order_text c.order)) (front_symbols s) (source_symbols source ++ back_symbols s)
    (leads_link (select_word c ++ columns_text c.columns) (codes " FROM ") first (mark k.From ∷ [])
    (front_leads (select_word c) (columns_text c.columns) (mark k.Select ∷ distinct_symbols c.is_distinct) (column_symbols (map plain c.columns)) (select_front_of c.is_distinct) (columns_lead c.columns parts.columns)) from_link)
    (prints_tails o (where_text c.condition ++? Some (order_text c.order)) (source_symbols source) (back_symbols s) p
    (tails_tails (where_text c.condition) (Some (order_text c.order)) (where_symbols s.condition) (order_symbols s.order) (condition_tails c.condition parts.condition)
    (text_tails (order_text c.order) (order_symbols s.order) (order_tail c.order parts.order)))))

none_at_0 : {X : Type 0} (xs : List X) → (length xs == 0) ≡ true → xs ≡ []
none_at_0 [] e = refl
none_at_0 (x ∷ xs) e = let zero_is : suc (length xs) ≡ 0 = eqb-true (length (x ∷ xs)) 0 e in absurd (omega arith)

none_is : {X : Type 0} (o : Option X) → is_none o ≡ true → o ≡ None
none_is None e = refl
none_is (Some x) e = absurd (let clash : false ≡ true = e in cc)

bare_is : (name : List ℕ) (c : Clauses) → keep_all c ≡ true → table name no_clauses ≡ table name c
bare_is name c h =
    let outer = and_parts ((length c.columns == 0) && is_none c.condition && (length c.order == 0)) (not c.is_distinct) h in
    let inner = and_parts ((length c.columns == 0) && is_none c.condition) (length c.order == 0) outer.0 in
    let parts = and_parts (length c.columns == 0) (is_none c.condition) inner.0 in
    ap₂ (λ (columns : List (List ℕ)) (condition : Option Expression). table name (record no_clauses { columns = columns; condition = condition }))
    (sym (none_at_0 c.columns parts.0)) (sym (none_is c.condition parts.1))
    ∙ ap₂ (λ (order : List (List ℕ)) (is_distinct : Bool). table name (record c { order = order; is_distinct = is_distinct }))
    (sym (none_at_0 c.order inner.1)) (sym (not-true c.is_distinct outer.1))

-- a query under the clauses of another
abbrev under : Clauses → Query → Query
under c query = ordered_query (once_each c.is_distinct (projected_query (narrowed_by query c.condition) c.columns)) c.order

clauses_meant : (c : Clauses) (source : Source) → are_readable_clauses c ≡ true → query_meant (selected c source) ≡ under c (query_meant source)
clauses_meant c source h = let parts = readable_clauses c h in
    ap₂ (λ (condition : Option Expression) (columns : List (List ℕ)). ordered_query (once_each c.is_distinct (projected_query (narrowed_by (query_meant source) condition) columns)) (map bytes_of (map plain c.order)))
    (condition_met c.condition parts.condition) (maps_back bytes_of plain (λ n. refl) c.columns)
    ∙ ap (ordered_query (once_each c.is_distinct (projected_query (narrowed_by (query_meant source) c.condition) c.columns))) (maps_back bytes_of plain (λ n. refl) c.order)

table_meant : (name : List ℕ) (condition : Option Expression) (is_distinct : Bool) (columns order : List (List ℕ))
    → ordered_query (once_each is_distinct (projected_query (narrowed_by (table name no_clauses) condition) columns)) order
    ≡ table name (record { columns = columns; condition = condition; order = order; is_distinct = is_distinct })
table_meant name None true columns order = refl
table_meant name None false columns order = refl
table_meant name (Some e) true columns order = refl
table_meant name (Some e) false columns order = refl

join_meant : (kind : JoinKind) (l r : Query) (on : Expression) (condition : Option Expression) (is_distinct : Bool) (columns order : List (List ℕ))
    → ordered_query (once_each is_distinct (projected_query (narrowed_by (join kind l r on no_clauses) condition) columns)) order
    ≡ join kind l r on (record { columns = columns; condition = condition; order = order; is_distinct = is_distinct })
join_meant kind l r on None true columns order = refl
join_meant kind l r on None false columns order = refl
join_meant kind l r on (Some e) true columns order = refl
join_meant kind l r on (Some e) false columns order = refl

product_meant : (sides : List SideOf) (condition : Option Expression) (is_distinct : Bool) (columns order : List (List ℕ))
    → ordered_query (once_each is_distinct (projected_query (narrowed_by (product sides no_clauses) condition) columns)) order
    ≡ product sides (record { columns = columns; condition = condition; order = order; is_distinct = is_distinct })
product_meant sides None true columns order = refl
product_meant sides None false columns order = refl
product_meant sides (Some e) true columns order = refl
product_meant sides (Some e) false columns order = refl

-- a table of a product, whose columns go by its name or by another
named_prints : (first own : List ℕ) (b : Bool) → is_readable_name first ≡ true → is_readable_name own ≡ true
    → Leads (if b then name_text first else name_text first ++ 32 ∷ name_text own) (table_symbols (record { table = first; own = if b then None else Some own }))
named_prints first own true h g = name_leads first h
named_prints first own false h g = leads_tail (name_text first) (32 ∷ name_text own) (named first ∷ []) (named own ∷ []) (name_leads first h)
    (link_leads (32 ∷ []) (name_text own) [] (named own ∷ []) blank_link (name_leads own g))

side_prints : (side : SideOf) → is_readable_side side ≡ true → Prints (Some (side_named side)) (table_symbols (printed_table side))
side_prints side h =
    let parts = and_parts (is_readable_name side.table) (is_readable_name side.name) h in
    text_prints (side_named side) (table_symbols (printed_table side)) (named_prints side.table side.name (bytes_eq side.table side.name) parts.0 parts.1)

sides_print : (sides : List SideOf) → list_all is_readable_side sides ≡ true → Prints (Some (sides_text sides)) (source_symbols (tables_of (map printed_table sides)))
sides_print sides h =
    subst (λ (ss : List (List Symbol)). Prints (Some (sides_text sides)) (separated ss)) (sym (maps table_symbols printed_table sides))
    (subst (λ (o : Option (List ℕ)). Prints o (separated (map (λ (side : SideOf). table_symbols (printed_table side)) sides))) (listed-each side_named sides)
    (listed_prints (λ (side : SideOf). Some (side_named side)) (λ (side : SideOf). table_symbols (printed_table side)) is_readable_side side_prints sides h))

same_side : (side : SideOf) (b : Bool) → bytes_eq side.table side.name ≡ b → side_named_by (record { table = side.table; own = if b then None else Some side.name }) ≡ side
same_side side true e = let same : side.table ≡ side.name = (bytes_eq-Decides side.table side.name).0 e in
    ap (λ (name : List ℕ). let made : SideOf = record { table = side.table; name = name } in made) same
same_side side false e = refl

sides_meant : (sides : List SideOf) → map side_named_by (map printed_table sides) ≡ sides
sides_meant sides = maps_back side_named_by printed_table (λ side. same_side side (bytes_eq side.table side.name) refl) sides

-- a query in its own words, and as a side of a join
record Printed (q : Query) : Type 0 where
  prints : Prints (query_text q) (source_symbols (source_of q))
  follows : is_source (source_of q) ≡ true
  means : query_meant (source_of q) ≡ q

abbrev side_of : Query → Source
side_of q = or_whole (bare_name q) (source_of q)

record Side (q : Query) : Type 0 where
  prints : Prints (side_text q (query_text q)) (in_brackets (side_of q) (source_symbols (side_of q)))
  follows : is_source (side_of q) ≡ true
  no_join : is_join (side_of q) ≡ false
  no_product : is_product (side_of q) ≡ false
  means : query_meant (side_of q) ≡ q

abbrev whole_or : List ℕ → Clauses → Bool → Source
whole_or name c b = or_whole (cond b (Some name) None) (source_of (table name c))

side : (q : Query) → has_readable_parts q ≡ true → Printed q → Side q
side (join kind l r on_e c) h p = record {
  prints = enclosed_prints (codes "(") (codes ")") (query_text (join kind l r on_e c)) (mark k.Open ∷ []) (source_symbols (source_of (join kind l r on_e c))) (mark k.Close ∷ []) open_front p.prints close_link;
  follows = p.follows;
  no_join = refl;
  no_product = refl;
  means = p.means;
}
side (product sides c) h p = record {
  prints = enclosed_prints (codes "(") (codes ")") (query_text (product sides c)) (mark k.Open ∷ []) (source_symbols (source_of (product sides c))) (mark k.Close ∷ []) open_front p.prints close_link;
  follows = p.follows;
  no_join = refl;
  no_product = refl;
  means = p.means;
}
side (table name c) h p = record {
  prints = go_prints (keep_all c);
  follows = go_follows (keep_all c);
  no_join = go_no_join (keep_all c);
  no_product = go_no_product (keep_all c);
  means = go_means (keep_all c) refl;
}
  where
    go_prints : (b : Bool) → Prints (or_bracketed (cond b (Some name) None) (query_text (table name c))) (in_brackets (whole_or name c b) (source_symbols (whole_or name c b)))
    go_prints true = text_prints (name_text name) (named name ∷ []) (name_leads name (and_parts (is_readable_name name) (are_readable_clauses c) h).0)
    go_prints false = enclosed_prints (codes "(") (codes ")") (query_text (table name c)) (mark k.Open ∷ []) (source_symbols (source_of (table name c))) (mark k.Close ∷ []) open_front p.prints close_link

    go_follows : (b : Bool) → is_source (whole_or name c b) ≡ true
    go_follows true = refl
    go_follows false = p.follows

    go_no_join : (b : Bool) → is_join (whole_or name c b) ≡ false
    go_no_join true = refl
    go_no_join false = refl

    go_no_product : (b : Bool) → is_product (whole_or name c b) ≡ false
    go_no_product true = refl
    go_no_product false = refl

    go_means : (b : Bool) → keep_all c ≡ b → query_meant (whole_or name c b) ≡ table name c
    go_means true e = bare_is name c e
    go_means false e = p.means

joined_prints : (kind : JoinKind) (l r : Query) (on_e : Expression) → Side l → Side r → Readable on_e
    → Prints (side_text l (query_text l) ++? Some (join_word kind) ++? side_text r (query_text r) ++? Some (codes " ON ") ++? expression_text on_e)
    (source_symbols (both_of kind (side_of l) (side_of r) (phrase_of on_e)))
joined_prints kind l r on_e a b e =
    let first : List Symbol = in_brackets (side_of l) (source_symbols (side_of l)) in
    let second : List Symbol = in_brackets (side_of r) (source_symbols (side_of r)) in
    let last : List Symbol = phrase_symbols (phrase_of on_e) in
    subst (λ (t : List Symbol). Prints (side_text l (query_text l) ++? Some (join_word kind) ++? side_text r (query_text r) ++? Some (codes " ON ") ++? expression_text on_e) t)
    (sym (append_assoc first (mark (join_mark kind) ∷ mark k.Join ∷ second) (mark k.On ∷ last)))
    (linked_prints (join_word kind) (side_text l (query_text l)) (side_text r (query_text r) ++? Some (codes " ON ") ++? expression_text on_e)
    first (mark (join_mark kind) ∷ mark k.Join ∷ []) (second ++ mark k.On ∷ last) a.prints (join_link kind)
    (linked_prints (codes " ON ") (side_text r (query_text r)) (expression_text on_e) second (mark k.On ∷ []) last b.prints on_link e.prints))

printed : (q : Query) → has_readable_parts q ≡ true → Printed q
printed (table name c) h =
    let parts = and_parts (is_readable_name name) (are_readable_clauses c) h in
    let clauses = readable_clauses c parts.1 in
    record {
      prints = select_prints c (Some (name_text name)) (whole name) parts.1 (text_prints (name_text name) (named name ∷ []) (name_leads name parts.0));
      follows = condition_rules c.condition clauses.condition;
      means = clauses_meant c (whole name) parts.1 ∙ table_meant name c.condition c.is_distinct c.columns c.order;
    }
printed (product sides c) h =
    let outer = and_parts (list_all is_readable_side sides && make_product (map printed_table sides)) (are_readable_clauses c) h in
    let parts = and_parts (list_all is_readable_side sides) (make_product (map printed_table sides)) outer.0 in
    let clauses = readable_clauses c outer.1 in
    let source = tables_of (map printed_table sides) in
    record {
      prints = select_prints c (Some (sides_text sides)) source outer.1 (sides_print sides parts.0);
      follows = and_from _ _ (and_from _ _ parts.1 refl) (condition_rules c.condition clauses.condition);
      means = clauses_meant c source outer.1 ∙ ap (λ (s : List SideOf). under c (product s no_clauses)) (sides_meant sides) ∙ product_meant sides c.condition c.is_distinct c.columns c.order;
    }
printed (join kind l r on_e c) h =
    let outer = and_parts (has_readable_parts l && has_readable_parts r && is_readable on_e) (are_readable_clauses c) h in
    let inner = and_parts (has_readable_parts l && has_readable_parts r) (is_readable on_e) outer.0 in
    let sides = and_parts (has_readable_parts l) (has_readable_parts r) inner.0 in
    let clauses = readable_clauses c outer.1 in
    let a = side l sides.0 (printed l sides.0) in
    let b = side r sides.1 (printed r sides.1) in
    let e = readable on_e inner.1 in
    record {
      prints = select_prints c _ (both_of kind (side_of l) (side_of r) (phrase_of on_e)) outer.1 (joined_prints kind l r on_e a b e);
      follows = and_from _ _ (and_from _ _ (and_from _ _ (and_from _ _ (and_from _ _ (and_from _ _ a.follows (ap not a.no_product)) b.follows) (ap not b.no_join)) (and_from _ _ e.follows e.low)) refl) (condition_rules c.condition clauses.condition);
      means = clauses_meant c (both_of kind (side_of l) (side_of r) (phrase_of on_e)) outer.1
          ∙ ap (under c)
          (ap₂ (λ (x y : Query). join kind x y (expression_of (phrase_of on_e)) no_clauses) a.means b.means ∙ ap (λ (x : Expression). join kind l r x no_clauses) e.means)
          ∙ join_meant kind l r on_e c.condition c.is_distinct c.columns c.order;
    }

is_query-source_of : (q : Query) → is_query (source_of q) ≡ true
is_query-source_of (table name c) = refl
is_query-source_of (product sides c) = refl
is_query-source_of (join kind l r on_e c) = refl

pub selects_are_read_back : PrintedSelectsAreReadBack
selects_are_read_back q text h is =
    let parts = and_parts (has_readable_parts q) (nat_le (source_height (source_of q)) 200) h in
    let p = printed q parts.0 in
    record {
      source = source_of q;
      rules = and_from _ _ (is_query-source_of q) p.follows;
      height = leb-true _ 200 parts.1;
      symbols = symbols_of (query_text q) (source_symbols (source_of q)) p.prints text is;
      value = p.means;
    }
