-- Lists of tables: what is read is spelled, and what is spelled is read.
use Rattle.std.proofs.Common.{◌≡◌, ℕ, ◌≤◌, Bool, true, false, List, [], ◌∷◌, ◌++◌, map, length, Option, Some, None, Ok, refl, sym, ◌∙◌, ap, subst, append_assoc, if◌then◌else◌, arith}
use Rattle.std.specs.List.{list_all}
use Rattle.msi_query_tokens.specs.declared.token.Kind.{Kind}
use Rattle.msi_query_tokens.specs.declared.token.Kind.TheVariants as k
use Rattle.msi_query_tokens.specs.declared.refusal.Expected.TheVariants as expected
use Rattle.msi_query_tokens.specs.Tokens.{is_name}
use Rattle.msi_query_tokens.specs.Input.{Input, ◌<$>◌, kind, next, left}
use Rattle.msi_query_tokens.specs.Symbols.{mark, named}
use Rattle.msi_query_tokens.proofs.StepLemmas.{Leads, stays, then_ok, ok_value, ok_place, next_to, next_height}
use Rattle.msi_query_parse.specs.Tables.{FromTable, make_product, alone}
use Rattle.msi_query_parse.specs.Reading.{name, own_name, from_table, one_table, tables}
use Rattle.msi_query_parse.specs.Grammar.{separated, own_symbols, table_symbols}
use Rattle.msi_query_parse.proofs.NamesSpelled.{name_ok}
use Rattle.msi_query_parse.proofs.NamesRead.{first_kind, at, kind_at, next_at, leads_next, then_read, named_here, name_read}
use Rattle.msi_query_parse.proofs.ListLemmas.{Item, listed_ok, listed_read_to}

abbrev with_tables : List FromTable → List FromTable → List FromTable
with_tables found xs = found ++ xs

abbrev any_table : FromTable → Bool
any_table t = true

goes : (found : List FromTable) (x : FromTable) (xs : List FromTable) → with_tables (with_tables found (x ∷ [])) xs ≡ with_tables found (x ∷ xs)
goes found x xs = append_assoc found (x ∷ []) xs

-- ---- what is read

own_from : (i j : Input) (own : Option (List ℕ)) (t : Bool) → (if t then (Some <$> name expected.Name) i else Ok (None, i)) ≡ Ok (own, j) → Leads i.ahead (own_symbols own) j.ahead × (j.height ≡ i.height)
own_from i j own true h =
    let g = then_ok (name expected.Name i) _ own j h in
    let n = name_ok expected.Name i g.place g.found g.first in
    let past : next i ≡ j = n.1 ∙ ok_place (Some g.found) own g.place j g.second in
    (subst (λ o. Leads i.ahead (own_symbols o) j.ahead) (ok_value (Some g.found) own g.place j g.second) (next_to n.0 past (stays refl)), next_height i j past)
own_from i j own false h =
    let done : i ≡ j = ok_place None own i j h in
    (subst (λ o. Leads i.ahead (own_symbols o) j.ahead) (ok_value None own i j h) (stays (ap (λ (y : Input). y.ahead) done)), sym (ap (λ (y : Input). y.height) done))

own_ok : (i j : Input) (own : Option (List ℕ)) → own_name i ≡ Ok (own, j) → Leads i.ahead (own_symbols own) j.ahead × (j.height ≡ i.height)
unfolding own_name
own_ok i j own h = own_from i j own (is_name (kind i)) h

table_ok : (i j : Input) (t : FromTable) → from_table i ≡ Ok (t, j) → Leads i.ahead (table_symbols t) j.ahead × (j.height ≡ i.height)
unfolding from_table
table_ok i j t h =
    let g = then_ok (name expected.Side i) _ t j h in
    let n = name_ok expected.Side i g.place g.found g.first in
    let o = then_ok (own_name g.place) _ t j g.second in
    let own = own_ok g.place o.place o.found o.first in
    let past = ok_place _ t o.place j o.second in
    let made : FromTable = record { table = g.found; own = o.found } in
    let leads : Leads i.ahead (table_symbols made) o.place.ahead = next_to n.0 n.1 own.0 in (
      subst (λ (y : Input). Leads i.ahead (table_symbols t) y.ahead) past (subst (λ (x : FromTable). Leads i.ahead (table_symbols x) o.place.ahead) (ok_value made t o.place j o.second) leads),
      sym (ap (λ (y : Input). y.height) past) ∙ own.1 ∙ next_height i g.place n.1,
    )

item_ok : (found more : List FromTable) (i j : Input) → one_table found i ≡ Ok (more, j) → Item (List FromTable) FromTable expected.Side one_table table_symbols any_table with_tables found more i j
item_ok found more i j h =
    let g = then_ok (from_table i) _ more j h in
    let t = table_ok i g.place g.found g.first in
    let past = ok_place _ more g.place j g.second in
    record {
      it = g.found;
      good = refl;
      leads = subst (λ (y : Input). Leads i.ahead (table_symbols g.found) y.ahead) past t.0;
      value = ok_value _ more g.place j g.second;
      height = sym (ap (λ (y : Input). y.height) past) ∙ t.1;
    }

pub record TablesRead (i j : Input) (found : List FromTable) : Type 0 where
  pub first : FromTable
  pub others : List FromTable
  pub value : first ∷ others ≡ found
  pub leads : Leads i.ahead (separated (map table_symbols (first ∷ others))) j.ahead
  pub height : j.height ≡ i.height

pub tables_ok : (i j : Input) (found : List FromTable) → tables i ≡ Ok (found, j) → TablesRead i j found
unfolding left
tables_ok i j found h =
    let xs = listed_ok (List FromTable) FromTable expected.Side one_table table_symbols any_table with_tables item_ok goes (length i.ahead) [] found i j h in
    record { first = xs.first; others = xs.others; value = xs.value; leads = xs.leads; height = xs.height }

-- what stands alone, and what does not
pub alone_symbols : (t : FromTable) (ts : List FromTable) (n : List ℕ) → alone (t ∷ ts) ≡ Some n → separated (map table_symbols (t ∷ ts)) ≡ named n ∷ []
alone_symbols t (u ∷ us) n e = absurd (let clash : None ≡ Some n = e in cc)
alone_symbols t [] n e = by t.table t.own e
  where
    by : (table : List ℕ) (own : Option (List ℕ)) → alone (record { table = table; own = own } ∷ []) ≡ Some n → named table ∷ own_symbols own ≡ named n ∷ []
    by table None e = let here : Some table ≡ Some n = e in let same : table ≡ n = cc in ap (λ (x : List ℕ). named x ∷ []) same
    by table (Some own) e = absurd (let clash : None ≡ Some n = e in cc)

pub product_made : (t : FromTable) (ts : List FromTable) → alone (t ∷ ts) ≡ None → make_product (t ∷ ts) ≡ true
product_made t (u ∷ us) e = refl
product_made t [] e = by t.table t.own e
  where
    by : (table : List ℕ) (own : Option (List ℕ)) → alone (record { table = table; own = own } ∷ []) ≡ None → make_product (record { table = table; own = own } ∷ []) ≡ true
    by table None e = absurd (let clash : Some table ≡ None = e in cc)
    by table (Some own) e = refl

pub none_alone : (t : FromTable) (ts : List FromTable) → make_product (t ∷ ts) ≡ true → alone (t ∷ ts) ≡ None
none_alone t (u ∷ us) e = refl
none_alone t [] e = by t.table t.own e
  where
    by : (table : List ℕ) (own : Option (List ℕ)) → make_product (record { table = table; own = own } ∷ []) ≡ true → alone (record { table = table; own = own } ∷ []) ≡ None
    by table None e = absurd (let clash : false ≡ true = e in cc)
    by table (Some own) e = refl

-- ---- what is spelled

-- no name of its own goes on with such a kind
abbrev pub NoName : Kind → Type 0
NoName c = is_name c ≡ false

own_read : (own : Option (List ℕ)) (i : Input) (b : List ℕ) → Leads i.ahead (own_symbols own) b → NoName (first_kind b) → own_name i ≡ Ok (own, at i b i.height)
unfolding own_name
own_read None i b h stops =
    let off : is_name (kind i) ≡ false = ap is_name (kind_at i b h.spans) ∙ stops in
    ap (λ t. if t then (Some <$> name expected.Name) i else Ok (None, i)) off ∙ ap (λ x. Ok (None, at i x i.height)) h.spans
own_read (Some n) i b h stops =
    let l = leads_next i (named n) [] b h in
    ap (λ t. if t then (Some <$> name expected.Name) i else Ok (None, i)) (named_here i n l.0).0
    ∙ then_read _ (name_read expected.Name i n l.0) (ap (λ y. Ok (Some n, y)) (next_at i b i.height l.1.spans refl))

past_name : (i : Input) (b : List ℕ) → at (next i) b (next i).height ≡ at i b i.height
unfolding next
past_name i b = refl

table_read : (t : FromTable) (i : Input) (b : List ℕ) → Leads i.ahead (table_symbols t) b → NoName (first_kind b) → from_table i ≡ Ok (t, at i b i.height)
unfolding from_table
table_read t i b h stops =
    let l = leads_next i (named t.table) (own_symbols t.own) b h in
    then_read _ (name_read expected.Side i t.table l.0)
    (then_read _ (own_read t.own (next i) b l.1 stops) (ap (λ y. Ok (t, y)) (past_name i b)))

item_read : (found : List FromTable) (t : FromTable) (i : Input) (b : List ℕ) → any_table t ≡ true → Leads i.ahead (table_symbols t) b → NoName (first_kind b) → one_table found i ≡ Ok (with_tables found (t ∷ []), at i b i.height)
item_read found t i b good h stops = then_read _ (table_read t i b h stops) refl

table_some : (t : FromTable) → 1 ≤ length (table_symbols t)
table_some t = omega arith

any_tables : (ts : List FromTable) → list_all any_table ts ≡ true
any_tables [] = refl
any_tables (t ∷ ts) = any_tables ts

pub tables_read : (t : FromTable) (ts : List FromTable) (i : Input) (b : List ℕ) → Leads i.ahead (separated (map table_symbols (t ∷ ts))) b → (first_kind b ≡ k.Comma → ⊥) → NoName (first_kind b) → tables i ≡ Ok (t ∷ ts, at i b i.height)
unfolding left
tables_read t ts i b h no_comma stops = listed_read_to (List FromTable) FromTable expected.Side one_table table_symbols any_table with_tables NoName refl item_read table_some goes ts t (length i.ahead) [] i b
    (omega arith) (any_tables (t ∷ ts)) h no_comma stops

-- a list of tables begins with a name
pub begins_named : (t : FromTable) (ts : List FromTable) (i : Input) (b : List ℕ) → Leads i.ahead (separated (map table_symbols (t ∷ ts))) b → is_name (kind i) ≡ true
begins_named t [] i b h = (named_here i t.table (leads_next i (named t.table) (own_symbols t.own) b h).0).0
begins_named t (u ∷ us) i b h = (named_here i t.table (leads_next i (named t.table) (own_symbols t.own ++ mark k.Comma ∷ separated (map table_symbols (u ∷ us))) b h).0).0
