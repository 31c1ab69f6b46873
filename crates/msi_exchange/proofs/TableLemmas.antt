-- Objects and tables are read as the rows that they were written from.
use Rattle.std.proofs.Common.{◌≡◌, ℕ, zero, suc, ◌+◌, ◌≤◌, Bool, true, false, ◌==◌, ◌&&◌, ◌||◌, List, [], ◌∷◌, ◌++◌, length, map, Option, Some, None, cond, option_map, option_and_then, refl, sym, ap, ◌∙◌, subst, arith, append_assoc, length-append}
use Rattle.std.specs.Prelude.{IsSomeAnd, bytes_eq, slice_get, unwrap_or}
use Rattle.std.specs.List.{flat_map, list_all, list_any}
use Rattle.std.proofs.lemmas.Bool.{and_parts, or_parts}
use Rattle.std.proofs.lemmas.Slice.Eq.{bytes_eq-Decides}
use Rattle.csv.specs.Machine.{next_record}
use Rattle.csv.specs.Reading.{default_config, is_bom, records, records_from, strip_bom}
use Rattle.csv.specs.Writing.{default_writer, escaped, fields_text, field_text, is_blank, needs_quotes, read_back, row_text}
use Rattle.csv.specs.declared.parser.State.TheVariants as state
use Rattle.csv.proofs.RoundTrip.{read-write, rows_text}
use Rattle.json.specs.Print.{print}
use Rattle.json.specs.Tree.{json_tokens}
use Rattle.serde_json.specs.Data as parsed
use Rattle.serde_json.specs.Find.{get_member}
use Rattle.serde_json.specs.Read.{of_members, read}
use Rattle.serde_json.proofs.Views.{get_member-put, get_member-put_other}
use Rattle.msi_table_values.specs.declared.column.ColumnType.{ColumnType}
use Rattle.msi_table_values.specs.declared.column.ColumnType.TheVariants as coltype
use Rattle.msi_table_values.specs.declared.value.Value.{Value}
use Rattle.msi_table_values.specs.declared.value.Value.TheVariants as value
use Rattle.msi_base.specs.Lists.{has_pair}
use Rattle.msi_exchange.specs.CsvRows.{csv_line, field_value, plain_in, value_field}
use Rattle.msi_exchange.specs.JsonRows.{members_json, object_json, value_in}
use Rattle.msi_exchange.specs.RowLaws.{HasRow, HasTable, has_field, has_fields, is_small, line_values, table_text, value_later}
use Rattle.msi_exchange.proofs.RowLawLemmas.{field_back, lines_text, members_flat, members_numbers, printed_read, value_data}

-- ---- the members of an object

-- no name of a list is another name
other_name : (q name : List ℕ) (names : List (List ℕ)) → list_any (bytes_eq q) names ≡ true → list_any (bytes_eq name) names ≡ false → q ≡ name → ⊥
other_name q name names in_names out same =
    let clash : true ≡ false = sym in_names ∙ ap (λ n. list_any (bytes_eq n) names) same ∙ out in
    cc

unlike : (q name : List ℕ) → bytes_eq q name ≡ false → q ≡ name → ⊥
unlike q name e same =
    let clash : true ≡ false = sym ((bytes_eq-Decides q name).1 same) ∙ e in
    cc

or_later : (b c : Bool) → c ≡ true → (b || c) ≡ true
or_later true c e = refl
or_later false c e = e

or_first : (b c : Bool) → b ≡ true → (b || c) ≡ true
or_first true c e = refl
or_first false c e = cc

name_in : (names : List (List ℕ)) (i : ℕ) (name : List ℕ) → slice_get names i ≡ Some name → list_any (bytes_eq name) names ≡ true
name_in [] i name e = cc
name_in (n ∷ names) zero name e =
    let same : name ≡ n = cc in
    or_first (bytes_eq name n) (list_any (bytes_eq name) names) ((bytes_eq-Decides name n).1 same)
name_in (n ∷ names) (suc i) name e = or_later (bytes_eq name n) (list_any (bytes_eq name) names) (name_in names i name e)

-- what the members of a row become, over those that were found
record IsPut (names : List (List ℕ)) (row : List Value) (found out : parsed.Members) : Type 0 where
  is_read : of_members (members_json names row) found ≡ Some out
  values : (i : ℕ) (name : List ℕ) → slice_get names i ≡ Some name → option_and_then value_in (get_member name out) ≡ slice_get row i
  others : (q : List ℕ) → list_any (bytes_eq q) names ≡ false → get_member q out ≡ get_member q found

members_put : (names : List (List ℕ)) (row : List Value) (found : parsed.Members) → list_all is_small row ≡ true → has_pair bytes_eq names ≡ false
    → ((q : List ℕ) → list_any (bytes_eq q) names ≡ true → get_member q found ≡ None) → (out : parsed.Members) × IsPut names row found out
members_put [] row found small apart fresh = (
  found,
  record {
    is_read = refl;
    values = λ i q e. cc;
    others = λ q e. refl;
  },
)
members_put (name ∷ names) [] found small apart fresh = (
  found,
  record {
    is_read = refl;
    values = λ i q e. ap (option_and_then value_in) (fresh q (name_in (name ∷ names) i q e));
    others = λ q e. refl;
  },
)
members_put (name ∷ names) (v ∷ row) found small apart fresh =
    let are_small = and_parts (is_small v) (list_all is_small row) small in
    let are_apart = or_parts (list_any (bytes_eq name) names) (has_pair bytes_eq names) apart in
    let d = value_data v are_small.0 in
    let rest = members_put names row (parsed.put name d.0 found) are_small.1 are_apart.1
    (λ q e. get_member-put_other q name d.0 found (other_name q name names e are_apart.0) ∙ fresh q (or_later (bytes_eq q name) (list_any (bytes_eq q) names) e)) in
    let here : option_and_then value_in (get_member name rest.0) ≡ Some v =
    ap (option_and_then value_in) (rest.1.others name are_apart.0 ∙ get_member-put name d.0 found) ∙ d.2 in (
      rest.0,
      record {
        is_read = ap (λ o. option_and_then (λ x. of_members (members_json names row) (parsed.put name x found)) o) d.1 ∙ rest.1.is_read;
        values = value_at name names v row rest.0 here rest.1.values;
        others = λ q e.
            let parts = or_parts (bytes_eq q name) (list_any (bytes_eq q) names) e in
            rest.1.others q parts.1 ∙ get_member-put_other q name d.0 found (unlike q name parts.0);
      },
    )
  where
    value_at : (name : List ℕ) (names : List (List ℕ)) (v : Value) (row : List Value) (out : parsed.Members) → option_and_then value_in (get_member name out) ≡ Some v
        → ((i : ℕ) (q : List ℕ) → slice_get names i ≡ Some q → option_and_then value_in (get_member q out) ≡ slice_get row i)
        → (i : ℕ) (q : List ℕ) → slice_get (name ∷ names) i ≡ Some q → option_and_then value_in (get_member q out) ≡ slice_get (v ∷ row) i
    value_at name names v row out here later zero q e =
        let same : q ≡ name = cc in
        ap (λ n. option_and_then value_in (get_member n out)) same ∙ here
    value_at name names v row out here later (suc i) q e = later i q e

pub object_back : (names : List (List ℕ)) (row : List Value) → list_all is_small row ≡ true → has_pair bytes_eq names ≡ false
    → IsSomeAnd (read (print (json_tokens (object_json names row)))) (HasRow names row)
object_back names row small apart =
    let put = members_put names row parsed.no_members small apart (λ q e. refl) in
    let is_read : read (print (json_tokens (object_json names row))) ≡ Some (parsed.object put.0) =
    printed_read (object_json names row) (members_numbers names row small) (omega (arith, members_flat names row)) ∙ ap (option_map parsed.object) put.1.is_read in
    let has : HasRow names row (parsed.object put.0) = record { values = put.1.values; others = put.1.others } in
    subst (λ (o : Option parsed.Data). IsSomeAnd o (HasRow names row)) (sym is_read) has

-- ---- the lines of a table

-- the records of a text that is read to its end
records_all : (rows : List (List (List ℕ))) (n : ℕ) → length rows ≤ n → records_from default_config n state.StartRecord (rows_text rows) ≡ map read_back rows
unfolding records_from rows_text next_record
records_all [] zero h = refl
records_all [] (suc n) h = refl
records_all (row ∷ rows) zero h = absurd (omega arith)
records_all (row ∷ rows) (suc n) h = rw (read-write row (rows_text rows)) (ap (λ (t : List (List (List ℕ))). read_back row ∷ t) (records_all rows n (omega arith)))

-- each line has a byte at least
with_end : (a b : List ℕ) (c : ℕ) (d : List ℕ) → length d + 1 ≤ length ((a ++ (b ++ c ∷ [])) ++ d)
with_end a b c d = omega (arith, length-append (a ++ (b ++ c ∷ [])) d, length-append a (b ++ c ∷ []), length-append b (c ∷ []))

row_long : (row : List (List ℕ)) (rest : List ℕ) → length rest + 1 ≤ length (row_text default_writer row ++ rest)
unfolding is_blank
row_long [] rest = with_end [] (34 ∷ 34 ∷ []) 10 rest
row_long (x ∷ row) rest =
    with_end (field_text default_writer x ++ fields_text default_writer row) (cond (is_blank default_writer (x ∷ row)) (34 ∷ 34 ∷ []) []) 10 rest

text_long : (rows : List (List (List ℕ))) → length rows ≤ length (rows_text rows)
unfolding rows_text
text_long [] = omega arith
text_long (row ∷ rows) = omega (arith, row_long row (rows_text rows), text_long rows)

-- ---- no byte order mark

strip_other : (a : ℕ) (rest : List ℕ) → (a == 239) ≡ false → strip_bom (a ∷ rest) ≡ a ∷ rest
unfolding strip_bom
strip_other a [] e = refl
strip_other a (b ∷ []) e = refl
strip_other a (b ∷ c ∷ rest) e = ap (λ t. cond ((t && (b == 187)) && (c == 191)) rest (a ∷ b ∷ c ∷ rest)) e

no_second : (b c : Bool) (xs ys : List ℕ) → cond ((b && false) && c) xs ys ≡ ys
no_second true c xs ys = refl
no_second false c xs ys = refl

no_third : (b : Bool) (xs ys : List ℕ) → cond (b && false) xs ys ≡ ys
no_third true xs ys = refl
no_third false xs ys = refl

no_mark : (b : Bool) (rest whole : List ℕ) → length whole ≡ length rest + 3 → cond b rest whole ≡ whole → b ≡ false
no_mark true rest whole l e = absurd (omega (arith, ap length e))
no_mark false rest whole l e = refl

-- a text that begins as one without a mark, and then with a byte of none
strip_front : (x : List ℕ) (c : ℕ) (tail : List ℕ) → strip_bom x ≡ x → (c == 239) ≡ false → (c == 187) ≡ false → (c == 191) ≡ false
    → strip_bom (x ++ c ∷ tail) ≡ x ++ c ∷ tail
unfolding strip_bom
strip_front [] c tail e p q r = strip_other c tail p
strip_front (a ∷ []) c [] e p q r = refl
strip_front (a ∷ []) c (t ∷ tail) e p q r =
    ap (λ b. cond (((a == 239) && b) && (t == 191)) tail (a ∷ c ∷ t ∷ tail)) q ∙ no_second (a == 239) (t == 191) tail (a ∷ c ∷ t ∷ tail)
strip_front (a ∷ b ∷ []) c tail e p q r =
    ap (λ d. cond (((a == 239) && (b == 187)) && d) tail (a ∷ b ∷ c ∷ tail)) r ∙ no_third ((a == 239) && (b == 187)) tail (a ∷ b ∷ c ∷ tail)
strip_front (a ∷ b ∷ d ∷ rest) c tail e p q r =
    ap (λ t. cond t (rest ++ c ∷ tail) (a ∷ b ∷ d ∷ (rest ++ c ∷ tail))) (no_mark (is_bom a b d) rest (a ∷ b ∷ d ∷ rest) (omega arith) e)

front_kept : (x more ending rest : List ℕ) (c : ℕ) (tail : List ℕ) → strip_bom x ≡ x → more ++ (ending ++ rest) ≡ c ∷ tail
    → (c == 239) ≡ false → (c == 187) ≡ false → (c == 191) ≡ false → strip_bom (((x ++ more) ++ ending) ++ rest) ≡ ((x ++ more) ++ ending) ++ rest
front_kept x more ending rest c tail e h p q r =
    let text : ((x ++ more) ++ ending) ++ rest ≡ x ++ c ∷ tail =
    append_assoc (x ++ more) ending rest ∙ append_assoc x more (ending ++ rest) ∙ ap (λ (t : List ℕ). x ++ t) h in
    ap strip_bom text ∙ strip_front x c tail e p q r ∙ sym text

abbrev names_line : Bool → Bool → List ℕ → List ℕ → List (List ℕ) → List ℕ
names_line needs blank name q names = (cond needs (34 ∷ q) name ++ fields_text default_writer names) ++ (cond blank (34 ∷ 34 ∷ []) [] ++ 10 ∷ [])

name_kept : (needs blank : Bool) (name q : List ℕ) (names : List (List ℕ)) (rest : List ℕ) → strip_bom name ≡ name
    → strip_bom (names_line needs blank name q names ++ rest) ≡ names_line needs blank name q names ++ rest
unfolding fields_text
name_kept true blank name q names rest e = strip_other 34 _ refl
name_kept false true name q [] rest e = front_kept name [] (34 ∷ 34 ∷ 10 ∷ []) rest 34 (34 ∷ 10 ∷ rest) e refl refl refl refl
name_kept false false name q [] rest e = front_kept name [] (10 ∷ []) rest 10 rest e refl refl refl refl
name_kept false blank name q (n ∷ ns) rest e =
    let ending : List ℕ = cond blank (34 ∷ 34 ∷ []) [] ++ 10 ∷ [] in
    front_kept name (fields_text default_writer (n ∷ ns)) ending rest 44
    ((field_text default_writer n ++ fields_text default_writer ns) ++ (ending ++ rest)) e refl refl refl refl

table_kept : (name : List ℕ) (names : List (List ℕ)) (rest : List ℕ) → strip_bom name ≡ name
    → strip_bom (row_text default_writer (name ∷ names) ++ rest) ≡ row_text default_writer (name ∷ names) ++ rest
table_kept name names rest e =
    name_kept (needs_quotes default_writer name) (is_blank default_writer (name ∷ names)) name (escaped default_writer name ++ 34 ∷ []) names rest e

-- ---- the rows that lines stand for

values_back : (types : List ColumnType) (row : List Value) → has_fields types row ≡ true → line_values types (map value_field row) ≡ row
values_back [] [] e = refl
values_back [] (v ∷ row) e = cc
values_back (type ∷ types) [] e = cc
values_back (type ∷ types) (v ∷ row) e =
    let parts = and_parts (has_field type v) (has_fields types row) e in
    ap (λ x. x ∷ line_values types (map value_field row)) (field_back type v parts.0) ∙ ap (λ xs. v ∷ xs) (values_back types row parts.1)

line_back : (types : List ColumnType) (row : List Value) → has_fields types row ≡ true → line_values types (read_back (map value_field row)) ≡ row
line_back [] [] e = refl
line_back [] (v ∷ row) e = cc
line_back (type ∷ types) [] e = cc
line_back (type ∷ types) (v ∷ row) e = values_back (type ∷ types) (v ∷ row) e

lines_back : (types : List ColumnType) (rows : List (List Value)) → list_all (has_fields types) rows ≡ true
    → map (line_values types) (map read_back (map (map value_field) rows)) ≡ rows
lines_back types [] e = refl
lines_back types (row ∷ rows) e =
    let parts = and_parts (has_fields types row) (list_all (has_fields types) rows) e in
    ap (λ x. x ∷ map (line_values types) (map read_back (map (map value_field) rows))) (line_back types row parts.0) ∙ ap (λ xs. row ∷ xs) (lines_back types rows parts.1)

table_lines : (names : List (List ℕ)) (rows : List (List Value)) → table_text names rows ≡ rows_text (names ∷ map (map value_field) rows)
unfolding rows_text
table_lines names rows = ap (λ (t : List ℕ). row_text default_writer names ++ t) (lines_text rows)

pub table_back : (name : List ℕ) (names : List (List ℕ)) (types : List ColumnType) (rows : List (List Value)) → strip_bom name ≡ name → list_all (has_fields types) rows ≡ true
    → HasTable types (name ∷ names) rows (records default_config (strip_bom (table_text (name ∷ names) rows)))
table_back name names types rows unmarked typed =
    let lines : List (List (List ℕ)) = (name ∷ names) ∷ map (map value_field) rows in
    let text : strip_bom (table_text (name ∷ names) rows) ≡ rows_text lines =
    table_kept name names (flat_map (csv_line default_writer) rows) unmarked ∙ table_lines (name ∷ names) rows in
    let is_read : records default_config (strip_bom (table_text (name ∷ names) rows)) ≡ map read_back lines =
    ap (records default_config) text ∙ records_all lines (length (rows_text lines) + 1) (omega (arith, text_long lines)) in
    subst (HasTable types (name ∷ names) rows) (sym is_read) (refl, lines_back types rows typed)

-- ---- a field whose column's type is known later

pub typed_later : (type : ColumnType) (width : ℕ) (field : List ℕ) → value_later type (field_value (coltype.Str width) field) ≡ field_value type field
typed_later type width field = by (length field == 0) refl
  where
    by : (b : Bool) → (length field == 0) ≡ b → value_later type (cond b value.Null (value.Str field)) ≡ field_value type field
    by true e = sym (ap (λ b. cond b value.Null (unwrap_or (plain_in type field) (value.Str field))) e)
    by false e = refl
