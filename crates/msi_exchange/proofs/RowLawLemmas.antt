-- What is written reads back.
use Rattle.std.proofs.Common.{◌≡◌, ℕ, ℤ, pos, negsuc, ◌^◌, ◌<◌, ◌≤◌, Bool, true, false, not, ◌==◌, List, [], ◌∷◌, ◌++◌, length, map, Some, None, cond, option_map, option_and_then, refl, sym, ap, ◌∙◌, arith, append-nil, lt-ltb, ne_eqb}
use Rattle.std.specs.Fmt.{signed_decimal}
use Rattle.std.specs.Int.Signed.{mag}
use Rattle.std.specs.List.{flat_map, list_all}
use Rattle.std.specs.Prelude.{unwrap_or}
use Rattle.std.proofs.lemmas.Bool.{and_parts}
use Rattle.std.proofs.lemmas.List.{length-map}
use Rattle.csv.specs.Reading.{default_config, records_from}
use Rattle.csv.specs.Writing.{default_writer, read_back}
use Rattle.csv.specs.declared.parser.State.TheVariants as state
use Rattle.csv.proofs.RoundTrip.{read-write-all, rows_text}
use Rattle.json.specs.Json as json
use Rattle.json.specs.Print.{print}
use Rattle.json.specs.Tree.{HasNumbers, ItemsHaveNumbers, MembersHaveNumbers, depth, items_depth, json_tokens, members_depth}
use Rattle.json.proofs.Printed.Decimals.{IsNumber-signed_decimal}
use Rattle.json.proofs.Printed.Tokens.{tokens-print}
use Rattle.json.proofs.Printed.Trees.{ArePrintable-json_tokens, document-print, value-json_tokens}
use Rattle.serde_json.specs.Data as parsed
use Rattle.serde_json.specs.Read.{of_items, of_json, read}
use Rattle.serde_json.proofs.Numbers.{number_of-decimal, number_of-negative}
use Rattle.msi_table_values.specs.declared.column.ColumnType.{ColumnType}
use Rattle.msi_table_values.specs.declared.column.ColumnType.TheVariants as coltype
use Rattle.msi_table_values.specs.declared.value.Value.{Value}
use Rattle.msi_table_values.specs.declared.value.Value.TheVariants as value
use Rattle.msi_exchange.specs.Fields.{number_in}
use Rattle.msi_exchange.proofs.NumeralLemmas.{number_back, signed_filled, small, within}
use Rattle.msi_exchange.specs.CsvRows.{csv_line, field_value, value_field}
use Rattle.msi_exchange.specs.JsonRows.{has_32_bits, items_json, members_json, number_value, object_json, row_in, row_json, value_in, value_json, values_in}
use Rattle.msi_exchange.specs.RowLaws.{has_field, is_small}

-- ---- printed JSON is read as the same JSON

value_numbers : (v : Value) → is_small v ≡ true → HasNumbers (value_json v)
value_numbers value.Null e = tt
value_numbers (value.Int n) e = IsNumber-signed_decimal n (small n (within n e))
value_numbers (value.Str text) e = tt
value_numbers value.Binary e = tt

items_numbers : (row : List Value) → list_all is_small row ≡ true → ItemsHaveNumbers (items_json row)
items_numbers [] e = tt
items_numbers (v ∷ row) e = let p = and_parts (is_small v) (list_all is_small row) e in (value_numbers v p.0, items_numbers row p.1)

pub members_numbers : (names : List (List ℕ)) (row : List Value) → list_all is_small row ≡ true → MembersHaveNumbers (members_json names row)
members_numbers [] row e = tt
members_numbers (name ∷ names) [] e = tt
members_numbers (name ∷ names) (v ∷ row) e = let p = and_parts (is_small v) (list_all is_small row) e in (value_numbers v p.0, members_numbers names row p.1)

value_flat : (v : Value) → depth (value_json v) ≡ 0
value_flat value.Null = refl
value_flat (value.Int n) = refl
value_flat (value.Str text) = refl
value_flat value.Binary = refl

items_flat : (row : List Value) → items_depth (items_json row) ≡ 0
items_flat [] = refl
items_flat (v ∷ row) = omega (arith, value_flat v, items_flat row)

pub members_flat : (names : List (List ℕ)) (row : List Value) → members_depth (members_json names row) ≡ 0
members_flat [] row = refl
members_flat (name ∷ names) [] = refl
members_flat (name ∷ names) (v ∷ row) = omega (arith, value_flat v, members_flat names row)

pub row_printed : (row : List Value) → list_all is_small row ≡ true → json.document (print (json_tokens (row_json row))) ≡ Some (row_json row)
row_printed row e = document-print (row_json row) (items_numbers row e) (omega (arith, items_flat row))

pub object_printed : (names : List (List ℕ)) (row : List Value) → list_all is_small row ≡ true → json.document (print (json_tokens (object_json names row))) ≡ Some (object_json names row)
object_printed names row e = document-print (object_json names row) (members_numbers names row e) (omega (arith, members_flat names row))

-- ---- JSON stands for values

number_data : (n : ℤ) → has_32_bits n ≡ true → mag n < 2 ^ 63 → (d : parsed.Data) × (of_json (json.number (signed_decimal n)) ≡ Some d) × (value_in d ≡ Some (value.Int n))
number_data (pos m) e l = (
  parsed.number (parsed.unsigned m),
  ap (option_map parsed.number) (number_of-decimal m (omega arith)),
  ap (λ b. option_and_then number_value (cond b (Some (pos m)) None)) (lt-ltb m (2 ^ 63) (omega arith)) ∙ ap (λ b. cond b (Some (value.Int (pos m))) None) e,
)
number_data (negsuc m) e l = (
  parsed.number (parsed.negative (negsuc m)),
  ap (option_map parsed.number) (number_of-negative m (omega arith)),
  ap (λ b. cond b (Some (value.Int (negsuc m))) None) e,
)

pub value_data : (v : Value) → is_small v ≡ true → (d : parsed.Data) × (of_json (value_json v) ≡ Some d) × (value_in d ≡ Some v)
value_data value.Null e = (parsed.null, refl, refl)
value_data (value.Int n) e = number_data n e (small n (within n e))
value_data (value.Str text) e = (parsed.string text, refl, refl)
value_data value.Binary e = (parsed.boolean true, refl, refl)

pub value_back : (v : Value) → is_small v ≡ true → option_and_then value_in (of_json (value_json v)) ≡ Some v
value_back v e = let p = value_data v e in ap (option_and_then value_in) p.1 ∙ p.2

items_data : (row : List Value) → list_all is_small row ≡ true → (ds : parsed.Items) × (of_items (items_json row) ≡ Some ds) × (values_in ds ≡ Some row)
items_data [] e = (parsed.no_items, refl, refl)
items_data (v ∷ row) e =
    let p = and_parts (is_small v) (list_all is_small row) e in
    let first = value_data v p.0 in
    let rest = items_data row p.1 in (
      parsed.item first.0 rest.0,
      ap (λ o. option_and_then (λ d. option_map (parsed.item d) (of_items (items_json row))) o) first.1 ∙ ap (option_map (parsed.item first.0)) rest.1,
      ap (λ o. option_and_then (λ x. option_map (λ xs. x ∷ xs) (values_in rest.0)) o) first.2 ∙ ap (option_map (λ xs. v ∷ xs)) rest.2,
    )

pub printed_read : (j : json.Json) → HasNumbers j → depth j ≤ 127 → read (print (json_tokens j)) ≡ of_json j
printed_read j numbers shallow =
    ap (λ o. option_and_then of_json (option_and_then (λ p. json.if_last p.0 p.1) o))
    (ap (json.value 127) (tokens-print (json_tokens j) (ArePrintable-json_tokens j numbers) ∙ sym (append-nil (json_tokens j)))
    ∙ value-json_tokens j 127 [] shallow)

pub row_back : (row : List Value) → list_all is_small row ≡ true → option_and_then row_in (read (print (json_tokens (row_json row)))) ≡ Some row
row_back row e =
    let p = items_data row e in
    ap (option_and_then row_in) (printed_read (row_json row) (items_numbers row e) (omega (arith, items_flat row)))
    ∙ ap (λ o. option_and_then row_in (option_map parsed.array o)) p.1 ∙ p.2

-- ---- lines of CSV

pub lines_text : (rows : List (List Value)) → flat_map (csv_line default_writer) rows ≡ rows_text (map (map value_field) rows)
unfolding rows_text
lines_text [] = refl
lines_text (row ∷ rows) = ap (λ text. csv_line default_writer row ++ text) (lines_text rows)

each_read_back : (rows : List (List Value)) → map read_back (map (map value_field) rows) ≡ map (λ row. read_back (map value_field row)) rows
each_read_back [] = refl
each_read_back (row ∷ rows) = ap (λ read. read_back (map value_field row) ∷ read) (each_read_back rows)

pub lines_back : (rows : List (List Value))
    → records_from default_config (length rows) state.StartRecord (flat_map (csv_line default_writer) rows)
    ≡ map (λ row. read_back (map value_field row)) rows
lines_back rows =
    ap (λ text. records_from default_config (length rows) state.StartRecord text) (lines_text rows)
    ∙ ap (λ n. records_from default_config n state.StartRecord (rows_text (map (map value_field) rows))) (sym (length-map rows (map value_field)))
    ∙ read-write-all (map (map value_field) rows) ∙ each_read_back rows

-- ---- fields stand for values

not_empty : (n : ℤ) → has_32_bits n ≡ true → (length (signed_decimal n) == 0) ≡ false
not_empty n e = let some = signed_filled n (within n e) in ne_eqb (length (signed_decimal n)) 0 (λ z. omega arith)

number_field : (n : ℤ) → has_32_bits n ≡ true → cond (length (signed_decimal n) == 0) value.Null (unwrap_or (option_map value.Int (number_in (signed_decimal n))) (value.Str (signed_decimal n))) ≡ value.Int n
number_field n e =
    ap (λ b. cond b value.Null (unwrap_or (option_map value.Int (number_in (signed_decimal n))) (value.Str (signed_decimal n)))) (not_empty n e)
    ∙ ap (λ o. unwrap_or (option_map value.Int o) (value.Str (signed_decimal n))) (number_back n (within n e))

text_field : (text : List ℕ) → not (length text == 0) ≡ true → cond (length text == 0) value.Null (value.Str text) ≡ value.Str text
text_field text e = by (length text == 0) e
  where
    by : (b : Bool) → not b ≡ true → cond b value.Null (value.Str text) ≡ value.Str text
    by true e = cc e
    by false e = refl

pub field_back : (type : ColumnType) (v : Value) → has_field type v ≡ true → field_value type (value_field v) ≡ v
field_back type value.Null e = refl
field_back coltype.Int16 (value.Int n) e = number_field n e
field_back coltype.Int32 (value.Int n) e = number_field n e
field_back (coltype.Str width) (value.Int n) e = cc e
field_back coltype.Binary (value.Int n) e = cc e
field_back (coltype.Str width) (value.Str text) e = text_field text e
field_back coltype.Int16 (value.Str text) e = cc e
field_back coltype.Int32 (value.Str text) e = cc e
field_back coltype.Binary (value.Str text) e = cc e
field_back coltype.Binary value.Binary e = refl
field_back coltype.Int16 value.Binary e = cc e
field_back coltype.Int32 value.Binary e = cc e
field_back (coltype.Str width) value.Binary e = cc e
