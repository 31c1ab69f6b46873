-- Rows as lines of CSV, field by field.
use Rattle.std.proofs.Common.{◌≡◌, ◌==◌, ℕ, ◌+◌, ◌<◌, ◌≤◌, Bool, true, false, ◌&&◌, ◌||◌, not, List, [], ◌++◌, Option, get_or, take, length, map, sym, ap, subst, ◌∙◌, arith}
use Rattle.std.specs.Io.KnownBytes.{Appends}
use Rattle.std.proofs.lemmas.List.{get_or-map, length-map, take_all}
use Rattle.csv.specs.Writing.{field_text, is_blank, next_sep, row_body, tail_text}
use Rattle.csv.specs.declared.writer.WriterBuilder.{WriterBuilder}
use Rattle.csv.proofs.WriteFacts.{appends-more, blank-step, row-final, row-step}
use Rattle.msi_table_values.specs.declared.value.Value.{Value}
use Rattle.msi_exchange.specs.CsvRows.{csv_line, value_field}

-- the field of a value that was read from its row
field_at : (row : List Value) (i : ℕ) (v : Value) → i < length row → v ≡ get_or row i v → get_or (map value_field row) i [] ≡ value_field v
field_at row i v l is = get_or-map value_field row i v [] l ∙ ap value_field (sym is)

pub field_more : (setup : WriterBuilder) (row : List Value) (i : ℕ) (v : Value) (old mid new : Option (List ℕ)) → i < length row → v ≡ get_or row i v
    → Appends old mid (row_body setup (take i (map value_field row)))
    → Appends mid new (next_sep setup i ++ field_text setup (value_field v))
    → Appends old new (row_body setup (take (i + 1) (map value_field row)))
field_more setup row i v old mid new l is before text =
    let lt : i < length (map value_field row) = omega (arith, length-map row value_field) in
    subst (λ t. Appends old new t)
    (ap (λ f. row_body setup (take i (map value_field row)) ++ (next_sep setup i ++ field_text setup f)) (sym (field_at row i v l is)) ∙ sym (row-step setup (map value_field row) i lt))
    (appends-more old mid new _ _ before text)

pub blank_more : (setup : WriterBuilder) (row : List Value) (i : ℕ) (v : Value) (wrote wrote2 : Bool) → i < length row → v ≡ get_or row i v
    → is_blank setup (take i (map value_field row)) ≡ (not wrote && ((i == 0) || (i == 1)))
    → (wrote ≡ false → wrote2 ≡ not (length (field_text setup (value_field v)) == 0))
    → (wrote ≡ true → wrote2 ≡ true)
    → is_blank setup (take (i + 1) (map value_field row)) ≡ (not wrote2 && (((i + 1) == 0) || ((i + 1) == 1)))
blank_more setup row i v wrote wrote2 l is h first later =
    let lt : i < length (map value_field row) = omega (arith, length-map row value_field) in
    blank-step setup (map value_field row) i wrote wrote2 lt h
    (λ none. first none ∙ ap (λ f. not (length (field_text setup f) == 0)) (sym (field_at row i v l is))) later

pub line_ended : (setup : WriterBuilder) (row : List Value) (i : ℕ) (wrote : Bool) (old last new : Option (List ℕ)) → length row ≤ i
    → Appends old last (row_body setup (take i (map value_field row)))
    → is_blank setup (take i (map value_field row)) ≡ (not wrote && ((i == 0) || (i == 1)))
    → Appends last new (tail_text setup wrote i)
    → Appends old new (csv_line setup row)
line_ended setup row i wrote old last new l body blank tail =
    let whole = take_all i (map value_field row) (omega (arith, length-map row value_field)) in
    row-final old last new setup (map value_field row) wrote i
    (subst (λ fields. Appends old last (row_body setup fields)) whole body)
    (subst (λ fields. is_blank setup fields ≡ (not wrote && ((i == 0) || (i == 1)))) whole blank) tail
