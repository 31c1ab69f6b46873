-- The names of the streams of rows: where the new package has a stream, its name tells of which row it is.
use Rattle.std.proofs.Common.{◌≡◌, ℕ, zero, suc, ◌+◌, ◌-◌, ◌/◌, ◌%◌, ◌<◌, ℤ, Bool, true, false, not, ◌&&◌, ◌||◌, List, [], ◌∷◌, ◌++◌, chars, map, filter, Option, Some, None, is_some, refl, sym, ap, subst, ◌∙◌, arith}
use Rattle.std.specs.Prelude.{pos, negsuc, nat_lt, ◌==◌, Ok, bytes_eq, encode_utf8_all, if◌then◌else◌, option_and_then, slice_get}
use Rattle.std.specs.Char.Utf16.{utf16_lossy_chars}
use Rattle.std.specs.Cmp.Lexicographic.{bytes_decides}
use Rattle.std.specs.FinMap.{find}
use Rattle.std.specs.Fmt.{decimal, digit_glyph, digits, digits_onto, signed_decimal}
use Rattle.std.specs.List.{AllByRecursion, flat_map, list_any}
use Rattle.std.specs.Option.{option_map_or}
use Rattle.std.specs.Ordering.{eq_by_cmp}
use Rattle.std.specs.Str.{IsAscii, IsUtf8}
use Rattle.std.proofs.lemmas.Bool.{and_parts}
use Rattle.std.proofs.lemmas.List.Folds.{list_any-append}
use Rattle.std.proofs.lemmas.Str.{IsUtf8-append, IsUtf8-from_ascii, IsUtf8-nil, encodes-chars, scalars-chars}
use Rattle.msi_base.specs.Lists.{has_pair, list_cmp}
use Rattle.msi_base.proofs.BoolLemmas.{by_test, yes_is_no}
use Rattle.msi_base.proofs.ListLemmas.{none_passes}
use Rattle.msi_base.proofs.OptionLemmas.{guard_held, none_is, some_is}
use Rattle.msi_pool.specs.Pool.{HaveUtf8Texts, Place}
use Rattle.msi_container_format.specs.StreamNames.{decoded_name, encoded_name}
use Rattle.msi_container_format.proofs.AcceptedNamesLemmas.{accepted_is}
use Rattle.msi_container_format.proofs.PackedNamesLemmas.{encoded_scalars}
use Rattle.msi_container_format.proofs.SpelledUnitsLemmas.{units_spell}
use Rattle.msi_container_format.proofs.UnpackingLemmas.{name_back}
use Rattle.msi_table_cells.specs.declared.cell.ValueRef.{ValueRef}
use Rattle.msi_table_cells.specs.declared.cell.ValueRef.TheVariants as cell
use Rattle.msi_table_cells.specs.CellValues.{row_values, value_of_cell}
use Rattle.msi_table_cells.specs.KeyOrder.{key_of}
use Rattle.msi_table_values.specs.declared.value.Value.{Value}
use Rattle.msi_table_values.specs.Columns.{ColumnDef}
use Rattle.msi_database_schema.specs.Keys.{is_stream_name, stream_key, table_key}
use Rattle.msi_database_schema.proofs.KeyLemmas.{identifier_ascii, table_key≢stream_key, table_name_is}
use Rattle.msi_database_storage.specs.Kept.{Kept}
use Rattle.msi_database_storage.specs.Streams.{stream_at}
use Rattle.msi_transform.specs.Transforms.{TransformDef}
use Rattle.msi_transform.specs.TransformFiles.{text_of_key}
use Rattle.msi_transform_rows.specs.KeyOfRows.{key_cmp}
use Rattle.msi_transform_rows.specs.RowStreams.{has_streams, key_text, name_of_text, row_stream, stream_text}
use Rattle.msi_transform_schema.specs.SchemaApplying.{system_rows}
use Rattle.msi_transform_making.specs.Making.{Pair, ToldRow, ToldRows, columns_in_table, gone_streams, is_odd_table, is_row_gone, is_unfit, made, stream_of_row, stream_texts, streams_in, told_names, told_row, told_rows, values_in_table}
use Rattle.msi_transform_laws.specs.StreamsAgree.{CanNameStreams}
use Rattle.msi_transform_laws.proofs.CarriedOutLemmas.{same}
use Rattle.msi_transform_laws.proofs.FitPackagesLemmas.{both_fit, no_shared_stream}
use Rattle.msi_transform_laws.proofs.ListedTablesLemmas.{exact_names}
use Rattle.msi_transform_laws.proofs.SchemaListsLemmas.{neither}
use Rattle.msi_transform_laws.proofs.SchemaMadeLemmas.{IsNamed, at_name}
use Rattle.msi_transform_laws.proofs.TableChangedLemmas.{named}
use Rattle.msi_transform_laws.proofs.TableRecordsLemmas.{each_by_keys}

-- A NAME TELLS ITS TEXT

text_back : (text : List ℕ) → IsUtf8 text → is_stream_name text ≡ true → text_of_key (stream_key text) ≡ text
text_back text utf8 is =
    let units : utf16_lossy_chars (stream_key text) ≡ encoded_name false (chars text) =
    units_spell (encoded_name false (chars text)) (encoded_scalars false (chars text) (scalars-chars text utf8)) in
    let accepted = accepted_is false (chars text) is in
    ap (λ (cs : List ℕ). encode_utf8_all (decoded_name cs).0) units
    ∙ ap (λ (q : List ℕ × Bool). encode_utf8_all q.0) (name_back false (chars text) accepted.unmarked accepted.allowed) ∙ encodes-chars text utf8

text_named : (text n : List ℕ) → name_of_text text ≡ Some n → (is_stream_name text ≡ true) × (stream_key text ≡ n)
text_named text n h = let q = guard_held (is_stream_name text) (Some (stream_key text)) n h in (q.0, some_is (stream_key text) n q.1)

one_text : (a b n : List ℕ) → IsUtf8 a → IsUtf8 b → name_of_text a ≡ Some n → name_of_text b ≡ Some n → a ≡ b
one_text a b n u v h g =
    let p = text_named a n h in
    let q = text_named b n g in
    sym (text_back a u p.0) ∙ ap text_of_key (p.1 ∙ sym q.1) ∙ text_back b v q.0

-- no table's stream has the name of a row's
pub of_no_table : (table : List ℕ) (key : List Value) (n : List ℕ) → row_stream table key ≡ Some n → (name : List ℕ) → table_key name ≡ n → ⊥
of_no_table table key n at name e =
    let q = text_named (stream_text table key) n at in
    table_key≢stream_key name (stream_text table key) q.0 (e ∙ sym q.1)

-- TEXTS ARE UTF-8

ascii : (cs : List ℕ) → AllByRecursion (λ c. c < 128) cs → IsAscii cs
ascii [] h i = omega arith
ascii (c ∷ cs) h zero = h.0
ascii (c ∷ cs) h (suc i) = ascii cs h.1 i

dot : IsUtf8 (46 ∷ [])
dot = IsUtf8-from_ascii (46 ∷ []) (ascii (46 ∷ []) (omega arith, tt))

glyph_small : (n : ℕ) → digit_glyph false (n % 10) < 128
glyph_small n = by_test (nat_lt (n % 10) 10) (λ t. rw t (omega arith)) (λ t. rw t (omega arith))

digits_small : (k n : ℕ) (acc : List ℕ) → AllByRecursion (λ c. c < 128) acc → AllByRecursion (λ c. c < 128) (digits_onto k 10 false n acc)
digits_small zero n acc h = h
digits_small (suc k) n acc h = by_test (n / 10 == 0)
    (λ t. rw t (glyph_small n, h))
    (λ t. rw t (digits_small k (n / 10) (digit_glyph false (n % 10) ∷ acc) (glyph_small n, h)))

decimal_small : (n : ℕ) → AllByRecursion (λ c. c < 128) (decimal n)
unfolding digits
decimal_small n = digits_small 64 n [] tt

number_utf8 : (n : ℤ) → IsUtf8 (signed_decimal n)
number_utf8 (pos n) = IsUtf8-from_ascii (decimal n) (ascii (decimal n) (decimal_small n))
number_utf8 (negsuc n) = IsUtf8-from_ascii (45 ∷ decimal (suc n)) (ascii (45 ∷ decimal (suc n)) (omega arith, decimal_small (suc n)))

of_place : (ps : List Place) → HaveUtf8Texts ps → (i : ℕ) → IsUtf8 (option_map_or (λ (p : Place). p.text) (slice_get ps i) [])
of_place [] h i = IsUtf8-nil
of_place (p ∷ ps) h zero = h.0
of_place (p ∷ ps) h (suc i) = of_place ps h.1 i

abbrev HasUtf8 : Value → Type 0
HasUtf8 v = IsUtf8 (key_text v)

module _ (places : List Place) (texts : HaveUtf8Texts places) where
  value_utf8 : (c : ValueRef) → HasUtf8 (value_of_cell places c)
  value_utf8 cell.Null = IsUtf8-nil
  value_utf8 (cell.Int n) = number_utf8 n
  value_utf8 (cell.Str number) = of_place places texts (number - 1)
  value_utf8 cell.Binary = IsUtf8-nil

  row_utf8 : (row : List ValueRef) → AllByRecursion HasUtf8 (row_values places row)
  row_utf8 [] = tt
  row_utf8 (c ∷ cs) = (value_utf8 c, row_utf8 cs)

key_of_utf8 : (columns : List ColumnDef) (values : List Value) → AllByRecursion HasUtf8 values → AllByRecursion HasUtf8 (key_of columns values)
key_of_utf8 [] vs h = tt
key_of_utf8 (c ∷ cs) [] h = tt
key_of_utf8 (c ∷ cs) (v ∷ vs) h = by_test c.is_primary_key (λ t. rw t (h.0, key_of_utf8 cs vs h.1)) (λ t. rw t (key_of_utf8 cs vs h.1))

text_utf8 : (table : List ℕ) (key : List Value) → IsUtf8 table → AllByRecursion HasUtf8 key → IsUtf8 (stream_text table key)
text_utf8 table key u h = IsUtf8-append table (flat_map (λ (v : Value). 46 ∷ key_text v) key) u (of_key key h)
  where
    of_key : (vs : List Value) → AllByRecursion HasUtf8 vs → IsUtf8 (flat_map (λ (v : Value). 46 ∷ key_text v) vs)
    of_key [] h = IsUtf8-nil
    of_key (v ∷ vs) h = IsUtf8-append (46 ∷ key_text v) (flat_map (λ (v : Value). 46 ∷ key_text v) vs) (IsUtf8-append (46 ∷ []) (key_text v) dot h.0) (of_key vs h.1)

-- A ROW THAT IS FOUND

pub found_is : (P : List Value × ToldRow → Type 0) (q : List Value) (row : ToldRow) (es : ToldRows) → AllByRecursion P es → find key_cmp q es ≡ Some row → P (q, row)
found_is P q row [] all h = none_is h
found_is P q row (e ∷ es) all h = by_test (eq_by_cmp key_cmp q e.0)
    (λ t. let is = some_is e.1 row (rw t at h) in
    subst (λ (k : List Value). P (k, row)) (sym (same q e.0 t)) (subst (λ (r : ToldRow). P (e.0, r)) is all.0))
    (λ t. found_is P q row es all.1 (rw t at h))

pub row_there : (o : Option ToldRow) → is_some o ≡ true → (row : ToldRow) × (o ≡ Some row)
row_there None h = yes_is_no false h refl
row_there (Some row) h = (row, refl)

module _ (k : Kept) (table : List ℕ) where
  abbrev columns : List ColumnDef
  columns = columns_in_table k table

  module _ (P : List Value × ToldRow → Type 0) (added : ℕ) (each : (row : List ValueRef) → P (told_row k table columns added (row_values k.database.pool.places row))) where
    all_told : (rows : List (List ValueRef)) → AllByRecursion P (map (told_row k table columns added) (map (row_values k.database.pool.places) rows))
    all_told [] = tt
    all_told (row ∷ rows) = (each row, all_told rows)

    pub told_holds : AllByRecursion P (told_rows k table added)
    told_holds = each_by_keys P (map (told_row k table columns added) (values_in_table k table)) (all_told (system_rows k.database table))

  texts_told : HaveUtf8Texts k.database.pool.places → IsUtf8 table → AllByRecursion (λ (e : List Value × ToldRow). IsUtf8 (stream_text table e.0)) (told_rows k table 0)
  texts_told texts u = told_holds (λ (e : List Value × ToldRow). IsUtf8 (stream_text table e.0)) 0
      (λ row. text_utf8 table (key_of columns (row_values k.database.pool.places row)) u (key_of_utf8 columns (row_values k.database.pool.places row) (row_utf8 k.database.pool.places texts row)))

  has_text : HaveUtf8Texts k.database.pool.places → IsUtf8 table → (key : List Value) → is_some (find key_cmp key (told_rows k table 0)) ≡ true → IsUtf8 (stream_text table key)
  has_text texts u key there =
      let q = row_there (find key_cmp key (told_rows k table 0)) there in
      found_is (λ (e : List Value × ToldRow). IsUtf8 (stream_text table e.0)) key q.0 (told_rows k table 0) (texts_told texts u) q.1

  -- the stream of a row, as the package has it
  own_stream : (b : Bool) (o : Option (List ℕ)) → b ≡ true → (if b then o else None) ≡ o
  own_stream true o h = refl
  own_stream false o h = yes_is_no false h refl

  pub stream_told : has_streams columns ≡ true → (key : List Value) (row : ToldRow) (added : ℕ) → find key_cmp key (told_rows k table added) ≡ Some row → row.stream ≡ stream_of_row k table key
  stream_told some key row added at =
      found_is (λ (e : List Value × ToldRow). e.1.stream ≡ stream_of_row k table e.0) key row (told_rows k table added)
      (told_holds (λ (e : List Value × ToldRow). e.1.stream ≡ stream_of_row k table e.0) added
      (λ row. own_stream (has_streams columns) (stream_of_row k table (key_of columns (row_values k.database.pool.places row))) some)) at

name_utf8 : (k : Kept) (name : List ℕ) → is_odd_table k name ≡ false → IsUtf8 name
name_utf8 k name odd = IsUtf8-from_ascii name (ascii name (identifier_ascii name (table_name_is name (named k name odd)).identifier))

told_utf8 : (k : Kept) (name : List ℕ) → is_unfit k ≡ false → list_any (eq_by_cmp list_cmp name) (told_names k) ≡ true → IsUtf8 name
told_utf8 k name fit among =
    name_utf8 k name (at_name (λ (n : List ℕ). is_odd_table k n ≡ false) name (told_names k) (none_passes (is_odd_table k) (told_names k) fit) among)

-- LISTS OF TEXTS WITHOUT A PAIR

abbrev In : List ℕ → List (List ℕ) → Type 0
In x xs = list_any (bytes_eq x) xs ≡ true

or_true : (b : Bool) → (b || true) ≡ true
or_true true = refl
or_true false = refl

in_first : (x : List ℕ) (xs ys : List (List ℕ)) → In x xs → In x (xs ++ ys)
in_first x xs ys h = list_any-append (bytes_eq x) xs ys ∙ ap (λ b. b || list_any (bytes_eq x) ys) h

in_second : (x : List ℕ) (xs ys : List (List ℕ)) → In x ys → In x (xs ++ ys)
in_second x xs ys h = list_any-append (bytes_eq x) xs ys ∙ ap (λ b. list_any (bytes_eq x) xs || b) h ∙ or_true (list_any (bytes_eq x) xs)

joined_parts : (xs ys : List (List ℕ)) → has_pair bytes_eq (xs ++ ys) ≡ false → (has_pair bytes_eq xs ≡ false) × (has_pair bytes_eq ys ≡ false) × ((z : List ℕ) → In z xs → In z ys → ⊥)
joined_parts [] ys h = (refl, h, (λ z i j. yes_is_no false i refl))
joined_parts (x ∷ xs) ys h =
    let q = neither (list_any (bytes_eq x) (xs ++ ys)) (has_pair bytes_eq (xs ++ ys)) h in
    let r = neither (list_any (bytes_eq x) xs) (list_any (bytes_eq x) ys) (sym (list_any-append (bytes_eq x) xs ys) ∙ q.0) in
    let rest = joined_parts xs ys q.1 in (
      rw (r.0, rest.0) refl,
      rest.1,
      (λ z i j. by_test (bytes_eq z x)
          (λ t. yes_is_no (list_any (bytes_eq x) ys) (ap (λ (w : List ℕ). list_any (bytes_eq w) ys) (sym ((bytes_decides z x).0 t)) ∙ j) r.1)
          (λ t. rest.2 z (rw t at i) j)),
    )

module _ {X : Type 0} (f : X → List (List ℕ)) where
  in_flat : (x : List ℕ) (q : X → Bool) → ((e : X) → q e ≡ true → In x (f e)) → (es : List X) → list_any q es ≡ true → In x (flat_map f es)
  in_flat x q has [] h = yes_is_no false h refl
  in_flat x q has (e ∷ es) h = by_test (q e)
      (λ t. in_first x (f e) (flat_map f es) (has e t))
      (λ t. in_second x (f e) (flat_map f es) (in_flat x q has es (rw t at h)))

  -- two that have one text are the same
  one_entry : (x : List ℕ) (q r : X → Bool) → ((e : X) → q e ≡ true → In x (f e)) → ((e : X) → r e ≡ true → In x (f e)) → (es : List X) → has_pair bytes_eq (flat_map f es) ≡ false
      → list_any q es ≡ true → list_any r es ≡ true → (e : X) × (q e ≡ true) × (r e ≡ true)
  one_entry x q r has has_too [] apart h g = yes_is_no false h refl
  one_entry x q r has has_too (e ∷ es) apart h g =
      let parts = joined_parts (f e) (flat_map f es) apart in
      by_test (q e)
      (λ t. by_test (r e)
      (λ u. (e, t, u))
      (λ u. absurd (parts.2 x (has e t) (in_flat x r has_too es (rw u at g)))))
      (λ t. by_test (r e)
      (λ u. absurd (parts.2 x (has_too e u) (in_flat x q has es (rw t at h))))
      (λ u. one_entry x q r has has_too es parts.1 (rw t at h) (rw u at g)))

  one_part : (q : X → Bool) (es : List X) → has_pair bytes_eq (flat_map f es) ≡ false → list_any q es ≡ true → (e : X) × (q e ≡ true) × (has_pair bytes_eq (f e) ≡ false)
  one_part q [] apart h = yes_is_no false h refl
  one_part q (e ∷ es) apart h =
      let parts = joined_parts (f e) (flat_map f es) apart in
      by_test (q e) (λ t. (e, t, parts.0)) (λ t. one_part q es parts.1 (rw t at h))

-- A STREAM OF THE NEW PACKAGE IS THAT OF ONE ROW

abbrev has_key : List Value → List Value × ToldRow → Bool
has_key key e = eq_by_cmp key_cmp key e.0 && is_some e.1.stream

any_found : (key : List Value) (row : ToldRow) (es : ToldRows) → find key_cmp key es ≡ Some row → is_some row.stream ≡ true → list_any (has_key key) es ≡ true
any_found key row [] h s = none_is h
any_found key row (e ∷ es) h s = by_test (eq_by_cmp key_cmp key e.0)
    (λ t. let here : is_some e.1.stream ≡ true = ap (λ (r : ToldRow). is_some r.stream) (some_is e.1 row (rw t at h)) ∙ s in rw (t, here) refl)
    (λ t. rw t (any_found key row es (rw t at h) s))

module _ (table : List ℕ) (key : List Value) where
  text_in : (e : List Value × ToldRow) → has_key key e ≡ true → In (stream_text table key) (stream_texts table e)
  text_in e h =
      let q = and_parts (eq_by_cmp key_cmp key e.0) (is_some e.1.stream) h in
      let here : bytes_eq (stream_text table key) (stream_text table e.0) ≡ true = (bytes_decides (stream_text table key) (stream_text table e.0)).1 (ap (stream_text table) (same key e.0 q.0)) in
      rw (q.1, here) refl

  gone_in : (others es : ToldRows) → is_some (find key_cmp key others) ≡ false → is_some (find key_cmp key es) ≡ true
      → In (stream_text table key) (map (λ (e : List Value × ToldRow). stream_text table e.0) (filter (is_row_gone others) es))
  gone_in others [] gone there = yes_is_no false there refl
  gone_in others (e ∷ es) gone there = by_test (eq_by_cmp key_cmp key e.0)
      (λ t. let here : is_row_gone others e ≡ true = ap (λ (k : List Value). not (is_some (find key_cmp k others))) (sym (same key e.0 t)) ∙ ap not gone in
      let first : bytes_eq (stream_text table key) (stream_text table e.0) ≡ true = (bytes_decides (stream_text table key) (stream_text table e.0)).1 (ap (stream_text table) (same key e.0 t)) in
      rw (here, first) refl)
      (λ t. by_test (is_row_gone others e)
      (λ u. rw u (rw (gone_in others es gone (rw t at there)) (or_true (bytes_eq (stream_text table key) (stream_text table e.0)))))
      (λ u. rw u (gone_in others es gone (rw t at there))))

module _ (p : Pair) (t : TransformDef) (is : made p ≡ Ok t) (can : CanNameStreams p) where
  texts_apart : has_pair bytes_eq (flat_map (streams_in p.new) (told_names p.new) ++ flat_map (gone_streams p.old p.new) (told_names p.old)) ≡ false
  texts_apart = no_shared_stream p t is

  -- a row of the new package, in a table with streams
  pub record IsNewRow (table : List ℕ) (key : List Value) (n : List ℕ) : Type 0 where
    pub among : IsNamed p table
    pub streams : has_streams (columns_in_table p.new table) ≡ true
    pub there : is_some (find key_cmp key (told_rows p.new table 0)) ≡ true
    pub at : row_stream table key ≡ Some n

  new_text : (table : List ℕ) (key : List Value) (n : List ℕ) → IsNewRow table key n → IsUtf8 (stream_text table key)
  new_text table key n row = has_text p.new table can.texts_too (told_utf8 p.new table (both_fit p t is).1 row.among) key row.there

  module _ (n bytes : List ℕ) (has : stream_at n p.new.streams ≡ Some bytes) where
    row_texts : (table : List ℕ) (key : List Value) → IsNewRow table key n → list_any (has_key key) (told_rows p.new table 0) ≡ true
    row_texts table key row =
        let q = row_there (find key_cmp key (told_rows p.new table 0)) row.there in
        let stream : q.0.stream ≡ Some bytes = stream_told p.new table row.streams key q.0 0 q.1 ∙ ap (option_and_then (λ (m : List ℕ). stream_at m p.new.streams)) row.at ∙ has in
        any_found key q.0 (told_rows p.new table 0) q.1 (ap (λ (o : Option (List ℕ)). is_some o) stream)

    in_streams : (table : List ℕ) (key : List Value) → IsNewRow table key n → In (stream_text table key) (streams_in p.new table)
    in_streams table key row = rw row.streams (in_flat (stream_texts table) (stream_text table key) (has_key key) (text_in table key) (told_rows p.new table 0) (row_texts table key row))

    one_text_of : (table other : List ℕ) (key key_too : List Value) → IsNewRow table key n → IsNewRow other key_too n → stream_text other key_too ≡ stream_text table key
    one_text_of table other key key_too row row_too =
        one_text (stream_text other key_too) (stream_text table key) n (new_text other key_too n row_too) (new_text table key n row) row_too.at row.at

    in_named : (table : List ℕ) (key : List Value) → IsNewRow table key n → (name : List ℕ) → eq_by_cmp list_cmp table name ≡ true → In (stream_text table key) (streams_in p.new name)
    in_named table key row name e = subst (λ (m : List ℕ). In (stream_text table key) (streams_in p.new m)) (exact_names table name e) (in_streams table key row)

    new_apart : has_pair bytes_eq (flat_map (streams_in p.new) (told_names p.new)) ≡ false
    new_apart = (joined_parts (flat_map (streams_in p.new) (told_names p.new)) (flat_map (gone_streams p.old p.new) (told_names p.old)) texts_apart).0

    same_table : (table other : List ℕ) (key key_too : List Value) → IsNewRow table key n → IsNewRow other key_too n → other ≡ table
    same_table table other key key_too row row_too =
        let text = one_text_of table other key key_too row row_too in
        let q = one_entry (streams_in p.new) (stream_text table key) (eq_by_cmp list_cmp table) (eq_by_cmp list_cmp other) (in_named table key row)
        (λ name e. subst (λ (x : List ℕ). In x (streams_in p.new name)) text (in_named other key_too row_too name e)) (told_names p.new) new_apart row.among row_too.among in
        exact_names other q.0 q.2 ∙ sym (exact_names table q.0 q.1)

    same_key_of : (table : List ℕ) (key key_too : List Value) → IsNewRow table key n → IsNewRow table key_too n → key ≡ key_too
    same_key_of table key key_too row row_too =
        let text = one_text_of table table key key_too row row_too in
        let part = one_part (streams_in p.new) (eq_by_cmp list_cmp table) (told_names p.new) new_apart row.among in
        let whole : has_pair bytes_eq (streams_in p.new table) ≡ false = ap (λ (m : List ℕ). has_pair bytes_eq (streams_in p.new m)) (exact_names table part.0 part.1) ∙ part.2 in
        let rows : has_pair bytes_eq (flat_map (stream_texts table) (told_rows p.new table 0)) ≡ false = rw row.streams at whole in
        let q = one_entry (stream_texts table) (stream_text table key) (has_key key) (has_key key_too) (text_in table key)
        (λ e h. subst (λ (x : List ℕ). In x (stream_texts table e)) text (text_in table key_too e h)) (told_rows p.new table 0) rows (row_texts table key row) (row_texts table key_too row_too) in
        same key q.0.0 (and_parts (eq_by_cmp key_cmp key q.0.0) (is_some q.0.1.stream) q.1).0
        ∙ sym (same key_too q.0.0 (and_parts (eq_by_cmp key_cmp key_too q.0.0) (is_some q.0.1.stream) q.2).0)

    -- two rows whose streams have its name are one
    pub one_row : (table other : List ℕ) (key key_too : List Value) → IsNewRow table key n → IsNewRow other key_too n → (other ≡ table) × (key ≡ key_too)
    one_row table other key key_too row row_too =
        let tables = same_table table other key key_too row row_too in
        (tables, same_key_of table key key_too row (subst (λ (m : List ℕ). IsNewRow m key_too n) tables row_too))

    -- and no row that goes has it
    pub no_row_gone : (table other : List ℕ) (key key_too : List Value) → IsNewRow table key n → list_any (eq_by_cmp list_cmp other) (told_names p.old) ≡ true
        → (has_streams (columns_in_table p.old other) || has_streams (columns_in_table p.new other)) ≡ true → is_some (find key_cmp key_too (told_rows p.old other 0)) ≡ true
        → is_some (find key_cmp key_too (told_rows p.new other 0)) ≡ false → row_stream other key_too ≡ Some n → ⊥
    no_row_gone table other key key_too row among streams there gone at =
        let u = has_text p.old other can.texts (told_utf8 p.old other (both_fit p t is).0 among) key_too there in
        let text : stream_text other key_too ≡ stream_text table key = one_text (stream_text other key_too) (stream_text table key) n u (new_text table key n row) at row.at in
        let here : In (stream_text other key_too) (gone_streams p.old p.new other) = rw streams (gone_in other key_too (told_rows p.new other 0) (told_rows p.old other 0) gone there) in
        let parts = joined_parts (flat_map (streams_in p.new) (told_names p.new)) (flat_map (gone_streams p.old p.new) (told_names p.old)) texts_apart in
        parts.2 (stream_text table key)
        (in_flat (streams_in p.new) (stream_text table key) (eq_by_cmp list_cmp table) (in_named table key row) (told_names p.new) row.among)
        (in_flat (gone_streams p.old p.new) (stream_text table key) (eq_by_cmp list_cmp other)
        (λ name e. subst (λ (x : List ℕ). In x (gone_streams p.old p.new name)) text (subst (λ (m : List ℕ). In (stream_text other key_too) (gone_streams p.old p.new m)) (exact_names other name e) here))
        (told_names p.old) among)
