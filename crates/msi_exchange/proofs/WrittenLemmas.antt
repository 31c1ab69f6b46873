-- What is written of an archive means it.
use Rattle.std.proofs.Common.{◌≡◌, ℕ, ◌<◌, ◌^◌, Bool, true, false, not, ◌&&◌, List, [], ◌∷◌, ◌++◌, Option, Some, None, refl, sym, ap, ◌∙◌, subst, arith, map, length, is_some, append_assoc}
use Rattle.std.specs.Fmt.{decimal}
use Rattle.std.specs.List.{AllByRecursion, AllZip, flat_map, list_all}
use Rattle.std.specs.Str.Lines.{lines}
use Rattle.std.proofs.lemmas.Bool.{and_parts}
use Rattle.std.proofs.lemmas.List.{append-nil}
use Rattle.std.proofs.lemmas.Bool.Decides.{Decides-ltb}
use Rattle.msi_table_values.specs.Numerals.{u16_in}
use Rattle.msi_table_values.specs.declared.value.Value.{Value}
use Rattle.msi_exchange.specs.Archives.{ArchiveColumnDef, ArchiveDef, KeysDef}
use Rattle.msi_exchange.specs.ArchiveLaws.{LinesBehind, WrittenByRows}
use Rattle.msi_exchange.specs.Fields.{fields, header_fields}
use Rattle.msi_exchange.specs.TextArchives.{MeanColumns, MeanKeys, MeanRow, Means, MeansPage, MeansText}
use Rattle.msi_exchange.specs.Writing.{archive_text, can_write, has_column_fields, has_field, has_key_fields, has_row_fields, has_row_line, has_table_field, has_type_field, has_value_field, key_fields, line_of, name_fields, page_fields, row_line, tabbed, text_field, type_fields, value_field}
use Rattle.msi_exchange.proofs.FieldLemmas.{field_filled, field_plain, text_back, value_back, value_plain}
use Rattle.msi_exchange.proofs.LineLemmas.{IsPlain, feedless, fields_back, header_back, line_back}
use Rattle.msi_exchange.proofs.NumeralLemmas.{decimal_plain, u16_back, u16_swapped}
use Rattle.msi_exchange.proofs.TypeFieldLemmas.{type_back, type_filled, type_plain}

abbrev IsFilled : List ℕ → Type 0
IsFilled field = 0 < length field

column_parts : (c : ArchiveColumnDef) (cs : List ArchiveColumnDef) → list_all has_column_fields (c ∷ cs) ≡ true → (has_field c.name ≡ true) × (has_type_field c.field_type ≡ true) × (list_all has_column_fields cs ≡ true)
column_parts c cs h =
    let p = and_parts (has_column_fields c) (list_all has_column_fields cs) h in
    let q = and_parts (has_field c.name) (has_type_field c.field_type) p.0 in
    (q.0, q.1, p.1)

names_plain : (cs : List ArchiveColumnDef) → list_all has_column_fields cs ≡ true → AllByRecursion IsPlain (name_fields cs) × AllByRecursion IsFilled (name_fields cs)
names_plain [] h = (tt, tt)
names_plain (c ∷ cs) h = let p = column_parts c cs h in let r = names_plain cs p.2 in ((field_plain c.name p.0, r.0), (field_filled c.name p.0, r.1))

types_plain : (cs : List ArchiveColumnDef) → list_all has_column_fields cs ≡ true → AllByRecursion IsPlain (type_fields cs) × AllByRecursion IsFilled (type_fields cs)
types_plain [] h = (tt, tt)
types_plain (c ∷ cs) h = let p = column_parts c cs h in let r = types_plain cs p.2 in ((type_plain c.field_type p.1, r.0), (type_filled c.field_type, r.1))

columns_back : (cs : List ArchiveColumnDef) → list_all has_column_fields cs ≡ true → MeanColumns (name_fields cs) (type_fields cs) cs
columns_back [] h = tt
columns_back (c ∷ cs) h = let p = column_parts c cs h in (text_back c.name p.0, type_back c.field_type p.1, columns_back cs p.2)

-- ---- keys

table_told : (page : Option ℕ) (table : List ℕ) → has_table_field page table ≡ true → has_field table ≡ true
table_told None table h = (and_parts _ _ h).0
table_told (Some page) table h = (and_parts _ _ h).0

not_some : (o : Option ℕ) → not (is_some o) ≡ true → o ≡ None
not_some None h = refl
not_some (Some n) h = absurd cc

page_back : (page : Option ℕ) (table : List ℕ) → has_table_field page table ≡ true → MeansPage (page_fields page) (text_field table) page
page_back None table h = (refl, u16_swapped table ∙ not_some (u16_in table) (and_parts (has_field table) (not (is_some (u16_in table))) h).1)
page_back (Some page) table h = (decimal page, refl, u16_back page ((Decides-ltb page (2 ^ 16)).0 (and_parts _ _ h).1))

keys_back : (keys : List (List ℕ)) → list_all has_field keys ≡ true → AllZip MeansText (map text_field keys) keys
keys_back [] h = tt
keys_back (k ∷ ks) h = let p = and_parts (has_field k) (list_all has_field ks) h in (text_back k p.0, keys_back ks p.1)

keys_plain : (keys : List (List ℕ)) → list_all has_field keys ≡ true → AllByRecursion IsPlain (map text_field keys)
keys_plain [] h = tt
keys_plain (k ∷ ks) h = let p = and_parts (has_field k) (list_all has_field ks) h in (field_plain k p.0, keys_plain ks p.1)

paged_plain : (page : Option ℕ) (table : List ℕ) (fs : List (List ℕ)) → has_table_field page table ≡ true → AllByRecursion IsPlain fs → AllByRecursion IsPlain (page_fields page ++ text_field table ∷ fs)
paged_plain None table fs h all = (field_plain table (table_told None table h), all)
paged_plain (Some page) table fs h all = (decimal_plain page (omega (arith, (Decides-ltb page (2 ^ 16)).0 (and_parts (has_field table) _ h).1)), (field_plain table (table_told (Some page) table h), all))

paged_filled : (page : Option ℕ) (table : List ℕ) (fs : List (List ℕ)) → 0 < length (page_fields page ++ text_field table ∷ fs)
paged_filled None table fs = omega arith
paged_filled (Some page) table fs = omega arith

head_parts : (head : KeysDef) → has_key_fields head ≡ true → (has_table_field head.page head.table ≡ true) × (list_all has_field head.keys ≡ true)
head_parts head h = and_parts (has_table_field head.page head.table) (list_all has_field head.keys) h

head_plain : (head : KeysDef) → has_key_fields head ≡ true → AllByRecursion IsPlain (key_fields head)
head_plain head h = let p = head_parts head h in paged_plain head.page head.table (map text_field head.keys) p.0 (keys_plain head.keys p.1)

head_back : (head : KeysDef) → has_key_fields head ≡ true → MeanKeys (fields (tabbed (key_fields head))) head
head_back head h =
    let p = head_parts head h in
    record {
      front = page_fields head.page;
      table = text_field head.table;
      keys = map text_field head.keys;
      parts = fields_back (key_fields head) (paged_filled head.page head.table (map text_field head.keys)) (head_plain head h);
      page = page_back head.page head.table p.0;
      name = text_back head.table (table_told head.page head.table p.0);
      named = keys_back head.keys p.1;
    }

-- ---- rows

row_back : (cs : List ArchiveColumnDef) (row : List Value) → has_row_fields cs row ≡ true → MeanRow cs (map value_field row) row × AllByRecursion IsPlain (map value_field row)
row_back [] [] h = (tt, tt)
row_back [] (v ∷ vs) h = absurd cc
row_back (c ∷ cs) [] h = absurd cc
row_back (c ∷ cs) (v ∷ vs) h =
    let p = and_parts (has_value_field c.field_type.coltype v) (has_row_fields cs vs) h in
    let r = row_back cs vs p.1 in
    ((value_back c.field_type.coltype v p.0, r.0), (value_plain c.field_type.coltype v p.0, r.1))

row_filled : (cs : List ArchiveColumnDef) (row : List Value) → has_row_line cs row ≡ true → (0 < length (map value_field row)) × (has_row_fields cs row ≡ true)
row_filled [] row h = absurd cc
row_filled (c ∷ cs) [] h = absurd cc
row_filled (c ∷ cs) (v ∷ vs) h = (omega arith, h)

abbrev row_text : List Value → List ℕ
row_text row = tabbed (map value_field row)

rows_back : (cs : List ArchiveColumnDef) (rows : List (List Value)) → list_all (has_row_line cs) rows ≡ true → AllZip (λ line row. MeanRow cs (fields line) row) (map row_text rows) rows
rows_back cs [] h = tt
rows_back cs (row ∷ rows) h =
    let p = and_parts (has_row_line cs row) (list_all (has_row_line cs) rows) h in
    let f = row_filled cs row p.0 in
    let r = row_back cs row f.1 in
    (subst (λ parts. MeanRow cs parts row) (sym (fields_back (map value_field row) f.0 r.1)) r.0, rows_back cs rows p.1)

rows_lines : (cs : List ArchiveColumnDef) (rows : List (List Value)) → list_all (has_row_line cs) rows ≡ true → lines (flat_map row_line rows) ≡ map row_text rows
rows_lines cs [] h = refl
rows_lines cs (row ∷ rows) h =
    let p = and_parts (has_row_line cs row) (list_all (has_row_line cs) rows) h in
    let r = row_back cs row (row_filled cs row p.0).1 in
    line_back (row_text row) (flat_map row_line rows) (feedless (map value_field row) r.1)
    ∙ ap (λ ls. row_text row ∷ ls) (rows_lines cs rows p.1)

-- ---- archives

text_lines : (names types keys : List (List ℕ)) (rest : List ℕ) → AllByRecursion IsPlain names → AllByRecursion IsPlain types → AllByRecursion IsPlain keys
    → lines (line_of names ++ (line_of types ++ (line_of keys ++ rest))) ≡ tabbed names ∷ tabbed types ∷ tabbed keys ∷ lines rest
text_lines names types keys rest n t k =
    line_back (tabbed names) (line_of types ++ (line_of keys ++ rest)) (feedless names n)
    ∙ (ap (λ ls. tabbed names ∷ ls) (line_back (tabbed types) (line_of keys ++ rest) (feedless types t))
    ∙ ap (λ ls. tabbed names ∷ tabbed types ∷ ls) (line_back (tabbed keys) rest (feedless keys k)))

pub written_means : (archive : ArchiveDef) → can_write archive ≡ true → Means (archive_text archive) archive
written_means archive h =
    let p = and_parts (list_all has_column_fields archive.columns) (has_key_fields archive.head && list_all (has_row_line archive.columns) archive.rows) h in
    let q = and_parts (has_key_fields archive.head) (list_all (has_row_line archive.columns) archive.rows) p.1 in
    let names = names_plain archive.columns p.0 in
    let types = types_plain archive.columns p.0 in
    record {
      names = tabbed (name_fields archive.columns);
      types = tabbed (type_fields archive.columns);
      keys = tabbed (key_fields archive.head);
      others = map row_text archive.rows;
      parts = text_lines (name_fields archive.columns) (type_fields archive.columns) (key_fields archive.head) (flat_map row_line archive.rows) names.0 types.0 (head_plain archive.head q.0)
          ∙ ap (λ ls. tabbed (name_fields archive.columns) ∷ tabbed (type_fields archive.columns) ∷ tabbed (key_fields archive.head) ∷ ls) (rows_lines archive.columns archive.rows q.1);
      columns = subst (λ ns. MeanColumns ns (header_fields (tabbed (type_fields archive.columns))) archive.columns) (sym (header_back (name_fields archive.columns) names.1 names.0))
          (subst (λ ts. MeanColumns (name_fields archive.columns) ts archive.columns) (sym (header_back (type_fields archive.columns) types.1 types.0)) (columns_back archive.columns p.0));
      head = head_back archive.head q.0;
      rows = rows_back archive.columns archive.rows q.1;
    }

-- ---- row by row

lines_behind : (names types keys rows : List ℕ) → names ++ (types ++ (keys ++ rows)) ≡ (names ++ (types ++ (keys ++ []))) ++ rows
lines_behind names types keys rows =
    sym (append_assoc names (types ++ (keys ++ [])) rows
    ∙ ap (λ line. names ++ line) (append_assoc types (keys ++ []) rows ∙ ap (λ line. types ++ (line ++ rows)) (append-nil keys)))

tests_behind : (columns head rows : Bool) → (columns && (head && rows)) ≡ ((columns && (head && true)) && rows)
tests_behind true true rows = refl
tests_behind true false rows = refl
tests_behind false head rows = refl

pub rows_behind : (archive : ArchiveDef) → LinesBehind archive × WrittenByRows archive
rows_behind archive = (
  lines_behind (line_of (name_fields archive.columns)) (line_of (type_fields archive.columns)) (line_of (key_fields archive.head)) (flat_map row_line archive.rows),
  tests_behind (list_all has_column_fields archive.columns) (has_key_fields archive.head) (list_all (has_row_line archive.columns) archive.rows),
)
