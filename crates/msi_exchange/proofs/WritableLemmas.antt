-- An archive that a text means can be written.
use Rattle.std.proofs.Common.{◌≡◌, ◌≢◌, ℕ, suc, ◌^◌, ◌<◌, Bool, true, false, not, ◌==◌, ◌&&◌, List, [], ◌∷◌, Option, Some, None, refl, sym, ap, ◌∙◌, arith, length, is_some, ltb, ◌≤◌, ◌+◌, drop, get_or, ne_eqb}
use Rattle.std.specs.List.{AllZip, list_all}
use Rattle.std.proofs.lemmas.Bool.{and_from}
use Rattle.std.proofs.lemmas.Bool.Decides.{Decides-ltb}
use Rattle.std.proofs.lemmas.List.{drop_all}
use Rattle.msi_base.proofs.ListLemmas.{drop_next}
use Rattle.msi_table_values.specs.Numerals.{u16_in}
use Rattle.msi_table_values.specs.declared.value.Value.{Value}
use Rattle.msi_exchange.specs.Archives.{ArchiveColumnDef, ArchiveDef}
use Rattle.msi_exchange.specs.Fields.{fields, header_fields, text_in}
use Rattle.msi_exchange.specs.TextArchives.{MeanColumns, MeanRow, Means, MeansPage, MeansText}
use Rattle.msi_exchange.specs.Writing.{can_write, has_column_fields, has_field, has_key_fields, has_row_fields, has_row_line, has_table_field, has_type_field, has_value_field}
use Rattle.msi_exchange.proofs.FieldLemmas.{text_parts, text_told, value_told}
use Rattle.msi_exchange.proofs.LineLemmas.{some_field}
use Rattle.msi_exchange.proofs.NumeralLemmas.{u16_below, u16_swapped}
use Rattle.msi_exchange.proofs.TypeFieldLemmas.{type_told}

columns_have : (names types : List (List ℕ)) (columns : List ArchiveColumnDef) → MeanColumns names types columns → list_all has_column_fields columns ≡ true
columns_have [] [] [] h = refl
columns_have [] [] (c ∷ cs) h = absurd h
columns_have [] (t ∷ ts) columns h = absurd h
columns_have (n ∷ ns) [] columns h = absurd h
columns_have (n ∷ ns) (t ∷ ts) [] h = absurd h
columns_have (n ∷ ns) (t ∷ ts) (c ∷ cs) h =
    and_from (has_column_fields c) (list_all has_column_fields cs)
    (and_from (has_field c.name) (has_type_field c.field_type) (text_told n c.name h.0) (type_told t c.field_type h.1))
    (columns_have ns ts cs h.2)

keys_have : (keys texts : List (List ℕ)) → AllZip MeansText keys texts → list_all has_field texts ≡ true
keys_have [] [] h = refl
keys_have [] (t ∷ ts) h = absurd h
keys_have (k ∷ ks) [] h = absurd h
keys_have (k ∷ ks) (t ∷ ts) h = and_from (has_field t) (list_all has_field ts) (text_told k t h.0) (keys_have ks ts h.1)

table_has : (page : Option ℕ) (front : List (List ℕ)) (table name : List ℕ) → MeansPage front table page → text_in table ≡ Some name → has_table_field page name ≡ true
table_has None front table name p t =
    let none : u16_in name ≡ None = ap u16_in (sym (text_parts table name t).2) ∙ (u16_swapped table ∙ p.1) in
    and_from (has_field name) (not (is_some (u16_in name))) (text_told table name t) (ap (λ o. not (is_some o)) none)
table_has (Some page) front table name p t = and_from (has_field name) (ltb page (2 ^ 16)) (text_told table name t) ((Decides-ltb page (2 ^ 16)).1 (u16_below p.0 page p.2))

row_has : (columns : List ArchiveColumnDef) (parts : List (List ℕ)) (row : List Value) → MeanRow columns parts row → has_row_fields columns row ≡ true
row_has [] [] [] h = refl
row_has [] [] (v ∷ vs) h = absurd h
row_has [] (f ∷ fs) row h = absurd h
row_has (c ∷ cs) [] row h = absurd h
row_has (c ∷ cs) (f ∷ fs) [] h = absurd h
row_has (c ∷ cs) (f ∷ fs) (v ∷ vs) h = and_from (has_value_field c.field_type.coltype v) (has_row_fields cs vs) (value_told c.field_type.coltype f v h.0) (row_has cs fs vs h.1)

line_has : (columns : List ArchiveColumnDef) (parts : List (List ℕ)) (row : List Value) → 0 < length parts → MeanRow columns parts row → has_row_line columns row ≡ true
line_has [] [] row l h = absurd (omega (arith, l))
line_has [] (f ∷ fs) row l h = absurd h
line_has (c ∷ cs) parts row l h = row_has (c ∷ cs) parts row h

rows_have : (columns : List ArchiveColumnDef) (others : List (List ℕ)) (rows : List (List Value)) → AllZip (λ line row. MeanRow columns (fields line) row) others rows → list_all (has_row_line columns) rows ≡ true
rows_have columns [] [] h = refl
rows_have columns [] (r ∷ rs) h = absurd h
rows_have columns (l ∷ ls) [] h = absurd h
rows_have columns (l ∷ ls) (r ∷ rs) h = and_from (has_row_line columns r) (list_all (has_row_line columns) rs) (line_has columns (fields l) r (some_field l) h.0) (rows_have columns ls rs h.1)

pub means_writable : (text : List ℕ) (archive : ArchiveDef) → Means text archive → can_write archive ≡ true
means_writable text archive m =
    and_from (list_all has_column_fields archive.columns) (has_key_fields archive.head && list_all (has_row_line archive.columns) archive.rows)
    (columns_have (header_fields m.names) (header_fields m.types) archive.columns m.columns)
    (and_from (has_key_fields archive.head) (list_all (has_row_line archive.columns) archive.rows)
    (and_from (has_table_field archive.head.page archive.head.table) (list_all has_field archive.head.keys) (table_has archive.head.page m.head.front m.head.table archive.head.table m.head.page m.head.name) (keys_have m.head.keys archive.head.keys m.head.named))
    (rows_have archive.columns m.others archive.rows m.rows))

-- ---- rows that aren't as long as the columns

and_false : (a b : Bool) → b ≡ false → (a && b) ≡ false
and_false true b e = e
and_false false b e = refl

fields_uneven : (columns : List ArchiveColumnDef) (row : List Value) → length columns ≢ length row → has_row_fields columns row ≡ false
fields_uneven [] [] h = absurd (h refl)
fields_uneven [] (v ∷ vs) h = refl
fields_uneven (c ∷ cs) [] h = refl
fields_uneven (c ∷ cs) (v ∷ vs) h = and_false (has_value_field c.field_type.coltype v) (has_row_fields cs vs) (fields_uneven cs vs (λ e. h (ap suc e)))

pub row_uneven : (columns : List ArchiveColumnDef) (row : List Value) → length columns ≢ length row → has_row_line columns row ≡ false
row_uneven [] row h = refl
row_uneven (c ∷ cs) row h = fields_uneven (c ∷ cs) row h

-- ---- the values of a row, one after another

module _ (columns : List ArchiveColumnDef) (row : List Value) (i : ℕ) (whole : Bool) (same : length columns ≡ length row) (so_far : has_row_fields (drop i columns) (drop i row) ≡ whole) where
  next : (c : ArchiveColumnDef) (v : Value) → i < length columns → c ≡ get_or columns i c → v ≡ get_or row i v
      → (has_value_field c.field_type.coltype v && has_row_fields (drop (i + 1) columns) (drop (i + 1) row)) ≡ whole
  next c v within is also =
      ap (λ (cs : List ArchiveColumnDef). has_row_fields cs (v ∷ drop (i + 1) row)) (sym (drop_next columns i c within is))
      ∙ ap (has_row_fields (drop i columns)) (sym (drop_next row i v (omega arith) also)) ∙ so_far

  pub value_more : (c : ArchiveColumnDef) (v : Value) → i < length columns → c ≡ get_or columns i c → v ≡ get_or row i v → has_value_field c.field_type.coltype v ≡ true
      → has_row_fields (drop (i + 1) columns) (drop (i + 1) row) ≡ whole
  value_more c v within is also t = sym (ap (λ b. b && has_row_fields (drop (i + 1) columns) (drop (i + 1) row)) t) ∙ next c v within is also

  pub value_stopped : (c : ArchiveColumnDef) (v : Value) → i < length columns → c ≡ get_or columns i c → v ≡ get_or row i v → has_value_field c.field_type.coltype v ≡ false → whole ≡ false
  value_stopped c v within is also f = sym (next c v within is also) ∙ ap (λ b. b && has_row_fields (drop (i + 1) columns) (drop (i + 1) row)) f

  pub values_ended : length row ≤ i → whole ≡ true
  values_ended past = sym so_far ∙ ap (λ (cs : List ArchiveColumnDef). has_row_fields cs (drop i row)) (drop_all i columns (omega arith)) ∙ ap (has_row_fields []) (drop_all i row past)

pub line_is : (columns : List ArchiveColumnDef) (row : List Value) → 0 < length columns → has_row_line columns row ≡ has_row_fields columns row
line_is [] row l = absurd (omega (arith, l))
line_is (c ∷ cs) row l = refl

pub some_columns : (columns : List ArchiveColumnDef) → not (length columns == 0) ≡ true → 0 < length columns
some_columns [] e = cc
some_columns (c ∷ cs) e = omega arith

pub no_line : (columns : List ArchiveColumnDef) (row : List Value) → not (length columns == 0) ≡ false → has_row_line columns row ≡ false
no_line [] row e = refl
no_line (c ∷ cs) row e =
    let some : not (length (c ∷ cs) == 0) ≡ true = ap not (ne_eqb (length (c ∷ cs)) 0 (λ z. omega arith)) in
    let clash : true ≡ false = sym some ∙ e in
    cc
