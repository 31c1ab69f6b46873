-- Reading gives an archive exactly where the text means it.
use Rattle.std.proofs.Common.{◌≡◌, ℕ, List, [], ◌∷◌, ◌++◌, Option, Some, None, Result, Ok, Err, refl, sym, ap, ◌∙◌, subst}
use Rattle.std.specs.Prelude.{IfOk}
use Rattle.std.specs.List.{AllZip}
use Rattle.std.specs.Str.Lines.{lines}
use Rattle.msi_table_values.specs.Numerals.{u16_in}
use Rattle.msi_base.specs.Results.{◌>>=◌}
use Rattle.msi_base.proofs.OptionLemmas.{bind_some, none_is}
use Rattle.msi_table_values.specs.declared.value.Value.{Value}
use Rattle.msi_exchange.specs.Archives.{ArchiveColumnDef, ArchiveDef, KeysDef}
use Rattle.msi_exchange.specs.Fields.{fields, header_fields, text_in, value_in}
use Rattle.msi_exchange.specs.Lists.{each, each_pair}
use Rattle.msi_exchange.specs.Places.{Fault, Gives}
use Rattle.msi_exchange.specs.Reading.{archive_in, archive_of, archive_of_lines, cell_in, column_in, columns_in, keys_behind, keys_in, keys_with, row_in}
use Rattle.msi_exchange.specs.TextArchives.{MeanColumns, MeanKeys, MeanRow, Means, MeansPage, MeansText}
use Rattle.msi_exchange.specs.TypeFields.{type_in}
use Rattle.msi_exchange.proofs.ListLemmas.{each_first, each_more, each_pair_first, each_pair_more}

-- ---- columns

column_read : (name type : List ℕ) (column : ArchiveColumnDef) → text_in name ≡ Some column.name → type_in type ≡ Some column.field_type → column_in name type ≡ Some column
unfolding column_in
column_read name type column n t =
    ap (λ o. o >>= λ name. type_in type >>= λ type. Some (record { name = name; field_type = type })) n
    ∙ ap (λ o. o >>= λ type. Some (record { name = column.name; field_type = type })) t

column_told : (name type : List ℕ) (column : ArchiveColumnDef) → column_in name type ≡ Some column → (text_in name ≡ Some column.name) × (type_in type ≡ Some column.field_type)
unfolding column_in
column_told name type column e =
    let (text, n, rest) = bind_some (text_in name) (λ name. type_in type >>= λ type. Some (record { name = name; field_type = type })) column e in
    let (kind, t, same) = bind_some (type_in type) (λ type. Some (record { name = text; field_type = type })) column rest in
    let c : record { name = text; field_type = kind } ≡ column = cc in
    (n ∙ ap (λ (c : ArchiveColumnDef). Some c.name) c, t ∙ ap (λ (c : ArchiveColumnDef). Some c.field_type) c)

columns_read : (names types : List (List ℕ)) (columns : List ArchiveColumnDef) → MeanColumns names types columns → each_pair column_in names types ≡ Some columns
columns_read [] [] [] h = refl
columns_read [] [] (c ∷ cs) h = absurd h
columns_read [] (t ∷ ts) columns h = absurd h
columns_read (n ∷ ns) [] columns h = absurd h
columns_read (n ∷ ns) (t ∷ ts) [] h = absurd h
columns_read (n ∷ ns) (t ∷ ts) (c ∷ cs) h = each_pair_more column_in n ns t ts c cs (column_read n t c h.0 h.1) (columns_read ns ts cs h.2)

columns_told : (names types : List (List ℕ)) (columns : List ArchiveColumnDef) → each_pair column_in names types ≡ Some columns → MeanColumns names types columns
columns_told [] [] [] e = tt
columns_told [] [] (c ∷ cs) e = absurd cc
columns_told [] (t ∷ ts) columns e = none_is e
columns_told (n ∷ ns) [] columns e = none_is e
columns_told (n ∷ ns) (t ∷ ts) [] e = let (z, zs, is, are, same) = each_pair_first column_in n ns t ts [] e in absurd cc
columns_told (n ∷ ns) (t ∷ ts) (c ∷ cs) e =
    let (z, zs, is, are, same) = each_pair_first column_in n ns t ts (c ∷ cs) e in
    let first : z ≡ c = cc in
    let rest : zs ≡ cs = cc in
    let p = column_told n t c (is ∙ ap Some first) in
    (p.0, p.1, columns_told ns ts cs (are ∙ ap Some rest))

-- ---- keys

texts_read : (keys texts : List (List ℕ)) → AllZip MeansText keys texts → each text_in keys ≡ Some texts
texts_read [] [] h = refl
texts_read [] (t ∷ ts) h = absurd h
texts_read (k ∷ ks) [] h = absurd h
texts_read (k ∷ ks) (t ∷ ts) h = each_more text_in k ks t ts h.0 (texts_read ks ts h.1)

texts_told : (keys texts : List (List ℕ)) → each text_in keys ≡ Some texts → AllZip MeansText keys texts
texts_told [] [] e = tt
texts_told [] (t ∷ ts) e = absurd cc
texts_told (k ∷ ks) [] e = let (z, zs, is, are, same) = each_first text_in k ks [] e in absurd cc
texts_told (k ∷ ks) (t ∷ ts) e =
    let (z, zs, is, are, same) = each_first text_in k ks (t ∷ ts) e in
    let first : z ≡ t = cc in
    let rest : zs ≡ ts = cc in
    (is ∙ ap Some first, texts_told ks ts (are ∙ ap Some rest))

keys_with_read : (page : Option ℕ) (table : List ℕ) (keys : List (List ℕ)) (name : List ℕ) (texts : List (List ℕ)) → text_in table ≡ Some name → each text_in keys ≡ Some texts → keys_with page table keys ≡ Some (record { page = page; table = name; keys = texts })
unfolding keys_with
keys_with_read page table keys name texts t k =
    ap (λ o. o >>= λ table. each text_in keys >>= λ keys. Some (record { page = page; table = table; keys = keys })) t
    ∙ ap (λ o. o >>= λ keys. Some (record { page = page; table = name; keys = keys })) k

record KeysTold (page : Option ℕ) (table : List ℕ) (keys : List (List ℕ)) (head : KeysDef) : Type 0 where
  page_is : page ≡ head.page
  table_is : text_in table ≡ Some head.table
  keys_are : AllZip MeansText keys head.keys

keys_with_told : (page : Option ℕ) (table : List ℕ) (keys : List (List ℕ)) (head : KeysDef) → keys_with page table keys ≡ Some head → KeysTold page table keys head
unfolding keys_with
keys_with_told page table keys head e =
    let (name, t, rest) = bind_some (text_in table) (λ table. each text_in keys >>= λ keys. Some (record { page = page; table = table; keys = keys })) head e in
    let (texts, k, same) = bind_some (each text_in keys) (λ keys. Some (record { page = page; table = name; keys = keys })) head rest in
    let h : record { page = page; table = name; keys = texts } ≡ head = cc in
    record {
      page_is = ap (λ (h : KeysDef). h.page) h;
      table_is = t ∙ ap (λ (h : KeysDef). Some h.table) h;
      keys_are = texts_told keys head.keys (k ∙ ap (λ (h : KeysDef). Some h.keys) h);
    }

keys_read : (page : Option ℕ) (name : List ℕ) (texts front : List (List ℕ)) (table : List ℕ) (keys : List (List ℕ)) → MeansPage front table page → text_in table ≡ Some name → AllZip MeansText keys texts
    → keys_in (front ++ table ∷ keys) ≡ Some (record { page = page; table = name; keys = texts })
keys_read None name texts front table keys p t k =
    ap (λ (f : List (List ℕ)). keys_in (f ++ table ∷ keys)) p.0
    ∙ (ap (λ o. keys_behind o table keys) p.1 ∙ keys_with_read None table keys name texts t (texts_read keys texts k))
keys_read (Some page) name texts front table keys p t k =
    ap (λ (f : List (List ℕ)). keys_in (f ++ table ∷ keys)) p.1
    ∙ (ap (λ o. keys_behind o p.0 (table ∷ keys)) p.2 ∙ keys_with_read (Some page) table keys name texts t (texts_read keys texts k))

keys_behind_told : (o : Option ℕ) (first : List ℕ) (others : List (List ℕ)) (head : KeysDef) → u16_in first ≡ o → keys_behind o first others ≡ Some head → MeanKeys (first ∷ others) head
keys_behind_told None first others head p e =
    let h = keys_with_told None first others head e in
    record { front = []; table = first; keys = others; parts = refl; page = subst (λ page. MeansPage [] first page) h.page_is (refl, p); name = h.table_is; named = h.keys_are }
keys_behind_told (Some page) first [] head p e = none_is e
keys_behind_told (Some page) first (table ∷ keys) head p e =
    let h = keys_with_told (Some page) table keys head e in
    record { front = first ∷ []; table = table; keys = keys; parts = refl; page = subst (λ page. MeansPage (first ∷ []) table page) h.page_is (first, refl, p); name = h.table_is; named = h.keys_are }

keys_told : (line : List (List ℕ)) (head : KeysDef) → keys_in line ≡ Some head → MeanKeys line head
keys_told [] head e = none_is e
keys_told (first ∷ others) head e = keys_behind_told (u16_in first) first others head refl e

-- ---- rows

cell_read : (column : ArchiveColumnDef) (field : List ℕ) (value : Value) → value_in column.field_type.coltype field ≡ Some value → cell_in column field ≡ Some value
unfolding cell_in
cell_read column field value e = e

cell_told : (column : ArchiveColumnDef) (field : List ℕ) (value : Value) → cell_in column field ≡ Some value → value_in column.field_type.coltype field ≡ Some value
unfolding cell_in
cell_told column field value e = e

fields_read : (columns : List ArchiveColumnDef) (parts : List (List ℕ)) (row : List Value) → MeanRow columns parts row → each_pair cell_in columns parts ≡ Some row
fields_read [] [] [] h = refl
fields_read [] [] (v ∷ vs) h = absurd h
fields_read [] (f ∷ fs) row h = absurd h
fields_read (c ∷ cs) [] row h = absurd h
fields_read (c ∷ cs) (f ∷ fs) [] h = absurd h
fields_read (c ∷ cs) (f ∷ fs) (v ∷ vs) h = each_pair_more cell_in c cs f fs v vs (cell_read c f v h.0) (fields_read cs fs vs h.1)

fields_told : (columns : List ArchiveColumnDef) (parts : List (List ℕ)) (row : List Value) → each_pair cell_in columns parts ≡ Some row → MeanRow columns parts row
fields_told [] [] [] e = tt
fields_told [] [] (v ∷ vs) e = absurd cc
fields_told [] (f ∷ fs) row e = none_is e
fields_told (c ∷ cs) [] row e = none_is e
fields_told (c ∷ cs) (f ∷ fs) [] e = let (z, zs, is, are, same) = each_pair_first cell_in c cs f fs [] e in absurd cc
fields_told (c ∷ cs) (f ∷ fs) (v ∷ vs) e =
    let (z, zs, is, are, same) = each_pair_first cell_in c cs f fs (v ∷ vs) e in
    let first : z ≡ v = cc in
    let rest : zs ≡ vs = cc in
    (cell_told c f v (is ∙ ap Some first), fields_told cs fs vs (are ∙ ap Some rest))

row_read : (columns : List ArchiveColumnDef) (line : List ℕ) (row : List Value) → MeanRow columns (fields line) row → row_in columns line ≡ Some row
unfolding row_in
row_read columns line row h = fields_read columns (fields line) row h

row_told : (columns : List ArchiveColumnDef) (line : List ℕ) (row : List Value) → row_in columns line ≡ Some row → MeanRow columns (fields line) row
unfolding row_in
row_told columns line row e = fields_told columns (fields line) row e

rows_read : (columns : List ArchiveColumnDef) (others : List (List ℕ)) (rows : List (List Value)) → AllZip (λ line row. MeanRow columns (fields line) row) others rows → each (row_in columns) others ≡ Some rows
rows_read columns [] [] h = refl
rows_read columns [] (r ∷ rs) h = absurd h
rows_read columns (l ∷ ls) [] h = absurd h
rows_read columns (l ∷ ls) (r ∷ rs) h = each_more (row_in columns) l ls r rs (row_read columns l r h.0) (rows_read columns ls rs h.1)

rows_told : (columns : List ArchiveColumnDef) (others : List (List ℕ)) (rows : List (List Value)) → each (row_in columns) others ≡ Some rows → AllZip (λ line row. MeanRow columns (fields line) row) others rows
rows_told columns [] [] e = tt
rows_told columns [] (r ∷ rs) e = absurd cc
rows_told columns (l ∷ ls) [] e = let (z, zs, is, are, same) = each_first (row_in columns) l ls [] e in absurd cc
rows_told columns (l ∷ ls) (r ∷ rs) e =
    let (z, zs, is, are, same) = each_first (row_in columns) l ls (r ∷ rs) e in
    let first : z ≡ r = cc in
    let rest : zs ≡ rs = cc in
    (row_told columns l r (is ∙ ap Some first), rows_told columns ls rs (are ∙ ap Some rest))

-- ---- archives

lines_read : (names types keys : List ℕ) (others : List (List ℕ)) (archive : ArchiveDef) → columns_in names types ≡ Some archive.columns → keys_in (fields keys) ≡ Some archive.head → each (row_in archive.columns) others ≡ Some archive.rows → archive_of names types keys others ≡ Some archive
unfolding archive_of
lines_read names types keys others archive c k r =
    ap (λ o. o >>= λ columns. keys_in (fields keys) >>= λ head. each (row_in columns) others >>= λ rows. Some (record { head = head; columns = columns; rows = rows })) c
    ∙ (ap (λ o. o >>= λ head. each (row_in archive.columns) others >>= λ rows. Some (record { head = head; columns = archive.columns; rows = rows })) k
    ∙ ap (λ o. o >>= λ rows. Some (record { head = archive.head; columns = archive.columns; rows = rows })) r)

heads_read : (names types : List ℕ) (columns : List ArchiveColumnDef) → MeanColumns (header_fields names) (header_fields types) columns → columns_in names types ≡ Some columns
unfolding columns_in
heads_read names types columns h = columns_read (header_fields names) (header_fields types) columns h

heads_told : (names types : List ℕ) (columns : List ArchiveColumnDef) → columns_in names types ≡ Some columns → MeanColumns (header_fields names) (header_fields types) columns
unfolding columns_in
heads_told names types columns e = columns_told (header_fields names) (header_fields types) columns e

-- what a text means is read
pub means_read : (text : List ℕ) (archive : ArchiveDef) → Means text archive → archive_in text ≡ Some archive
means_read text archive m =
    ap archive_of_lines m.parts
    ∙ lines_read m.names m.types m.keys m.others archive
    (heads_read m.names m.types archive.columns m.columns)
    (ap keys_in m.head.parts ∙ keys_read archive.head.page archive.head.table archive.head.keys m.head.front m.head.table m.head.keys m.head.page m.head.name m.head.named)
    (rows_read archive.columns m.others archive.rows m.rows)

archive_told : (text names types keys : List ℕ) (others : List (List ℕ)) (archive : ArchiveDef) → lines text ≡ names ∷ types ∷ keys ∷ others → archive_of names types keys others ≡ Some archive → Means text archive
unfolding archive_of
archive_told text names types keys others archive l e =
    let (columns, c, behind) = bind_some (columns_in names types) (λ columns. keys_in (fields keys) >>= λ head. each (row_in columns) others >>= λ rows. Some (record { head = head; columns = columns; rows = rows })) archive e in
    let (head, k, last) = bind_some (keys_in (fields keys)) (λ head. each (row_in columns) others >>= λ rows. Some (record { head = head; columns = columns; rows = rows })) archive behind in
    let (rows, r, same) = bind_some (each (row_in columns) others) (λ rows. Some (record { head = head; columns = columns; rows = rows })) archive last in
    let a : record { head = head; columns = columns; rows = rows } ≡ archive = cc in
    subst (Means text) a (record {
      names = names;
      types = types;
      keys = keys;
      others = others;
      parts = l;
      columns = heads_told names types columns c;
      head = keys_told (fields keys) head k;
      rows = rows_told columns others rows r;
    })

lines_told : (text : List ℕ) (ls : List (List ℕ)) (archive : ArchiveDef) → lines text ≡ ls → archive_of_lines ls ≡ Some archive → Means text archive
lines_told text [] archive l e = none_is e
lines_told text (names ∷ []) archive l e = none_is e
lines_told text (names ∷ types ∷ []) archive l e = none_is e
lines_told text (names ∷ types ∷ keys ∷ others) archive l e = archive_told text names types keys others archive l e

-- what is read of a text is what it means
pub read_means : (text : List ℕ) (archive : ArchiveDef) → archive_in text ≡ Some archive → Means text archive
read_means text archive e = lines_told text (lines text) archive refl e

pub one_archive : (text : List ℕ) (a b : ArchiveDef) → Means text a → Means text b → a ≡ b
one_archive text a b m n = let e : Some a ≡ Some b = sym (means_read text a m) ∙ means_read text b n in cc

-- ---- what a call returned

pub given_means : (result : Result ArchiveDef Fault) (text : List ℕ) → Gives (λ archive. archive) result (archive_in text) → IfOk result (λ archive. Means text archive)
given_means (Ok archive) text h = read_means text archive h
given_means (Err kind) text h = tt

pub meaning_given : (result : Result ArchiveDef Fault) (text : List ℕ) (archive : ArchiveDef) → Gives (λ a. a) result (archive_in text) → Means text archive → Gives (λ a. a) result (Some archive)
meaning_given result text archive h m = subst (λ read. Gives (λ a. a) result read) (means_read text archive m) h
