-- The streams of rows: their names, value by value, and what cells say of them, cell by cell.
use Rattle.std.proofs.Common.{◌≡◌, ℕ, ◌+◌, ◌<◌, ◌≤◌, Bool, true, false, List, [], ◌∷◌, ◌++◌, length, drop, get_or, zip, refl, sym, ap, ◌∙◌, ◌⊎◌, inl, inr}
use Rattle.std.specs.Prelude.{Option, Some, None, unwrap_or, if◌then◌else◌}
use Rattle.std.specs.FinMap.{FinMap, entries, get, get-entries}
use Rattle.std.specs.List.{flat_map, fold}
use Rattle.std.proofs.lemmas.List.{append-nil, append_assoc, drop_all, drop_more}
use Rattle.msi_container_format.specs.Names.{name_cmp}
use Rattle.msi_table_cells.specs.declared.cell.ValueRef.{ValueRef}
use Rattle.msi_table_values.specs.declared.value.Value.{Value}
use Rattle.msi_table_values.specs.declared.views.ValueView.{ValueView}
use Rattle.msi_table_values.specs.declared.column.ColumnType.{ColumnType}
use Rattle.msi_table_values.specs.Columns.{ColumnDef, types_of}
use Rattle.msi_table_values.specs.Views.{seen_value}
use Rattle.msi_database_changes.specs.Views.{seen_row}
use Rattle.msi_database_storage.specs.Streams.{stream_at}
use Rattle.msi_transform_rows.specs.RowStreams.{is_of_streams, is_stream, key_text, told_beside, told_stream}
use Rattle.msi_transform_rows.specs.declared.row.RowStream.{RowStream}
use Rattle.msi_transform_rows.specs.declared.row.RowStream.TheVariants.{Gone, Brought}

abbrev pub key_texts : List Value → List ℕ
key_texts key = flat_map (λ v. 46 ∷ key_text v) key

-- the text of the values in front, with one more
pub key_text_more : (key : List ValueView) (i : ℕ) (value : ValueView) (before after whole : List ℕ) → i < length key → value ≡ get_or key i value
    → after ≡ before ++ 46 ∷ key_text (seen_value value) → before ++ key_texts (seen_row (drop i key)) ≡ whole
    → after ++ key_texts (seen_row (drop (i + 1) key)) ≡ whole
key_text_more key i value before after whole inside at pushed is =
    let rest = key_texts (seen_row (drop (i + 1) key)) in
    ap (λ (text : List ℕ). text ++ rest) pushed ∙ append_assoc before (46 ∷ key_text (seen_value value)) rest
    ∙ ap (λ (values : List ValueView). before ++ key_texts (seen_row values)) (sym (drop_more key i value inside ∙ ap (λ (v : ValueView). v ∷ drop (i + 1) key) (sym at)))
    ∙ is

-- and with all
pub key_text_whole : (key : List ValueView) (i : ℕ) (before whole : List ℕ) → length key ≤ i → before ++ key_texts (seen_row (drop i key)) ≡ whole → before ≡ whole
key_text_whole key i before whole past is =
    sym (ap (λ (values : List ValueView). before ++ key_texts (seen_row values)) (drop_all i key past) ∙ append-nil before) ∙ is

-- WHAT CELLS SAY, IN ANY ORDER

swapped : (a s b r : Bool) (t : Option RowStream)
    → (if b then Some (if r then Brought else unwrap_or (if a then Some (if s then Brought else unwrap_or t Gone) else t) Gone) else (if a then Some (if s then Brought else unwrap_or t Gone) else t))
    ≡ (if a then Some (if s then Brought else unwrap_or (if b then Some (if r then Brought else unwrap_or t Gone) else t) Gone) else (if b then Some (if r then Brought else unwrap_or t Gone) else t))
swapped false s b r t = refl
swapped true s false r t = refl
swapped true true true true t = refl
swapped true true true false t = refl
swapped true false true true t = refl
swapped true false true false t = refl

abbrev Told : Type 0
Told = List (ColumnType × ValueRef)

told_later : (t : Option RowStream) (e : ColumnType × ValueRef) (es : Told) → fold told_beside (told_beside t e) es ≡ told_beside (fold told_beside t es) e
told_later t e [] = refl
told_later t e (x ∷ es) =
    ap (λ (u : Option RowStream). fold told_beside u es) (swapped (is_of_streams e.0) (is_stream e.1) (is_of_streams x.0) (is_stream x.1) t)
    ∙ told_later (told_beside t x) e es

-- cell by cell from the first
pub told_in_turn : (es : Told) → fold told_beside None es ≡ told_stream es
told_in_turn [] = refl
told_in_turn (e ∷ es) = told_later None e es ∙ ap (λ (t : Option RowStream). told_beside t e) (told_in_turn es)

abbrev none_of_cells : List ValueRef
none_of_cells = []

no_pairs : (types : List ColumnType) → zip types (none_of_cells) ≡ []
no_pairs [] = refl
no_pairs (x ∷ types) = refl

-- the cells are told
pub told_whole : (columns : List ColumnDef) (cells : List ValueRef) (i : ℕ) (told whole : Option RowStream) → (length columns ≤ i) ⊎ (length cells ≤ i)
    → fold told_beside told (zip (types_of (drop i columns)) (drop i cells)) ≡ whole → told ≡ whole
told_whole columns cells i told whole (inl past) is =
    sym (ap (λ (rest : List ColumnDef). fold told_beside told (zip (types_of rest) (drop i cells))) (drop_all i columns past)) ∙ is
told_whole columns cells i told whole (inr past) is =
    sym (ap (λ (rest : List ValueRef). fold told_beside told (zip (types_of (drop i columns)) rest)) (drop_all i cells past)
    ∙ ap (fold told_beside told) (no_pairs (types_of (drop i columns)))) ∙ is

-- THE STREAM THAT A TRANSFORM HAS

pub stream_found : (streams : FinMap name_cmp (List ℕ)) (name : List ℕ) → get streams name ≡ stream_at name (entries streams)
stream_found streams name = get-entries streams name
