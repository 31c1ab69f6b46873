-- Rows of values that are seen where they lie: their order, and their keys.
use Rattle.std.proofs.Common.{◌≡◌, ℕ, ◌+◌, ◌<◌, ◌≤◌, ◌⊎◌, true, false, List, [], ◌∷◌, ◌++◌, length, drop, get_or, Ordering, Less, Greater, eqb, not, refl, sym, ap, ◌∙◌, ⊎_elim}
use Rattle.std.specs.Ordering.{ordering_index, ordering_then}
use Rattle.std.specs.Cmp.Lexicographic.{slice_cmp}
use Rattle.std.proofs.lemmas.List.{append_assoc, drop_all, drop_more, get_or-map, length-map, map_push}
use Rattle.msi_table_values.specs.declared.value.Value.{Value}
use Rattle.msi_table_values.specs.declared.value.Value.TheVariants as value
use Rattle.msi_table_values.specs.Columns.{ColumnDef}
use Rattle.msi_table_cells.specs.StoredOrder.{parts_where}
use Rattle.msi_table_values.specs.Values.{value_cmp}
use Rattle.msi_table_cells.proofs.RowOrderLemmas.{a_tie, no_tie, is_key}
use Rattle.msi_database_changes.specs.Views.{seen_row}
use Rattle.msi_table_values.specs.declared.views.ValueView.{ValueView}
use Rattle.msi_table_values.specs.declared.views.ValueView.TheVariants as view
use Rattle.msi_table_values.specs.Views.{seen_value}

-- the order of what is left of two rows
abbrev pub order_from : List Value → List Value → ℕ → Ordering
order_from row other i = slice_cmp value_cmp (drop i row) (drop i other)

pub other_ends : (row other : List ValueView) (i : ℕ) → i < length row → length other ≤ i → order_from (seen_row row) (seen_row other) i ≡ Greater
other_ends row other i h l =
    let inside : i < length (seen_row row) = rw (length-map row seen_value) h in
    let past : length (seen_row other) ≤ i = rw (length-map other seen_value) l in
    rw (drop_more (seen_row row) i value.Null inside, drop_all i (seen_row other) past) refl

pub row_ends : (row other : List ValueView) (i : ℕ) → length row ≤ i → i < length other → order_from (seen_row row) (seen_row other) i ≡ Less
row_ends row other i h l =
    let past : length (seen_row row) ≤ i = rw (length-map row seen_value) h in
    let inside : i < length (seen_row other) = rw (length-map other seen_value) l in
    rw (drop_all i (seen_row row) past, drop_more (seen_row other) i value.Null inside) refl

-- the view at a place
abbrev pub view_at : List ValueView → ℕ → ValueView
view_at row i = get_or row i view.Null

seen_at : (row : List ValueView) (i : ℕ) → i < length row → drop i (seen_row row) ≡ seen_value (view_at row i) ∷ drop (i + 1) (seen_row row)
seen_at row i h =
    let inside : i < length (seen_row row) = rw (length-map row seen_value) h in
    drop_more (seen_row row) i value.Null inside ∙ ap (λ (x : Value). x ∷ drop (i + 1) (seen_row row)) (get_or-map seen_value row i view.Null value.Null h)

here : (row other : List ValueView) (i : ℕ) → i < length row → i < length other
    → order_from (seen_row row) (seen_row other) i ≡ ordering_then (value_cmp (seen_value (view_at row i)) (seen_value (view_at other i))) (order_from (seen_row row) (seen_row other) (i + 1))
here row other i h l = rw (seen_at row i h, seen_at other i l) refl

pub decides : (row other : List ValueView) (i : ℕ) (o : Ordering) → i < length row → i < length other → o ≡ value_cmp (seen_value (view_at row i)) (seen_value (view_at other i))
    → not (eqb (ordering_index o) 1) ≡ true → order_from (seen_row row) (seen_row other) i ≡ o
decides row other i o h l is n = here row other i h l ∙ ap (λ (o : Ordering). ordering_then o (order_from (seen_row row) (seen_row other) (i + 1))) (sym is)
    ∙ no_tie o (order_from (seen_row row) (seen_row other) (i + 1)) n

pub ties : (row other : List ValueView) (i : ℕ) (o : Ordering) → i < length row → i < length other → o ≡ value_cmp (seen_value (view_at row i)) (seen_value (view_at other i))
    → not (eqb (ordering_index o) 1) ≡ false → order_from (seen_row row) (seen_row other) i ≡ order_from (seen_row row) (seen_row other) (i + 1)
ties row other i o h l is n = here row other i h l ∙ ap (λ (o : Ordering). ordering_then o (order_from (seen_row row) (seen_row other) (i + 1))) (sym is)
    ∙ a_tie o (order_from (seen_row row) (seen_row other) (i + 1)) n

abbrev pub key_from : List ColumnDef → List ValueView → ℕ → List Value
key_from columns row i = parts_where is_key (drop i columns) (drop i (seen_row row))

pub no_part : (columns : List ColumnDef) (row : List ValueView) (i : ℕ) (c : ColumnDef) → i < length columns → i < length row → c ≡ get_or columns i c → is_key c ≡ false
    → key_from columns row i ≡ key_from columns row (i + 1)
no_part columns row i c h l e t =
    let inside : i < length (seen_row row) = rw (length-map row seen_value) l in
    let same : is_key (get_or columns i c) ≡ false = ap is_key (sym e) ∙ t in
    rw (drop_more columns i c h, drop_more (seen_row row) i value.Null inside, same) refl

pub one_part : (columns : List ColumnDef) (row values new : List ValueView) (i : ℕ) (c : ColumnDef) (whole : List Value) → i < length columns → i < length row → c ≡ get_or columns i c → is_key c ≡ true
    → new ≡ values ++ view_at row i ∷ [] → seen_row values ++ key_from columns row i ≡ whole → seen_row new ++ key_from columns row (i + 1) ≡ whole
one_part columns row values new i c whole h l e t n g =
    let same : is_key (get_or columns i c) ≡ true = ap is_key (sym e) ∙ t in
    let taken : key_from columns row i ≡ seen_value (view_at row i) ∷ key_from columns row (i + 1) = rw (drop_more columns i c h, seen_at row i l, same) refl in
    ap (λ (vs : List ValueView). seen_row vs ++ key_from columns row (i + 1)) n
    ∙ ap (λ (vs : List Value). vs ++ key_from columns row (i + 1)) (map_push seen_value values (view_at row i))
    ∙ append_assoc (seen_row values) (seen_value (view_at row i) ∷ []) (key_from columns row (i + 1))
    ∙ ap (λ (vs : List Value). seen_row values ++ vs) (sym taken) ∙ g

nothing_left : (columns : List ColumnDef) → parts_where {X = Value} is_key columns [] ≡ []
nothing_left [] = refl
nothing_left (c ∷ cs) = refl

pub no_parts : (columns : List ColumnDef) (row : List ValueView) (i : ℕ) → (length columns ≤ i) ⊎ (length row ≤ i) → key_from columns row i ≡ []
no_parts columns row i = ⊎_elim
    (λ (h : length columns ≤ i). rw (drop_all i columns h) refl)
    (λ (h : length row ≤ i).
    let past : length (seen_row row) ≤ i = rw (length-map row seen_value) h in
    rw (drop_all i (seen_row row) past) (nothing_left (drop i columns)))
