-- Rows of which each counts once.
use Rattle.std.proofs.Common.{◌≡◌, ℕ, ◌+◌, ◌<◌, ◌≤◌, Bool, true, false, cond, ◌||◌, not, List, [], ◌∷◌, ◌++◌, length, drop, reverse, get_or, eqb, Ordering, append_assoc, refl, sym, ap, ◌∙◌, subst}
use Rattle.std.specs.Bool.{Decides}
use Rattle.std.specs.BTreeSet.{BTreeSet, contains, Updates}
use Rattle.std.specs.Cmp.{IsEquivalence, eq_by_cmp_equiv}
use Rattle.std.specs.Cmp.Lexicographic.{slice_cmp, lists_ties, lists_total, pointwise, pointwise_decides}
use Rattle.std.specs.List.{list_any}
use Rattle.std.specs.Ordering.{eq_by_cmp, ordering_index, ordering_then}
use Rattle.std.specs.declared.cmp.Ordering.TheVariants.{Less, Greater}
use Rattle.std.proofs.lemmas.List.{append-nil, drop_all, drop_more, map-append, reverse-append}
use Rattle.msi_base.proofs.BoolLemmas.{by_test}
use Rattle.msi_pool.specs.Pool.{Place}
use Rattle.msi_table_cells.specs.declared.cell.ValueRef.{ValueRef}
use Rattle.msi_table_cells.specs.declared.cell.ValueRef.TheVariants as cell
use Rattle.msi_table_cells.specs.CellValues.{row_values, value_of_cell}
use Rattle.msi_table_cells.proofs.RowOrderLemmas.{a_tie, no_tie}
use Rattle.msi_table_values.specs.declared.value.Value.{Value}
use Rattle.msi_table_values.specs.OrderLaws.{value_cmp-total, value_eq-Decides}
use Rattle.msi_table_values.specs.Values.{value_cmp}
use Rattle.msi_query.specs.Rows.{rows_values}
use Rattle.msi_query.specs.Selection.{same_row, unseen}

-- COMPARED CELL BY CELL

-- the order of what is left of two rows, whose texts are in two pools
abbrev pub cells_from : List Place → List Place → List ValueRef → List ValueRef → ℕ → Ordering
cells_from places others row other i = slice_cmp value_cmp (row_values places (drop i row)) (row_values others (drop i other))

pub other_ends : (places others : List Place) (row other : List ValueRef) (i : ℕ) → i < length row → length other ≤ i → cells_from places others row other i ≡ Greater
other_ends places others row other i h l = rw (drop_more row i cell.Null h, drop_all i other l) refl

pub row_ends : (places others : List Place) (row other : List ValueRef) (i : ℕ) → length row ≤ i → i < length other → cells_from places others row other i ≡ Less
row_ends places others row other i h l = rw (drop_all i row h, drop_more other i cell.Null l) refl

one_cell : (places others : List Place) (row other : List ValueRef) (i : ℕ) (c d : ValueRef) → i < length row → i < length other → c ≡ get_or row i c → d ≡ get_or other i d
    → cells_from places others row other i ≡ ordering_then (value_cmp (value_of_cell places c) (value_of_cell others d)) (cells_from places others row other (i + 1))
one_cell places others row other i c d h l e f =
    let first : drop i row ≡ c ∷ drop (i + 1) row = drop_more row i c h ∙ ap (λ (x : ValueRef). x ∷ drop (i + 1) row) (sym e) in
    let second : drop i other ≡ d ∷ drop (i + 1) other = drop_more other i d l ∙ ap (λ (x : ValueRef). x ∷ drop (i + 1) other) (sym f) in
    rw (first, second) refl

pub cell_decides : (places others : List Place) (row other : List ValueRef) (i : ℕ) (c d : ValueRef) (v w : Value) (o : Ordering) → i < length row → i < length other
    → c ≡ get_or row i c → d ≡ get_or other i d → v ≡ value_of_cell places c → w ≡ value_of_cell others d → o ≡ value_cmp v w
    → not (eqb (ordering_index o) 1) ≡ true → cells_from places others row other i ≡ o
cell_decides places others row other i c d v w o h l e f p q is n =
    one_cell places others row other i c d h l e f
    ∙ ap (λ (r : Ordering). ordering_then r (cells_from places others row other (i + 1))) (sym (is ∙ ap (λ (x : Value). value_cmp x w) p ∙ ap (value_cmp (value_of_cell places c)) q))
    ∙ no_tie o (cells_from places others row other (i + 1)) n

pub cell_ties : (places others : List Place) (row other : List ValueRef) (i : ℕ) (c d : ValueRef) (v w : Value) (o : Ordering) → i < length row → i < length other
    → c ≡ get_or row i c → d ≡ get_or other i d → v ≡ value_of_cell places c → w ≡ value_of_cell others d → o ≡ value_cmp v w
    → not (eqb (ordering_index o) 1) ≡ false → cells_from places others row other i ≡ cells_from places others row other (i + 1)
cell_ties places others row other i c d v w o h l e f p q is n =
    one_cell places others row other i c d h l e f
    ∙ ap (λ (r : Ordering). ordering_then r (cells_from places others row other (i + 1))) (sym (is ∙ ap (λ (x : Value). value_cmp x w) p ∙ ap (value_cmp (value_of_cell places c)) q))
    ∙ a_tie o (cells_from places others row other (i + 1)) n

-- EQUAL ROWS

pub same_row-equiv : IsEquivalence same_row
same_row-equiv = eq_by_cmp_equiv (lists_total value_cmp-total)

pub same_row-Decides : (r s : List Value) → Decides (same_row r s) (r ≡ s)
same_row-Decides r s =
    let e : pointwise (eq_by_cmp value_cmp) r s ≡ same_row r s = lists_ties value_cmp (λ x y. refl) r s in
    let d = pointwise_decides value_eq-Decides r s in
    (λ t. d.0 (e ∙ t), λ q. sym e ∙ d.1 q)

-- a row that was seen adds nothing, and one that wasn't is kept
pub seen_again : (seen rows : List (List Value)) (row : List Value) → list_any (same_row row) seen ≡ true → unseen seen (row ∷ rows) ≡ unseen seen rows
seen_again seen rows row t = rw t refl

pub seen_first : (seen rows : List (List Value)) (row : List Value) → list_any (same_row row) seen ≡ false → unseen seen (row ∷ rows) ≡ row ∷ unseen (row ∷ seen) rows
seen_first seen rows row t = rw t refl

-- A SET OF ROWS

-- a set has the rows of a list, the last of them in front
abbrev pub HasSeen : BTreeSet (List Value) → List (List Value) → Type 0
HasSeen set kept = (row : List Value) → contains (slice_cmp value_cmp) set row ≡ list_any (same_row row) (reverse kept)

cond_or : (a b : Bool) → cond a true b ≡ (a || b)
cond_or true b = refl
cond_or false b = refl

-- one row more
pub seen_more : (set new : BTreeSet (List Value)) (kept : List (List Value)) (row : List Value) → HasSeen set kept → Updates (slice_cmp value_cmp) set new row true → HasSeen new (kept ++ row ∷ [])
seen_more set new kept row has updated q =
    updated.0 q
    ∙ ap (λ (b : Bool). cond b true (contains (slice_cmp value_cmp) set q)) (same_row-equiv.symm row q)
    ∙ ap (cond (same_row q row) true) (has q)
    ∙ cond_or (same_row q row) (list_any (same_row q) (reverse kept))
    ∙ ap (list_any (same_row q)) (sym (reverse-append kept (row ∷ [])))

-- a row that was there
pub seen_already : (set new : BTreeSet (List Value)) (kept : List (List Value)) (row : List Value) → HasSeen set kept → contains (slice_cmp value_cmp) set row ≡ true
    → Updates (slice_cmp value_cmp) set new row true → HasSeen new kept
seen_already set new kept row has there updated q = by_test (same_row row q)
    (λ t. updated.0 q ∙ ap (λ (b : Bool). cond b true (contains (slice_cmp value_cmp) set q)) t
    ∙ sym there ∙ ap (contains (slice_cmp value_cmp) set) ((same_row-Decides row q).0 t) ∙ has q)
    (λ t. updated.0 q ∙ ap (λ (b : Bool). cond b true (contains (slice_cmp value_cmp) set q)) t ∙ has q)

-- THE ROWS ONE BY ONE

-- what is kept, and what is still to be
abbrev pub once_with : List (List Value) → List (List Value) → List (List Value)
once_with kept rest = kept ++ unseen (reverse kept) rest

abbrev pub once_from : List Place → List (List ValueRef) → List (List ValueRef) → ℕ → List (List Value)
once_from places kept rows i = once_with (rows_values places kept) (rows_values places (drop i rows))

once_kept : (kept rest : List (List Value)) (row : List Value) → list_any (same_row row) (reverse kept) ≡ false → once_with kept (row ∷ rest) ≡ once_with (kept ++ row ∷ []) rest
once_kept kept rest row n =
    ap (λ (rs : List (List Value)). kept ++ rs) (seen_first (reverse kept) rest row n)
    ∙ ap (λ (seen : List (List Value)). kept ++ row ∷ unseen seen rest) (sym (reverse-append kept (row ∷ [])))
    ∙ sym (append_assoc kept (row ∷ []) (unseen (reverse (kept ++ row ∷ [])) rest))

row_next : (places : List Place) (kept rows : List (List ValueRef)) (i : ℕ) (row : List ValueRef) → i < length rows → row ≡ get_or rows i row
    → once_from places kept rows i ≡ once_with (rows_values places kept) (row_values places row ∷ rows_values places (drop (i + 1) rows))
row_next places kept rows i row h at =
    ap (λ (rs : List (List ValueRef)). once_with (rows_values places kept) (rows_values places rs))
    (drop_more rows i row h ∙ ap (λ (r : List ValueRef). r ∷ drop (i + 1) rows) (sym at))

-- a row whose values weren't seen is kept
pub row_kept : (places : List Place) (kept new rows : List (List ValueRef)) (i : ℕ) (row cells copy : List ValueRef) (set : BTreeSet (List Value)) (whole : List (List Value))
    → i < length rows → row ≡ get_or rows i row → cells ≡ row → copy ≡ cells → new ≡ kept ++ copy ∷ [] → HasSeen set (rows_values places kept)
    → contains (slice_cmp value_cmp) set (row_values places cells) ≡ false → whole ≡ once_from places kept rows i → whole ≡ once_from places new rows (i + 1)
row_kept places kept new rows i row cells copy set whole h at c k n has absent e =
    let values : List Value = row_values places row in
    let unknown : list_any (same_row values) (reverse (rows_values places kept)) ≡ false =
    sym (has values) ∙ ap (λ (r : List ValueRef). contains (slice_cmp value_cmp) set (row_values places r)) (sym c) ∙ absent in
    e ∙ row_next places kept rows i row h at
    ∙ once_kept (rows_values places kept) (rows_values places (drop (i + 1) rows)) values unknown
    ∙ ap (λ (rs : List (List Value)). once_with rs (rows_values places (drop (i + 1) rows)))
    (sym (ap (rows_values places) (n ∙ ap (λ (r : List ValueRef). kept ++ r ∷ []) (k ∙ c)) ∙ map-append (row_values places) kept (row ∷ [])))

-- a row whose values were
pub row_left : (places : List Place) (kept rows : List (List ValueRef)) (i : ℕ) (row cells : List ValueRef) (set : BTreeSet (List Value)) (whole : List (List Value))
    → i < length rows → row ≡ get_or rows i row → cells ≡ row → HasSeen set (rows_values places kept)
    → contains (slice_cmp value_cmp) set (row_values places cells) ≡ true → whole ≡ once_from places kept rows i → whole ≡ once_from places kept rows (i + 1)
row_left places kept rows i row cells set whole h at c has there e =
    let values : List Value = row_values places row in
    let known : list_any (same_row values) (reverse (rows_values places kept)) ≡ true =
    sym (has values) ∙ ap (λ (r : List ValueRef). contains (slice_cmp value_cmp) set (row_values places r)) (sym c) ∙ there in
    e ∙ row_next places kept rows i row h at
    ∙ ap (λ (rs : List (List Value)). rows_values places kept ++ rs) (seen_again (reverse (rows_values places kept)) (rows_values places (drop (i + 1) rows)) values known)

pub seen_of_kept : (places : List Place) (kept new : List (List ValueRef)) (row copy : List ValueRef) (set : BTreeSet (List Value)) → copy ≡ row → new ≡ kept ++ copy ∷ []
    → HasSeen set (rows_values places kept ++ row_values places row ∷ []) → HasSeen set (rows_values places new)
seen_of_kept places kept new row copy set k n has =
    subst (HasSeen set) (sym (ap (rows_values places) (n ∙ ap (λ (r : List ValueRef). kept ++ r ∷ []) k) ∙ map-append (row_values places) kept (row ∷ []))) has

-- all rows are behind
pub rows_end : (places : List Place) (kept rows : List (List ValueRef)) (i : ℕ) → length rows ≤ i → once_from places kept rows i ≡ rows_values places kept
rows_end places kept rows i h =
    ap (λ (rs : List (List ValueRef)). once_with (rows_values places kept) (rows_values places rs)) (drop_all i rows h) ∙ append-nil (rows_values places kept)
