-- What a query for one table picks of its rows.
use Rattle.std.proofs.Common.{◌≡◌, ℕ, ◌+◌, ◌<◌, List, [], ◌∷◌, ◌++◌, length, filter, take, get_or, Bool, true, false, Option, Some, refl, ap, sym, ◌∙◌, ⊎_elim}
use Rattle.std.specs.Prelude.{Result, Ok, Err, IfOk, slice_get, ◌==◌, if◌then◌else◌}
use Rattle.std.proofs.lemmas.Bool.{cases_Bool}
use Rattle.std.proofs.lemmas.List.{append-nil, map-append, map-id, take_more}
use Rattle.std.proofs.lemmas.List.Elements.{filter-append}
use Rattle.std.proofs.lemmas.Option.{get_or_from_slice_get, slice_get_within}
use Rattle.msi_base.proofs.ListLemmas.{all_joined}
use Rattle.msi_base.specs.declared.errors.ErrorKind.{ErrorKind}
use Rattle.msi_base.specs.Refusals.{unless_refused}
use Rattle.msi_pool.specs.Pool.{Place}
use Rattle.msi_table_values.specs.declared.value.Value.{Value}
use Rattle.msi_table_cells.specs.declared.cell.ValueRef.{ValueRef}
use Rattle.msi_table_cells.specs.CellValues.{row_values}
use Rattle.msi_table_values.specs.Columns.{ColumnDef}
use Rattle.msi_table.specs.Rows.{AreAsWide, AreRowNumbers, RowsDef, TableRows, rows_from, rows_numbered, rows_picked}
use Rattle.msi_query_expressions.specs.Expressions.{Expression}
use Rattle.msi_query_expressions.specs.Conditions.{meets}
use Rattle.msi_query.specs.Queries.{Clauses}
use Rattle.msi_query.specs.Rows.{RelationCells, cells_of, projected_cells, relation_values, rows_values}
use Rattle.msi_query.specs.Selection.{Relation, clause_refusals, narrowed, projected, selected}
use Rattle.msi_query.proofs.SelectionLemmas.{projected_is}
use Rattle.msi_query_rows.specs.Picking.{columns_picked, keep_order, places_picked}
use Rattle.msi_query.specs.Selected.{Selects}
use Rattle.msi_query_rows.proofs.RefusedLemmas.{narrowed_given}
use Rattle.msi_query_rows.proofs.SelectedLemmas.{selected_in_place}
use Rattle.msi_query_rows.proofs.WidthLemmas.{narrowed_is_wide}

-- WHICH ROWS

-- the rows of the numbers, one more row on
numbered_more : (places : List Place) (rows : List (List ValueRef)) (numbers : List ℕ) (i : ℕ) (row : List ValueRef) → slice_get rows i ≡ Some row
    → rows_values places (rows_numbered (Some (numbers ++ i ∷ [])) rows) ≡ rows_values places (rows_numbered (Some numbers) rows) ++ row_values places row ∷ []
numbered_more places rows numbers i row at =
    ap (rows_values places) (map-append (λ n. get_or rows n []) numbers (i ∷ []))
    ∙ map-append (row_values places) (rows_numbered (Some numbers) rows) (get_or rows i [] ∷ [])
    ∙ ap (λ r. rows_values places (rows_numbered (Some numbers) rows) ++ row_values places r ∷ []) (get_or_from_slice_get rows i row [] at)

filtered_more : (places : List Place) (p : List Value → Bool) (rows : List (List ValueRef)) (i : ℕ) (row : List ValueRef) → slice_get rows i ≡ Some row
    → filter p (rows_values places (take (i + 1) rows)) ≡ filter p (rows_values places (take i rows)) ++ filter p (row_values places row ∷ [])
filtered_more places p rows i row at =
    ap (λ rs. filter p (rows_values places rs)) (take_more rows i [] (slice_get_within rows i row at))
    ∙ ap (filter p) (map-append (row_values places) (take i rows) (get_or rows i [] ∷ []))
    ∙ filter-append p (rows_values places (take i rows)) (row_values places (get_or rows i []) ∷ [])
    ∙ ap (λ r. filter p (rows_values places (take i rows)) ++ filter p (row_values places r ∷ [])) (get_or_from_slice_get rows i row [] at)

pub number_kept : (places : List Place) (p : List Value → Bool) (rows : List (List ValueRef)) (numbers more : List ℕ) (i : ℕ) (row : List ValueRef)
    → slice_get rows i ≡ Some row → p (row_values places row) ≡ true → more ≡ numbers ++ i ∷ []
    → rows_values places (rows_numbered (Some numbers) rows) ≡ filter p (rows_values places (take i rows))
    → rows_values places (rows_numbered (Some more) rows) ≡ filter p (rows_values places (take (i + 1) rows))
number_kept places p rows numbers more i row at t m k =
    let one : row_values places row ∷ [] ≡ filter p (row_values places row ∷ []) = rw t refl in
    ap (λ ns. rows_values places (rows_numbered (Some ns) rows)) m ∙ numbered_more places rows numbers i row at
    ∙ ap (λ rs. rs ++ row_values places row ∷ []) k ∙ ap (λ rs. filter p (rows_values places (take i rows)) ++ rs) one
    ∙ sym (filtered_more places p rows i row at)

pub number_passed : (places : List Place) (p : List Value → Bool) (rows : List (List ValueRef)) (numbers : List ℕ) (i : ℕ) (row : List ValueRef)
    → slice_get rows i ≡ Some row → p (row_values places row) ≡ false
    → rows_values places (rows_numbered (Some numbers) rows) ≡ filter p (rows_values places (take i rows))
    → rows_values places (rows_numbered (Some numbers) rows) ≡ filter p (rows_values places (take (i + 1) rows))
number_passed places p rows numbers i row at t k =
    let none : filter p (row_values places row ∷ []) ≡ [] = rw t refl in
    k ∙ sym (filtered_more places p rows i row at ∙ ap (λ rs. filter p (rows_values places (take i rows)) ++ rs) none ∙ append-nil (filter p (rows_values places (take i rows))))

pub number_inside : (count : ℕ) (numbers more : List ℕ) (i : ℕ) → i < count → more ≡ numbers ++ i ∷ [] → AreRowNumbers count (Some numbers) → AreRowNumbers count (Some more)
number_inside count numbers more i h m all = rw m (all_joined (λ n. n < count) numbers (i ∷ []) all (h, tt))

-- WHICH COLUMNS

-- what is picked, as cells
abbrev pub picked_cells : List ℕ → Clauses → TableRows → Option (List ℕ) → RelationCells
picked_cells name c t numbers = let places = places_picked c.columns t.columns in record {
  name = if length c.columns == 0 then name else [];
  columns = columns_picked places t.columns;
  rows = rows_picked numbers places t.rows;
}

picked_is : (places : List Place) (c : Clauses) (name : List ℕ) (t : TableRows) (numbers : Option (List ℕ)) → keep_order c ≡ true
    → rows_values places (rows_numbered numbers t.rows) ≡ filter (meets t.columns c.condition) (rows_values places t.rows)
    → relation_values places (picked_cells name c t numbers) ≡ selected c (relation_values places (cells_of name t))
picked_is places c name t numbers stay k =
    let with_rows : List (List Value) → Relation = λ rows. record { name = name; columns = t.columns; rows = rows } in
    let met : List (List Value) = filter (meets t.columns c.condition) (rows_values places t.rows) in
    let picked : relation_values places (picked_cells name c t numbers) ≡ projected c.columns (with_rows met) = ⊎_elim
    (λ all. rw all (ap with_rows (ap (rows_values places) (map-id (rows_numbered numbers t.rows)) ∙ k)))
    (λ some. let cells : picked_cells name c t numbers ≡ projected_cells c.columns t.columns (rows_numbered numbers t.rows) = rw some refl in
    ap (relation_values places) cells ∙ projected_is places c.columns (cells_of name t) (rows_numbered numbers t.rows) some ∙ ap (λ rows. projected c.columns (with_rows rows)) k)
    (cases_Bool (length c.columns == 0)) in
    picked ∙ sym (selected_in_place c (relation_values places (cells_of name t)) stay)

-- what is picked is what the clauses keep
pub picked_narrowed : (places : List Place) (c : Clauses) (name : List ℕ) (t : TableRows) (numbers : Option (List ℕ)) (columns : List ColumnDef) (answer : Result (Unit {0}) ErrorKind) → keep_order c ≡ true → columns ≡ t.columns
    → answer ≡ unless_refused (clause_refusals c columns) tt → answer ≡ Ok tt
    → rows_values places (rows_numbered numbers t.rows) ≡ filter (meets t.columns c.condition) (rows_values places t.rows)
    → narrowed c (relation_values places (cells_of name t)) ≡ Ok (relation_values places (picked_cells name c t numbers))
picked_narrowed places c name t numbers columns answer stay e a w k =
    narrowed_given places c (cells_of name t) columns answer (Ok (picked_cells name c t numbers)) e a w (picked_is places c name t numbers stay k)

-- what a call picked, by what it was given
pub record IsPicked (places : List Place) (c : Clauses) (t : TableRows) (columns : List ColumnDef) (at : Option (List (Option ℕ))) (numbers : Option (List ℕ)) : Type 0 where
  pub known : (name : List ℕ) → narrowed c (relation_values places (cells_of name t)) ≡ Ok (relation_values places (picked_cells name c t numbers))
  pub columns_are : columns ≡ columns_picked (places_picked c.columns t.columns) t.columns
  pub places_are : at ≡ places_picked c.columns t.columns

pub is_picked : (places : List Place) (c : Clauses) (t : TableRows) (columns : List ColumnDef) (at : Option (List (Option ℕ))) (numbers : Option (List ℕ))
    (first second : List ColumnDef) (answer : Result (Unit {0}) ErrorKind) (names : List (List ℕ)) (condition : Option Expression)
    → keep_order c ≡ true → first ≡ t.columns → answer ≡ unless_refused (clause_refusals c first) tt → answer ≡ Ok tt → second ≡ t.columns → names ≡ c.columns → at ≡ places_picked names second → columns ≡ columns_picked at second
    → condition ≡ c.condition → rows_values places (rows_numbered numbers t.rows) ≡ filter (meets t.columns condition) (rows_values places t.rows)
    → IsPicked places c t columns at numbers
is_picked places c t columns at numbers first second answer names condition stay f a w s n p q m k = record {
  known = λ name. picked_narrowed places c name t numbers first answer stay f a w (k ∙ ap (λ o. filter (meets t.columns o) (rows_values places t.rows)) m);
  columns_are = q ∙ ap (λ o. columns_picked o second) (p ∙ ap (λ ns. places_picked ns second) n) ∙ ap (λ cs. columns_picked (places_picked c.columns cs) cs) s;
  places_are = p ∙ ap (λ ns. places_picked ns second) n ∙ ap (places_picked c.columns) s;
}

-- so it has a cell for each column
pub picked_wide : (places : List Place) (c : Clauses) (t : TableRows) (columns : List ColumnDef) (at : Option (List (Option ℕ))) (numbers : Option (List ℕ)) → AreAsWide t.columns t.rows
    → IsPicked places c t columns at numbers → AreAsWide columns (rows_picked numbers at t.rows)
picked_wide places c t columns at numbers wide is =
    rw (is.columns_are, is.places_are) (narrowed_is_wide places c (cells_of [] t) (Ok (picked_cells [] c t numbers)) wide (is.known []))

-- and its values are selected
pub picked_selects : (places : List Place) (c : Clauses) (t : TableRows) (columns : List ColumnDef) (at : Option (List (Option ℕ))) (numbers : Option (List ℕ)) (answer : Result RowsDef ErrorKind)
    → IsPicked places c t columns at numbers → IfOk answer (λ rows. rows ≡ rows_from columns places (rows_picked numbers at t.rows))
    → (name : List ℕ) → IfOk answer (Selects (narrowed c (relation_values places (cells_of name t))))
picked_selects places c t columns at numbers (Ok rows) is e name =
    rw (e, is.columns_are, is.places_are, is.known name) (refl, refl)
picked_selects places c t columns at numbers (Err k) is e name = tt
