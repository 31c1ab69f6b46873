-- A product of two tables has the rows of their join.
use Rattle.std.proofs.Common.{◌≡◌, ℕ, List, [], ◌∷◌, ◌++◌, length, map, filter, Bool, true, false, not, Option, Some, None, Result, Ok, Err, refl, ap, subst, sym, ◌∙◌, append_assoc}
use Rattle.std.specs.Prelude.{bytes_eq, option_map, if◌then◌else◌}
use Rattle.std.specs.List.{flat_map}
use Rattle.std.specs.List.Sorted.{IsPermutation}
use Rattle.std.proofs.lemmas.List.{append-nil}
use Rattle.std.proofs.lemmas.List.Elements.{filter-append}
use Rattle.std.proofs.lemmas.List.Sorted.{IsPermutation-append, IsPermutation-append_comm, IsPermutation-append_left, IsPermutation-append_right, IsPermutation-refl, IsPermutation-sym, IsPermutation-trans}
use Rattle.msi_base.specs.Lists.{placed}
use Rattle.msi_base.specs.declared.errors.ErrorKind.{ErrorKind}
use Rattle.msi_base.specs.declared.errors.ErrorKind.TheVariants.{InvalidData, InvalidInput, NotFound}
use Rattle.msi_base.specs.Refusals.{or_refused, unless, unless_refused, ◌>>=◌}
use Rattle.msi_table.specs.Value.{Value}
use Rattle.msi_table.specs.Columns.{ColumnDef}
use Rattle.msi_query_expressions.specs.declared.joins.JoinKind.TheVariants.{Inner}
use Rattle.msi_query_expressions.specs.Conditions.{meets}
use Rattle.msi_query_expressions.specs.Expressions.{Expression, names_in}
use Rattle.msi_query_expressions.specs.Meaning.{meant, renamed}
use Rattle.msi_query.specs.Product.{product as rows_of_product}
use Rattle.msi_query.specs.ProductLaws.{HaveSameRows, ProductsAreJoins, own_side}
use Rattle.msi_query.specs.Queries.{Clauses, no_clauses, table}
use Rattle.msi_query.specs.Selection.{Relation, TableValues, clause_refusals, has_columns, in_order, joined_columns, kept_of, kept_of_join, meant_clauses, order_cmp, pairs_of, prefixed, product_columns, product_of, relation_of, rows_of_row, selected, side_of, side_refusals}
use Rattle.msi_query.proofs.SelectionLemmas.{all_kept}

-- THE ROWS

module _ {X : Type 0} (p : List X → Bool) where
  abbrev behind : List (List X) → List X → List (List X)
  behind rows other = filter p (map (λ (row : List X). row ++ other) rows)

  abbrev beside : List (List X) → List X → List (List X)
  beside others row = filter p (map (λ (other : List X). row ++ other) others)

  no_others : (rows : List (List X)) → [] ≡ flat_map (beside []) rows
  no_others [] = refl
  no_others (row ∷ rows) = no_others rows

  -- the lists a, b, c and g in two orders
  exchanged : (a b c g f : List (List X)) → IsPermutation (b ++ g) f → IsPermutation ((a ++ b) ++ (c ++ g)) ((a ++ c) ++ f)
  exchanged a b c g f h =
      let front : IsPermutation (b ++ (c ++ g)) (c ++ f) =
      IsPermutation-trans (b ++ (c ++ g)) (c ++ (b ++ g)) (c ++ f)
      (subst (λ (xs : List (List X)). IsPermutation xs (c ++ (b ++ g))) (append_assoc b c g)
      (subst (λ (xs : List (List X)). IsPermutation ((b ++ c) ++ g) xs) (append_assoc c b g) (IsPermutation-append_left g (b ++ c) (c ++ b) (IsPermutation-append_comm b c))))
      (IsPermutation-append_right c (b ++ g) f h) in
      subst (λ (xs : List (List X)). IsPermutation xs ((a ++ c) ++ f)) (sym (append_assoc a b (c ++ g)))
      (subst (λ (xs : List (List X)). IsPermutation (a ++ (b ++ (c ++ g))) xs) (sym (append_assoc a c f)) (IsPermutation-append_right a (b ++ (c ++ g)) (c ++ f) front))

  -- one more row behind each
  one_behind : (rows others : List (List X)) (other : List X)
      → IsPermutation (behind rows other ++ flat_map (beside others) rows) (flat_map (beside (other ∷ others)) rows)
  one_behind [] others other = IsPermutation-refl []
  one_behind (row ∷ rows) others other =
      let a = filter p ((row ++ other) ∷ []) in
      let b = behind rows other in
      let c = beside others row in
      let g = flat_map (beside others) rows in
      let f = flat_map (beside (other ∷ others)) rows in
      subst (λ (xs : List (List X)). IsPermutation (xs ++ (c ++ g)) (flat_map (beside (other ∷ others)) (row ∷ rows))) (sym (filter-append p ((row ++ other) ∷ []) (map (λ (r : List X). r ++ other) rows)))
      (subst (λ (xs : List (List X)). IsPermutation ((a ++ b) ++ (c ++ g)) (xs ++ f)) (sym (filter-append p ((row ++ other) ∷ []) (map (λ (o : List X). row ++ o) others)))
      (exchanged a b c g f (one_behind rows others other)))

  turned : (rows others : List (List X)) → IsPermutation (filter p (flat_map (λ (other : List X). map (λ (row : List X). row ++ other) rows) others)) (flat_map (beside others) rows)
  turned rows [] = subst (λ (xs : List (List X)). IsPermutation [] xs) (no_others rows) (IsPermutation-refl [])
  turned rows (other ∷ others) =
      let rest = flat_map (λ (other : List X). map (λ (row : List X). row ++ other) rows) others in
      subst (λ (xs : List (List X)). IsPermutation xs (flat_map (beside (other ∷ others)) rows)) (sym (filter-append p (map (λ (row : List X). row ++ other) rows) rest))
      (IsPermutation-trans (behind rows other ++ filter p rest) (behind rows other ++ flat_map (beside others) rows) (flat_map (beside (other ∷ others)) rows)
      (IsPermutation-append_right (behind rows other) (filter p rest) (flat_map (beside others) rows) (turned rows others))
      (one_behind rows others other))

ends : {X : Type 0} (rows : List (List X)) → rows ≡ map (λ (row : List X). row ++ []) rows
ends [] = refl
ends {X = X} (row ∷ rows) = ap (λ (r : List X). r ∷ rows) (sym (append-nil row)) ∙ ap (λ (rs : List (List X)). (row ++ []) ∷ rs) (ends rows)

last_rows : {X : Type 0} (rows : List (List X)) → rows ≡ rows_of_product (rows ∷ [])
last_rows {X = X} rows = ends rows ∙ sym (append-nil (map (λ (row : List X). row ++ []) rows))

-- the rows of the product of two are those of the pairs
product_turned : {X : Type 0} (p : List X → Bool) (rows others : List (List X)) → IsPermutation (filter p (rows_of_product (rows ∷ others ∷ []))) (flat_map (beside p others) rows)
product_turned {X = X} p rows others =
    subst (λ (xs : List (List X)). IsPermutation (filter p (flat_map (λ (other : List X). map (λ (row : List X). row ++ other) rows) xs)) (flat_map (beside p others) rows)) (last_rows others) (turned p rows others)

-- WITHOUT CLAUSES

placed_first : (columns : List ColumnDef) (row : List Value) (rows : List (List Value)) → placed (order_cmp columns []) row rows ≡ row ∷ rows
placed_first columns row [] = refl
placed_first columns row (other ∷ rows) = refl

no_order : (columns : List ColumnDef) (rows : List (List Value)) → in_order columns [] rows ≡ rows
no_order columns [] = refl
no_order columns (row ∷ rows) = ap (placed (order_cmp columns []) row) (no_order columns rows) ∙ placed_first columns row rows

as_they_are : (columns : List ColumnDef) (rows : List (List Value)) → in_order columns [] (filter (meets columns None) rows) ≡ rows
as_they_are columns rows = no_order columns (filter (meets columns None) rows) ∙ sym (all_kept columns rows)

abbrev given : List ℕ → List ColumnDef → List (List Value) → Result Relation ErrorKind
given name columns rows = Ok (record { name = name; columns = columns; rows = rows })

rows_alone : (name : List ℕ) (columns : List ColumnDef) (rows : Option (List (List Value)))
    → (or_refused InvalidData rows >>= λ rows. let r : Relation = record { name = name; columns = columns; rows = rows } in kept_of no_clauses r) ≡ (or_refused InvalidData rows >>= λ rows. given name columns rows)
rows_alone name columns None = refl
rows_alone name columns (Some rows) = ap (given name columns) (as_they_are columns rows)

found_alone : (name : List ℕ) (found : Option TableValues)
    → (or_refused NotFound found >>= λ t. or_refused InvalidData t.rows >>= λ rows. let r : Relation = record { name = name; columns = t.columns; rows = rows } in kept_of no_clauses r)
    ≡ (or_refused NotFound found >>= λ t. or_refused InvalidData t.rows >>= λ rows. given name t.columns rows)
found_alone name None = refl
found_alone name (Some t) = rows_alone name t.columns t.rows

-- a table of which all is wanted
table_alone : (tables : List ℕ → Option TableValues) (name : List ℕ) → relation_of tables (table name no_clauses) ≡ side_of tables (own_side name)
table_alone tables name = found_alone name (tables name)

-- THE LAW

decided : (unknown : Bool) (r s : Relation) → r.columns ≡ s.columns → IsPermutation r.rows s.rows
    → HaveSameRows (unless (if unknown then Some InvalidInput else None) r) (unless (if unknown then Some InvalidInput else None) s)
decided true r s e h = refl
decided false r s e h = (e, h)

module _ (on : Expression) (l r : Relation) where
  abbrev clauses : Clauses
  clauses = record no_clauses { condition = Some on }

  abbrev whole : Relation
  whole = product_of (l ∷ r ∷ [])

  -- the join over columns
  abbrev join_over : List ColumnDef → Result Relation ErrorKind
  join_over columns = unless_refused ((not (has_columns columns (names_in (renamed (meant [] columns) on))), InvalidInput) ∷ clause_refusals (meant_clauses [] columns no_clauses) columns)
      (selected (meant_clauses [] columns no_clauses) (record {
        name = [];
        columns = columns;
        rows = flat_map (rows_of_row Inner (meets columns (Some (renamed (meant [] columns) on))) (length r.columns) r.rows) l.rows;
      }))

  columns_same : whole.columns ≡ joined_columns Inner l r
  columns_same = ap (λ (cs : List ColumnDef). map (prefixed l.name) l.columns ++ cs) (append-nil (map (prefixed r.name) r.columns))

  rows_same : (columns : List ColumnDef) (p : List Value → Bool)
      → IsPermutation (in_order columns [] (filter p whole.rows)) (in_order columns [] (filter (meets columns None) (flat_map (pairs_of p r.rows) l.rows)))
  rows_same columns p =
      subst (λ (xs : List (List Value)). IsPermutation xs (in_order columns [] (filter (meets columns None) (flat_map (pairs_of p r.rows) l.rows)))) (sym (no_order columns (filter p whole.rows)))
      (subst (λ (xs : List (List Value)). IsPermutation (filter p whole.rows) xs) (sym (as_they_are columns (flat_map (pairs_of p r.rows) l.rows))) (product_turned p l.rows r.rows))

  over_same : HaveSameRows (kept_of clauses whole) (join_over whole.columns)
  over_same =
      let columns = whole.columns in
      decided (not (has_columns columns (names_in (renamed (meant [] columns) on)))) (selected (meant_clauses [] columns clauses) whole)
      (selected (meant_clauses [] columns no_clauses) (record {
        name = [];
        columns = columns;
        rows = flat_map (rows_of_row Inner (meets columns (Some (renamed (meant [] columns) on))) (length r.columns) r.rows) l.rows;
      })) refl (rows_same columns (meets columns (Some (renamed (meant [] columns) on))))

  kept_same : HaveSameRows (kept_of clauses whole) (kept_of_join Inner on no_clauses l r)
  kept_same = subst (λ (cs : List ColumnDef). HaveSameRows (kept_of clauses whole) (join_over cs)) columns_same over_same

abbrev one_given : Relation → Result (List Relation) ErrorKind
one_given r = Ok (r ∷ [])

abbrev of_sides : List ℕ → List ℕ → Expression → Result Relation ErrorKind → Result Relation ErrorKind → Result Relation ErrorKind
of_sides left right on a b =
    (a >>= λ l. (b >>= λ r. one_given r) >>= λ rs. Ok (l ∷ rs))
    >>= λ rs. unless_refused (side_refusals (own_side left ∷ own_side right ∷ [])) (product_of rs) >>= λ r. kept_of (record no_clauses { condition = Some on }) r

at_sides : (left right : List ℕ) (on : Expression) (a b : Result Relation ErrorKind) → bytes_eq left right ≡ false
    → HaveSameRows (of_sides left right on a b) (a >>= λ l. b >>= λ r. kept_of_join Inner on no_clauses l r)
at_sides left right on (Err k) b apart = refl
at_sides left right on (Ok l) (Err k) apart = refl
at_sides left right on (Ok l) (Ok r) apart = rw apart (kept_same on l r)

pub products_are_joins : ProductsAreJoins
products_are_joins tables left right on apart =
    subst (λ (a : Result Relation ErrorKind). HaveSameRows (of_sides left right on (side_of tables (own_side left)) (side_of tables (own_side right))) (a >>= λ l. relation_of tables (table right no_clauses) >>= λ r. kept_of_join Inner on no_clauses l r)) (sym (table_alone tables left))
    (subst (λ (b : Result Relation ErrorKind). HaveSameRows (of_sides left right on (side_of tables (own_side left)) (side_of tables (own_side right))) (side_of tables (own_side left) >>= λ l. b >>= λ r. kept_of_join Inner on no_clauses l r)) (sym (table_alone tables right))
    (at_sides left right on (side_of tables (own_side left)) (side_of tables (own_side right)) apart))
