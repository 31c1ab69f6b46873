-- What is selected of rows that are as wide as their columns is so too.
use Rattle.std.proofs.Common.{◌≡◌, ℕ, ◌+◌, List, [], ◌∷◌, ◌++◌, length, map, filter, replicate, get_or, Bool, true, false, not, Option, Some, None, cond, suc, refl, ap, subst, sym, ◌∙◌, length-append}
use Rattle.std.specs.Prelude.{Result, Ok, Err, IfOk, if◌then◌else◌, option_and_then, slice_get, is_some, bytes_eq, ◌==◌}
use Rattle.std.specs.List.{filter_map, flat_map, cons_option, list_any}
use mathlib.Core.Bool.{true≢false}
use Rattle.std.proofs.lemmas.List.{length-map, length-replicate}
use Rattle.std.proofs.lemmas.List.Quantifiers.{position-Some}
use Rattle.std.proofs.lemmas.Option.{slice_get-get_or}
use Rattle.std.proofs.lemmas.Bool.{and_parts, not-false}
use Rattle.msi_base.proofs.BoolLemmas.{by_test}
use Rattle.msi_base.specs.declared.errors.ErrorKind.{ErrorKind}
use Rattle.msi_base.specs.declared.errors.ErrorKind.TheVariants.{InvalidInput}
use Rattle.msi_pool.specs.Pool.{Place}
use Rattle.msi_table_values.specs.declared.value.Value.{Value}
use Rattle.msi_table_values.specs.declared.value.Value.TheVariants.{Null}
use Rattle.msi_table_cells.specs.declared.cell.ValueRef.{ValueRef}
use Rattle.msi_table_cells.proofs.StableSortLemmas.{all_sorted}
use Rattle.msi_table_values.specs.Columns.{ColumnDef, begun_column, column_index, column_named, has_column}
use Rattle.msi_table_values.proofs.ColumnLemmas.{column_found}
use Rattle.msi_query_expressions.specs.declared.joins.JoinKind.{JoinKind}
use Rattle.msi_query_expressions.specs.declared.joins.JoinKind.TheVariants.{Inner, Left}
use Rattle.msi_query_expressions.specs.Joins.{is_left}
use Rattle.msi_query_expressions.specs.Expressions.{Expression, names_in}
use Rattle.msi_query_expressions.specs.Conditions.{meets}
use Rattle.msi_query.specs.Queries.{Clauses}
use Rattle.msi_base.specs.Refusals.{unless_refused}
use Rattle.msi_query.specs.Rows.{RelationCells, relation_values, rows_values}
use Rattle.msi_query.specs.Selection.{Relation, condition_names, distinct_if, has_columns, in_order, joined, joined_columns, joined_narrowed, narrowed, nullable_if, or_nulls, order_cmp, pairs_of, prefixed, projected, projected_row, rows_kept, rows_of_row, same_row, selected, unseen}
use Rattle.msi_query_rows.specs.Width.{HasWidth, ValuesAreWide}
use Rattle.msi_query_rows.proofs.OrderLemmas.{order_cmp-weak}

-- rows of cells are as wide as the rows that they stand for
pub wide_values : (places : List Place) (n : ℕ) (rows : List (List ValueRef)) → HasWidth n rows → HasWidth n (rows_values places rows)
wide_values places n [] w = tt
wide_values places n (row ∷ rows) w = (length-map row _ ∙ w.0, wide_values places n rows w.1)

pub wide_cells : (places : List Place) (n : ℕ) (rows : List (List ValueRef)) → HasWidth n (rows_values places rows) → HasWidth n rows
wide_cells places n [] w = tt
wide_cells places n (row ∷ rows) w = (sym (length-map row _) ∙ w.0, wide_cells places n rows w.1)

one_kept : {X : Type 0} (b : Bool) (n : ℕ) (row : List X) (rows : List (List X)) → length row ≡ n → HasWidth n rows → HasWidth n (cond b (row ∷ rows) rows)
one_kept true n row rows h w = (h, w)
one_kept false n row rows h w = w

wide_filter : {X : Type 0} (p : List X → Bool) (n : ℕ) (rows : List (List X)) → HasWidth n rows → HasWidth n (filter p rows)
wide_filter p n [] w = tt
wide_filter p n (row ∷ rows) w = one_kept (p row) n row (filter p rows) w.0 (wide_filter p n rows w.1)

pub wide_append : {X : Type 0} (n : ℕ) (rows others : List (List X)) → HasWidth n rows → HasWidth n others → HasWidth n (rows ++ others)
wide_append n [] others w v = v
wide_append n (row ∷ rows) others w v = (w.0, wide_append n rows others w.1 v)

wide_projected : (columns : List ColumnDef) (names : List (List ℕ)) (n : ℕ) (rows : List (List Value)) → length names ≡ n → HasWidth n (map (projected_row columns names) rows)
wide_projected columns names n [] h = tt
wide_projected columns names n (row ∷ rows) h = (length-map names _ ∙ h, wide_projected columns names n rows h)

-- a name that is known is one of a column
present_at : (columns : List ColumnDef) (n : List ℕ) (o : Option ℕ) → column_index n columns ≡ o → has_column n columns ≡ true
    → (c : ColumnDef) × (column_named n columns ≡ Some c)
present_at columns n None e t = absurd (true≢false (sym t ∙ sym (column_found columns n (column_index n columns) refl) ∙ ap is_some e))
present_at columns n (Some i) e t =
    (get_or columns i (begun_column []), ap (option_and_then (slice_get columns)) e ∙ slice_get-get_or columns i (begun_column []) (position-Some (λ (c : ColumnDef). bytes_eq c.name n) columns i (begun_column []) e).0)

one_more : (columns : List ColumnDef) (o : Option ColumnDef) (m : ℕ) → (c : ColumnDef) × (o ≡ Some c) → length columns ≡ m → length (cons_option o columns) ≡ suc m
one_more columns None m c h = cc c.1
one_more columns (Some c) m d h = ap suc h

length_kept : (columns : List ColumnDef) (names : List (List ℕ)) → has_columns columns names ≡ true
    → length (filter_map (λ n. column_named n columns) names) ≡ length names
length_kept columns [] e = refl
length_kept columns (n ∷ ns) e =
    let each = and_parts (has_column n columns) (has_columns columns ns) e in
    one_more (filter_map (λ n. column_named n columns) ns) (column_named n columns) (length ns)
    (present_at columns n (column_index n columns) refl each.0) (length_kept columns ns each.1)

either_wide : (b : Bool) (r s : Relation) → ValuesAreWide r → ValuesAreWide s → ValuesAreWide (if b then r else s)
either_wide true r s w v = w
either_wide false r s w v = v

wide_unseen : (n : ℕ) (seen rows : List (List Value)) → HasWidth n rows → HasWidth n (unseen seen rows)
wide_unseen n seen [] w = tt
wide_unseen n seen (row ∷ rows) w = by_test (list_any (same_row row) seen)
    (λ t. rw t (wide_unseen n seen rows w.1))
    (λ t. rw t (w.0, wide_unseen n (row ∷ seen) rows w.1))

distinct_wide : (b : Bool) (r : Relation) → ValuesAreWide r → ValuesAreWide (distinct_if b r)
distinct_wide true r w = wide_unseen (length r.columns) [] r.rows w
distinct_wide false r w = w

projected_wide : (names : List (List ℕ)) (r : Relation) → has_columns r.columns names ≡ true → ValuesAreWide r → ValuesAreWide (projected names r)
projected_wide names r known w =
    either_wide (length names == 0) r
    (record {
      name = [];
      columns = filter_map (λ n. column_named n r.columns) names;
      rows = map (projected_row r.columns names) r.rows;
    }) w (wide_projected r.columns names _ r.rows (sym (length_kept r.columns names known)))

ordered_wide : (columns : List ColumnDef) (names : List (List ℕ)) (n : ℕ) (rows : List (List Value)) → HasWidth n rows → HasWidth n (in_order columns names rows)
ordered_wide columns names n rows w = all_sorted (order_cmp columns names) (order_cmp-weak columns names) (λ row. length row ≡ n) rows w

selected_wide : (c : Clauses) (r : Relation) → has_columns r.columns c.columns ≡ true → ValuesAreWide r → ValuesAreWide (selected c r)
selected_wide c r known w =
    let whole : Relation = record r { rows = rows_kept c r } in
    distinct_wide c.is_distinct (projected c.columns whole) (projected_wide c.columns whole known
    (ordered_wide r.columns c.order (length r.columns) (filter (meets r.columns c.condition) r.rows) (wide_filter (meets r.columns c.condition) (length r.columns) r.rows w)))

wide_pairs : (row : List Value) (n : ℕ) (others : List (List Value)) → HasWidth n others → HasWidth (length row + n) (map (λ other. row ++ other) others)
wide_pairs row n [] w = tt
wide_pairs row n (o ∷ os) w = (length-append row o ∙ ap (λ k. length row + k) w.0, wide_pairs row n os w.1)

wide_nulls : (kind : JoinKind) (row : List Value) (n : ℕ) (pairs : List (List Value)) → HasWidth (length row + n) pairs → HasWidth (length row + n) (or_nulls kind row n pairs)
wide_nulls Left row n [] w = (length-append row (replicate n Null) ∙ ap (λ k. length row + k) (length-replicate n Null), tt)
wide_nulls Left row n (p ∷ ps) w = w
wide_nulls Inner row n ps w = w

wide_rows : (kind : JoinKind) (test : List Value → Bool) (m n : ℕ) (right left : List (List Value)) → HasWidth n right → HasWidth m left
    → HasWidth (m + n) (flat_map (rows_of_row kind test n right) left)
wide_rows kind test m n right [] w v = tt
wide_rows kind test m n right (row ∷ rows) w v =
    wide_append (m + n) (rows_of_row kind test n right row) (flat_map (rows_of_row kind test n right) rows)
    (subst (λ k. HasWidth (k + n) (rows_of_row kind test n right row)) v.0
    (wide_nulls kind row n (pairs_of test right row) (wide_filter test (length row + n) (map (λ other. row ++ other) right) (wide_pairs row n right w))))
    (wide_rows kind test m n right rows w v.1)

joined_wide : (kind : JoinKind) (on : Expression) (l r : Relation) → ValuesAreWide l → ValuesAreWide r → ValuesAreWide (joined kind on l r)
joined_wide kind on l r w v =
    subst (λ k. HasWidth k (flat_map (rows_of_row kind (meets (joined_columns kind l r) (Some on)) (length r.columns) r.rows) l.rows))
    (sym (length-append (map (prefixed l.name) l.columns) (map (λ c. nullable_if (is_left kind) (prefixed r.name c)) r.columns)
    ∙ ap (λ k. k + length (map (λ c. nullable_if (is_left kind) (prefixed r.name c)) r.columns)) (length-map l.columns _)
    ∙ ap (λ k. length l.columns + k) (length-map r.columns _)))
    (wide_rows kind (meets (joined_columns kind l r) (Some on)) (length l.columns) (length r.columns) r.rows l.rows v w)

-- what is given was not refused
given : (a b o : Bool) (s k : Relation) → unless_refused ((a, InvalidInput) ∷ (b, InvalidInput) ∷ (o, InvalidInput) ∷ []) s ≡ Ok k → (a ≡ false) × (s ≡ k)
given true b o s k e = cc
given false true o s k e = cc
given false false true s k e = cc
given false false false s k e = (refl, (cc))

given_by_join : (u a b o : Bool) (s k : Relation) → unless_refused ((u, InvalidInput) ∷ (a, InvalidInput) ∷ (b, InvalidInput) ∷ (o, InvalidInput) ∷ []) s ≡ Ok k → (a ≡ false) × (s ≡ k)
given_by_join true a b o s k e = cc
given_by_join false a b o s k e = given a b o s k e

pub narrowed_wide : (c : Clauses) (r k : Relation) → ValuesAreWide r → narrowed c r ≡ Ok k → ValuesAreWide k
narrowed_wide c r k w e =
    let known : List (List ℕ) → Bool = has_columns r.columns in
    let g = given (not (known c.columns)) (not (known (condition_names c.condition))) (not (known c.order)) (selected c r) k e in
    subst ValuesAreWide g.1 (selected_wide c r (not-false (known c.columns) g.0) w)

join_wide : (kind : JoinKind) (on : Expression) (c : Clauses) (l r k : Relation) → ValuesAreWide l → ValuesAreWide r → joined_narrowed kind on c l r ≡ Ok k → ValuesAreWide k
join_wide kind on c l r k w v e =
    let known : List (List ℕ) → Bool = has_columns (joined_columns kind l r) in
    let g = given_by_join (not (known (names_in on))) (not (known c.columns)) (not (known (condition_names c.condition))) (not (known c.order))
    (selected c (joined kind on l r)) k e in
    subst ValuesAreWide g.1 (selected_wide c (joined kind on l r) (not-false (known c.columns) g.0) (joined_wide kind on l r w v))

-- so the cells of what clauses keep are as many as its columns
pub narrowed_is_wide : (places : List Place) (c : Clauses) (relation : RelationCells) (answer : Result RelationCells ErrorKind) → HasWidth (length relation.columns) relation.rows
    → IfOk answer (λ kept. narrowed c (relation_values places relation) ≡ Ok (relation_values places kept)) → IfOk answer (λ kept. HasWidth (length kept.columns) kept.rows)
narrowed_is_wide places c relation (Ok kept) w e =
    wide_cells places (length kept.columns) kept.rows
    (narrowed_wide c (relation_values places relation) (relation_values places kept) (wide_values places (length relation.columns) relation.rows w) e)
narrowed_is_wide places c relation (Err k) w e = tt

-- and those of what they keep of a join
pub join_is_wide : (places : List Place) (kind : JoinKind) (on : Expression) (c : Clauses) (l r : RelationCells) (answer : Result RelationCells ErrorKind) → HasWidth (length l.columns) l.rows → HasWidth (length r.columns) r.rows
    → IfOk answer (λ kept. joined_narrowed kind on c (relation_values places l) (relation_values places r) ≡ Ok (relation_values places kept)) → IfOk answer (λ kept. HasWidth (length kept.columns) kept.rows)
join_is_wide places kind on c l r (Ok kept) w v e =
    wide_cells places (length kept.columns) kept.rows
    (join_wide kind on c (relation_values places l) (relation_values places r) (relation_values places kept)
    (wide_values places (length l.columns) l.rows w) (wide_values places (length r.columns) r.rows v) e)
join_is_wide places kind on c l r (Err k) w v e = tt
