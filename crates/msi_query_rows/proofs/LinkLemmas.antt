-- Links between the relations of a product: what a condition implies, and the steps of a product along them.
use Rattle.std.proofs.Common.{◌≡◌, ℕ, ◌+◌, ◌<◌, ◌≤◌, Bool, true, false, not, List, [], ◌∷◌, ◌++◌, length, get_or, take, drop, ◌-◌, refl, sym, ap, subst, ◌∙◌}
use Rattle.std.specs.Prelude.{map, filter, find, Option, Some, None, option_map, unwrap_or, slice_get, slice_index_or, replicate, ◌==◌}
use Rattle.std.specs.List.{AllByRecursion, flat_map, list_all, position, range_with_len}
use Rattle.std.specs.Ordering.{is_eq}
use Rattle.std.proofs.Math.ListN.{set}
use Rattle.std.proofs.lemmas.Bool.{and_parts}
use Rattle.std.proofs.lemmas.Option.{slice_get-map}
use Rattle.std.proofs.lemmas.List.{append-nil, get_or-map, length-map, length-replicate, take_more}
use Rattle.std.proofs.lemmas.List.Concat.{flat_map-append}
use Rattle.std.proofs.lemmas.Simd.{map-map}
use Rattle.msi_base.specs.Lists.{stable_sort}
use Rattle.msi_base.proofs.ListLemmas.{In, all_at, all_joined, found_in}
use Rattle.msi_pool.specs.Pool.{Place}
use Rattle.msi_table_cells.specs.declared.cell.ValueRef.{ValueRef}
use Rattle.msi_table_cells.specs.declared.cell.ValueRef.TheVariants as cell
use Rattle.msi_table_values.specs.declared.value.Value.{Value}
use Rattle.msi_table_values.specs.declared.value.Value.TheVariants.{Null}
use Rattle.msi_table_cells.specs.CellValues.{value_of_cell, row_values}
use Rattle.msi_table_values.specs.Columns.{ColumnDef}
use Rattle.msi_table_values.specs.Values.{value_cmp}
use Rattle.msi_table_values.specs.OrderLaws.{value_eq-Decides}
use Rattle.msi_table.specs.Rows.{AreAsWide}
use Rattle.msi_query_expressions.specs.Conditions.{RowFilterDef, meets, value_at_place}
use Rattle.msi_query_expressions.specs.Equated.{AreEqualAt, equations}
use Rattle.msi_query_expressions.specs.Expressions.{Expression}
use Rattle.msi_query_expressions.proofs.EquatedLemmas.{equations_hold}
use Rattle.msi_query.specs.Product.{product}
use Rattle.msi_query.specs.Rows.{RelationCells, rows_values}
use Rattle.msi_query_rows.specs.declared.links.Link.{Link}
use Rattle.msi_query_rows.specs.Combinations.{IsCombination, combination_cmp, combinations, combined, if_whole, is_kept, located, numbered_row, rows_of_each, value_combined, widths_of, with_each}
use Rattle.msi_query_rows.specs.Index.{value_there}
use Rattle.msi_query_rows.specs.Links.{AreImplied, AreLinked, both_links, connects, links_between, links_of, numbers_for, relation_of}
use Rattle.msi_query_rows.proofs.ProductOrderLemmas.{IsOnce}
use Rattle.msi_query_rows.proofs.CombinationLemmas.{IsFound, chosen, found_all, found_first, found_more}
use Rattle.msi_query_rows.proofs.ProductLemmas.{filter_images, located_there, product_combined}
use Rattle.msi_query_rows.proofs.StepLemmas.{all_inside, all_once, count_left, first_is_left, in_all, in_matching, left_within, matching_inside, matching_once, none_is_left, not_false, one_less_left}
use Rattle.msi_query_rows.proofs.WalkLemmas.{located_behind, located_here, shifted}

-- ---- what a condition implies

value_or_null : (places : List Place) (o : Option ValueRef) → unwrap_or (option_map (value_of_cell places) o) Null ≡ value_of_cell places (unwrap_or o cell.Null)
value_or_null places None = refl
value_or_null places (Some c) = refl

value_located : (places : List Place) (relations : List RelationCells) (numbers : List ℕ) (place : ℕ) (at : ℕ × ℕ) → AllByRecursion (λ r. AreAsWide r.columns r.rows) relations
    → IsCombination (map (λ r. length r.rows) relations) numbers → located (widths_of relations) place ≡ Some at
    → value_at_place (row_values places (combined (rows_of_each relations) numbers)) place ≡ value_combined places (rows_of_each relations) numbers at.0 at.1
value_located places relations numbers place at w c e =
    ap (λ o. unwrap_or o Null) (slice_get-map (value_of_cell places) (combined (rows_of_each relations) numbers) place)
    ∙ ap (λ o. unwrap_or (option_map (value_of_cell places) o) Null) (located_there (λ (r : RelationCells). length r.columns) (λ (r : RelationCells). r.rows) relations numbers place at w c e)
    ∙ value_or_null places (slice_get (numbered_row (slice_index_or (rows_of_each relations) at.0 []) (slice_index_or numbers at.0 0)) at.1)

linked_by : (places : List Place) (rows : List (List (List ValueRef))) (numbers : List ℕ) (row : List Value) (equation : ℕ × ℕ) (o u : Option (ℕ × ℕ))
    → ((at : ℕ × ℕ) → o ≡ Some at → value_at_place row equation.0 ≡ value_combined places rows numbers at.0 at.1)
    → ((at : ℕ × ℕ) → u ≡ Some at → value_at_place row equation.1 ≡ value_combined places rows numbers at.0 at.1)
    → AreEqualAt row equation → AllByRecursion (AreLinked places rows numbers) (both_links o u)
linked_by places rows numbers row equation None u f g t = tt
linked_by places rows numbers row equation (Some one) None f g t = tt
linked_by places rows numbers row equation (Some one) (Some other) f g t =
    let same : value_at_place row equation.0 ≡ value_at_place row equation.1 = (value_eq-Decides (value_at_place row equation.0) (value_at_place row equation.1)).0 t in
    let there : value_combined places rows numbers one.0 one.1 ≡ value_combined places rows numbers other.0 other.1 = sym (f one refl) ∙ same ∙ g other refl in (
      (value_eq-Decides (value_combined places rows numbers other.0 other.1) (value_combined places rows numbers one.0 one.1)).1 (sym there),
      ((value_eq-Decides (value_combined places rows numbers one.0 one.1) (value_combined places rows numbers other.0 other.1)).1 there, tt),
    )

all_linked : (places : List Place) (relations : List RelationCells) (numbers : List ℕ) (list : List (ℕ × ℕ)) → AllByRecursion (λ r. AreAsWide r.columns r.rows) relations
    → IsCombination (map (λ r. length r.rows) relations) numbers → AllByRecursion (AreEqualAt (row_values places (combined (rows_of_each relations) numbers))) list
    → AllByRecursion (AreLinked places (rows_of_each relations) numbers) (flat_map (links_between (widths_of relations)) list)
all_linked places relations numbers [] w c a = tt
all_linked places relations numbers (equation ∷ list) w c a =
    all_joined (AreLinked places (rows_of_each relations) numbers) (links_between (widths_of relations) equation) (flat_map (links_between (widths_of relations)) list)
    (linked_by places (rows_of_each relations) numbers (row_values places (combined (rows_of_each relations) numbers)) equation
    (located (widths_of relations) equation.0) (located (widths_of relations) equation.1)
    (λ at e. value_located places relations numbers equation.0 at w c e) (λ at e. value_located places relations numbers equation.1 at w c e) a.0)
    (all_linked places relations numbers list w c a.1)

pub counts_same : (relations : List RelationCells) → map length (rows_of_each relations) ≡ map (λ r. length r.rows) relations
counts_same relations = map-map (λ (rows : List (List ValueRef)). length rows) (λ (r : RelationCells). r.rows) relations

implied : (places : List Place) (relations : List RelationCells) (columns : List ColumnDef) (condition : Option Expression) → AllByRecursion (λ r. AreAsWide r.columns r.rows) relations
    → AreImplied places (record { columns = columns; condition = condition }) (rows_of_each relations) (links_of (widths_of relations) columns condition)
implied places relations columns None w = λ numbers c t. tt
implied places relations columns (Some condition) w = λ numbers c t.
    all_linked places relations numbers (equations columns condition) w (subst (λ counts. IsCombination counts numbers) (counts_same relations) c)
    (equations_hold columns (row_values places (combined (rows_of_each relations) numbers)) condition t)

-- by what the calls gave
pub links_implied : (places : List Place) (relations : List RelationCells) (columns : List ColumnDef) (condition : Option Expression) (f : RowFilterDef) (links : List Link)
    → AllByRecursion (λ r. AreAsWide r.columns r.rows) relations → f ≡ record { columns = columns; condition = condition } → links ≡ links_of (widths_of relations) columns condition
    → AreImplied places f (rows_of_each relations) links
links_implied places relations columns condition f links w e l =
    subst (λ (g : RowFilterDef). AreImplied places g (rows_of_each relations) links) (sym e)
    (subst (λ (ls : List Link). AreImplied places (record { columns = columns; condition = condition }) (rows_of_each relations) ls) (sym l) (implied places relations columns condition w))

-- ---- the relation that comes next

connected : (joined : List Bool) (links : List Link) (link : Link) → Some link ≡ find (connects joined) links → In link links × (get_or joined link.from false ≡ true) × (get_or joined link.to true ≡ false)
connected joined links link e =
    let g = found_in (connects joined) links link (sym e) in
    let parts = and_parts (get_or joined link.from false) (not (get_or joined link.to true)) g.1 in
    (g.0, parts.0, not_false (get_or joined link.to true) parts.1)

pub next_is_left : (joined : List Bool) (links : List Link) (left : ℕ) (link : Option Link) → position not joined ≡ Some left → link ≡ find (connects joined) links → get_or joined (relation_of link left) true ≡ false
next_is_left joined links left None p e = first_is_left joined left p
next_is_left joined links left (Some link) p e = (connected joined links link e).2

pub next_within : (joined : List Bool) (links : List Link) (left : ℕ) (link : Option Link) → position not joined ≡ Some left → link ≡ find (connects joined) links → relation_of link left < length joined
next_within joined links left link p e = left_within joined (relation_of link left) (next_is_left joined links left link p e)

pub next_inside : (joined : List Bool) (links : List Link) (left : ℕ) (link : Option Link) (relation : ℕ) → position not joined ≡ Some left → link ≡ find (connects joined) links → relation ≡ relation_of link left → relation < length joined
next_inside joined links left link relation p e r = subst (λ k. k < length joined) (sym r) (next_within joined links left link p e)

pub next_less : (joined : List Bool) (links : List Link) (left : ℕ) (link : Option Link) (relation : ℕ) → position not joined ≡ Some left → link ≡ find (connects joined) links → relation ≡ relation_of link left
    → count_left (set joined relation true) < count_left joined
next_less joined links left link relation p e r = subst (λ k. count_left (set joined k true) < count_left joined) (sym r) (one_less_left joined (relation_of link left) (next_is_left joined links left link p e))

-- ---- where a place is, by what a loop was given

width_there : (relations : List RelationCells) (i : ℕ) (element : RelationCells) (columns : List ColumnDef) → i < length relations → element ≡ get_or relations i element → columns ≡ element.columns
    → length columns ≡ get_or (widths_of relations) i 0
width_there relations i element columns h e c =
    ap length c ∙ ap (λ (r : RelationCells). length r.columns) e ∙ sym (get_or-map (λ (r : RelationCells). length r.columns) relations i element 0 h)

pub place_here : (relations : List RelationCells) (place i rest : ℕ) (element : RelationCells) (columns : List ColumnDef) → i < length relations → element ≡ get_or relations i element → columns ≡ element.columns
    → rest < length columns → located (widths_of relations) place ≡ shifted i (located (drop i (widths_of relations)) rest) → Some (i, rest) ≡ located (widths_of relations) place
place_here relations place i rest element columns h e c l s =
    located_here (widths_of relations) place i rest (length columns) (subst (λ n. i < n) (sym (length-map relations (λ (r : RelationCells). length r.columns))) h) (width_there relations i element columns h e c) l s

pub place_behind : (relations : List RelationCells) (place i rest : ℕ) (element : RelationCells) (columns : List ColumnDef) → i < length relations → element ≡ get_or relations i element → columns ≡ element.columns
    → length columns ≤ rest → located (widths_of relations) place ≡ shifted i (located (drop i (widths_of relations)) rest)
    → located (widths_of relations) place ≡ shifted (i + 1) (located (drop (i + 1) (widths_of relations)) (rest - length columns))
place_behind relations place i rest element columns h e c l s =
    located_behind (widths_of relations) place i rest (rest - length columns) (length columns) (subst (λ n. i < n) (sym (length-map relations (λ (r : RelationCells). length r.columns))) h) (width_there relations i element columns h e c) l refl s

-- ---- one more combination, with the rows that a link leads to

pub linked_more : (keeps : List ℕ → Bool) (places : List Place) (rows : List (List (List ValueRef))) (link : Link) (all : List (List ℕ)) (i : ℕ) (item combination : List ℕ) (there : List (List ValueRef)) (c : ValueRef) (picked : List ℕ) (old new : List (List ℕ))
    → i < length all → item ≡ get_or all i item → combination ≡ item → there ≡ slice_index_or rows link.to []
    → value_of_cell places c ≡ value_combined places rows combination link.from link.from_column
    → picked ≡ filter (λ n. is_eq (value_cmp (value_there places link.to_column (numbered_row there n)) (value_of_cell places c))) (range_with_len 0 (length there))
    → new ≡ old ++ with_each keeps link.to picked combination
    → old ≡ flat_map (λ numbers. with_each keeps link.to (numbers_for places rows link.to (Some link) numbers) numbers) (take i all)
    → new ≡ flat_map (λ numbers. with_each keeps link.to (numbers_for places rows link.to (Some link) numbers) numbers) (take (i + 1) all)
linked_more keeps places rows link all i item combination there c picked old new h e s t v p n o =
    let each : List ℕ → List (List ℕ) = λ numbers. with_each keeps link.to (numbers_for places rows link.to (Some link) numbers) numbers in
    let pick : picked ≡ numbers_for places rows link.to (Some link) combination =
    p ∙ ap (λ (rs : List (List ValueRef)). filter (λ n. is_eq (value_cmp (value_there places link.to_column (numbered_row rs n)) (value_of_cell places c))) (range_with_len 0 (length rs))) t
    ∙ ap (λ (w : Value). filter (λ n. is_eq (value_cmp (value_there places link.to_column (numbered_row (slice_index_or rows link.to []) n)) w)) (range_with_len 0 (length (slice_index_or rows link.to [])))) v in
    n ∙ ap (λ (ns : List ℕ). old ++ with_each keeps link.to ns combination) pick
    ∙ ap (λ (l : List (List ℕ)). l ++ each combination) o
    ∙ ap (λ (l : List (List ℕ)). flat_map each (take i all) ++ l) (sym (append-nil (each combination)))
    ∙ sym (flat_map-append each (take i all) (combination ∷ []))
    ∙ ap (λ (x : List ℕ). flat_map each (take i all ++ x ∷ [])) (s ∙ e)
    ∙ ap (flat_map each) (sym (take_more all i item h))

-- ---- a step

abbrev same : Value → Value → Bool
same v w = is_eq (value_cmp v w)

numbers_inside : (places : List Place) (rows : List (List (List ValueRef))) (left : ℕ) (link : Option Link) (numbers : List ℕ) (i : ℕ)
    → In i (numbers_for places rows (relation_of link left) link numbers) → i < get_or (map length rows) (relation_of link left) 0
numbers_inside places rows left None numbers i h = all_inside same (value_there places) rows left i h
numbers_inside places rows left (Some link) numbers i h =
    matching_inside same (value_there places) rows link.to link.to_column (value_combined places rows numbers link.from link.from_column) i h

numbers_once : (places : List Place) (rows : List (List (List ValueRef))) (left : ℕ) (link : Option Link) (numbers : List ℕ) → IsOnce (numbers_for places rows (relation_of link left) link numbers)
numbers_once places rows left None numbers = all_once same (value_there places) rows left
numbers_once places rows left (Some link) numbers = matching_once same (value_there places) rows link.to link.to_column (value_combined places rows numbers link.from link.from_column)

numbers_there : (places : List Place) (rows : List (List (List ValueRef))) (joined : List Bool) (links : List Link) (left : ℕ) (link : Option Link) (numbers : List ℕ)
    → relation_of link left < length rows → link ≡ find (connects joined) links → IsCombination (map length rows) numbers → AllByRecursion (AreLinked places rows numbers) links
    → In (get_or numbers (relation_of link left) 0) (numbers_for places rows (relation_of link left) link (chosen joined numbers))
numbers_there places rows joined links left None numbers h e c l = in_all same (value_there places) rows left numbers c h
numbers_there places rows joined links left (Some link) numbers h e c l =
    let g = connected joined links link e in
    in_matching same (value_there places) rows joined numbers link.to link.to_column link.from link.from_column c h g.1 (all_at (AreLinked places rows numbers) links link l g.0)

-- what is found with one more relation, by what the calls gave
pub found_with : (places : List Place) (f : RowFilterDef) (rows : List (List (List ValueRef))) (links : List Link) (joined : List Bool) (found : List (List ℕ))
    (left : ℕ) (link : Option Link) (relation : ℕ) (marked : List Bool) (whole : Bool) (given more : List (List ℕ))
    → given ≡ found → length joined ≡ length rows → position not joined ≡ Some left → link ≡ find (connects joined) links → relation ≡ relation_of link left → marked ≡ set joined relation true
    → whole ≡ list_all (λ j. j) marked
    → more ≡ flat_map (λ numbers. with_each (if_whole whole (is_kept places f rows)) (relation_of link left) (numbers_for places rows (relation_of link left) link numbers) numbers) given
    → IsFound (map length rows) (λ numbers. AllByRecursion (AreLinked places rows numbers) links) (is_kept places f rows) joined found
    → IsFound (map length rows) (λ numbers. AllByRecursion (AreLinked places rows numbers) links) (is_kept places f rows) marked more
found_with places f rows links joined found left link relation marked whole given more same_given same_length p e r m w is before =
    let test : List ℕ → Bool = is_kept places f rows in
    let linked : List ℕ → Type 0 = λ numbers. AllByRecursion (AreLinked places rows numbers) links in
    let next : ℕ = relation_of link left in
    let pick : List ℕ → List ℕ = numbers_for places rows (relation_of link left) link in
    let counted : length joined ≡ length (map length rows) = same_length ∙ sym (length-map rows length) in
    let marks : marked ≡ set joined (relation_of link left) true = m ∙ ap (λ k. set joined k true) r in
    let stepped : IsFound (map length rows) linked test (set joined next true) (flat_map (λ numbers. with_each (if_whole (list_all (λ j. j) (set joined next true)) test) next (pick numbers) numbers) found) =
    found_more (map length rows) linked test joined next pick found counted (next_is_left joined links left link p e)
    (λ numbers i h. numbers_inside places rows left link numbers i h) (λ numbers. numbers_once places rows left link numbers)
    (λ numbers c l. numbers_there places rows joined links left link numbers (subst (λ n. relation_of link left < n) same_length (next_within joined links left link p e)) e c l)
    before in
    let out : more ≡ flat_map (λ numbers. with_each (if_whole (list_all (λ j. j) (set joined next true)) test) next (pick numbers) numbers) found =
    is ∙ ap (λ (ns : List (List ℕ)). flat_map (λ numbers. with_each (if_whole whole test) next (pick numbers) numbers) ns) same_given
    ∙ ap (λ (v : Bool). flat_map (λ numbers. with_each (if_whole v test) next (pick numbers) numbers) found) (w ∙ ap (list_all (λ j. j)) marks) in
    subst (λ (js : List Bool). IsFound (map length rows) linked test js more) (sym marks)
    (subst (λ (ns : List (List ℕ)). IsFound (map length rows) linked test (set joined next true) ns) (sym out) stepped)

-- what is found before the first step
pub start_counted : (relations : List RelationCells) (joined : List Bool) → joined ≡ replicate (length relations) false → length joined ≡ length (rows_of_each relations)
start_counted relations joined e = ap length e ∙ length-replicate (length relations) false ∙ sym (length-map relations (λ (r : RelationCells). r.rows))

pub found_start : (relations : List RelationCells) (linked : List ℕ → Type 0) (test : List ℕ → Bool) (joined : List Bool) (found : List (List ℕ))
    → joined ≡ replicate (length relations) false → found ≡ filter (if_whole (length relations == 0) test) (replicate (length relations) 0 ∷ [])
    → IsFound (map length (rows_of_each relations)) linked test joined found
found_start relations linked test joined found j f =
    let counts : List ℕ = map length (rows_of_each relations) in
    let e : length relations ≡ length counts = sym (length-map (rows_of_each relations) length ∙ length-map relations (λ (r : RelationCells). r.rows)) in
    let js : joined ≡ replicate (length counts) false = j ∙ ap (λ n. replicate n false) e in
    let fs : found ≡ filter (if_whole (length counts == 0) test) (replicate (length counts) 0 ∷ []) = f ∙ ap (λ n. filter (if_whole (n == 0) test) (replicate n 0 ∷ [])) e in
    subst (λ (joined : List Bool). IsFound counts linked test joined found) (sym js)
    (subst (λ (found : List (List ℕ)). IsFound counts linked test (replicate (length counts) false) found) (sym fs) (found_first counts linked test))

-- once none is left
pub found_whole : (places : List Place) (f : RowFilterDef) (rows : List (List (List ValueRef))) (links : List Link) (joined : List Bool) (found : List (List ℕ))
    → length joined ≡ length rows → position not joined ≡ None → AreImplied places f rows links
    → IsFound (map length rows) (λ numbers. AllByRecursion (AreLinked places rows numbers) links) (is_kept places f rows) joined found
    → stable_sort combination_cmp found ≡ filter (is_kept places f rows) (combinations (map length rows))
found_whole places f rows links joined found counted p h =
    found_all (map length rows) (λ numbers. AllByRecursion (AreLinked places rows numbers) links) (is_kept places f rows) joined found
    (counted ∙ sym (length-map rows length)) (none_is_left joined p) h

-- ---- the rows of the product

pub product_is : (places : List Place) (relations : List RelationCells) (columns : List ColumnDef) (condition : Option Expression) (f : RowFilterDef) (found : List (List ℕ)) (rows : List (List ValueRef))
    → f ≡ record { columns = columns; condition = condition }
    → found ≡ filter (is_kept places f (rows_of_each relations)) (combinations (map length (rows_of_each relations)))
    → rows ≡ map (combined (rows_of_each relations)) found
    → rows_values places rows ≡ filter (meets columns condition) (product (map (λ r. rows_values places r.rows) relations))
product_is places relations columns condition f found rows e is given =
    let each : List (List (List ValueRef)) = rows_of_each relations in
    let test : List ℕ → Bool = is_kept places (record { columns = columns; condition = condition }) each in
    ap (rows_values places) (given ∙ ap (map (combined each)) (is ∙ ap (λ (g : RowFilterDef). filter (is_kept places g each) (combinations (map length each))) e))
    ∙ map-map (row_values places) (combined each) (filter test (combinations (map length each)))
    ∙ sym (filter_images (meets columns condition) (λ numbers. row_values places (combined each numbers)) (combinations (map length each)))
    ∙ ap (filter (meets columns condition)) (sym (product_combined (value_of_cell places) each)
    ∙ ap product (map-map (λ (rows : List (List ValueRef)). rows_values places rows) (λ (r : RelationCells). r.rows) relations))
