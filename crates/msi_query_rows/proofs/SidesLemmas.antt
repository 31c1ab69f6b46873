-- The tables of a product, and what clauses keep of it.
use Rattle.std.proofs.Common.{◌≡◌, ℕ, zero, suc, ◌+◌, ◌<◌, List, [], ◌∷◌, ◌++◌, length, map, filter, take, get_or, Bool, Option, None, Result, Ok, Err, refl, ap, subst, sym, ◌∙◌, arith, inl, inr, length-append}
use Rattle.std.specs.Prelude.{IfErr, IfOk}
use Rattle.std.specs.List.{AllByRecursion, flat_map}
use Rattle.std.proofs.lemmas.Grind.{flat_map-append}
use Rattle.std.proofs.lemmas.List.{append-nil, length-map, map-append, take_more}
use Rattle.msi_base.specs.declared.errors.ErrorKind.{ErrorKind}
use Rattle.msi_base.specs.Refusals.{IsRefusal, unless_refused, ◌>>=◌}
use Rattle.msi_base.proofs.RefusalLemmas.{refusals-Err, refusals-Ok}
use Rattle.msi_pool.specs.Pool.{Place}
use Rattle.msi_table_cells.specs.TableCells.{TableCells}
use Rattle.msi_table_values.specs.declared.value.Value.{Value}
use Rattle.msi_table_values.specs.Columns.{ColumnDef}
use Rattle.msi_query_expressions.specs.Conditions.{meets}
use Rattle.msi_query_expressions.specs.Expressions.{Expression}
use Rattle.msi_query.specs.Product.{product as rows_of_product}
use Rattle.msi_query.specs.Queries.{Clauses, Query, Side, product}
use Rattle.msi_query.specs.Rows.{RelationCells, relation_values, rows_values, side_cells, sides_cells, tables_values, whole_table}
use Rattle.msi_query.specs.Selection.{Relation, clause_refusals, distinct_if, in_order, kept_of, meant_clauses, prefixed, product_columns, product_of, projected, relation_of, selected, side_of, side_refusals, sides_of}
use Rattle.msi_query.proofs.SelectionLemmas.{all_kept}
use Rattle.msi_query_rows.specs.Width.{HasWidth, ValuesAreWide}
use Rattle.msi_query_rows.proofs.WholeTableLemmas.{table_goes_on}
use Rattle.msi_query_rows.proofs.WidthLemmas.{narrowed_wide, wide_append, wide_cells, wide_values}

-- ONE TABLE MORE

given_both : {A : Type 0} (r : Result A ErrorKind) (s : Result (List A) ErrorKind) (all : List A) → (r >>= λ x. s >>= λ xs. Ok (x ∷ xs)) ≡ Ok all
    → (x : A) × (xs : List A) × (r ≡ Ok x) × (s ≡ Ok xs) × (x ∷ xs ≡ all)
given_both (Ok x) (Ok xs) all e = (x, xs, refl, refl, cc)
given_both (Ok x) (Err k) all e = cc
given_both (Err k) s all e = cc

one_more : (tables : List ℕ → Option TableCells) (sides : List Side) (side : Side) (rs : List RelationCells) (r : RelationCells) → sides_cells tables sides ≡ Ok rs → side_cells tables side ≡ Ok r
    → sides_cells tables (sides ++ side ∷ []) ≡ Ok (rs ++ r ∷ [])
one_more tables [] side rs r e f =
    let none : ◌≡◌ {A = List RelationCells} [] rs = cc in
    rw f (ap (λ (xs : List RelationCells). Ok (xs ++ r ∷ [])) none)
one_more tables (s ∷ ss) side rs r e f =
    let (x, xs, at, behind, is) = given_both (side_cells tables s) (sides_cells tables ss) rs e in
    rw (at, one_more tables ss side xs r behind f) (ap (λ (ys : List RelationCells). Ok (ys ++ r ∷ [])) is)

pub side_given : (tables : List ℕ → Option TableCells) (sides : List Side) (i : ℕ) (side : Side) (rs new : List RelationCells) (r : RelationCells) → i < length sides → side ≡ get_or sides i side
    → sides_cells tables (take i sides) ≡ Ok rs → side_cells tables side ≡ Ok r → new ≡ rs ++ r ∷ [] → sides_cells tables (take (i + 1) sides) ≡ Ok new
side_given tables sides i side rs new r below at e f n =
    ap (sides_cells tables) (take_more sides i side below ∙ ap (λ (s : Side). take i sides ++ s ∷ []) (sym at))
    ∙ one_more tables (take i sides) side rs r e f ∙ ap Ok (sym n)

refused_behind : (tables : List ℕ → Option TableCells) (sides : List Side) (i : ℕ) (side : Side) (rs : List RelationCells) (k : ErrorKind) → i < length sides → side ≡ get_or sides i side
    → sides_cells tables (take i sides) ≡ Ok rs → side_cells tables side ≡ Err k → sides_cells tables sides ≡ Err k
refused_behind tables [] i side rs k below at e f = absurd (omega arith)
refused_behind tables (s ∷ ss) zero side rs k below at e f = rw (ap (side_cells tables) (sym at) ∙ f) refl
refused_behind tables (s ∷ ss) (suc i) side rs k below at e f =
    let (x, xs, given, behind, is) = given_both (side_cells tables s) (sides_cells tables (take i ss)) rs e in
    rw (given, refused_behind tables ss i side xs k (omega arith) at behind f) refl

pub side_refuses : (tables : List ℕ → Option TableCells) (sides : List Side) (i : ℕ) (side : Side) (rs : List RelationCells) (k : ErrorKind) → i < length sides → side ≡ get_or sides i side
    → sides_cells tables (take i sides) ≡ Ok rs → IsRefusal (side_cells tables side) k → IsRefusal (sides_cells tables sides) k
side_refuses tables sides i side rs k below at e (inl m) = inl m
side_refuses tables sides i side rs k below at e (inr f) = inr (refused_behind tables sides i side rs k below at e f)

-- THEIR VALUES

abbrev under_name : List ℕ → Relation → Result Relation ErrorKind
under_name name r = Ok (record r { name = name })

abbrev cells_under_name : List ℕ → RelationCells → Result RelationCells ErrorKind
cells_under_name name r = Ok (record r { name = name })

abbrev given_values : List Place → RelationCells → Result Relation ErrorKind
given_values places r = Ok (relation_values places r)

named_so : (places : List Place) (name : List ℕ) (w : Result RelationCells ErrorKind)
    → (w >>= λ r. under_name name (relation_values places r)) ≡ ((w >>= λ r. cells_under_name name r) >>= λ r. given_values places r)
named_so places name (Ok r) = refl
named_so places name (Err k) = refl

side_values : (places : List Place) (tables : List ℕ → Option TableCells) (side : Side) → side_of (tables_values places tables) side ≡ (side_cells tables side >>= λ r. given_values places r)
side_values places tables side = table_goes_on places tables side.table (under_name side.name) ∙ named_so places side.name (whole_table tables side.table)

valued_both : (places : List Place) (r : Result RelationCells ErrorKind) (s : Result (List RelationCells) ErrorKind)
    → ((r >>= λ x. Ok (relation_values places x)) >>= λ x. (s >>= λ xs. Ok (map (relation_values places) xs)) >>= λ xs. Ok (x ∷ xs))
    ≡ ((r >>= λ x. s >>= λ xs. Ok (x ∷ xs)) >>= λ xs. Ok (map (relation_values places) xs))
valued_both places (Ok x) (Ok xs) = refl
valued_both places (Ok x) (Err k) = refl
valued_both places (Err k) s = refl

sides_values : (places : List Place) (tables : List ℕ → Option TableCells) (sides : List Side)
    → sides_of (tables_values places tables) sides ≡ (sides_cells tables sides >>= λ rs. Ok (map (relation_values places) rs))
sides_values places tables [] = refl
sides_values places tables (side ∷ sides) =
    ap (λ (x : Result Relation ErrorKind). x >>= λ r. sides_of (tables_values places tables) sides >>= λ rs. Ok (r ∷ rs)) (side_values places tables side)
    ∙ ap (λ (y : Result (List Relation) ErrorKind). (side_cells tables side >>= λ r. Ok (relation_values places r)) >>= λ r. y >>= λ rs. Ok (r ∷ rs)) (sides_values places tables sides)
    ∙ valued_both places (side_cells tables side) (sides_cells tables sides)

-- WHAT A QUERY FOR A PRODUCT GIVES

abbrev goes_on : List Side → Clauses → Result (List Relation) ErrorKind → Result Relation ErrorKind
goes_on sides c given = given >>= λ rs. unless_refused (side_refusals sides) (product_of rs) >>= λ r. kept_of c r

product_goes_on : (places : List Place) (tables : List ℕ → Option TableCells) (sides : List Side) (c : Clauses) (rs : List RelationCells) → sides_cells tables sides ≡ Ok rs
    → relation_of (tables_values places tables) (product sides c) ≡ (unless_refused (side_refusals sides) (product_of (map (relation_values places) rs)) >>= λ r. kept_of c r)
product_goes_on places tables sides c rs e =
    ap (goes_on sides c) (sides_values places tables sides ∙ ap (λ (x : Result (List RelationCells) ErrorKind). x >>= λ rs. Ok (map (relation_values places) rs)) e)

product_gives : (places : List Place) (tables : List ℕ → Option TableCells) (sides : List Side) (c : Clauses) (rs : List RelationCells) (u : Result (Unit {0}) ErrorKind) → sides_cells tables sides ≡ Ok rs
    → u ≡ unless_refused (side_refusals sides) tt → u ≡ Ok tt → relation_of (tables_values places tables) (product sides c) ≡ kept_of c (product_of (map (relation_values places) rs))
product_gives places tables sides c rs u e a w =
    let whole = product_of (map (relation_values places) rs) in
    product_goes_on places tables sides c rs e
    ∙ ap (λ (x : Result Relation ErrorKind). x >>= λ r. kept_of c r) (refusals-Ok (side_refusals sides) tt tt whole whole (sym w ∙ a) refl)

pub product_answer : (places : List Place) (tables : List ℕ → Option TableCells) (sides : List Side) (c : Clauses) (rs : List RelationCells) (u : Result (Unit {0}) ErrorKind) (answer : Result RelationCells ErrorKind)
    → sides_cells tables sides ≡ Ok rs → u ≡ unless_refused (side_refusals sides) tt → u ≡ Ok tt
    → IfOk answer (λ k. kept_of c (product_of (map (relation_values places) rs)) ≡ Ok (relation_values places k))
    → IfOk answer (λ k. relation_of (tables_values places tables) (product sides c) ≡ Ok (relation_values places k))
product_answer places tables sides c rs u answer e a w h =
    subst (λ (x : Result Relation ErrorKind). IfOk answer (λ k. x ≡ Ok (relation_values places k))) (sym (product_gives places tables sides c rs u e a w)) h

pub product_fails : {A : Type 0} (places : List Place) (tables : List ℕ → Option TableCells) (sides : List Side) (c : Clauses) (rs : List RelationCells) (u : Result (Unit {0}) ErrorKind) (answer : Result A ErrorKind)
    → sides_cells tables sides ≡ Ok rs → u ≡ unless_refused (side_refusals sides) tt → u ≡ Ok tt
    → IfErr answer (IsRefusal (kept_of c (product_of (map (relation_values places) rs)))) → IfErr answer (IsRefusal (relation_of (tables_values places tables) (product sides c)))
product_fails places tables sides c rs u answer e a w h =
    subst (λ (x : Result Relation ErrorKind). IfErr answer (IsRefusal x)) (sym (product_gives places tables sides c rs u e a w)) h

pub tables_refused : (places : List Place) (tables : List ℕ → Option TableCells) (sides : List Side) (c : Clauses) (k : ErrorKind) → IsRefusal (sides_cells tables sides) k
    → IsRefusal (relation_of (tables_values places tables) (product sides c)) k
tables_refused places tables sides c k (inl m) = inl m
tables_refused places tables sides c k (inr e) =
    inr (ap (goes_on sides c) (sides_values places tables sides ∙ ap (λ (x : Result (List RelationCells) ErrorKind). x >>= λ rs. Ok (map (relation_values places) rs)) e))

pub names_refused : (places : List Place) (tables : List ℕ → Option TableCells) (sides : List Side) (c : Clauses) (rs : List RelationCells) (u : Result (Unit {0}) ErrorKind) (k : ErrorKind) → sides_cells tables sides ≡ Ok rs
    → u ≡ unless_refused (side_refusals sides) tt → u ≡ Err k → IsRefusal (relation_of (tables_values places tables) (product sides c)) k
names_refused places tables sides c rs u k e a w =
    inr (product_goes_on places tables sides c rs e
    ∙ ap (λ (x : Result Relation ErrorKind). x >>= λ r. kept_of c r) (refusals-Err (side_refusals sides) tt (product_of (map (relation_values places) rs)) k (sym w ∙ a)))

-- COLUMNS

pub columns_more : (places : List Place) (relations : List RelationCells) (i : ℕ) (relation : RelationCells) (name : List ℕ) (columns : List ColumnDef) (old new : List ColumnDef) → i < length relations → relation ≡ get_or relations i relation → name ≡ relation.name → columns ≡ relation.columns
    → old ≡ product_columns (map (relation_values places) (take i relations)) → new ≡ old ++ map (λ c. prefixed name c) columns
    → new ≡ product_columns (map (relation_values places) (take (i + 1) relations))
columns_more places relations i relation name columns old new below at m k e n =
    n ∙ ap (λ (x : List ℕ). old ++ map (λ c. prefixed x c) columns) m ∙ ap (λ (x : List ColumnDef). old ++ map (λ c. prefixed relation.name c) x) k
    ∙ ap (λ (cs : List ColumnDef). cs ++ map (λ c. prefixed relation.name c) relation.columns) e
    ∙ ap (λ (cs : List ColumnDef). product_columns (map (relation_values places) (take i relations)) ++ cs) (sym (append-nil (map (λ c. prefixed relation.name c) relation.columns)))
    ∙ sym (ap product_columns (ap (map (relation_values places)) (take_more relations i relation below ∙ ap (λ (r : RelationCells). take i relations ++ r ∷ []) (sym at))
    ∙ map-append (relation_values places) (take i relations) (relation ∷ []))
    ∙ flat_map-append (λ (r : Relation). map (prefixed r.name) r.columns) (map (relation_values places) (take i relations)) (relation_values places relation ∷ []))

-- ROWS

rows_each : (places : List Place) (relations : List RelationCells) → map (λ (r : RelationCells). rows_values places r.rows) relations ≡ map (λ (r : Relation). r.rows) (map (relation_values places) relations)
rows_each places [] = refl
rows_each places (r ∷ rs) = ap (λ (xs : List (List (List Value))). rows_values places r.rows ∷ xs) (rows_each places rs)

-- rows that meet the condition already
selected_met : (c : Clauses) (r : Relation) → selected (record c { condition = None }) (record r { rows = filter (meets r.columns c.condition) r.rows }) ≡ selected c r
selected_met c r =
    ap (λ (rows : List (List Value)). distinct_if c.is_distinct (projected c.columns (record r { rows = in_order r.columns c.order rows })))
    (sym (all_kept r.columns (filter (meets r.columns c.condition) r.rows)))

-- the parts of a relation that is made of the rows of a product
pub record IsMade (places : List Place) (relations : List RelationCells) (condition : Option Expression) (made : RelationCells) : Type 0 where
  pub name : made.name ≡ []
  pub columns_are : made.columns ≡ product_columns (map (relation_values places) relations)
  pub rows_are : rows_values places made.rows ≡ filter (meets (product_columns (map (relation_values places) relations)) condition) (rows_of_product (map (λ (r : RelationCells). rows_values places r.rows) relations))

abbrev relation_with : List ColumnDef → List (List Value) → Relation
relation_with columns rows = record { name = []; columns = columns; rows = rows }

made_of : (places : List Place) (relations : List RelationCells) (condition : Option Expression) (made : RelationCells) → IsMade places relations condition made
    → relation_values places made
    ≡ relation_with (product_columns (map (relation_values places) relations)) (filter (meets (product_columns (map (relation_values places) relations)) condition) (product_of (map (relation_values places) relations)).rows)
made_of places relations condition made is =
    let columns = product_columns (map (relation_values places) relations) in
    ap (λ (name : List ℕ). let s : Relation = record { name = name; columns = made.columns; rows = rows_values places made.rows } in s) is.name
    ∙ ap (λ (cs : List ColumnDef). relation_with cs (rows_values places made.rows)) is.columns_are
    ∙ ap (relation_with columns) is.rows_are
    ∙ ap (λ (xs : List (List (List Value))). relation_with columns (filter (meets columns condition) (rows_of_product xs))) (rows_each places relations)

-- what the clauses keep of a product whose rows meet the condition already
pub product_kept : (places : List Place) (c m others : Clauses) (condition : Option Expression) (relations : List RelationCells) (columns known : List ColumnDef) (made : RelationCells)
    (answer : Result (Unit {0}) ErrorKind) (kept : Result RelationCells ErrorKind)
    → columns ≡ product_columns (map (relation_values places) relations) → m ≡ meant_clauses [] columns c → condition ≡ m.condition → others ≡ record m { condition = None }
    → known ≡ product_columns (map (relation_values places) relations) → answer ≡ unless_refused (clause_refusals m known) tt → answer ≡ Ok tt → IsMade places relations condition made
    → IfOk kept (λ k. relation_values places k ≡ selected others (relation_values places made))
    → IfOk kept (λ k. kept_of c (product_of (map (relation_values places) relations)) ≡ Ok (relation_values places k))
product_kept places c m others condition relations columns known made answer (Err k) e f g o n a w is s = s
product_kept places c m others condition relations columns known made answer (Ok k) e f g o n a w is s =
    let whole = product_of (map (relation_values places) relations) in
    let meaning : m ≡ meant_clauses [] whole.columns c = f ∙ ap (λ cs. meant_clauses [] cs c) e in
    ap (λ (x : Clauses). unless_refused (clause_refusals x whole.columns) (selected x whole)) (sym meaning)
    ∙ refusals-Ok (clause_refusals m whole.columns) tt tt (selected m whole) (relation_values places k)
    (sym w ∙ a ∙ ap (λ cs. unless_refused (clause_refusals m cs) tt) n)
    (s ∙ ap (λ (x : Clauses). selected x (relation_values places made)) o
    ∙ ap (selected (record m { condition = None })) (made_of places relations condition made is)
    ∙ ap (λ (x : Option Expression). selected (record m { condition = None }) (relation_with whole.columns (filter (meets whole.columns x) whole.rows))) g
    ∙ selected_met m whole)

pub product_clauses_refused : (places : List Place) (c m : Clauses) (relations : List RelationCells) (columns known : List ColumnDef) (answer : Result (Unit {0}) ErrorKind) (k : ErrorKind)
    → columns ≡ product_columns (map (relation_values places) relations) → m ≡ meant_clauses [] columns c → known ≡ product_columns (map (relation_values places) relations)
    → answer ≡ unless_refused (clause_refusals m known) tt → answer ≡ Err k → IsRefusal (kept_of c (product_of (map (relation_values places) relations))) k
product_clauses_refused places c m relations columns known answer k e f n a w =
    let whole = product_of (map (relation_values places) relations) in
    let meaning : m ≡ meant_clauses [] whole.columns c = f ∙ ap (λ cs. meant_clauses [] cs c) e in
    inr (ap (λ (x : Clauses). unless_refused (clause_refusals x whole.columns) (selected x whole)) (sym meaning)
    ∙ refusals-Err (clause_refusals m whole.columns) tt (selected m whole) k (sym w ∙ a ∙ ap (λ cs. unless_refused (clause_refusals m cs) tt) n))

-- WIDTHS

wide_front : (m n : ℕ) (behind : List Value) (rows : List (List Value)) → length behind ≡ n → HasWidth m rows → HasWidth (m + n) (map (λ row. row ++ behind) rows)
wide_front m n behind [] h w = tt
wide_front m n behind (row ∷ rows) h w = (length-append row behind ∙ ap (λ k. k + length behind) w.0 ∙ ap (λ k. m + k) h, wide_front m n behind rows h w.1)

wide_behind : (m n : ℕ) (rows others : List (List Value)) → HasWidth m rows → HasWidth n others → HasWidth (m + n) (flat_map (λ behind. map (λ row. row ++ behind) rows) others)
wide_behind m n rows [] w v = tt
wide_behind m n rows (other ∷ others) w v =
    wide_append (m + n) (map (λ row. row ++ other) rows) (flat_map (λ behind. map (λ row. row ++ behind) rows) others)
    (wide_front m n other rows v.0 w) (wide_behind m n rows others w v.1)

wide_product : (relations : List Relation) → AllByRecursion ValuesAreWide relations → ValuesAreWide (product_of relations)
wide_product [] w = (refl, tt)
wide_product (r ∷ rs) w =
    subst (λ k. HasWidth k (rows_of_product (map (λ (r : Relation). r.rows) (r ∷ rs))))
    (sym (length-append (map (prefixed r.name) r.columns) (product_columns rs) ∙ ap (λ k. k + length (product_columns rs)) (length-map r.columns (prefixed r.name))))
    (wide_behind (length r.columns) (length (product_columns rs)) r.rows (rows_of_product (map (λ (r : Relation). r.rows) rs)) w.0 (wide_product rs w.1))

wide_each : (places : List Place) (relations : List RelationCells) → AllByRecursion (λ (r : RelationCells). HasWidth (length r.columns) r.rows) relations → AllByRecursion ValuesAreWide (map (relation_values places) relations)
wide_each places [] w = tt
wide_each places (r ∷ rs) w = (wide_values places (length r.columns) r.rows w.0, wide_each places rs w.1)

pub product_is_wide : (places : List Place) (c : Clauses) (relations : List RelationCells) (answer : Result RelationCells ErrorKind) → AllByRecursion (λ (r : RelationCells). HasWidth (length r.columns) r.rows) relations
    → IfOk answer (λ k. kept_of c (product_of (map (relation_values places) relations)) ≡ Ok (relation_values places k)) → IfOk answer (λ k. HasWidth (length k.columns) k.rows)
product_is_wide places c relations (Err k) w e = tt
product_is_wide places c relations (Ok kept) w e =
    let whole = product_of (map (relation_values places) relations) in
    wide_cells places (length kept.columns) kept.rows
    (narrowed_wide (meant_clauses [] whole.columns c) whole (relation_values places kept) (wide_product (map (relation_values places) relations) (wide_each places relations w)) e)
