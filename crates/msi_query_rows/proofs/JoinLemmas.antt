-- Joins of two relations, and their refusals.
use Rattle.std.proofs.Common.{◌≡◌, ℕ, List, [], Option, Some, Bool, true, false, not, ap, sym, ◌∙◌, inr, length}
use Rattle.std.specs.Prelude.{Result, Ok, Err, IfOk}
use Rattle.std.specs.List.{flat_map}
use Rattle.msi_base.specs.declared.errors.ErrorKind.{ErrorKind}
use Rattle.msi_base.specs.declared.errors.ErrorKind.TheVariants.{InvalidInput}
use Rattle.msi_pool.specs.Pool.{Place}
use Rattle.msi_table_values.specs.declared.value.Value.{Value}
use Rattle.msi_table_cells.specs.declared.cell.ValueRef.{ValueRef}
use Rattle.msi_table_values.specs.Columns.{ColumnDef}
use Rattle.msi_query_expressions.specs.declared.joins.JoinKind.{JoinKind}
use Rattle.msi_query_expressions.specs.Expressions.{Expression, names_in}
use Rattle.msi_query_expressions.specs.Conditions.{RowFilterDef, meets}
use Rattle.msi_query.specs.Queries.{Clauses, Query, table, join}
use Rattle.msi_base.specs.Refusals.{IsRefusal, unless_refused, ◌>>=◌}
use Rattle.msi_table_cells.specs.TableCells.{TableCells}
use Rattle.msi_query.specs.Rows.{RelationCells, relation_values, rows_values, tables_values, whole_table}
use Rattle.msi_query.specs.Selection.{Relation, TableValues, kept_of, kept_of_join, relation_of, clause_refusals, joined, has_columns, joined_columns, joined_narrowed, rows_of_row, selected}
use Rattle.msi_base.proofs.RefusalLemmas.{first_holds, first_passes, refusals-Err, refusals-Ok}
use Rattle.msi_query_rows.proofs.WholeTableLemmas.{table_goes_on}

-- a join whose condition names a column that isn't there
pub join_refused : (kind : JoinKind) (on : Expression) (c : Clauses) (l r : Relation) (columns : List ColumnDef) (known : Bool) (k : ErrorKind) → columns ≡ joined_columns kind l r
    → known ≡ has_columns columns (names_in on) → known ≡ false → k ≡ InvalidInput → IsRefusal (joined_narrowed kind on c l r) k
join_refused kind on c l r columns known k e u t i =
    let unknown : not (has_columns (joined_columns kind l r) (names_in on)) ≡ true = ap (λ cs. not (has_columns cs (names_in on))) (sym e) ∙ ap not (sym u ∙ t) in
    inr (first_holds (not (has_columns (joined_columns kind l r) (names_in on))) InvalidInput (clause_refusals c (joined_columns kind l r)) (selected c (joined kind on l r)) unknown ∙ ap Err (sym i))

-- where it names none, the clauses decide
join_passes : (kind : JoinKind) (on : Expression) (c : Clauses) (l r : Relation) (columns : List ColumnDef) (known : Bool) → columns ≡ joined_columns kind l r
    → known ≡ has_columns columns (names_in on) → known ≡ true → joined_narrowed kind on c l r ≡ unless_refused (clause_refusals c (joined_columns kind l r)) (selected c (joined kind on l r))
join_passes kind on c l r columns known e u t =
    let none : not (has_columns (joined_columns kind l r) (names_in on)) ≡ false = ap (λ cs. not (has_columns cs (names_in on))) (sym e) ∙ ap not (sym u ∙ t) in
    first_passes (not (has_columns (joined_columns kind l r) (names_in on))) InvalidInput (clause_refusals c (joined_columns kind l r)) (selected c (joined kind on l r)) none

pub clauses_refused : (kind : JoinKind) (on : Expression) (c : Clauses) (l r : Relation) (columns others : List ColumnDef) (known : Bool) (answer : Result (Unit {0}) ErrorKind) (k : ErrorKind)
    → columns ≡ joined_columns kind l r → known ≡ has_columns columns (names_in on) → known ≡ true → others ≡ joined_columns kind l r
    → answer ≡ unless_refused (clause_refusals c others) tt → answer ≡ Err k → IsRefusal (joined_narrowed kind on c l r) k
clauses_refused kind on c l r columns others known answer k e u t o a w =
    inr (join_passes kind on c l r columns known e u t ∙ refusals-Err (clause_refusals c (joined_columns kind l r)) tt (selected c (joined kind on l r)) k
    (sym w ∙ a ∙ ap (λ cs. unless_refused (clause_refusals c cs) tt) o))

-- a relation by its parts
pub whole_is : (places : List Place) (whole : RelationCells) (j : Relation) → whole.name ≡ j.name → whole.columns ≡ j.columns → rows_values places whole.rows ≡ j.rows → relation_values places whole ≡ j
whole_is places whole j n c r =
    ap (λ (x : List ℕ). let s : Relation = record { name = x; columns = whole.columns; rows = rows_values places whole.rows } in s) n
    ∙ ap (λ (x : List ColumnDef). let s : Relation = record { name = j.name; columns = x; rows = rows_values places whole.rows } in s) c
    ∙ ap (λ (x : List (List Value)). let s : Relation = record { name = j.name; columns = j.columns; rows = x } in s) r

pub join_narrowed : (kind : JoinKind) (on : Expression) (c : Clauses) (places : List Place) (l r whole : RelationCells) (columns others : List ColumnDef) (known : Bool)
    (answer : Result (Unit {0}) ErrorKind) (kept : Result RelationCells ErrorKind)
    → columns ≡ joined_columns kind (relation_values places l) (relation_values places r)
    → known ≡ has_columns columns (names_in on) → known ≡ true → others ≡ joined_columns kind (relation_values places l) (relation_values places r)
    → answer ≡ unless_refused (clause_refusals c others) tt → answer ≡ Ok tt
    → whole.name ≡ [] → whole.columns ≡ joined_columns kind (relation_values places l) (relation_values places r)
    → rows_values places whole.rows
    ≡ flat_map (rows_of_row kind (meets (joined_columns kind (relation_values places l) (relation_values places r)) (Some on)) (length r.columns) (rows_values places r.rows)) (rows_values places l.rows)
    → IfOk kept (λ k. relation_values places k ≡ selected c (relation_values places whole))
    → IfOk kept (λ k. joined_narrowed kind on c (relation_values places l) (relation_values places r) ≡ Ok (relation_values places k))
join_narrowed kind on c places l r whole columns others known answer (Ok k) e u t o a w n wc wr s =
    let left = relation_values places l in
    let right = relation_values places r in
    join_passes kind on c left right columns known e u t
    ∙ refusals-Ok (clause_refusals c (joined_columns kind left right)) tt tt (selected c (joined kind on left right)) (relation_values places k)
    (sym w ∙ a ∙ ap (λ cs. unless_refused (clause_refusals c cs) tt) o)
    (s ∙ ap (selected c) (whole_is places whole (joined kind on left right) n wc wr))
join_narrowed kind on c places l r whole columns others known answer (Err k) e u t o a w n wc wr s = s

-- the rows of a join by what its call was given
pub join_same : (kind : JoinKind) (places : List Place) (f : RowFilterDef) (columns : List ColumnDef) (on : Expression) (n m : ℕ) (l left r right : List (List ValueRef))
    → f ≡ record { columns = columns; condition = Some on } → n ≡ m → l ≡ left → r ≡ right
    → flat_map (rows_of_row kind (meets f.columns f.condition) n (rows_values places r)) (rows_values places l)
    ≡ flat_map (rows_of_row kind (meets columns (Some on)) m (rows_values places right)) (rows_values places left)
join_same kind places f columns on n m l left r right e w u v =
    ap (λ (g : RowFilterDef). flat_map (rows_of_row kind (meets g.columns g.condition) n (rows_values places r)) (rows_values places l)) e
    ∙ ap (λ (k : ℕ). flat_map (rows_of_row kind (meets columns (Some on)) k (rows_values places r)) (rows_values places l)) w
    ∙ ap (λ (x : List (List ValueRef)). flat_map (rows_of_row kind (meets columns (Some on)) m (rows_values places r)) (rows_values places x)) u
    ∙ ap (λ (x : List (List ValueRef)). flat_map (rows_of_row kind (meets columns (Some on)) m (rows_values places x)) (rows_values places left)) v

-- what a query for a table gives, where the table is found
pub table_answer : (places : List Place) (tables : List ℕ → Option TableCells) (q : Query) (name : List ℕ) (c : Clauses) (relation : RelationCells) (answer : Result RelationCells ErrorKind) → q ≡ table name c
    → whole_table tables name ≡ Ok relation → IfOk answer (λ kept. kept_of c (relation_values places relation) ≡ Ok (relation_values places kept))
    → IfOk answer (λ kept. relation_of (tables_values places tables) q ≡ Ok (relation_values places kept))
table_answer places tables q name c relation (Ok kept) is e h =
    ap (relation_of (tables_values places tables)) is ∙ table_goes_on places tables name (kept_of c) ∙ ap (λ r. r >>= λ r. kept_of c (relation_values places r)) e ∙ h
table_answer places tables q name c relation (Err kind) is e h = h

-- what a join gives, where both sides are given
pub join_answer : (tables : List ℕ → Option TableValues) (places : List Place) (q : Query) (kind : JoinKind) (l r : Query) (on : Expression) (c : Clauses) (left right : RelationCells) (answer : Result RelationCells ErrorKind)
    → q ≡ join kind l r on c → relation_of tables l ≡ Ok (relation_values places left) → relation_of tables r ≡ Ok (relation_values places right)
    → IfOk answer (λ kept. kept_of_join kind on c (relation_values places left) (relation_values places right) ≡ Ok (relation_values places kept))
    → IfOk answer (λ kept. relation_of tables q ≡ Ok (relation_values places kept))
join_answer tables places q kind l r on c left right (Ok kept) is e f h = ap (relation_of tables) is ∙ rw (e, f) h
join_answer tables places q kind l r on c left right (Err k) is e f h = h
