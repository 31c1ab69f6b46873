-- Why queries for rows fail, step by step.
use Rattle.std.proofs.Common.{◌≡◌, ℕ, List, Option, ap, sym, ◌∙◌, inl, inr, refl}
use Rattle.std.specs.Prelude.{Result, Ok, Err, IfErr, IfOk, IsErrAnd}
use Rattle.msi_base.specs.declared.errors.ErrorKind.{ErrorKind}
use Rattle.msi_base.specs.declared.errors.ErrorKind.TheVariants.{OutOfMemory}
use Rattle.msi_pool.specs.Pool.{Place}
use Rattle.msi_table_values.specs.Columns.{ColumnDef}
use Rattle.msi_query_expressions.specs.declared.joins.JoinKind.{JoinKind}
use Rattle.msi_query_expressions.specs.Expressions.{Expression}
use Rattle.msi_query.specs.Queries.{Clauses, Query, table, join}
use Rattle.msi_base.specs.Refusals.{IsRefusal, unless_refused, ◌>>=◌}
use Rattle.msi_table_cells.specs.TableCells.{TableCells}
use Rattle.msi_query.specs.Rows.{RelationCells, relation_values, tables_values, whole_table}
use Rattle.msi_query.specs.Selection.{Relation, TableValues, kept_of, kept_of_join, narrowed, relation_of, clause_refusals, selected}
use Rattle.msi_base.proofs.RefusalLemmas.{refusals-Err, refusals-Ok}
use Rattle.msi_query_rows.proofs.WholeTableLemmas.{table_goes_on}

-- an error that is passed on: there is no value, and refused memory stays that
pub no_value : {A : Type 0} (P : A → Type 0) (r : Result A ErrorKind) (kind : ErrorKind) → IsErrAnd r (λ e. e ≡ kind) → IfOk r P
no_value P (Ok x) kind d = absurd d
no_value P (Err l) kind d = tt

pub memory_passed : {A : Type 0} (r : Result A ErrorKind) (kind : ErrorKind) → IsErrAnd r (λ e. e ≡ kind) → kind ≡ OutOfMemory → IfErr r (λ e. e ≡ OutOfMemory)
memory_passed (Ok x) kind d m = tt
memory_passed (Err l) kind d m = d ∙ m

-- refused memory is a refusal of every query
pub memory_refuses : {A B : Type 0} (r : Result A ErrorKind) (answer : Result B ErrorKind) → IfErr r (λ e. e ≡ OutOfMemory) → IfErr r (IsRefusal answer)
memory_refuses (Ok x) answer m = tt
memory_refuses (Err l) answer m = inl m

-- clauses over a relation, whose names are refused or are all known
pub narrowed_refused : (places : List Place) (c : Clauses) (relation : RelationCells) (columns : List ColumnDef) (answer : Result (Unit {0}) ErrorKind) (k : ErrorKind) → columns ≡ relation.columns
    → answer ≡ unless_refused (clause_refusals c columns) tt → answer ≡ Err k → IsRefusal (narrowed c (relation_values places relation)) k
narrowed_refused places c relation columns answer k e a w =
    inr (refusals-Err (clause_refusals c relation.columns) tt (selected c (relation_values places relation)) k (sym w ∙ a ∙ ap (λ (cs : List ColumnDef). unless_refused (clause_refusals c cs) tt) e))

pub narrowed_given : (places : List Place) (c : Clauses) (relation : RelationCells) (columns : List ColumnDef) (answer : Result (Unit {0}) ErrorKind) (kept : Result RelationCells ErrorKind) → columns ≡ relation.columns
    → answer ≡ unless_refused (clause_refusals c columns) tt → answer ≡ Ok tt → IfOk kept (λ kept. relation_values places kept ≡ selected c (relation_values places relation))
    → IfOk kept (λ kept. narrowed c (relation_values places relation) ≡ Ok (relation_values places kept))
narrowed_given places c relation columns answer (Ok kept) e a w s =
    refusals-Ok (clause_refusals c relation.columns) tt tt (selected c (relation_values places relation)) (relation_values places kept)
    (sym w ∙ a ∙ ap (λ (cs : List ColumnDef). unless_refused (clause_refusals c cs) tt) e) s
narrowed_given places c relation columns answer (Err k) e a w s = s

-- a query for a table: the table is refused, or its clauses are
pub table_refused : (places : List Place) (tables : List ℕ → Option TableCells) (q : Query) (name : List ℕ) (c : Clauses) (k : ErrorKind) → q ≡ table name c
    → IsRefusal (whole_table tables name) k → IsRefusal (relation_of (tables_values places tables) q) k
table_refused places tables q name c k is (inl m) = inl m
table_refused places tables q name c k is (inr e) =
    inr (ap (relation_of (tables_values places tables)) is ∙ table_goes_on places tables name (kept_of c) ∙ ap (λ r. r >>= λ r. kept_of c (relation_values places r)) e)

pub clauses_refuse : (places : List Place) (tables : List ℕ → Option TableCells) (q : Query) (name : List ℕ) (c : Clauses) (relation : RelationCells) (k : ErrorKind) → q ≡ table name c
    → whole_table tables name ≡ Ok relation → IsRefusal (kept_of c (relation_values places relation)) k → IsRefusal (relation_of (tables_values places tables) q) k
clauses_refuse places tables q name c relation k is e (inl m) = inl m
clauses_refuse places tables q name c relation k is e (inr h) =
    inr (ap (relation_of (tables_values places tables)) is ∙ table_goes_on places tables name (kept_of c) ∙ ap (λ r. r >>= λ r. kept_of c (relation_values places r)) e ∙ h)

pub table_fails : {A : Type 0} (places : List Place) (tables : List ℕ → Option TableCells) (q : Query) (name : List ℕ) (c : Clauses) (relation : RelationCells) (answer : Result A ErrorKind) → q ≡ table name c
    → whole_table tables name ≡ Ok relation → IfErr answer (IsRefusal (kept_of c (relation_values places relation))) → IfErr answer (IsRefusal (relation_of (tables_values places tables) q))
table_fails places tables q name c relation (Ok kept) is e h = tt
table_fails places tables q name c relation (Err k) is e h = clauses_refuse places tables q name c relation k is e h

-- a join: its left side is refused, or its right one, or the join itself
pub left_refused : (tables : List ℕ → Option TableValues) (q : Query) (kind : JoinKind) (l r : Query) (on : Expression) (c : Clauses) (k : ErrorKind) → q ≡ join kind l r on c
    → IsRefusal (relation_of tables l) k → IsRefusal (relation_of tables q) k
left_refused tables q kind l r on c k is (inl m) = inl m
left_refused tables q kind l r on c k is (inr e) = inr (ap (relation_of tables) is ∙ rw e refl)

pub right_refused : (tables : List ℕ → Option TableValues) (q : Query) (kind : JoinKind) (l r : Query) (on : Expression) (c : Clauses) (left : Relation) (k : ErrorKind) → q ≡ join kind l r on c
    → relation_of tables l ≡ Ok left → IsRefusal (relation_of tables r) k → IsRefusal (relation_of tables q) k
right_refused tables q kind l r on c left k is e (inl m) = inl m
right_refused tables q kind l r on c left k is e (inr f) = inr (ap (relation_of tables) is ∙ rw (e, f) refl)

pub join_refuses : (tables : List ℕ → Option TableValues) (q : Query) (kind : JoinKind) (l r : Query) (on : Expression) (c : Clauses) (left right : Relation) (k : ErrorKind) → q ≡ join kind l r on c
    → relation_of tables l ≡ Ok left → relation_of tables r ≡ Ok right → IsRefusal (kept_of_join kind on c left right) k → IsRefusal (relation_of tables q) k
join_refuses tables q kind l r on c left right k is e f (inl m) = inl m
join_refuses tables q kind l r on c left right k is e f (inr h) = inr (ap (relation_of tables) is ∙ rw (e, f) h)

pub join_fails : (tables : List ℕ → Option TableValues) (q : Query) (kind : JoinKind) (l r : Query) (on : Expression) (c : Clauses) (left right : Relation) (answer : Result RelationCells ErrorKind) → q ≡ join kind l r on c
    → relation_of tables l ≡ Ok left → relation_of tables r ≡ Ok right → IfErr answer (IsRefusal (kept_of_join kind on c left right)) → IfErr answer (IsRefusal (relation_of tables q))
join_fails tables q kind l r on c left right (Ok kept) is e f h = tt
join_fails tables q kind l r on c left right (Err k) is e f h = join_refuses tables q kind l r on c left right k is e f h
