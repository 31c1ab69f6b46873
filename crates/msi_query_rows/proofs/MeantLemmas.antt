-- What clauses keep by the columns that their names mean.
use Rattle.std.proofs.Common.{◌≡◌, ℕ, List, [], Bool, true, not, ◌==◌, ◌&&◌, Option, length, Result, Ok, Err, ap, subst, sym, ◌∙◌}
use Rattle.std.proofs.lemmas.List.{length-map}
use Rattle.std.specs.Prelude.{IfErr, IfOk}
use Rattle.msi_base.specs.declared.errors.ErrorKind.{ErrorKind}
use Rattle.msi_base.specs.Refusals.{IsRefusal, ◌>>=◌}
use Rattle.msi_pool.specs.Pool.{Place}
use Rattle.msi_table.specs.Rows.{RowsDef}
use Rattle.msi_table_cells.specs.TableCells.{TableCells}
use Rattle.msi_table_values.specs.Columns.{ColumnDef}
use Rattle.msi_query_expressions.specs.declared.joins.JoinKind.{JoinKind}
use Rattle.msi_query_expressions.specs.Expressions.{Expression}
use Rattle.msi_query_expressions.specs.Meaning.{meant, renamed}
use Rattle.msi_query.specs.Queries.{Clauses, table}
use Rattle.msi_query.specs.Rows.{RelationCells, relation_values, tables_values, whole_table}
use Rattle.msi_query.specs.Selected.{Selects}
use Rattle.msi_query.specs.Selection.{Relation, joined_columns, joined_narrowed, kept_of, kept_of_join, meant_clauses, narrowed, relation_of}
use Rattle.msi_query_rows.specs.Picking.{keep_order}
use Rattle.msi_query_rows.specs.Width.{HasWidth}
use Rattle.msi_query_rows.proofs.WholeTableLemmas.{table_goes_on}
use Rattle.msi_query_rows.proofs.WidthLemmas.{join_is_wide, narrowed_is_wide}

-- names that were looked up in columns as they are known elsewhere
pub meant_same : (c m : Clauses) (name known : List ℕ) (columns others : List ColumnDef) → m ≡ meant_clauses name columns c → name ≡ known → columns ≡ others → m ≡ meant_clauses known others c
meant_same c m name known columns others e n k = e ∙ ap (λ x. meant_clauses x columns c) n ∙ ap (λ cs. meant_clauses known cs c) k

-- the rows stay in their order under the names that are meant
pub stays_meant : (c m : Clauses) (name : List ℕ) (columns : List ColumnDef) → m ≡ meant_clauses name columns c → keep_order c ≡ true → keep_order m ≡ true
stays_meant c m name columns e h = ap keep_order e ∙ ap (λ (n : ℕ). (n == 0) && not c.is_distinct) (length-map c.order (meant name columns)) ∙ h

-- what the clauses with the meant names keep, and why they are refused
pub kept_given : (places : List Place) (c m : Clauses) (relation : RelationCells) (answer : Result RelationCells ErrorKind) → m ≡ meant_clauses relation.name relation.columns c
    → IfOk answer (λ k. narrowed m (relation_values places relation) ≡ Ok (relation_values places k)) → IfOk answer (λ k. kept_of c (relation_values places relation) ≡ Ok (relation_values places k))
kept_given places c m relation answer e h = subst (λ (x : Clauses). IfOk answer (λ k. narrowed x (relation_values places relation) ≡ Ok (relation_values places k))) e h

pub kept_fails : {A : Type 0} (c m : Clauses) (r : Relation) (answer : Result A ErrorKind) → m ≡ meant_clauses r.name r.columns c
    → IfErr answer (IsRefusal (narrowed m r)) → IfErr answer (IsRefusal (kept_of c r))
kept_fails c m r answer e h = subst (λ (x : Clauses). IfErr answer (IsRefusal (narrowed x r))) e h

pub kept_selects : (c m : Clauses) (r : Relation) (answer : Result RowsDef ErrorKind) → m ≡ meant_clauses r.name r.columns c
    → IfOk answer (Selects (narrowed m r)) → IfOk answer (Selects (kept_of c r))
kept_selects c m r answer e h = subst (λ (x : Clauses). IfOk answer (Selects (narrowed x r))) e h

-- the same of a join
join_meant : (kind : JoinKind) (on o : Expression) (c m : Clauses) (l r : Relation) (columns : List ColumnDef) → columns ≡ joined_columns kind l r
    → o ≡ renamed (meant [] columns) on → m ≡ meant_clauses [] columns c → joined_narrowed kind o m l r ≡ kept_of_join kind on c l r
join_meant kind on o c m l r columns k e f =
    ap (λ x. joined_narrowed kind x m l r) e ∙ ap (λ x. joined_narrowed kind (renamed (meant [] columns) on) x l r) f
    ∙ ap (λ cs. joined_narrowed kind (renamed (meant [] cs) on) (meant_clauses [] cs c) l r) k

pub join_given : (places : List Place) (kind : JoinKind) (on o : Expression) (c m : Clauses) (l r : Relation) (columns : List ColumnDef) (answer : Result RelationCells ErrorKind) → columns ≡ joined_columns kind l r
    → o ≡ renamed (meant [] columns) on → m ≡ meant_clauses [] columns c
    → IfOk answer (λ k. joined_narrowed kind o m l r ≡ Ok (relation_values places k)) → IfOk answer (λ k. kept_of_join kind on c l r ≡ Ok (relation_values places k))
join_given places kind on o c m l r columns answer k e f h =
    subst (λ (x : Result Relation ErrorKind). IfOk answer (λ kept. x ≡ Ok (relation_values places kept))) (join_meant kind on o c m l r columns k e f) h

pub join_refused_so : {A : Type 0} (kind : JoinKind) (on o : Expression) (c m : Clauses) (l r : Relation) (columns : List ColumnDef) (answer : Result A ErrorKind) → columns ≡ joined_columns kind l r
    → o ≡ renamed (meant [] columns) on → m ≡ meant_clauses [] columns c
    → IfErr answer (IsRefusal (joined_narrowed kind o m l r)) → IfErr answer (IsRefusal (kept_of_join kind on c l r))
join_refused_so kind on o c m l r columns answer k e f h =
    subst (λ (x : Result Relation ErrorKind). IfErr answer (IsRefusal x)) (join_meant kind on o c m l r columns k e f) h

-- what a query for a table selects, where the table is found
pub table_selects : (places : List Place) (tables : List ℕ → Option TableCells) (name : List ℕ) (c : Clauses) (relation : RelationCells) (answer : Result RowsDef ErrorKind)
    → whole_table tables name ≡ Ok relation → IfOk answer (Selects (kept_of c (relation_values places relation))) → IfOk answer (Selects (relation_of (tables_values places tables) (table name c)))
table_selects places tables name c relation answer e h =
    subst (λ (x : Result Relation ErrorKind). IfOk answer (Selects x))
    (sym (table_goes_on places tables name (kept_of c) ∙ ap (λ r. r >>= λ r. kept_of c (relation_values places r)) e)) h

-- what is kept of wide rows is wide
pub kept_is_wide : (places : List Place) (c : Clauses) (relation : RelationCells) (answer : Result RelationCells ErrorKind) → HasWidth (length relation.columns) relation.rows
    → IfOk answer (λ k. kept_of c (relation_values places relation) ≡ Ok (relation_values places k)) → IfOk answer (λ k. HasWidth (length k.columns) k.rows)
kept_is_wide places c relation answer w e = narrowed_is_wide places (meant_clauses relation.name relation.columns c) relation answer w e

pub kept_of_join_is_wide : (places : List Place) (kind : JoinKind) (on : Expression) (c : Clauses) (l r : RelationCells) (answer : Result RelationCells ErrorKind) → HasWidth (length l.columns) l.rows → HasWidth (length r.columns) r.rows
    → IfOk answer (λ k. kept_of_join kind on c (relation_values places l) (relation_values places r) ≡ Ok (relation_values places k)) → IfOk answer (λ k. HasWidth (length k.columns) k.rows)
kept_of_join_is_wide places kind on c l r answer w v e =
    let columns = joined_columns kind (relation_values places l) (relation_values places r) in
    join_is_wide places kind (renamed (meant [] columns) on) (meant_clauses [] columns c) l r answer w v e
