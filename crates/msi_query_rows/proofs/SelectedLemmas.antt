-- What clauses keep of a relation, step by step.
use Rattle.std.proofs.Common.{◌≡◌, ℕ, Bool, true, false, not, ◌==◌, List, length, filter, Option, refl, ap, sym, ◌∙◌}
use Rattle.std.specs.Prelude.{Result, Ok, Err, IfOk}
use Rattle.std.proofs.lemmas.Bool.{and_parts, not-true}
use Rattle.msi_base.specs.declared.errors.ErrorKind.{ErrorKind}
use Rattle.msi_pool.specs.Pool.{Place}
use Rattle.msi_table_values.specs.declared.value.Value.{Value}
use Rattle.msi_table_values.specs.Columns.{ColumnDef}
use Rattle.msi_table_cells.specs.declared.cell.ValueRef.{ValueRef}
use Rattle.msi_query_expressions.specs.Conditions.{meets}
use Rattle.msi_query_expressions.specs.Expressions.{Expression}
use Rattle.msi_query.specs.Queries.{Clauses}
use Rattle.msi_query.specs.Rows.{RelationCells, relation_values, rows_values}
use Rattle.msi_query.specs.Selection.{Relation, distinct_if, in_order, once_if, projected, rows_kept, selected}
use Rattle.msi_query_rows.specs.Picking.{keep_order}
use Rattle.msi_query_rows.proofs.JoinLemmas.{whole_is}
use Rattle.msi_query_rows.proofs.OrderLemmas.{unordered}

-- The rows that meet the condition, in their order, by what was asked for
module _ (places : List Place) (c : Clauses) (r : RelationCells) where
  abbrev values : Relation
  values = relation_values places r

  -- a relation has them, beside the name and the columns
  pub record IsOrdered (ordered : RelationCells) : Type 0 where
    pub name : ordered.name ≡ r.name
    pub columns : ordered.columns ≡ r.columns
    pub rows : rows_values places ordered.rows ≡ rows_kept c values

  pub ordered_rows : (first second : List ColumnDef) (condition : Option Expression) (order : List (List ℕ)) (rows kept sorted : List (List ValueRef))
      → first ≡ r.columns → second ≡ r.columns → condition ≡ c.condition → order ≡ c.order → rows ≡ r.rows
      → rows_values places kept ≡ filter (meets first condition) (rows_values places rows) → rows_values places sorted ≡ in_order second order (rows_values places kept)
      → rows_values places sorted ≡ rows_kept c values
  ordered_rows first second condition order rows kept sorted f s m o w k e =
      e ∙ ap (λ (cs : List ColumnDef). in_order cs order (rows_values places kept)) s
      ∙ ap (λ (names : List (List ℕ)). in_order r.columns names (rows_values places kept)) o
      ∙ ap (in_order r.columns c.order)
      (k ∙ ap (λ (cs : List ColumnDef). filter (meets cs condition) (rows_values places rows)) f
      ∙ ap (λ (x : Option Expression). filter (meets r.columns x) (rows_values places rows)) m
      ∙ ap (λ (rs : List (List ValueRef)). filter (meets r.columns c.condition) (rows_values places rs)) w)

  -- then the columns, and each row once
  pub selected_answer : (ordered kept : RelationCells) (names : List (List ℕ)) (is_distinct : Bool) (answer : Result RelationCells ErrorKind)
      → IsOrdered ordered → names ≡ c.columns → is_distinct ≡ c.is_distinct → relation_values places kept ≡ projected names (relation_values places ordered)
      → IfOk answer (λ new. relation_values places new ≡ distinct_if is_distinct (relation_values places kept))
      → IfOk answer (λ new. relation_values places new ≡ selected c values)
  selected_answer ordered kept names is_distinct (Ok new) o n d k e =
      let whole : Relation = record values { rows = rows_kept c values } in
      e ∙ ap (distinct_if is_distinct)
      (k ∙ ap (λ (ns : List (List ℕ)). projected ns (relation_values places ordered)) n ∙ ap (projected c.columns) (whole_is places ordered whole o.name o.columns o.rows))
      ∙ ap (λ (b : Bool). distinct_if b (projected c.columns whole)) d
  selected_answer ordered kept names is_distinct (Err kind) o n d k e = e

-- rows that are not to be distinct
pub not_distinct : (b : Bool) (r : Relation) → b ≡ false → r ≡ distinct_if b r
not_distinct b r e = rw e refl

pub rows_distinct : (places : List Place) (b : Bool) (r new : RelationCells) (name : List ℕ) (columns : List ColumnDef) (rows kept : List (List ValueRef)) → b ≡ true
    → name ≡ r.name → columns ≡ r.columns → rows ≡ r.rows → rows_values places kept ≡ once_if true (rows_values places rows)
    → new ≡ record { name = name; columns = columns; rows = kept } → relation_values places new ≡ distinct_if b (relation_values places r)
rows_distinct places b r new name columns rows kept t n k w o e =
    rw t (whole_is places new (distinct_if true (relation_values places r))
    (ap (λ (s : RelationCells). s.name) e ∙ n) (ap (λ (s : RelationCells). s.columns) e ∙ k)
    (ap (λ (s : RelationCells). rows_values places s.rows) e ∙ o ∙ ap (λ (rs : List (List ValueRef)). once_if true (rows_values places rs)) w))

-- clauses without an order, whose rows are not to be distinct
pub selected_in_place : (c : Clauses) (r : Relation) → keep_order c ≡ true → selected c r ≡ projected c.columns (record r { rows = filter (meets r.columns c.condition) r.rows })
selected_in_place c r e =
    let parts = and_parts (length c.order == 0) (not c.is_distinct) e in
    sym (not_distinct c.is_distinct (projected c.columns (record r { rows = rows_kept c r })) (not-true c.is_distinct parts.1))
    ∙ ap (λ (rows : List (List Value)). projected c.columns (record r { rows = rows })) (sym (unordered r.columns c.order (filter (meets r.columns c.condition) r.rows) parts.0))
