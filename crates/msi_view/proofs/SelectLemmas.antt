-- The rows that a query selects, over the tables that were read.
use Rattle.std.proofs.Common.{◌≡◌, ℕ, ◌⊎◌, Bool, List, Option, Some, Result, Ok, Err, IfOk, IfErr, IfSome, All, inr, subst}
use Rattle.msi_base.specs.declared.errors.ErrorKind.{ErrorKind}
use Rattle.msi_base.specs.Refusals.{IsRefusal}
use Rattle.msi_container_view.specs.Reading.{Tells}
use Rattle.msi_container_view.specs.Views.{View, ReadsMore}
use Rattle.msi_database_changes.specs.Database.{values_of}
use Rattle.msi_database_schema.specs.Keys.{table_key}
use Rattle.msi_pool.specs.Pool.{Pool}
use Rattle.msi_query.specs.Queries.{Query}
use Rattle.msi_query.specs.Selected.{Selects}
use Rattle.msi_query.specs.Selection.{Relation, relation_of}
use Rattle.msi_table.specs.Rows.{RowsDef}
use Rattle.msi_table.specs.Tables.{TableDef}
use Rattle.msi.specs.Meaning.{OpenStep}
use Rattle.msi_view.specs.Looking.{Catalogued, IsCatalog, IsLoaded, IsLook, IsPartRefusal, database_seen, root_in, tables_read}
use Rattle.msi_view.proofs.ViewLemmas.{looked}
use Rattle.msi_view.proofs.query_lemmas.SeenLemmas.{rows_loaded}

-- what a query gives over the streams that were read, it gives over those of the root
abbrev pub GivesOver : List ℕ → View → Query → (Result Relation ErrorKind → Type 0) → Type 0
GivesOver file v q P = (pool : Pool) × (tables : List TableDef) × IsCatalog (root_in file v) pool tables
    × P (relation_of (values_of (database_seen (root_in file v) pool tables)) q)

module _ (old new : View) (catalog : Option Catalogued) (c : Catalogued) (q : Query) (n : ℕ) (reads : ReadsMore old new n) (look : IsLook new catalog) (some : catalog ≡ Some c)
    (loaded : (file : List ℕ) → Tells old.held file → IfSome catalog (λ k. All (λ name. IsLoaded (root_in file old) k.streams (table_key name)) (tables_read q))) where
  gives : (P : Result Relation ErrorKind → Type 0) → P (relation_of (values_of (database_seen c.streams c.pool c.tables)) q)
      → (file : List ℕ) → Tells old.held file → GivesOver file old q P
  gives P p file told =
      let all : All (λ name. IsLoaded (root_in file old) c.streams (table_key name)) (tables_read q) = rw some at (loaded file told) in (
        c.pool,
        c.tables,
        (looked old new catalog c n reads look some file told).0,
        subst P (rows_loaded (root_in file old) c.streams c.pool c.tables q all) p,
      )

  pub rows_given : (r : Result RowsDef ErrorKind) → IfOk r (Selects (relation_of (values_of (database_seen c.streams c.pool c.tables)) q))
      → IfOk r (λ rows. (file : List ℕ) → Tells old.held file → GivesOver file old q (λ given. Selects given rows))
  rows_given (Err kind) p = tt
  rows_given (Ok rows) p = gives (λ given. Selects given rows) p

  pub rows_refused : (r : Result RowsDef ErrorKind) (can_fail : Bool) (steps : List OpenStep) → IfErr r (IsRefusal (relation_of (values_of (database_seen c.streams c.pool c.tables)) q))
      → IfErr r (λ kind. IsPartRefusal can_fail old steps kind ⊎ ((file : List ℕ) → Tells old.held file → GivesOver file old q (λ given. IsRefusal given kind)))
  rows_refused (Ok rows) can_fail steps p = tt
  rows_refused (Err kind) can_fail steps p = inr (gives (λ given. IsRefusal given kind) p)
