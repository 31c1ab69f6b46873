-- A table is seen by its own stream: where that was read, the table is the one of the root.
use Rattle.std.proofs.Common.{◌≡◌, ℕ, Bool, true, false, List, [], ◌∷◌, Some, refl, sym, ap, subst, ◌∙◌}
use Rattle.std.specs.Prelude.{All, bytes_eq, option_map, if◌then◌else◌}
use Rattle.std.proofs.lemmas.List.Elements.{All-weaker}
use Rattle.std.proofs.lemmas.Slice.Eq.{bytes_eq-Decides}
use Rattle.msi_pool.specs.Pool.{Pool}
use Rattle.msi_query.specs.Queries.{Query}
use Rattle.msi_query.specs.Rows.{table_values}
use Rattle.msi_query.specs.Selection.{relation_of}
use Rattle.msi_table.specs.Tables.{TableDef}
use Rattle.msi_database_schema.specs.Keys.{table_key}
use Rattle.msi_database_changes.specs.Database.{table_at, values_of}
use Rattle.msi_database_storage.specs.Streams.{Streams}
use Rattle.msi_database_storage.specs.Kept.{table_kept, table_kept_at}
use Rattle.msi_database_storage.proofs.TableAtLemmas.{table_at_kept}
use Rattle.msi.proofs.meaning.AgreementLemmas.{stored_same}
use Rattle.msi_view.specs.Looking.{IsLoaded, database_seen, tables_read}
use Rattle.msi_view.proofs.query_lemmas.RelationLemmas.{relation_reads}

module _ (root loaded : Streams) where
  cells_loaded : (long : Bool) (name : List ℕ) (t : TableDef) → name ≡ t.name → IsLoaded root loaded (table_key name) → (table_kept loaded long t).1 ≡ (table_kept root long t).1
  cells_loaded long name t same h = λ i. record {
    columns = t.columns;
    rows = stored_same root loaded long t.columns t.name (subst (λ (n : List ℕ). IsLoaded root loaded (table_key n)) same h) i;
  }

  kept_loaded : (long : Bool) (name : List ℕ) (tables : List TableDef) → IsLoaded root loaded (table_key name)
      → option_map (λ t. (table_kept loaded long t).1) (table_kept_at name tables) ≡ option_map (λ t. (table_kept root long t).1) (table_kept_at name tables)
  kept_loaded long name [] h = refl
  kept_loaded long name (t ∷ ts) h = elim (bytes_eq name t.name) as (λ b. bytes_eq name t.name ≡ b
      → option_map (λ t. (table_kept loaded long t).1) (if b then Some t else table_kept_at name ts) ≡ option_map (λ t. (table_kept root long t).1) (if b then Some t else table_kept_at name ts)) [
        | true ↦ λ e. ap Some (cells_loaded long name t ((bytes_eq-Decides name t.name).0 e) h)
        | false ↦ λ _. kept_loaded long name ts h
      ] refl

  module _ (pool : Pool) (tables : List TableDef) where
    pub table_loaded : (name : List ℕ) → IsLoaded root loaded (table_key name) → table_at name (database_seen loaded pool tables) ≡ table_at name (database_seen root pool tables)
    table_loaded name h = table_at_kept pool tables loaded name ∙ kept_loaded pool.long name tables h ∙ sym (table_at_kept pool tables root name)

    -- so is what it stands for
    pub values_loaded : (name : List ℕ) → IsLoaded root loaded (table_key name) → values_of (database_seen loaded pool tables) name ≡ values_of (database_seen root pool tables) name
    values_loaded name h = ap (option_map (table_values pool.places)) (table_loaded name h)

    -- and what a query gives, where the streams of its tables were read
    pub rows_loaded : (q : Query) → All (λ name. IsLoaded root loaded (table_key name)) (tables_read q)
        → relation_of (values_of (database_seen loaded pool tables)) q ≡ relation_of (values_of (database_seen root pool tables)) q
    rows_loaded q h = relation_reads (values_of (database_seen loaded pool tables)) (values_of (database_seen root pool tables)) q
        (All-weaker (λ name. IsLoaded root loaded (table_key name)) (λ name. values_of (database_seen loaded pool tables) name ≡ values_of (database_seen root pool tables) name) values_loaded (tables_read q) h)
