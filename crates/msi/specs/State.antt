-- What a package is: the parts that its bytes mean, and what it keeps beside them.
use Rattle.std.specs.Prelude.{ℕ, Bool, not, List, [], ◌∷◌, map, filter, ◌||◌, bytes_eq}
use Rattle.std.specs.List.{list_any}
use Rattle.msi_base.specs.declared.errors.ErrorKind.TheVariants.{InvalidInput}
use Rattle.msi_base.specs.Refusals.{Refusals}
use Rattle.msi_summary.specs.Properties.{Properties}
use Rattle.msi_database_schema.specs.Keys.{table_key, summary_key, string_pool_name, string_data_name}
use Rattle.msi_database_schema.specs.System.{validation_name}
use Rattle.msi_database.specs.Database.{Database}
use Rattle.msi_database_storage.specs.Streams.{Streams}
use Rattle.msi_database_storage.specs.Kept.{Kept}
use Rattle.msi.specs.declared.kinds.PackageType.{PackageType}

-- the meaning of a package's bytes; `streams` has the root's other streams
pub record Parts : Type 0 where
  pub kind : PackageType
  pub summary : Properties
  pub database : Database
  pub streams : Streams
  pub has_storages : Bool

-- a package: its kind, its summary, its database with all streams of the root, whether storages lie below the root,
-- whether it is unwritten, and whether the summary was lent and the pool changed since the last write
pub record State : Type 0 where
  pub kind : PackageType
  pub summary : Properties
  pub kept : Kept
  pub has_storages : Bool
  pub is_unwritten : Bool
  pub is_summary_lent : Bool
  pub is_pool_changed : Bool

-- no package with storages below the root is changed
abbrev pub storage_refusal : Parts → Refusals
storage_refusal p = (p.has_storages, InvalidInput) ∷ []

-- the streams that no table, pool or summary owns
abbrev pub is_other_name : List (List ℕ) → List ℕ → Bool
is_other_name tables name = not (bytes_eq name summary_key
    || bytes_eq name (table_key string_pool_name) || bytes_eq name (table_key string_data_name)
    || bytes_eq name (table_key validation_name) || list_any (λ t. bytes_eq name (table_key t)) tables)

abbrev pub names_of : Database → List (List ℕ)
names_of d = map (λ t. t.0) d.tables

abbrev pub others_among : Streams → Database → Streams
others_among streams d = filter (λ s. is_other_name (names_of d) s.0) streams

abbrev pub other_streams : Kept → Streams
other_streams k = others_among k.streams k.database

abbrev pub parts_of : State → Parts
parts_of s = record {
  kind = s.kind;
  summary = s.summary;
  database = s.kept.database;
  streams = other_streams s.kept;
  has_storages = s.has_storages;
}
