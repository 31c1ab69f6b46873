-- What is looked at is what opening the package shows, and looking refuses what opening refuses.
use Rattle.std.specs.Prelude.{◌≡◌, ℕ, List, [], ◌∷◌, ◌⊎◌, ◌↔◌, Ok}
use Rattle.std.specs.List.{AllByRecursion}
use Rattle.std.specs.FinMap.{entries}
use Rattle.msi_base.specs.declared.errors.ErrorKind.{ErrorKind}
use Rattle.msi_container_format.specs.declared.contents.Contents.{Contents}
use Rattle.msi_container_format.specs.Container.{Holds}
use Rattle.msi_database.specs.Database.{columns_by_name, values_of}
use Rattle.msi_database_storage.specs.Kept.{Kept, schema_listed}
use Rattle.msi_pool.specs.Pool.{Pool}
use Rattle.msi_query.specs.Queries.{Query}
use Rattle.msi_query.specs.Selection.{relation_of}
use Rattle.msi_summary.specs.Properties.{Properties}
use Rattle.msi_table.specs.Tables.{TableDef}
use Rattle.msi.specs.Kinds.{clsid_of}
use Rattle.msi.specs.Laws.{AreBytes}
use Rattle.msi.specs.Meaning.{FailsFirst, OpenStep, OpensTo, Passes, RawPoolIs, SummaryIs, open_steps}
use Rattle.msi.specs.Meaning.{has_summary, knows_kind, reads_summary}
use Rattle.msi.specs.State.{State}
use Rattle.msi.specs.declared.kinds.PackageType.{PackageType}
use Rattle.msi_view.specs.Looking.{IsCatalog, IsDatabaseSeen, database_seen, table_steps}

-- each part of the contents is that of the opened package
pub record ShowsPackage (c : Contents) (s : State) : Type 0 where
  pub kind : (kind : PackageType) → c.clsid ≡ clsid_of kind → kind ≡ s.kind
  pub storages : c.has_storages ≡ s.has_storages
  pub streams : entries c.streams ≡ s.kept.streams
  pub summary : (summary : Properties) → SummaryIs (entries c.streams) summary → summary ≡ s.summary
  pub page : (pool : Pool) → RawPoolIs (entries c.streams) pool → pool.page ≡ s.kept.database.pool.page
  pub tables : (pool : Pool) (tables : List TableDef) → IsCatalog (entries c.streams) pool tables
      → schema_listed tables ≡ columns_by_name s.kept.database
  pub rows : (pool : Pool) (tables : List TableDef) → IsCatalog (entries c.streams) pool tables → (query : Query)
      → relation_of (values_of (database_seen (entries c.streams) pool tables)) query
      ≡ relation_of (values_of s.kept.database) query
  pub database : (d : Kept) → IsDatabaseSeen (entries c.streams) d → d.database ≡ s.kept.database

-- Where a package opens, looking shows the same.
abbrev pub LooksShowPackages : Type 0
LooksShowPackages = (bytes : List ℕ) (s : State) → AreBytes bytes → OpensTo bytes (Ok s)
    → (c : Contents) → Holds bytes c → ShowsPackage c s

abbrev pub AllPass : Contents → List OpenStep → Type 0
AllPass c steps = AllByRecursion (Passes c) steps

abbrev pub kind_steps : List OpenStep
kind_steps = knows_kind ∷ []

abbrev pub summary_steps : List OpenStep
summary_steps = has_summary ∷ reads_summary ∷ []

-- Opening fails as the first part does that isn't had: the type, the summary, the tables.
abbrev pub PartsRefuseAsOpening : Type 0
PartsRefuseAsOpening = (c : Contents) (kind : ErrorKind) → FailsFirst c open_steps kind
    ↔ (FailsFirst c kind_steps kind
    ⊎ (AllPass c kind_steps × FailsFirst c summary_steps kind)
    ⊎ (AllPass c kind_steps × AllPass c summary_steps × FailsFirst c table_steps kind))

-- A package has at most one pool and one list of tables.
abbrev pub OneCatalog : Type 0
OneCatalog = (c : Contents) (p q : Pool) (ts us : List TableDef)
    → IsCatalog (entries c.streams) p ts → IsCatalog (entries c.streams) q us → (p ≡ q) × (ts ≡ us)
