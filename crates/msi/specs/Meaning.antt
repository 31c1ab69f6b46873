-- What the bytes of a package mean, and when they are opened.
use Rattle.std.specs.Prelude.{◌≡◌, ℕ, ◌⊎◌, Bool, true, false, List, [], ◌∷◌, IsSome, IsSomeAnd, Result, Ok, Err}
use Rattle.std.specs.FinMap.{entries}
use Rattle.msi_base.specs.declared.codepage.CodePage.{CodePage}
use Rattle.msi_base.specs.declared.errors.ErrorKind.{ErrorKind}
use Rattle.msi_base.specs.declared.errors.ErrorKind.TheVariants.{InvalidData, NotFound}
use Rattle.msi_pool.specs.Pool.{Pool, Entry, IsPool, SpellsPool, with_named_texts}
use Rattle.msi_pool.specs.Pool as pools
use Rattle.msi_summary.specs.Properties.{Properties}
use Rattle.msi_summary.specs.PropertyStream as properties
use Rattle.msi_summary.specs.PropertyLaws.{IsKept}
use Rattle.msi_summary.specs.Summary.{SpellsSummary, summary_format}
use Rattle.msi_container_format.specs.declared.contents.Contents.{Contents}
use Rattle.msi_container_format.specs.Container.{Holds}
use Rattle.msi_container_write.specs.LayoutLaw.{HaveNames}
use Rattle.msi_database_schema.specs.Keys.{table_key, summary_key, string_pool_name, string_data_name}
use Rattle.msi_database.specs.Database.{Database, is_sound}
use Rattle.msi_database_storage.specs.Streams.{Streams, stream_at}
use Rattle.msi_database_storage.specs.Agreement.{DatabaseIs, is_shown, schema_in}
use Rattle.msi_database.specs.Keeping.{IsKeptDatabase}
use Rattle.msi.specs.declared.kinds.PackageType.{PackageType}
use Rattle.msi.specs.Kinds.{clsid_of}
use Rattle.msi.specs.State.{Parts, State, others_among, parts_of}

-- the summary's stream spells the summary
abbrev pub SummaryIs : Streams → Properties → Type 0
SummaryIs streams summary = IsSomeAnd (stream_at summary_key streams) (λ bytes. SpellsSummary bytes summary)

-- the two streams of the pool spell these places
abbrev pub RawPoolIs : Streams → Pool → Type 0
RawPoolIs streams raw = IsSomeAnd (stream_at (table_key string_pool_name) streams)
    (λ entries. IsSomeAnd (stream_at (table_key string_data_name) streams) (λ texts. IsPool entries texts raw))

-- a pool whose free places that don't pass the test have lost their texts
abbrev pub shown_pool : (ℕ → Bool) → Pool → Pool
shown_pool is_named raw = record raw { places = with_named_texts is_named raw.places }

-- the streams spell the pool, but for the text of a free place that is not named, which is empty
abbrev pub PoolIs : Streams → Database → Type 0
PoolIs streams d = (raw : Pool) × RawPoolIs streams raw × (d.pool ≡ shown_pool (is_shown streams d) raw)

-- the contents mean these parts
pub record ContentsMean (c : Contents) (p : Parts) : Type 0 where
  pub kind : c.clsid ≡ clsid_of p.kind
  pub summary : SummaryIs (entries c.streams) p.summary
  pub pool : PoolIs (entries c.streams) p.database
  pub database : DatabaseIs (entries c.streams) p.database
  pub others : p.streams ≡ others_among (entries c.streams) p.database
  pub storages : p.has_storages ≡ c.has_storages

-- the bytes mean these parts
abbrev pub Means : List ℕ → Parts → Type 0
Means bytes p = (c : Contents) × Holds bytes c × ContentsMean c p

-- A package agrees with the streams that it keeps: each spells its part, but for a summary that was lent, a pool that
-- was changed, and a summary or pool with a text that can't be written
pub record Agrees (s : State) : Type 0 where
  pub summary : s.is_summary_lent ≡ false → properties.AreWritable s.summary → SummaryIs s.kept.streams s.summary
  pub pool : s.is_pool_changed ≡ false → pools.AreWritable s.kept.database.pool → PoolIs s.kept.streams s.kept.database
  pub database : DatabaseIs s.kept.streams s.kept.database

-- What every package keeps to, sound or not: its streams have names of the container; its summary is one, and its
-- database is kept; each of their streams spells it, but where it is to be written; and only a sound database has
-- changed its pool
pub record IsPackage (s : State) : Type 0 where
  pub names : HaveNames s.kept.streams
  pub database : IsKeptDatabase s.kept
  pub summary : IsKept s.summary
  pub format : s.summary.format_identifier ≡ summary_format
  pub agrees : Agrees s
  pub changed : s.is_pool_changed ≡ true → is_sound s.kept.database ≡ true

-- a package just opened
abbrev pub as_opened : Streams → Parts → State
as_opened streams p = record {
  kind = p.kind;
  summary = p.summary;
  kept = record { database = p.database; streams = streams };
  has_storages = p.has_storages;
  is_unwritten = false;
  is_summary_lent = false;
  is_pool_changed = false;
}

-- The steps of opening; the first that fails decides
pub data OpenStep : Type 0 where
  knows_kind has_summary reads_summary has_pool reads_pool has_texts reads_texts reads_schema : OpenStep

abbrev pub open_steps : List OpenStep
open_steps = knows_kind ∷ has_summary ∷ reads_summary
    ∷ has_pool ∷ reads_pool ∷ has_texts ∷ reads_texts ∷ reads_schema ∷ []

abbrev pub Passes : Contents → OpenStep → Type 0
Passes c knows_kind = (k : PackageType) × (c.clsid ≡ clsid_of k)
Passes c has_summary = IsSome (stream_at summary_key (entries c.streams))
Passes c reads_summary = (summary : Properties) × SummaryIs (entries c.streams) summary
Passes c has_pool = IsSome (stream_at (table_key string_pool_name) (entries c.streams))
Passes c reads_pool = (page : CodePage) × (long : Bool) × (listed : List Entry)
    × IsSomeAnd (stream_at (table_key string_pool_name) (entries c.streams))
    (λ bytes. SpellsPool bytes page long listed)
Passes c has_texts = IsSome (stream_at (table_key string_data_name) (entries c.streams))
Passes c reads_texts = (raw : Pool) × RawPoolIs (entries c.streams) raw
Passes c reads_schema = (raw : Pool) × RawPoolIs (entries c.streams) raw × IsSome (schema_in (entries c.streams) raw)

abbrev pub step_kind : OpenStep → ErrorKind
step_kind has_summary = NotFound
step_kind has_pool = NotFound
step_kind has_texts = NotFound
step_kind _ = InvalidData

abbrev pub FailsFirst : Contents → List OpenStep → ErrorKind → Type 0
FailsFirst c [] kind = ⊥
FailsFirst c (s ∷ ss) kind = ((Passes c s → ⊥) × (kind ≡ step_kind s)) ⊎ (Passes c s × FailsFirst c ss kind)

-- what opening the bytes answers
abbrev pub OpensTo : List ℕ → Result State ErrorKind → Type 0
OpensTo bytes (Ok s) = (c : Contents) × Holds bytes c × ContentsMean c (parts_of s)
    × (s ≡ as_opened (entries c.streams) (parts_of s))
OpensTo bytes (Err kind) = (((c : Contents) → Holds bytes c → ⊥) × (kind ≡ InvalidData))
    ⊎ ((c : Contents) × Holds bytes c × FailsFirst c open_steps kind)
