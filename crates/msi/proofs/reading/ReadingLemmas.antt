-- What is read, step by step, is what the bytes open to; and contents that pass each step mean a package.
use Rattle.std.proofs.Common.{◌≡◌, ℕ, Bool, false, List, [], ◌∷◌, Option, Some, None, refl, sym, ap, ◌∙◌}
use Rattle.std.specs.Prelude.{IsSome}
use Rattle.std.specs.FinMap.{entries}
use Rattle.std.proofs.lemmas.Bool.{true≢false}
use Rattle.msi_pool.specs.Pool.{Pool}
use Rattle.msi_summary.specs.Properties.{Properties}
use Rattle.msi_table_values.specs.Columns.{ColumnDef}
use Rattle.msi_table.specs.Tables.{TableDef}
use Rattle.msi_container_format.specs.declared.contents.Contents.{Contents}
use Rattle.msi_database.specs.Database.{Database}
use Rattle.msi_database_storage.specs.Streams.{Streams}
use Rattle.msi_database_storage.specs.Kept.{Kept, database_kept, schema_listed}
use Rattle.msi_database_storage.specs.Agreement.{DatabaseIs, is_shown, schema_rows, schema_in}
use Rattle.msi_database.proofs.keeping.KeptPartsLemmas.{parts_spelled, schema_kept, each_kept}
use Rattle.msi.specs.declared.kinds.PackageType.{PackageType}
use Rattle.msi.specs.Kinds.{clsid_of}
use Rattle.msi.specs.State.{Parts, State, others_among, parts_of}
use Rattle.msi.specs.Meaning.{SummaryIs, PoolIs, ContentsMean, OpenStep, Passes, shown_pool}
use Rattle.msi.specs.Meaning as step
use Rattle.msi.proofs.meaning.ShownTextsLemmas.{covers_schema}
use Rattle.msi.proofs.meaning.ShownPoolLemmas.{schema_by_raw}

-- WHAT IS READ

-- a package of what is read
abbrev pub state_read : PackageType → Properties → Kept → Bool → State
state_read kind summary k storages = record {
  kind = kind;
  summary = summary;
  kept = k;
  has_storages = storages;
  is_unwritten = false;
  is_summary_lent = false;
  is_pool_changed = false;
}

module _ (c : Contents) (kind : PackageType) (summary : Properties) (k : Kept) (told : c.clsid ≡ clsid_of kind) (spelled : SummaryIs (entries c.streams) summary)
    (pool : PoolIs (entries c.streams) k.database) (database : DatabaseIs (entries c.streams) k.database) (same : k.streams ≡ entries c.streams) where
  pub read_means : ContentsMean c (parts_of (state_read kind summary k c.has_storages))
  read_means = record {
    kind = told;
    summary = spelled;
    pool = pool;
    database = database;
    others = ap (λ (streams : Streams). others_among streams k.database) same;
    storages = refl;
  }

-- CONTENTS THAT PASS EACH STEP

-- the pool as it is shown, once the tables are known
abbrev shown_for : Streams → Pool → List TableDef → Pool
shown_for streams raw tables = shown_pool (is_shown streams (database_kept raw tables streams)) raw

module _ (streams : Streams) (raw : Pool) (tables : List TableDef) (read : schema_in streams raw ≡ Some (schema_listed tables)) where
  abbrev pool : Pool
  pool = shown_for streams raw tables

  abbrev d : Database
  d = database_kept pool tables streams

  schema_now : schema_in streams pool ≡ Some (schema_listed tables)
  schema_now = schema_by_raw streams (is_shown streams d) raw
      (covers_schema streams d (each_kept streams raw.long tables) (schema_rows streams raw) (read ∙ ap Some (sym (schema_kept pool tables streams))) raw refl) ∙ read

  database_read : DatabaseIs streams d
  database_read = parts_spelled pool tables streams schema_now

some_value : {X : Type 0} (o : Option X) → IsSome o → (x : X) × (o ≡ Some x)
some_value None h = absurd (true≢false (sym h))
some_value (Some x) h = (x, refl)

as_tables : Bool → List (List ℕ × List ColumnDef) → List TableDef
as_tables long [] = []
as_tables long (t ∷ ts) = record { name = t.0; columns = t.1; long = long } ∷ as_tables long ts

listed_again : (long : Bool) (ts : List (List ℕ × List ColumnDef)) → ts ≡ schema_listed (as_tables long ts)
unfolding as_tables
listed_again long [] = refl
listed_again long (t ∷ ts) = ap (λ (us : List (List ℕ × List ColumnDef)). t ∷ us) (listed_again long ts)

pub passing_means : (c : Contents) → ((s : OpenStep) → Passes c s) → (p : Parts) × ContentsMean c p
passing_means c passes =
    let streams : Streams = entries c.streams in
    let (kind, told) = passes step.knows_kind in
    let (summary, spelled) = passes step.reads_summary in
    let (raw, held, some) = passes step.reads_schema in
    let (shown, read) = some_value (schema_in streams raw) some in
    let tables : List TableDef = as_tables raw.long shown in
    let listed = read ∙ ap Some (listed_again raw.long shown) in
    let k : Kept = record { database = database_kept (shown_for streams raw tables) tables streams; streams = streams } in
    (parts_of (state_read kind summary k c.has_storages), read_means c kind summary k told spelled (raw, held, refl) (database_read streams raw tables listed) refl)
