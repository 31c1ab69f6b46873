-- What is opened is a package.
use Rattle.std.proofs.Common.{◌≡◌, ℕ, suc, ◌<◌, ◌≤◌, ◌^◌, Bool, List, [], ◌∷◌, map, length, Option, Some, None, refl, sym, ap, subst, ◌∙◌}
use Rattle.std.specs.Prelude.{IsSomeAnd}
use Rattle.std.specs.List.{AllByRecursion}
use Rattle.std.specs.FinMap.{entries, entries_sorted}
use Rattle.std.proofs.lemmas.Bool.{true≢false}
use Rattle.std.proofs.lemmas.List.Elements.{All-from_recursion}
use Rattle.msi_base.specs.declared.codepage.CodePage.{CodePage}
use Rattle.msi_pool.specs.Pool.{Pool, Place, Entry, CountsFit, SpellsEntries, SpellsTexts, IsPool, with_named_texts}
use Rattle.msi_summary.specs.Properties.{Properties}
use Rattle.msi_summary.specs.Summary.{SpellsSummary}
use Rattle.msi_summary.proofs.KeptSetLemmas.{IsKept-spelled}
use Rattle.msi_table_values.specs.Columns.{ColumnDef}
use Rattle.msi_table.specs.Tables.{TableDef}
use Rattle.msi_container_format.specs.declared.contents.Contents.{Contents}
use Rattle.msi_container_format.specs.Container.{Holds}
use Rattle.msi_database_schema.specs.Keys.{table_key, summary_key, string_pool_name, string_data_name}
use Rattle.msi_database.specs.Database.{Database, Tables, is_sound}
use Rattle.msi_database_storage.specs.Streams.{Streams, stream_at}
use Rattle.msi_database_storage.specs.StreamNames.{HoldBytes}
use Rattle.msi_database_storage.specs.Kept.{AreAsLong, database_kept, schema_listed}
use Rattle.msi_database_storage.specs.Agreement.{DatabaseIs, is_shown}
use Rattle.msi_database.specs.Keeping.{IsKeptDatabase, AreKept}
use Rattle.msi_database.specs.Listed.{tables_listed}
use Rattle.msi_database.proofs.keeping.KeptLawLemmas.{read_is_kept}
use Rattle.msi_database.proofs.keeping.KeptPartsLemmas.{parts_make}
use Rattle.msi.specs.State.{Parts, State, parts_of}
use Rattle.msi.specs.Meaning.{SummaryIs, PoolIs, ContentsMean, IsPackage, as_opened}
use Rattle.msi.specs.Laws.{AreBytes, OpenedArePackages, OpenedIsSession}
use Rattle.msi.proofs.packages.SummarySetLemmas.{IsSummarySet}
use Rattle.msi.proofs.packages.PackageLemmas.{short_names}
use Rattle.msi.proofs.reading.HeldStreamsLemmas.{held_names, held_bytes}

-- THE SUMMARY

summary_by : (o : Option (List ℕ)) (set : Properties) → IsSomeAnd o (λ bytes. SpellsSummary bytes set) → IsSummarySet set
summary_by None set h = absurd h
summary_by (Some bytes) set h = record { kept = IsKept-spelled bytes set h.0; format = h.1 }

pub opened_summary : (streams : Streams) (set : Properties) → SummaryIs streams set → IsSummarySet set
opened_summary streams set h = summary_by (stream_at summary_key streams) set h

-- THE POOL, as its streams spell it

entries_small : (bytes : List ℕ) (es : List Entry) → SpellsEntries bytes es → AllByRecursion (λ e. e.count < 2 ^ 16) es
entries_small bytes [] h = tt
entries_small bytes (e ∷ es) (entry, others, parts, one, rest) = (one.0, entries_small others es rest)

texts_small : (page : CodePage) (bytes : List ℕ) (es : List Entry) (ps : List Place) → SpellsTexts page bytes es ps → AllByRecursion (λ e. e.count < 2 ^ 16) es
    → (length ps ≡ length es) × CountsFit ps
texts_small page bytes [] [] h small = (refl, tt)
texts_small page bytes [] (p ∷ ps) h small = absurd h
texts_small page bytes (e ∷ es) [] h small = absurd h
texts_small page bytes (e ∷ es) (p ∷ ps) (piece, others, parts, long, reads, same, rest) small =
    let later = texts_small page others es ps rest small.1 in
    (ap suc later.0, (subst (λ (n : ℕ). n < 2 ^ 16) (sym same) small.0, later.1))

-- what two streams hold is few places of small counts
abbrev IsSmallPool : Pool → Type 0
IsSmallPool raw = (length raw.places ≤ 16777215) × CountsFit raw.places

pool_small : (written texts : List ℕ) (raw : Pool) → IsPool written texts raw → IsSmallPool raw
pool_small written texts raw (es, (id, others, small, known, parts, spelled, few), held) =
    let is = texts_small raw.page texts es raw.places held (entries_small others es spelled) in
    (subst (λ (n : ℕ). n ≤ 16777215) (sym is.0) few, is.1)

raw_small : (o p : Option (List ℕ)) (raw : Pool) → IsSomeAnd o (λ written. IsSomeAnd p (λ texts. IsPool written texts raw)) → IsSmallPool raw
raw_small None p raw h = absurd h
raw_small (Some written) None raw h = absurd h
raw_small (Some written) (Some texts) raw h = pool_small written texts raw h

-- THE DATABASE

hold_bytes : (streams : Streams) → AllByRecursion (λ s. AreBytes s.1) streams → HoldBytes streams
hold_bytes [] h = tt
hold_bytes (s ∷ ss) h = (All-from_recursion (λ b. b < 256) s.1 h.0, hold_bytes ss h.1)

listed_shown : (long : Bool) (ts : Tables) → schema_listed (map {B = TableDef} (λ t. record { name = t.0; columns = t.1.columns; long = long }) ts) ≡ map {B = List ℕ × List ColumnDef} (λ t. (t.0, t.1.columns)) ts
listed_shown long [] = refl
listed_shown long (t ∷ ts) = ap (λ (us : List (List ℕ × List ColumnDef)). (t.0, t.1.columns) ∷ us) (listed_shown long ts)

listed_long : (long : Bool) (ts : Tables) → AreAsLong long (map {B = TableDef} (λ t. record { name = t.0; columns = t.1.columns; long = long }) ts)
listed_long long [] = tt
listed_long long (t ∷ ts) = (refl, listed_long long ts)

module _ (bytes : List ℕ) (small : AreBytes bytes) (c : Contents) (holds : Holds bytes c) (d : Database) (pool : PoolIs (entries c.streams) d) (spelled : DatabaseIs (entries c.streams) d) where
  abbrev streams : Streams
  streams = entries c.streams

  abbrev tables : List TableDef
  tables = tables_listed d

  same : database_kept d.pool tables streams ≡ d
  same = parts_make streams d tables spelled (listed_shown d.pool.long d.tables)

  parts_kept : AreKept d.pool tables streams (is_sound (database_kept d.pool tables streams))
  parts_kept =
      let raw = raw_small (stream_at (table_key string_pool_name) streams) (stream_at (table_key string_data_name) streams) pool.0 pool.1 in
      read_is_kept pool.0 d.pool tables streams (is_sound (database_kept d.pool tables streams)) (record {
        in_order = entries_sorted c.streams;
        names = short_names streams (held_names bytes small c holds);
        bytes = hold_bytes streams (held_bytes bytes small c holds);
        few = raw.0;
        counts = raw.1;
        places = subst (λ (e : Database). d.pool.places ≡ with_named_texts (is_shown streams e) pool.0.places) (sym same) (ap (λ (p : Pool). p.places) pool.2);
        as_long = listed_long d.pool.long d.tables;
        schema = spelled.schema ∙ ap Some (sym (listed_shown d.pool.long d.tables));
      }) refl

  pub opened_database : IsKeptDatabase (record { database = d; streams = streams })
  opened_database = subst (λ (e : Database). IsKeptDatabase (record { database = e; streams = streams })) same parts_kept.kept

-- THE PACKAGE

pub opened_package : (bytes : List ℕ) → AreBytes bytes → (c : Contents) → Holds bytes c → (p : Parts) → ContentsMean c p → IsPackage (as_opened (entries c.streams) p)
opened_package bytes small c holds p h = let summary = opened_summary (entries c.streams) p.summary h.summary in record {
  names = held_names bytes small c holds;
  database = opened_database bytes small c holds p.database h.pool h.database;
  summary = summary.kept;
  format = summary.format;
  agrees = record { summary = λ _ _. h.summary; pool = λ _ _. h.pool; database = h.database };
  changed = λ changed. absurd (true≢false (sym changed));
}

pub opened_are_packages : OpenedArePackages
opened_are_packages bytes s small (c, holds, means, is) = record {
  is_package = subst IsPackage (sym is) (opened_package bytes small c holds (parts_of s) means);
  means = (c, holds, means);
  unwritten = ap (λ (t : State). t.is_unwritten) is;
  lent = ap (λ (t : State). t.is_summary_lent) is;
  changed = ap (λ (t : State). t.is_pool_changed) is;
}

pub opened_is_session : OpenedIsSession
opened_is_session bytes s small opens = let is = opened_are_packages bytes s small opens in record {
  is_package = is.is_package;
  held = λ clean writable. record { means = is.means; opens = opens };
}
