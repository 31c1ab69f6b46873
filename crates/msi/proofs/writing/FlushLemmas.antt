-- What a flush writes, and that the package that it leaves is one.
use Rattle.std.proofs.Common.{◌≡◌, ◌≢◌, ℕ, ◌+◌, Bool, true, false, ◌&&◌, ◌==◌, not, List, [], ◌∷◌, map, Option, Some, None, refl, sym, ap, subst, ◌∙◌}
use Rattle.std.specs.Prelude.{IsSomeAnd, option_map, option_and_then, if◌then◌else◌}
use Rattle.std.specs.List.{AllByRecursion, enumerate_from}
use Rattle.std.proofs.lemmas.Bool.{eqb-true, true≢false}
use Rattle.std.proofs.lemmas.Option.{same_Some}
use Rattle.msi_pool.specs.Pool.{Pool, Place, PlacesWritten, forgotten, pool_stream, data_stream, IsPool}
use Rattle.msi_pool.specs.Pool as pools
use Rattle.msi_pool.specs.PoolWriting as pool_writing
use Rattle.msi_pool.proofs.PoolReadBackLemmas.{pools_read_back}
use Rattle.msi_pool.proofs.ForgottenLemmas.{empty_places, none_lost}
use Rattle.msi_summary.specs.PropertyStream.{property_stream}
use Rattle.msi_summary.specs.PropertyStream as properties
use Rattle.msi_summary.specs.PropertyWriting as property_writing
use Rattle.msi_summary.specs.Summary.{SpellsSummary}
use Rattle.msi_summary.proofs.ReadBackLemmas.{sets_read_back}
use Rattle.msi_container_write.specs.LayoutLaw.{HaveNames}
use Rattle.msi_database_schema.specs.Keys.{is_table_name, table_key, summary_key, string_pool_name, string_data_name}
use Rattle.msi_database_schema.specs.System.{tables_name, columns_name, validation_name}
use Rattle.msi_database.specs.Database.{Database, Tables}
use Rattle.msi_database_storage.specs.Streams.{Streams, stream_at, with_stream}
use Rattle.msi_database_storage.specs.Agreement.{is_shown}
use Rattle.msi_database_schema.proofs.KeyLemmas.{pool_keys_differ, table_key≢summary_key, table_key≢pool, tables_accepted, columns_accepted, validation_accepted}
use Rattle.msi_database.proofs.soundness.SoundLemmas.{sound_names}
use Rattle.msi_database_storage.proofs.StreamLemmas.{AreSorted, sorted_put, stream_at_put, stream_at_other_put}
use Rattle.msi.specs.State.{State, names_of, others_among, parts_of}
use Rattle.msi.specs.Meaning.{SummaryIs, PoolIs, shown_pool, IsPackage}
use Rattle.msi.specs.Renewing.{pool_put}
use Rattle.msi.specs.Steps.{with_summary, with_pool, streams_written, as_written}
use Rattle.msi.proofs.named_streams.KeyNameLemmas.{pool_keys_are_names, summary_key_is_name}
use Rattle.msi.proofs.named_streams.OtherStreamLemmas.{names_with, others_put, owned_by_summary, owned_by_pool, owned_by_texts}
use Rattle.msi.proofs.packages.SummarySetLemmas.{IsSummarySet}
use Rattle.msi.proofs.meaning.AgreementLemmas.{SameStream, SameTables, summary_same, raw_from, pool_same, shown_same, database_same, kept_same}
use Rattle.msi.proofs.packages.PackageLemmas.{package_summary, short_names}

-- THE SUMMARY

-- what writing the summary does to streams: nothing, or a put
summary_put : (P : Streams → Type 0) (lent refused : Bool) (stream : Option (List ℕ)) (kept after : Streams)
    → (if lent then option_map (λ bytes. with_stream summary_key bytes kept) (if refused then None else stream) else Some kept) ≡ Some after
    → (lent ≡ false → P kept) → ((bytes : List ℕ) → refused ≡ false → stream ≡ Some bytes → P (with_stream summary_key bytes kept)) → P after
summary_put P false refused stream kept after e same put = subst P (same_Some kept after e) (same refl)
summary_put P true true stream kept after e same put = absurd cc
summary_put P true false None kept after e same put = absurd cc
summary_put P true false (Some bytes) kept after e same put = subst P (same_Some (with_stream summary_key bytes kept) after e) (put bytes refl refl)

module _ (s : State) (kept after : Streams) (written : with_summary s kept ≡ Some after) where
  summary_either : (P : Streams → Type 0) → (s.is_summary_lent ≡ false → P kept)
      → ((bytes : List ℕ) → property_writing.is_refused s.summary ≡ false → property_stream s.summary ≡ Some bytes → P (with_stream summary_key bytes kept)) → P after
  summary_either P same put = summary_put P s.is_summary_lent (property_writing.is_refused s.summary) (property_stream s.summary) kept after written same put

  summary_sorted : AreSorted kept → AreSorted after
  summary_sorted h = summary_either AreSorted (λ _. h) (λ bytes _ _. sorted_put summary_key bytes kept h)

  summary_names : HaveNames kept → HaveNames after
  summary_names h = summary_either HaveNames (λ _. h) (λ bytes _ _. names_with summary_key bytes kept summary_key_is_name h)

  beside_summary : (key : List ℕ) → key ≢ summary_key → stream_at key after ≡ stream_at key kept
  beside_summary key apart = summary_either (λ streams. stream_at key streams ≡ stream_at key kept) (λ _. refl) (λ bytes _ _. stream_at_other_put key summary_key bytes kept apart)

  others_beside_summary : (d : Database) → others_among after d ≡ others_among kept d
  others_beside_summary d = summary_either (λ streams. others_among streams d ≡ others_among kept d) (λ _. refl) (λ bytes _ _. others_put summary_key bytes kept d (owned_by_summary (names_of d) summary_key refl))

  summary_means : IsSummarySet s.summary → properties.AreWritable s.summary → (s.is_summary_lent ≡ false → SummaryIs kept s.summary) → SummaryIs after s.summary
  summary_means set writable was = summary_either (λ streams. SummaryIs streams s.summary) was (λ bytes told stream.
      subst (λ (o : Option (List ℕ)). IsSomeAnd o (λ spelled. SpellsSummary spelled s.summary)) (sym (stream_at_put summary_key bytes kept))
      (sets_read_back s.summary bytes set.kept writable told stream, set.format))

-- THE POOL

-- where each free place has the empty text, a pool is shown as it is
shown_itself : (is_named : ℕ → Bool) (raw : Pool) → PlacesWritten raw.places → shown_pool is_named raw ≡ raw
shown_itself is_named raw h = λ k. record raw { places = none_lost is_named 1 raw.places h k }

pool_put_is : (P : Streams → Type 0) (refused : Bool) (written texts : Option (List ℕ)) (kept after : Streams)
    → (if refused then None else option_and_then (λ bytes. option_map (λ others. with_stream (table_key string_pool_name) bytes (with_stream (table_key string_data_name) others kept)) texts) written) ≡ Some after
    → ((bytes others : List ℕ) → refused ≡ false → written ≡ Some bytes → texts ≡ Some others → P (with_stream (table_key string_pool_name) bytes (with_stream (table_key string_data_name) others kept))) → P after
pool_put_is P true written texts kept after e put = absurd cc
pool_put_is P false None texts kept after e put = absurd cc
pool_put_is P false (Some bytes) None kept after e put = absurd cc
pool_put_is P false (Some bytes) (Some others) kept after e put = subst P (same_Some _ after e) (put bytes others refl refl refl)

pool_by : (P : Streams → Type 0) (changed : Bool) (put : Option Streams) (kept after : Streams) → (if changed then put else Some kept) ≡ Some after → (changed ≡ false → P kept) → (changed ≡ true → put ≡ Some after → P after) → P after
pool_by P true put kept after e same new = new refl e
pool_by P false put kept after e same new = subst P (same_Some kept after e) (same refl)

module _ (s : State) (kept after : Streams) (written : with_pool s kept ≡ Some after) where
  abbrev pool : Pool
  pool = s.kept.database.pool

  pool_either : (P : Streams → Type 0) → (s.is_pool_changed ≡ false → P kept)
      → ((bytes others : List ℕ) → s.is_pool_changed ≡ true → pool_writing.is_refused pool ≡ false → pool_stream pool ≡ Some bytes → data_stream pool ≡ Some others
      → P (with_stream (table_key string_pool_name) bytes (with_stream (table_key string_data_name) others kept))) → P after
  pool_either P same put = pool_by P s.is_pool_changed (pool_put pool kept) kept after written same
      (λ changed e. pool_put_is P (pool_writing.is_refused pool) (pool_stream pool) (data_stream pool) kept after e (λ bytes others. put bytes others changed))

  pool_sorted : AreSorted kept → AreSorted after
  pool_sorted h = pool_either AreSorted (λ _. h) (λ bytes others _ _ _ _. sorted_put (table_key string_pool_name) bytes (with_stream (table_key string_data_name) others kept) (sorted_put (table_key string_data_name) others kept h))

  pool_names : HaveNames kept → HaveNames after
  pool_names h = pool_either HaveNames (λ _. h) (λ bytes others _ _ _ _. names_with (table_key string_pool_name) bytes (with_stream (table_key string_data_name) others kept) pool_keys_are_names.0
      (names_with (table_key string_data_name) others kept pool_keys_are_names.1 h))

  beside_pool : (key : List ℕ) → (s.is_pool_changed ≡ true → (key ≢ table_key string_pool_name) × (key ≢ table_key string_data_name)) → stream_at key after ≡ stream_at key kept
  beside_pool key apart = pool_either (λ streams. stream_at key streams ≡ stream_at key kept) (λ _. refl) (λ bytes others changed _ _ _.
      stream_at_other_put key (table_key string_pool_name) bytes (with_stream (table_key string_data_name) others kept) (apart changed).0 ∙ stream_at_other_put key (table_key string_data_name) others kept (apart changed).1)

  others_beside_pool : (d : Database) → others_among after d ≡ others_among kept d
  others_beside_pool d = let names = names_of d in pool_either (λ streams. others_among streams d ≡ others_among kept d) (λ _. refl) (λ bytes others _ _ _ _.
      others_put (table_key string_pool_name) bytes (with_stream (table_key string_data_name) others kept) d (owned_by_pool names (table_key string_pool_name) refl)
      ∙ others_put (table_key string_data_name) others kept d (owned_by_texts names (table_key string_data_name) refl))

  module _ (h : IsPackage s) where
    pool_means : pools.AreWritable pool → (s.is_pool_changed ≡ false → PoolIs kept s.kept.database) → PoolIs after s.kept.database
    pool_means writable was = pool_either (λ streams. PoolIs streams s.kept.database) was (λ bytes others changed told entries texts.
        let behind : Streams = with_stream (table_key string_data_name) others kept in
        let now : Streams = with_stream (table_key string_pool_name) bytes behind in
        let freed : PlacesWritten pool.places = h.database.freed (h.changed changed) in (
          pool,
          raw_from pool _ _ _ _
              (stream_at_put (table_key string_pool_name) bytes behind)
              (stream_at_other_put (table_key string_data_name) (table_key string_pool_name) bytes behind (λ e. pool_keys_differ (sym e)) ∙ stream_at_put (table_key string_data_name) others kept)
              (subst (IsPool bytes others) (empty_places pool freed) (pools_read_back pool h.database.few h.database.counts told bytes others entries texts writable)),
          sym (shown_itself (is_shown now s.kept.database) pool freed),
        ))

-- A FLUSH

and_then_is : {X Y : Type 0} (f : X → Option Y) (o : Option X) (y : Y) → option_and_then f o ≡ Some y → (x : X) × (o ≡ Some x) × (f x ≡ Some y)
and_then_is f None y e = absurd cc
and_then_is f (Some x) y e = (x, refl, e)

module _ (s : State) (streams : Streams) (h : IsPackage s) (written : streams_written s ≡ Some streams) where
  abbrev d : Database
  d = s.kept.database

  between : (mid : Streams) × (with_summary s s.kept.streams ≡ Some mid) × (with_pool s mid ≡ Some streams)
  between = and_then_is (with_pool s) (with_summary s s.kept.streams) streams written

  table_stays : (name : List ℕ) → (s.is_pool_changed ≡ true → is_table_name name ≡ true) → SameStream s.kept.streams streams name
  table_stays name is =
      beside_pool s between.0 streams between.2 (table_key name) (λ changed. table_key≢pool name (is changed))
      ∙ beside_summary s s.kept.streams between.0 between.1 (table_key name) (table_key≢summary_key name)

  tables_stay : (tables : Tables) → (s.is_pool_changed ≡ true → AllByRecursion (λ t. is_table_name t.0 ≡ true) tables) → AllByRecursion (λ t. SameStream s.kept.streams streams t.0) tables
  tables_stay [] named = tt
  tables_stay (t ∷ ts) named = (table_stays t.0 (λ changed. (named changed).0), tables_stay ts (λ changed. (named changed).1))

  same_tables : SameTables s.kept.streams streams d
  same_tables = record {
    each = tables_stay d.tables (λ changed. sound_names d (h.changed changed));
    tables = table_stays tables_name (λ _. tables_accepted);
    columns = table_stays columns_name (λ _. columns_accepted);
    validation = table_stays validation_name (λ _. validation_accepted);
  }

  flush_sorted : AreSorted streams
  flush_sorted = pool_sorted s between.0 streams between.2 (summary_sorted s s.kept.streams between.0 between.1 h.database.in_order)

  flush_names : HaveNames streams
  flush_names = pool_names s between.0 streams between.2 (summary_names s s.kept.streams between.0 between.1 h.names)

  summary_apart : (s.is_pool_changed ≡ true → (summary_key ≢ table_key string_pool_name) × (summary_key ≢ table_key string_data_name))
  summary_apart _ = ((λ e. table_key≢summary_key string_pool_name (sym e)), (λ e. table_key≢summary_key string_data_name (sym e)))

  flush_summary : properties.AreWritable s.summary → SummaryIs streams s.summary
  flush_summary writable = summary_same between.0 streams s.summary (beside_pool s between.0 streams between.2 summary_key summary_apart)
      (summary_means s s.kept.streams between.0 between.1 (package_summary s h) writable (λ lent. h.agrees.summary lent writable))

  beside : (name : List ℕ) → SameStream s.kept.streams between.0 name
  beside name = beside_summary s s.kept.streams between.0 between.1 (table_key name) (table_key≢summary_key name)

  flush_pool : pools.AreWritable d.pool → PoolIs streams d
  flush_pool writable = pool_means s between.0 streams between.2 h writable (λ same. pool_same s.kept.streams between.0 d d
      (beside string_pool_name) (beside string_data_name) refl (shown_same s.kept.streams between.0 d (beside validation_name)) (h.agrees.pool same writable))

  -- the root's other streams stay
  flush_others : others_among streams d ≡ others_among s.kept.streams d
  flush_others = others_beside_pool s between.0 streams between.2 d ∙ others_beside_summary s s.kept.streams between.0 between.1 d

  -- what a flush leaves is a package of the same parts
  pub flush_package : IsPackage (as_written s streams)
  flush_package = record {
    names = flush_names;
    database = kept_same s.kept streams flush_sorted (short_names streams flush_names) same_tables h.database;
    summary = h.summary;
    format = h.format;
    agrees = record {
      summary = λ lent writable. flush_summary writable;
      pool = λ changed writable. flush_pool writable;
      database = database_same s.kept.streams streams d same_tables h.agrees.database;
    };
    changed = λ changed. absurd (true≢false (sym changed));
  }

  pub flush_parts : parts_of (as_written s streams) ≡ parts_of s
  flush_parts = ap (λ (others : Streams). record (parts_of s) { streams = others }) flush_others
