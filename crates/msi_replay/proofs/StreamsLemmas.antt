-- The streams of a recoded package, and those that are as they were.
use Rattle.std.proofs.Common.{◌≡◌, ◌≢◌, ℕ, true, List, [], ◌∷◌, Some, refl, sym, ap, ◌∙◌}
use Rattle.std.specs.List.{AllByRecursion}
use Rattle.std.specs.FinMap.{entries, entries-insert, insert}
use Rattle.msi.specs.Container.Streams as maps
use Rattle.msi.proofs.NamesLemmas.{names_total}
use Rattle.msi.specs.Database.Keys.{is_table_name, table_key, summary_key, string_pool_name, string_data_name}
use Rattle.msi.specs.Database.System.{tables_name, columns_name, validation_name}
use Rattle.msi.specs.Database.Database.{Database, Tables}
use Rattle.msi.specs.Database.Streams.{Streams, stream_at, with_stream}
use Rattle.msi.proofs.KeyLemmas.{pool_keys_differ, table_key≢summary_key, table_key≢pool, tables_accepted, columns_accepted, validation_accepted}
use Rattle.msi.proofs.StreamLemmas.{stream_at_put, stream_at_other_put}
use Rattle.msi.specs.State.{names_of, others_among}
use Rattle.msi.proofs.meaning.AgreementLemmas.{SameStream, SameTables}
use Rattle.msi.proofs.named_streams.OtherStreamLemmas.{others_put, owned_by_summary, owned_by_pool, owned_by_texts}
use Rattle.msi_recode.specs.Recoding.{TextStreams, with_text_streams}
use Rattle.msi_replay.specs.PackageLaws.{HaveTableNames}

-- with the pool's first stream, with both, and with all three
abbrev pub with_entries : TextStreams → Streams → Streams
with_entries these streams = with_stream (table_key string_pool_name) these.entries streams

abbrev pub with_pool : TextStreams → Streams → Streams
with_pool these streams = with_stream (table_key string_data_name) these.texts (with_entries these streams)

abbrev pub with_three : TextStreams → Streams → Streams
with_three these streams = with_stream summary_key these.summary (with_pool these streams)

pub three_put : (these : TextStreams) (m : maps.Streams) → entries (with_text_streams these m) ≡ with_three these (entries m)
three_put these m =
    let first = insert m (table_key string_pool_name) these.entries in
    let second = insert first (table_key string_data_name) these.texts in
    entries-insert names_total second summary_key these.summary
    ∙ ap (with_stream summary_key these.summary) (entries-insert names_total first (table_key string_data_name) these.texts
    ∙ ap (with_stream (table_key string_data_name) these.texts) (entries-insert names_total m (table_key string_pool_name) these.entries))

module _ (these : TextStreams) (streams : Streams) where
  pub pool_put : stream_at (table_key string_pool_name) (with_three these streams) ≡ Some these.entries
  pool_put =
      stream_at_other_put (table_key string_pool_name) summary_key these.summary (with_pool these streams) (table_key≢summary_key string_pool_name)
      ∙ stream_at_other_put (table_key string_pool_name) (table_key string_data_name) these.texts (with_entries these streams) pool_keys_differ
      ∙ stream_at_put (table_key string_pool_name) these.entries streams

  pub data_put : stream_at (table_key string_data_name) (with_three these streams) ≡ Some these.texts
  data_put =
      stream_at_other_put (table_key string_data_name) summary_key these.summary (with_pool these streams) (table_key≢summary_key string_data_name)
      ∙ stream_at_put (table_key string_data_name) these.texts (with_entries these streams)

  pub summary_put : stream_at summary_key (with_three these streams) ≡ Some these.summary
  summary_put = stream_at_put summary_key these.summary (with_pool these streams)

  table_stays : (name : List ℕ) → is_table_name name ≡ true → SameStream streams (with_three these streams) name
  table_stays name named =
      let apart = table_key≢pool name named in
      stream_at_other_put (table_key name) summary_key these.summary (with_pool these streams) (table_key≢summary_key name)
      ∙ stream_at_other_put (table_key name) (table_key string_data_name) these.texts (with_entries these streams) apart.1
      ∙ stream_at_other_put (table_key name) (table_key string_pool_name) these.entries streams apart.0

  each_stays : (tables : Tables) → AllByRecursion (λ t. is_table_name t.0 ≡ true) tables → AllByRecursion (λ t. SameStream streams (with_three these streams) t.0) tables
  each_stays [] named = tt
  each_stays (t ∷ ts) named = (table_stays t.0 named.0, each_stays ts named.1)

  pub tables_stay : (d : Database) → HaveTableNames d → SameTables streams (with_three these streams) d
  tables_stay d named = record {
    each = each_stays d.tables named;
    tables = table_stays tables_name tables_accepted;
    columns = table_stays columns_name columns_accepted;
    validation = table_stays validation_name validation_accepted;
  }

  pub others_stay : (d : Database) → others_among (with_three these streams) d ≡ others_among streams d
  others_stay d =
      let names = names_of d in
      others_put summary_key these.summary (with_pool these streams) d (owned_by_summary names summary_key refl)
      ∙ others_put (table_key string_data_name) these.texts (with_entries these streams) d (owned_by_texts names (table_key string_data_name) refl)
      ∙ others_put (table_key string_pool_name) these.entries streams d (owned_by_pool names (table_key string_pool_name) refl)
