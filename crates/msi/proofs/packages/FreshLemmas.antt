-- A new package: before its first write and after it.
use Rattle.std.proofs.Common.{◌≡◌, true, false, List, [], Some, is_some, map, refl, ap, ◌∙◌}
use Rattle.std.specs.List.{AllByRecursion}
use Rattle.std.proofs.lemmas.Bool.{true≢false}
use Rattle.msi_base.specs.Lists.{has_pair}
use Rattle.msi_base.proofs.OptionLemmas.{some_there}
use Rattle.msi_table_values.specs.declared.value.Value.{Value}
use Rattle.msi_table.specs.CellValues.{row_values}
use Rattle.msi_container_write.specs.LayoutLaw.{IsName}
use Rattle.msi_database_schema.proofs.RowOrderLemmas.{names_total}
use Rattle.msi_database.specs.Database.{CountsAreExact, is_sound, rows_of}
use Rattle.msi_table.specs.KeyOrder.{key_of, same_key}
use Rattle.msi_database.specs.Laws.{KeysAreDistinct}
use Rattle.msi_database.proofs.DescribingLemmas.{rows_at_is}
use Rattle.msi_database.specs.Fresh as databases
use Rattle.msi_database.proofs.opening.FreshLemmas.{fresh_is_kept}
use Rattle.msi_database_storage.proofs.MapLemmas as maps
use Rattle.msi_database_storage.proofs.StoredLemmas.{AreNames, all_names}
use Rattle.msi_database_storage.proofs.StreamLemmas.{list_cmp_exact}
use Rattle.msi.specs.declared.kinds.PackageType.{PackageType}
use Rattle.msi.specs.declared.kinds.PackageType.TheVariants as kind
use Rattle.msi.specs.Kinds.{title_of}
use Rattle.msi.specs.Meaning.{IsPackage}
use Rattle.msi.specs.Steps.{streams_written}
use Rattle.msi.specs.Runs.{fresh, unwritten}
use Rattle.msi.proofs.named_streams.KeyNameLemmas.{table_key_is_name}
use Rattle.msi.proofs.packages.SummarySetLemmas.{new_summary_is}
use Rattle.msi.proofs.writing.FlushLemmas.{flush_package}

stored : AreNames databases.fresh_change.stored
unfolding Rattle.std.specs.Str.chars
stored = (refl, (refl, (refl, tt)))

-- before its first write
pub unwritten_package : (k : PackageType) → IsPackage (unwritten k)
unwritten_package k = record {
  names = all_names databases.fresh_change.database IsName table_key_is_name databases.fresh_change.stored [] stored tt;
  database = fresh_is_kept.kept;
  summary = (new_summary_is (title_of k)).kept;
  format = (new_summary_is (title_of k)).format;
  agrees = record {
    summary = λ lent. absurd (true≢false lent);
    pool = λ changed. absurd (true≢false changed);
    database = fresh_is_kept.kept.spelled;
  };
  changed = λ _. fresh_is_kept.sound;
}

is_written : (k : PackageType) → is_some (streams_written (unwritten k)) ≡ true
unfolding Rattle.std.specs.Str.chars
is_written kind.Installer = refl
is_written kind.Patch = refl
is_written kind.Transform = refl

pub fresh_written : (k : PackageType) → streams_written (unwritten k) ≡ Some (fresh k).kept.streams
fresh_written k = some_there (streams_written (unwritten k)) [] (is_written k)

-- after it
pub fresh_package : (k : PackageType) → IsPackage (fresh k)
fresh_package k = flush_package (unwritten k) (fresh k).kept.streams (unwritten_package k) (fresh_written k)

pub fresh_sound : (k : PackageType) → is_sound (fresh k).kept.database ≡ true
fresh_sound k = fresh_is_kept.sound

pub fresh_counts : (k : PackageType) → CountsAreExact (fresh k).kept.database
fresh_counts k = fresh_is_kept.counts

-- its keys are distinct
keys_apart : AllByRecursion (λ t. has_pair same_key (map (key_of t.1.columns) (map (row_values databases.fresh.database.pool.places) (rows_of t.1))) ≡ false) databases.fresh.database.tables
unfolding Rattle.std.specs.Str.chars
keys_apart = (refl, (refl, (refl, tt)))

pub fresh_keys : (k : PackageType) → KeysAreDistinct (fresh k).kept.database
fresh_keys k name t found =
    ap (λ (rows : List (List Value)). has_pair same_key (map (key_of t.columns) rows)) (rows_at_is name databases.fresh.database t found)
    ∙ maps.found_has names_total list_cmp_exact (λ e. has_pair same_key (map (key_of e.1.columns) (map (row_values databases.fresh.database.pool.places) (rows_of e.1))) ≡ false)
    name t databases.fresh.database.tables keys_apart found
