-- Streams and tables by their names: what a put or a removal at one name does at another.
use Rattle.std.proofs.Common.{◌≡◌, ◌≢◌, ℕ, not, List, Option, Some, None}
use Rattle.std.specs.Prelude.{T}
use Rattle.std.specs.List.{AllByRecursion}
use Rattle.std.specs.FinMap.{find, is_sorted, IsAntisymmetric, nat_cmp-IsAntisymmetric, slice_cmp-IsAntisymmetric}
use Rattle.std.specs.Ordering.{eq_by_cmp}
use Rattle.msi_base.specs.Lists.{list_cmp}
use Rattle.msi_container_format.specs.Names.{name_cmp}
use Rattle.msi_container_format.proofs.NamesLemmas.{names_total, exact_names}
use Rattle.msi_database_schema.proofs.RowOrderLemmas.{names_total as list_cmp_total}
use Rattle.msi_database_changes.specs.Database.{Tables}
use Rattle.msi_database_storage.specs.Streams.{Streams, stream_at, with_stream, without_stream, with_stream_or_none}
use Rattle.msi_database_storage.proofs.MapLemmas as maps

-- streams by their names
pub stream_at_put : (name bytes : List ℕ) (streams : Streams) → stream_at name (with_stream name bytes streams) ≡ Some bytes
stream_at_put name bytes streams = maps.find_put_same names_total exact_names name bytes streams

pub stream_at_other_put : (other name bytes : List ℕ) (streams : Streams) → other ≢ name → stream_at other (with_stream name bytes streams) ≡ stream_at other streams
stream_at_other_put other name bytes streams apart = maps.find_put_other names_total exact_names other name bytes streams apart

pub stream_at_removed : (name : List ℕ) (streams : Streams) → stream_at name (without_stream name streams) ≡ None
stream_at_removed name streams = maps.find_without_same names_total exact_names name streams

pub stream_at_other_removed : (other name : List ℕ) (streams : Streams) → other ≢ name → stream_at other (without_stream name streams) ≡ stream_at other streams
stream_at_other_removed other name streams apart = maps.find_without_other names_total exact_names other name streams apart

abbrev pub AreSorted : Streams → Type 0
AreSorted streams = T (is_sorted name_cmp streams)

pub sorted_put : (name bytes : List ℕ) (streams : Streams) → AreSorted streams → AreSorted (with_stream name bytes streams)
sorted_put name bytes streams h = maps.sorted_put names_total exact_names name bytes streams h

pub sorted_removed : (name : List ℕ) (streams : Streams) → AreSorted streams → AreSorted (without_stream name streams)
sorted_removed name streams h = maps.sorted_where names_total exact_names (λ q. not (eq_by_cmp name_cmp name q)) streams h

-- what holds of streams with and without one of a name
pub with_or_none_either : (P : Streams → Type 0) (name : List ℕ) (o : Option (List ℕ)) (streams : Streams)
    → ((bytes : List ℕ) → P (with_stream name bytes streams)) → P (without_stream name streams) → P (with_stream_or_none name o streams)
with_or_none_either P name None streams with without = without
with_or_none_either P name (Some bytes) streams with without = with bytes

-- what holds of each name goes on to hold
pub names_put : (P : List ℕ → Type 0) (name : List ℕ) (o : Option (List ℕ)) (streams : Streams) → P name → AllByRecursion (λ s. P s.0) streams → AllByRecursion (λ s. P s.0) (with_stream_or_none name o streams)
names_put P name o streams is h = with_or_none_either (AllByRecursion (λ s. P s.0)) name o streams
    (λ bytes. maps.keys_put P name_cmp name bytes streams is h) (maps.keys_filter P (λ s. not (eq_by_cmp name_cmp name s.0)) streams h)

pub list_cmp_exact : IsAntisymmetric list_cmp
list_cmp_exact = slice_cmp-IsAntisymmetric nat_cmp-IsAntisymmetric

abbrev pub TablesSorted : Tables → Type 0
TablesSorted tables = T (is_sorted list_cmp tables)

pub tables_found : (tables : Tables) → TablesSorted tables → AllByRecursion (λ t. find list_cmp t.0 tables ≡ Some t.1) tables
tables_found tables h = maps.found_each list_cmp_total list_cmp_exact tables h
