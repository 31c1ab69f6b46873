-- The streams that a flush writes anew are no tables', and are put back where it fails.
use Rattle.std.proofs.Common.{◌≡◌, ◌≢◌, ℕ, Bool, true, false, List, [], ◌∷◌, map, Option, refl, sym, ap, subst, ◌∙◌}
use Rattle.std.specs.List.{AllByRecursion}
use Rattle.std.specs.FinMap.{entries, entries_sorted, entries-from_sorted, entries-insert, from_sorted, get, get-entries, insert, same_entries_map}
use Rattle.msi_container_format.specs.Names.{name_cmp}
use Rattle.msi_container_format.specs.Streams as maps
use Rattle.msi_container_format.specs.declared.contents.Contents.{Contents}
use Rattle.msi_container_format.proofs.NamesLemmas.{names_total}
use Rattle.msi_container_format.proofs.StreamsLemmas.{put_back_same}
use Rattle.msi_container_format.specs.Names.{named}
use Rattle.msi_database_schema.specs.Keys.{is_table_name, string_data_name, string_pool_name, summary_key, table_key}
use Rattle.msi_database_schema.specs.System.{columns_name, tables_name, validation_name}
use Rattle.msi_database.specs.Database.{Database, Tables, is_sound}
use Rattle.msi_database_storage.specs.Kept.{Kept}
use Rattle.msi_database_storage.specs.Streams.{Streams, stream_at, with_stream, with_stream_or_none}
use Rattle.msi_database.specs.Others.{IsOther, with_streams}
use Rattle.msi_database.proofs.keeping.StreamEntriesLemmas.{entries_either}
use Rattle.msi_database_schema.proofs.KeyLemmas.{columns_accepted, table_key≢pool, tables_accepted, validation_accepted}
use Rattle.msi_database.proofs.soundness.SoundLemmas.{sound_names}
use Rattle.msi_database_storage.proofs.StreamLemmas.{AreSorted}
use Rattle.msi.specs.Renewing.{keys_in, renewed_keys}
use Rattle.msi.specs.declared.kinds.PackageType.{PackageType}
use Rattle.msi.specs.Kinds.{clsid_of}
use Rattle.msi.specs.Flushing.{AreOthers, root_contents}
use Rattle.msi.proofs.named_streams.OpenStreamLemmas.{unmarked_is_other}

-- THEIR NAMES

module _ (key : List ℕ) where
  apart_from : (tables : Tables) → ((name : List ℕ) → is_table_name name ≡ true → key ≢ table_key name) → AllByRecursion (λ t. is_table_name t.0 ≡ true) tables
      → AllByRecursion (λ name. key ≢ table_key name) (map (λ t. t.0) tables)
  apart_from [] apart named = tt
  apart_from (t ∷ ts) apart named = (apart t.0 named.0, apart_from ts apart named.1)

  is_other : (d : Database) → is_sound d ≡ true → ((name : List ℕ) → is_table_name name ≡ true → key ≢ table_key name) → IsOther d key
  is_other d sound apart =
      (apart validation_name validation_accepted, (apart columns_name columns_accepted, (apart tables_name tables_accepted, apart_from d.tables apart (sound_names d sound))))

pool_is_other : (d : Database) → is_sound d ≡ true → IsOther d (table_key string_pool_name)
pool_is_other d sound = is_other (table_key string_pool_name) d sound (λ name is e. (table_key≢pool name is).0 (sym e))

texts_are_other : (d : Database) → is_sound d ≡ true → IsOther d (table_key string_data_name)
texts_are_other d sound = is_other (table_key string_data_name) d sound (λ name is e. (table_key≢pool name is).1 (sym e))

summary_is_other : (d : Database) → IsOther d summary_key
summary_is_other d = unmarked_is_other d summary_key refl

keys_are_others : (d : Database) (is_lent is_changed : Bool) → (is_changed ≡ true → is_sound d ≡ true) → AllByRecursion (IsOther d) (renewed_keys is_lent is_changed)
keys_are_others d false false sound = tt
keys_are_others d true false sound = (summary_is_other d, tt)
keys_are_others d false true sound = (texts_are_other d (sound refl), (pool_is_other d (sound refl), tt))
keys_are_others d true true sound = (summary_is_other d, (texts_are_other d (sound refl), (pool_is_other d (sound refl), tt)))

others_by_keys : (d : Database) (rs : Streams) → AllByRecursion (IsOther d) (keys_in rs) → AreOthers d rs
others_by_keys d [] all = tt
others_by_keys d (r ∷ rs) all = (all.0, others_by_keys d rs all.1)

pub renewed_are_others : (d : Database) (is_lent is_changed : Bool) (renewed items : Streams) → (is_changed ≡ true → is_sound d ≡ true)
    → keys_in renewed ≡ renewed_keys is_lent is_changed → items ≡ renewed → AreOthers d items
renewed_are_others d is_lent is_changed renewed items sound named same =
    others_by_keys d items (subst (λ (keys : List (List ℕ)). AllByRecursion (IsOther d) keys) (sym (ap keys_in same ∙ named)) (keys_are_others d is_lent is_changed sound))

-- PUT BACK

back_in : (m : maps.Streams) (name bytes : List ℕ) → with_stream_or_none name (stream_at name (entries m)) (with_stream name bytes (entries m)) ≡ entries m
back_in m name bytes =
    sym (entries_either (insert m name bytes) name (get m name)
    ∙ ap (λ (o : Option (List ℕ)). with_stream_or_none name o (entries (insert m name bytes))) (get-entries m name)
    ∙ ap (with_stream_or_none name (stream_at name (entries m))) (entries-insert names_total m name bytes))
    ∙ ap entries (put_back_same m name bytes)

put_back : (streams : Streams) (name bytes : List ℕ) → AreSorted streams → with_stream_or_none name (stream_at name streams) (with_stream name bytes streams) ≡ streams
put_back streams name bytes sorted =
    subst (λ (s : Streams). with_stream_or_none name (stream_at name s) (with_stream name bytes s) ≡ s) (entries-from_sorted name_cmp streams sorted) (back_in (from_sorted streams) name bytes)

pub restored : (old put left : Kept) (name same bytes : List ℕ) (held : Option (List ℕ)) → AreSorted old.streams
    → put ≡ with_streams (with_stream same bytes) old → same ≡ name → held ≡ stream_at same old.streams
    → left ≡ with_streams (with_stream_or_none name held) put → left ≡ old
restored old put left name same bytes held sorted put_is same_is held_is left_is =
    left_is
    ∙ ap (with_streams (with_stream_or_none name held)) (put_is ∙ ap (λ (n : List ℕ). with_streams (with_stream n bytes) old) same_is)
    ∙ ap (λ (o : Option (List ℕ)). with_streams (with_stream_or_none name o) (with_streams (with_stream name bytes) old)) (held_is ∙ ap (λ n. stream_at n old.streams) same_is)
    ∙ (λ i. record old { streams = put_back old.streams name bytes sorted i })

-- CONTENTS

from_sorted_entries : (m : maps.Streams) → from_sorted (entries m) ≡ m
from_sorted_entries m = same_entries_map (from_sorted (entries m)) m (entries-from_sorted name_cmp (entries m) (entries_sorted m))

pub root_contents_are : (kind : PackageType) (has_storages : Bool) (clsid : List ℕ) (m : maps.Streams) (streams : Streams) → clsid ≡ clsid_of kind → entries m ≡ streams
    → ◌≡◌ {A = Contents} (record { clsid = clsid; streams = m; has_storages = has_storages }) (root_contents kind has_storages streams)
root_contents_are kind has_storages clsid m streams clsid_is streams_are i = record {
  clsid = clsid_is i;
  streams = (sym (from_sorted_entries m) ∙ ap from_sorted streams_are) i;
  has_storages = has_storages;
}
