-- The root's other streams: what a put or a removal at one key does to them.
use Rattle.std.proofs.Common.{◌≡◌, ◌≢◌, ℕ, Bool, true, false, not, ◌||◌, List, [], ◌∷◌, refl, sym, ap}
use Rattle.std.specs.List.{list_any}
use Rattle.std.specs.Ordering.{eq_by_cmp}
use Rattle.std.proofs.lemmas.Bool.{not_from_false, or_left, or_right, or_from, false_from_ne_true}
use Rattle.std.proofs.lemmas.Slice.Eq.{bytes_eq-Decides}
use Rattle.std.specs.Prelude.{bytes_eq}
use Rattle.msi_container_format.specs.Names.{name_cmp}
use Rattle.msi_container_format.specs.StreamNames.{is_marked}
use Rattle.msi_container_format.proofs.NamesLemmas.{names_total, exact_names}
use Rattle.msi_container_write.specs.LayoutLaw.{IsName, HaveNames}
use Rattle.msi_database_schema.specs.Keys.{is_stream_name, table_key, stream_key, summary_key, signature_key, string_pool_name, string_data_name}
use Rattle.msi_database_schema.specs.System.{validation_name}
use Rattle.msi_database.specs.Database.{Database}
use Rattle.msi_database_storage.specs.Streams.{Streams, with_stream, without_stream}
use Rattle.msi_database_schema.proofs.KeyLemmas.{unmarked≢table_key, stream_key_unmarked, stream_key≢summary_key, signature≢summary}
use Rattle.msi_database_storage.proofs.MapLemmas as maps
use Rattle.msi_database_storage.proofs.StreamLemmas.{AreSorted}
use Rattle.msi.specs.State.{is_other_name, names_of, others_among}

-- names of streams that are put and removed
pub names_with : (name bytes : List ℕ) (streams : Streams) → IsName name → HaveNames streams → HaveNames (with_stream name bytes streams)
names_with name bytes streams is h = maps.keys_put IsName name_cmp name bytes streams is h

pub names_without : (name : List ℕ) (streams : Streams) → HaveNames streams → HaveNames (without_stream name streams)
names_without name streams h = maps.keys_filter IsName (λ s. not (eq_by_cmp name_cmp name s.0)) streams h

apart_bytes : (s t : List ℕ) → s ≢ t → bytes_eq s t ≡ false
apart_bytes s t h = false_from_ne_true (bytes_eq s t) (λ e. h ((bytes_eq-Decides s t).0 e))

-- a name that one of five tests takes is no other name
module _ (a b c d e : Bool) where
  first_takes : a ≡ true → not (a || b || c || d || e) ≡ false
  first_takes h = rw h

  second_takes : b ≡ true → not (a || b || c || d || e) ≡ false
  second_takes h = ap not (or_left (a || b || c || d) e (or_left (a || b || c) d (or_left (a || b) c (or_right a b h))))

  third_takes : c ≡ true → not (a || b || c || d || e) ≡ false
  third_takes h = ap not (or_left (a || b || c || d) e (or_left (a || b || c) d (or_right (a || b) c h)))

module _ (tables : List (List ℕ)) (key : List ℕ) where
  abbrev is_summary : Bool
  is_summary = bytes_eq key summary_key

  abbrev is_pool : Bool
  is_pool = bytes_eq key (table_key string_pool_name)

  abbrev is_texts : Bool
  is_texts = bytes_eq key (table_key string_data_name)

  abbrev is_validation : Bool
  is_validation = bytes_eq key (table_key validation_name)

  abbrev is_table : Bool
  is_table = list_any (λ t. bytes_eq key (table_key t)) tables

  pub owned_by_summary : key ≡ summary_key → is_other_name tables key ≡ false
  owned_by_summary e = first_takes is_summary is_pool is_texts is_validation is_table ((bytes_eq-Decides key summary_key).1 e)

  pub owned_by_pool : key ≡ table_key string_pool_name → is_other_name tables key ≡ false
  owned_by_pool e = second_takes is_summary is_pool is_texts is_validation is_table ((bytes_eq-Decides key (table_key string_pool_name)).1 e)

  pub owned_by_texts : key ≡ table_key string_data_name → is_other_name tables key ≡ false
  owned_by_texts e = third_takes is_summary is_pool is_texts is_validation is_table ((bytes_eq-Decides key (table_key string_data_name)).1 e)

-- a put at an owned key leaves the others
pub others_put : (key bytes : List ℕ) (streams : Streams) (d : Database) → is_other_name (names_of d) key ≡ false → others_among (with_stream key bytes streams) d ≡ others_among streams d
others_put key bytes streams d owned = maps.where_put_dropped names_total exact_names (is_other_name (names_of d)) key bytes streams owned

-- and one at another key is one of the others
pub others_with : (key bytes : List ℕ) (streams : Streams) (d : Database) → is_other_name (names_of d) key ≡ true → AreSorted streams → others_among (with_stream key bytes streams) d ≡ with_stream key bytes (others_among streams d)
others_with key bytes streams d other h = maps.where_put_kept names_total exact_names (is_other_name (names_of d)) key bytes streams other h

pub others_without : (key : List ℕ) (streams : Streams) (d : Database) → others_among (without_stream key streams) d ≡ without_stream key (others_among streams d)
others_without key streams d = maps.where_without names_total exact_names (is_other_name (names_of d)) key streams

-- the key of a stream that is no table's is another name
no_key : (tables : List (List ℕ)) (key : List ℕ) → is_marked key ≡ false → list_any (λ t. bytes_eq key (table_key t)) tables ≡ false
no_key [] key h = refl
no_key (t ∷ ts) key h = or_from _ _ (apart_bytes key (table_key t) (λ e. unmarked≢table_key t key h (sym e))) (no_key ts key h)

pub other_key : (tables : List (List ℕ)) (key : List ℕ) → is_marked key ≡ false → key ≢ summary_key → is_other_name tables key ≡ true
other_key tables key h apart = not_from_false _ (or_from _ _ (or_from _ _ (or_from _ _ (or_from _ _
    (apart_bytes key summary_key apart)
    (apart_bytes key (table_key string_pool_name) (λ e. unmarked≢table_key string_pool_name key h (sym e))))
    (apart_bytes key (table_key string_data_name) (λ e. unmarked≢table_key string_data_name key h (sym e))))
    (apart_bytes key (table_key validation_name) (λ e. unmarked≢table_key validation_name key h (sym e))))
    (no_key tables key h))

pub stream_key_is_other : (tables : List (List ℕ)) (name : List ℕ) → is_stream_name name ≡ true → is_other_name tables (stream_key name) ≡ true
stream_key_is_other tables name h = other_key tables (stream_key name) (stream_key_unmarked name h) (stream_key≢summary_key name)

pub signature_is_other : (tables : List (List ℕ)) → is_other_name tables signature_key ≡ true
signature_is_other tables = other_key tables signature_key refl signature≢summary
