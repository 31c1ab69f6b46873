-- What is written of a transform is read as it.
use Rattle.std.proofs.Common.{◌≡◌, ◌≢◌, ℕ, ◌+◌, ◌%◌, ◌^◌, ◌<◌, Bool, true, false, cond, not, ◌&&◌, ◌||◌, List, [], ◌∷◌, ◌++◌, map, filter, length, take, drop, Option, Some, None, Result, Ok, Err, Vec, Global, refl, sym, ap, subst, ◌∙◌, arith}
use Rattle.std.proofs.lemmas.Bool.{or_parts}
use Rattle.std.proofs.lemmas.Bool.Decides.{nat_tests}
use Rattle.std.proofs.lemmas.Map.Lookups.{exact_bytes}
use Rattle.std.specs.Cmp.{tied_itself}
use Rattle.std.specs.Cmp.Lexicographic.{bytes_decides, nat_list_cmp_total}
use Rattle.std.specs.FinMap.{entries, find, is_sorted}
use Rattle.std.specs.FinMap.Entries.{below_all, by_order, find-put, is_sorted-put, same_entries}
use Rattle.std.specs.Int.{to_le_bytes, w32}
use Rattle.std.specs.List.{AllByRecursion, flat_map, list_any}
use Rattle.std.specs.Option.{option_map_or}
use Rattle.std.specs.Ordering.{eq_by_cmp}
use Rattle.std.specs.Prelude.{◌==◌, IfOk, IsSomeAnd, T, bytes_eq, if◌then◌else◌, option_and_then, option_map}
use Rattle.std.specs.declared.cmp.Ordering.{Ordering}
use Rattle.std.specs.declared.cmp.Ordering.TheVariants.{Less, Equal, Greater}
use Rattle.msi_base.specs.Lists.{all_present, list_cmp}
use Rattle.msi_base.specs.Pages.{page_id, page_with_id}
use Rattle.msi_base.specs.declared.errors.ErrorKind.{ErrorKind}
use Rattle.msi_base.specs.declared.codepage.CodePage.{CodePage}
use Rattle.msi_base.specs.declared.codepage.CodePage.TheVariants as page
use Rattle.msi_base.proofs.BoolLemmas.{T_second}
use Rattle.msi_base.proofs.PagesLemmas.{page_named}
use Rattle.msi_base.proofs.ReadFieldLemmas.{number_again, wide32}
use Rattle.msi_container_format.specs.Bytes.{number32}
use Rattle.msi_container_format.specs.Container.{Holds}
use Rattle.msi_container_format.specs.Names.{name_cmp, named}
use Rattle.msi_container_format.proofs.NamesLemmas.{exact_names, names_total}
use Rattle.msi_container_format.specs.declared.contents.Contents.{Contents}
use Rattle.msi_database_schema.specs.Keys.{is_pool_name, is_table_name, table_key}
use Rattle.msi_database_schema.proofs.KeyLemmas.{pool_keys_differ}
use Rattle.msi_database_storage.specs.Streams.{Streams, stream_at, with_stream}
use Rattle.msi_database_storage.proofs.MapLemmas as maps
use Rattle.msi_database_storage.proofs.StreamLemmas.{AreSorted, sorted_put, stream_at_other_put, stream_at_put}
use Rattle.msi_pool.specs.Pool.{IsPool, Place, PlacesWritten, Pool, as_written, data_stream, header_of, place_bytes, pool_stream}
use Rattle.msi_pool.specs.PoolWriting.{is_refused}
use Rattle.msi_pool.proofs.ForgottenLemmas.{empty_places}
use Rattle.msi_pool.proofs.PoolReadBackLemmas.{pools_read_back}
use Rattle.msi_transform.specs.StoredPools.{PoolIs, data_key, pool_key, stored_page_id}
use Rattle.msi_transform.specs.Transforms.{TransformDef}
use Rattle.msi_transform.specs.TransformFiles.{ReadsTo, begin_with_texts, by_names, is_records_key, is_table_key, is_utf8, keeps_texts, others_among, records_among, text_of_key}
use Rattle.msi_transform.specs.WrittenTransforms.{AreWritten, IsMade, WrittenTransformsReadBack, is_unwritable, with_page_id, with_table_stream, with_table_streams}
use Rattle.msi_transform.proofs.StoredPoolLemmas.{at_bytes}
use Rattle.msi_transform.proofs.TableKeyLemmas.{data_no_records, data_passes, pool_no_records, pool_passes, records_pass, table_back, table_named, table_passes}
use Rattle.msi_transform.proofs.TransformFileLemmas.{transform_is}

same_Some : {A : Type 0} (x y : A) → Some x ≡ Some y → x ≡ y
same_Some x y e = cc

-- THE POOL

-- its stream with another id of the page
paged_pool : (listed texts : List ℕ) (pool : Pool) (page_id : ℕ) → page_id < 2 ^ 31 → page_with_id page_id ≡ Some pool.page → IsPool listed texts pool → IsPool (with_page_id page_id pool.long listed) texts pool
paged_pool listed texts pool page_id small known (es, (id, others, _, _, is, spelled, few), held) =
    let same : page_id % 2 ^ 31 ≡ page_id = omega arith in (
      es,
      (
        page_id % 2 ^ 31,
        others,
        omega arith,
        ap page_with_id same ∙ known,
        ap (λ (bytes : List ℕ). header_of (page_id % 2 ^ 31) pool.long ++ drop 4 bytes) is,
        spelled,
        few,
      ),
      held,
    )

-- the id is read of it
first_of : Option (ℕ × List ℕ) → ℕ
first_of o = option_map_or (λ (p : ℕ × List ℕ). p.0) o 0

number_read : (n : ℕ) (rest : List ℕ) → n < 2 ^ 32 → number32 (to_le_bytes w32 n ++ rest) 0 ≡ n
unfolding first_of
number_read n rest small = let whole = ap first_of (number_again w32 (2 ^ 32) wide32 n rest small) in omega (arith, whole)

id_read : (page_id : ℕ) (long : Bool) (listed : List ℕ) → page_id < 2 ^ 31 → number32 (with_page_id page_id long listed) 0 % 2 ^ 31 ≡ page_id
id_read page_id true listed small =
    let sum : page_id % 2 ^ 31 + 2 ^ 31 ≡ page_id + 2 ^ 31 = omega arith in
    ap (λ n. n % 2 ^ 31) (number_read (page_id % 2 ^ 31 + 2 ^ 31) (drop 4 listed) (omega arith) ∙ sum) ∙ omega arith
id_read page_id false listed small =
    ap (λ n. n % 2 ^ 31) (number_read (page_id % 2 ^ 31 + 0) (drop 4 listed) (omega arith)) ∙ omega arith

-- THE TEXTS

whole_taken : (xs : List ℕ) → take (length xs) xs ≡ xs
whole_taken [] = refl
whole_taken (x ∷ xs) = ap (λ (ys : List ℕ). x ∷ ys) (whole_taken xs)

equal_itself : (xs : List ℕ) → bytes_eq (take (length xs) xs) xs ≡ true
equal_itself xs = (bytes_decides (take (length xs) xs) xs).1 (whole_taken xs)

piece_is : (p : Place) (is_free : Bool) → (p.count == 0) ≡ is_free → (p.count ≡ 0 → p.text ≡ []) → (if is_free then Some [] else Some p.text) ≡ Some p.text
piece_is p true free written = let none : p.count ≡ 0 = grind (arith, nat_tests) in ap Some (sym (written none))
piece_is p false free written = refl

utf8_pieces : (places : List Place) → PlacesWritten places → all_present (map (place_bytes page.Utf8) places) ≡ Some (map (λ (p : Place). p.text) places)
utf8_pieces [] written = refl
utf8_pieces (p ∷ ps) written =
    ap (λ (o : Option (List ℕ)). option_and_then (λ x. option_map (λ xs. x ∷ xs) (all_present (map (place_bytes page.Utf8) ps))) o) (piece_is p (p.count == 0) refl written.0)
    ∙ ap (λ (o : Option (List (List ℕ))). option_map (λ xs. p.text ∷ xs) o) (utf8_pieces ps written.1)

joined_texts : (places : List Place) → flat_map (λ (piece : List ℕ). piece) (map (λ (p : Place). p.text) places) ≡ flat_map (λ (p : Place). p.text) places
joined_texts [] = refl
joined_texts (p ∷ ps) = ap (λ (rest : List ℕ). p.text ++ rest) (joined_texts ps)

-- in UTF-8 the texts, one behind another, are what is written
utf8_texts : (pool : Pool) (texts : List ℕ) → pool.page ≡ page.Utf8 → PlacesWritten pool.places → data_stream pool ≡ Some texts → texts ≡ flat_map (λ (p : Place). p.text) pool.places
utf8_texts pool texts utf8 written is =
    same_Some texts _ (sym is ∙ ap (λ (p : CodePage). option_map (flat_map (λ (piece : List ℕ). piece)) (all_present (map (place_bytes p) pool.places))) utf8
    ∙ ap (option_map (flat_map (λ (piece : List ℕ). piece))) (utf8_pieces pool.places written)) ∙ joined_texts pool.places

utf8_page : (p : CodePage) → is_utf8 p ≡ true → p ≡ page.Utf8
utf8_page p is = let same : page_id p ≡ page_id page.Utf8 = grind (arith, nat_tests) in
    same_Some p page.Utf8 (sym (page_named p) ∙ ap page_with_id same ∙ page_named page.Utf8)

kept_by : (pool : Pool) (texts : List ℕ) (b : Bool) → is_utf8 pool.page ≡ b → PlacesWritten pool.places → data_stream pool ≡ Some texts → (not b || begin_with_texts pool.places texts) ≡ true
kept_by pool texts false other written is = refl
kept_by pool texts true utf8 written is =
    ap (λ (bytes : List ℕ). begin_with_texts pool.places bytes) (utf8_texts pool texts (utf8_page pool.page utf8) written is)
    ∙ equal_itself (flat_map (λ (p : Place). p.text) pool.places)

-- STREAMS OF TABLES AND OTHERS

not_false : (b : Bool) → not b ≡ false → b ≡ true
not_false true e = refl
not_false false e = sym e

abbrev AreNamed : List (List ℕ × List ℕ) → Type 0
AreNamed tables = AllByRecursion (λ e. is_table_name e.0 ≡ true) tables

all_named : (tables : List (List ℕ × List ℕ)) → list_any (λ e. not (is_table_name e.0)) tables ≡ false → AreNamed tables
all_named [] h = tt
all_named (e ∷ es) h = let parts = or_parts (not (is_table_name e.0)) (list_any (λ f. not (is_table_name f.0)) es) h in
    (not_false (is_table_name e.0) parts.0, all_named es parts.1)

put_is : (streams : Streams) (e : List ℕ × List ℕ) → is_table_name e.0 ≡ true → with_table_stream streams e ≡ with_stream (table_key e.0) e.1 streams
put_is streams e h = ap (λ (o : Option (List ℕ)). option_map_or (λ key. with_stream key e.1 streams) o streams) (table_named e.0 h)

put_sorted : (streams : Streams) (e : List ℕ × List ℕ) → is_table_name e.0 ≡ true → AreSorted streams → AreSorted (with_table_stream streams e)
put_sorted streams e h sorted = subst AreSorted (sym (put_is streams e h)) (sorted_put (table_key e.0) e.1 streams sorted)

tables_sorted : (tables : List (List ℕ × List ℕ)) (streams : Streams) → AreNamed tables → AreSorted streams → AreSorted (with_table_streams tables streams)
tables_sorted [] streams named sorted = sorted
tables_sorted (e ∷ es) streams named sorted = tables_sorted es (with_table_stream streams e) named.1 (put_sorted streams e named.0 sorted)

abbrev records_in : Streams → Streams
records_in streams = filter (λ s. is_records_key s.0) streams

tables_kept : (tables : List (List ℕ × List ℕ)) (streams : Streams) → AreNamed tables → AreSorted streams → records_in (with_table_streams tables streams) ≡ with_table_streams tables (records_in streams)
tables_kept [] streams named sorted = refl
tables_kept (e ∷ es) streams named sorted =
    tables_kept es (with_table_stream streams e) named.1 (put_sorted streams e named.0 sorted)
    ∙ ap (with_table_streams es) (ap records_in (put_is streams e named.0)
    ∙ maps.where_put_kept names_total exact_names is_records_key (table_key e.0) e.1 streams (records_pass e.0 named.0) sorted
    ∙ sym (put_is (records_in streams) e named.0))

tables_dropped : (tables : List (List ℕ × List ℕ)) (streams : Streams) → AreNamed tables → others_among (with_table_streams tables streams) ≡ others_among streams
tables_dropped [] streams named = refl
tables_dropped (e ∷ es) streams named =
    tables_dropped es (with_table_stream streams e) named.1 ∙ ap others_among (put_is streams e named.0)
    ∙ maps.where_put_dropped names_total exact_names (λ k. not (is_table_key k)) (table_key e.0) e.1 streams (ap not (table_passes e.0 named.0))

-- where none is a table's, each is another one and none has records
all_others : (streams : Streams) → AllByRecursion (λ s. is_table_key s.0 ≡ false) streams → others_among streams ≡ streams
all_others [] h = refl
all_others (s ∷ ss) h = ap (λ b. cond (not b) (s ∷ others_among ss) (others_among ss)) h.0 ∙ ap (λ (rest : Streams). s ∷ rest) (all_others ss h.1)

no_records : (streams : Streams) → AllByRecursion (λ s. is_table_key s.0 ≡ false) streams → records_in streams ≡ []
no_records [] h = refl
no_records (s ∷ ss) h = ap (λ b. cond (b && not (is_pool_name (text_of_key s.0))) (s ∷ records_in ss) (records_in ss)) h.0 ∙ no_records ss h.1

-- RECORDS BY THE NAMES OF TABLES

abbrev named_records : Streams → List (List ℕ × List ℕ)
named_records streams = map (λ s. (text_of_key s.0, s.1)) streams

abbrev AreKeys : Streams → Type 0
AreKeys streams = AllByRecursion (λ s. table_key (text_of_key s.0) ≡ s.0) streams

shadowed : {A : Type 0} (b : Bool) (x y z : A) → cond b x z ≡ cond b x (cond b y z)
shadowed true x y z = refl
shadowed false x y z = refl

swapped : {A : Type 0} (a b : Bool) (x y z : A) → (a ≡ true → b ≡ true → ⊥) → cond a x (cond b y z) ≡ cond b y (cond a x z)
swapped true true x y z apart = absurd (apart refl refl)
swapped true false x y z apart = refl
swapped false b x y z apart = refl

abbrev ties : List ℕ → List ℕ → Bool
ties q name = eq_by_cmp list_cmp q name

ties_is : (q name : List ℕ) → ties q name ≡ true → q ≡ name
ties_is q name e = maps.tied_is nat_list_cmp_total exact_bytes q name e

greater≢equal : Greater ≡ Equal → ⊥
greater≢equal e = cc

not_greater : (o : Ordering) → o ≡ Greater → o ≡ Equal → ⊥
not_greater o g e = greater≢equal (sym g ∙ e)

found_put : (q k v : List ℕ) (streams : Streams) → table_key (text_of_key k) ≡ k → AreKeys streams
    → find list_cmp q (named_records (with_stream k v streams)) ≡ cond (ties q (text_of_key k)) (Some v) (find list_cmp q (named_records streams))
found_put q k v [] is keys = refl
found_put q k v (s ∷ ss) is keys =
    elim (name_cmp k s.0) as (λ r. name_cmp k s.0 ≡ r → find list_cmp q (named_records (by_order r ((k, v) ∷ s ∷ ss) ((s.0, v) ∷ ss) (s ∷ with_stream k v ss)))
    ≡ cond (ties q (text_of_key k)) (Some v) (find list_cmp q (named_records (s ∷ ss)))) [
      | Less ↦ λ r. refl
      | Equal ↦ λ r. shadowed (ties q (text_of_key s.0)) (Some v) (Some s.1) (find list_cmp q (named_records ss))
          ∙ ap (λ key. cond (ties q (text_of_key key)) (Some v) (find list_cmp q (named_records (s ∷ ss)))) (sym (exact_names k s.0 r))
      | Greater ↦ λ r. ap (cond (ties q (text_of_key s.0)) (Some s.1)) (found_put q k v ss is keys.1)
          ∙ swapped (ties q (text_of_key s.0)) (ties q (text_of_key k)) (Some s.1) (Some v) (find list_cmp q (named_records ss)) (λ a b.
          not_greater (name_cmp k s.0) r (ap (name_cmp k) (sym keys.0 ∙ ap table_key (sym (ties_is q (text_of_key s.0) a) ∙ ties_is q (text_of_key k) b) ∙ is) ∙ tied_itself names_total k))
    ] refl

abbrev either : Option (List ℕ) → Option (List ℕ) → Option (List ℕ)
either None o = o
either (Some x) o = Some x

either_none : (o : Option (List ℕ)) → either o None ≡ o
either_none None = refl
either_none (Some x) = refl

none_behind : (q : List ℕ) (es : List (List ℕ × List ℕ)) → AllByRecursion (λ f. q ≢ f.0) es → find list_cmp q es ≡ None
none_behind q [] apart = refl
none_behind q (e ∷ es) apart = ap (λ b. cond b (Some e.1) (find list_cmp q es)) (maps.untied nat_list_cmp_total exact_bytes q e.0 apart.0) ∙ none_behind q es apart.1

first_or_later : (q : List ℕ) (e : List ℕ × List ℕ) (es : List (List ℕ × List ℕ)) (o : Option (List ℕ)) (b : Bool) → ties q e.0 ≡ b → T (is_sorted list_cmp (e ∷ es))
    → either (find list_cmp q es) (cond b (Some e.1) o) ≡ either (cond b (Some e.1) (find list_cmp q es)) o
first_or_later q e es o true tied sorted =
    ap (λ (p : Option (List ℕ)). either p (Some e.1)) (ap (λ k. find list_cmp k es) (ties_is q e.0 tied) ∙ none_behind e.0 es (maps.head_apart nat_list_cmp_total exact_bytes e es sorted))
first_or_later q e es o false tied sorted = refl

keys_stay : (streams : Streams) (e : List ℕ × List ℕ) → is_table_name e.0 ≡ true → AreKeys streams → AreKeys (with_table_stream streams e)
keys_stay streams e h keys =
    subst AreKeys (sym (put_is streams e h)) (maps.keys_put (λ k. table_key (text_of_key k) ≡ k) name_cmp (table_key e.0) e.1 streams (ap table_key (table_back e.0 h)) keys)

found_tables : (q : List ℕ) (tables : List (List ℕ × List ℕ)) (streams : Streams) → AreNamed tables → T (is_sorted list_cmp tables) → AreKeys streams
    → find list_cmp q (named_records (with_table_streams tables streams)) ≡ either (find list_cmp q tables) (find list_cmp q (named_records streams))
found_tables q [] streams named sorted keys = refl
found_tables q (e ∷ es) streams named sorted keys =
    found_tables q es (with_table_stream streams e) named.1 (T_second (below_all list_cmp e.0 es) (is_sorted list_cmp es) sorted) (keys_stay streams e named.0 keys)
    ∙ ap (either (find list_cmp q es)) (ap (λ (ss : Streams). find list_cmp q (named_records ss)) (put_is streams e named.0)
    ∙ found_put q (table_key e.0) e.1 streams (ap table_key (table_back e.0 named.0)) keys
    ∙ ap (λ name. cond (ties q name) (Some e.1) (find list_cmp q (named_records streams))) (table_back e.0 named.0))
    ∙ first_or_later q e es (find list_cmp q (named_records streams)) (ties q e.0) refl sorted

found_by_names : (q : List ℕ) (es : List (List ℕ × List ℕ)) → find list_cmp q (by_names es) ≡ find list_cmp q es
found_by_names q [] = refl
found_by_names q (e ∷ es) = find-put list_cmp nat_list_cmp_total q e.0 e.1 (by_names es) ∙ ap (cond (ties q e.0) (Some e.1)) (found_by_names q es)

names_sorted : (es : List (List ℕ × List ℕ)) → T (is_sorted list_cmp (by_names es))
names_sorted [] = tt
names_sorted (e ∷ es) = is_sorted-put list_cmp nat_list_cmp_total e.0 e.1 (by_names es) (names_sorted es)

tables_back : (tables : List (List ℕ × List ℕ)) → AreNamed tables → T (is_sorted list_cmp tables) → by_names (named_records (with_table_streams tables [])) ≡ tables
tables_back tables named sorted =
    same_entries list_cmp nat_list_cmp_total exact_bytes _ tables (names_sorted (named_records (with_table_streams tables []))) sorted
    (λ q. found_by_names q (named_records (with_table_streams tables [])) ∙ found_tables q tables [] named sorted tt ∙ either_none (find list_cmp q tables))

-- THE WHOLE

-- both streams of the pool are there
both_there : (o p : Option (List ℕ)) (f : List ℕ → List ℕ → Streams) (all : Streams) → option_and_then (λ l. option_map (f l) p) o ≡ Some all
    → (l : List ℕ) × (t : List ℕ) × (o ≡ Some l) × (p ≡ Some t) × (all ≡ f l t)
both_there None p f all e = absurd cc
both_there (Some l) None f all e = absurd cc
both_there (Some l) (Some t) f all e = (l, t, refl, refl, same_Some all (f l t) (sym e))

module _ (t : TransformDef) (made : IsMade t) (writable : is_unwritable t ≡ false) (listed texts : List ℕ) (listed_is : pool_stream t.pool ≡ Some listed) (texts_are : data_stream t.pool ≡ Some texts) where
  abbrev tables_put : Streams
  tables_put = with_table_streams t.tables t.streams

  abbrev paged : List ℕ
  paged = with_page_id t.page_id t.pool.long listed

  abbrev all : Streams
  all = with_stream data_key texts (with_stream pool_key paged tables_put)

  names : AreNamed t.tables
  names = all_named t.tables (or_parts (list_any (λ e. not (is_table_name e.0)) t.tables) (is_refused t.pool) writable).0

  told : is_refused t.pool ≡ false
  told = (or_parts (list_any (λ e. not (is_table_name e.0)) t.tables) (is_refused t.pool) writable).1

  texts_there : stream_at data_key all ≡ Some texts
  texts_there = stream_at_put data_key texts (with_stream pool_key paged tables_put)

  pool_there : stream_at pool_key all ≡ Some paged
  pool_there = stream_at_other_put pool_key data_key texts (with_stream pool_key paged tables_put) pool_keys_differ ∙ stream_at_put pool_key paged tables_put

  pub pool_back : PoolIs all t.pool
  pool_back =
      let same : as_written t.pool ≡ t.pool = empty_places t.pool made.free in
      let held : IsPool listed texts t.pool = subst (IsPool listed texts) same (pools_read_back t.pool made.many made.counts told listed texts listed_is texts_are made.texts) in
      at_bytes (λ bytes. IsSomeAnd (stream_at data_key all) (λ ts. IsPool bytes ts t.pool)) (stream_at pool_key all) paged pool_there
      (at_bytes (λ ts. IsPool paged ts t.pool) (stream_at data_key all) texts texts_there (paged_pool listed texts t.pool t.page_id made.small_id made.page held))

  pub texts_back : keeps_texts t.pool all ≡ true
  texts_back =
      ap (λ (o : Option (List ℕ)). not (is_utf8 t.pool.page) || option_map_or (begin_with_texts t.pool.places) o true) texts_there
      ∙ kept_by t.pool texts (is_utf8 t.pool.page) refl made.free texts_are

  pub id_back : t.page_id ≡ stored_page_id all
  id_back = sym (ap (λ (o : Option (List ℕ)). option_map_or (λ bytes. number32 bytes 0 % 2 ^ 31) o 0) pool_there ∙ id_read t.page_id t.pool.long listed made.small_id)

  pub records_back : t.tables ≡ records_among all
  records_back = sym
      (ap (λ (ss : Streams). by_names (named_records ss))
      (maps.where_put_dropped names_total exact_names is_records_key data_key texts (with_stream pool_key paged tables_put) data_no_records
      ∙ maps.where_put_dropped names_total exact_names is_records_key pool_key paged tables_put pool_no_records
      ∙ tables_kept t.tables t.streams names made.streams ∙ ap (with_table_streams t.tables) (no_records t.streams made.others))
      ∙ tables_back t.tables names made.tables)

  pub others_back : t.streams ≡ others_among all
  others_back = sym
      (maps.where_put_dropped names_total exact_names (λ k. not (is_table_key k)) data_key texts (with_stream pool_key paged tables_put) (ap not data_passes)
      ∙ maps.where_put_dropped names_total exact_names (λ k. not (is_table_key k)) pool_key paged tables_put (ap not pool_passes)
      ∙ tables_dropped t.tables t.streams names ∙ all_others t.streams made.others)

pub written_transforms_read_back : WrittenTransformsReadBack
written_transforms_read_back t c made writable written =
    let (listed, texts, listed_is, texts_are, same) = both_there (pool_stream t.pool) (data_stream t.pool)
    (λ l ts. with_stream data_key ts (with_stream pool_key (with_page_id t.page_id t.pool.long l) (with_table_streams t.tables t.streams))) (entries c.streams) written.streams in
    record {
      clsid = written.clsid;
      pool = subst (λ (ss : Streams). PoolIs ss t.pool) (sym same) (pool_back t made writable listed texts listed_is texts_are);
      texts = ap (keeps_texts t.pool) same ∙ texts_back t made writable listed texts listed_is texts_are;
      parts = transform_is t.page_id t.pool t.tables t.streams (entries c.streams)
          (id_back t made writable listed texts listed_is texts_are ∙ ap stored_page_id (sym same))
          (records_back t made writable listed texts listed_is texts_are ∙ ap records_among (sym same))
          (others_back t made writable listed texts listed_is texts_are ∙ ap others_among (sym same));
    }

-- so are the bytes that hold it
pub bytes_read : (t : TransformDef) (c : Contents) (r : Result (Vec ℕ Global) ErrorKind) → IsMade t → is_unwritable t ≡ false → AreWritten t c → IfOk r (λ image. Holds image.items c)
    → IfOk r (λ image. ReadsTo image.items (Ok t))
bytes_read t c (Ok image) made writable written holds = (c, holds, written_transforms_read_back t c made writable written)
bytes_read t c (Err kind) made writable written holds = tt
