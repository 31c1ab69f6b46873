-- The streams of tables among those of a container.
use Rattle.std.proofs.Common.{◌≡◌, ℕ, Bool, true, false, cond, not, ◌&&◌, List, [], ◌∷◌, ◌++◌, String, Option, Some, None, map, filter, chars, string_bytes, refl, sym, ap, ◌∙◌, ◌<◌, ◌≤◌, arith, append_assoc}
use Rattle.std.proofs.lemmas.Str.{encodes-chars, IsUtf8-string_bytes, scalars-chars}
use Rattle.std.proofs.lemmas.Bool.{true≢false}
use Rattle.std.proofs.lemmas.Bool.Decides.{nat_tests}
use Rattle.std.specs.Char.Utf16.{utf16_lossy_chars}
use Rattle.std.specs.Cmp.Lexicographic.{bytes_decides}
use Rattle.std.specs.Cmp.{alike_right, eq_by_cmp_equiv}
use Rattle.std.specs.FinMap.{entries, entries_sorted, find, get, get-entries, get-remove, put, remove}
use Rattle.std.specs.FinMap.Entries.{below_all, find-where_key, is_sorted, is_sorted-where_key, same_entries}
use Rattle.std.proofs.lemmas.List.{append-nil}
use Rattle.msi_base.proofs.BoolLemmas.{T_second, cond_not}
use Rattle.msi_container_format.specs.Streams as finite
use Rattle.std.specs.List.{AllByRecursion, cons_option}
use Rattle.std.specs.Ordering.{eq_by_cmp, is_eq}
use Rattle.std.specs.Prelude.{bytes_eq, encode_utf8_all, length, if◌then◌else◌, is_some, ◌≢◌, ◌-◌, take}
use Rattle.std.specs.Str.{IsUtf8}
use Rattle.msi_base.specs.Lists.{list_cmp}
use Rattle.msi_container_format.specs.Names.{is_name_length, name_cmp, named, units_of}
use Rattle.msi_container_format.specs.StreamNames.{decoded_name}
use Rattle.msi_container_format.proofs.NamesLemmas.{exact_names, names_total}
use Rattle.msi_container_format.proofs.SpelledUnitsLemmas.{units_spell}
use Rattle.msi_database_schema.specs.Keys.{is_pool_name}
use Rattle.msi_database_storage.specs.Streams.{Streams, stream_at, without_stream}
use Rattle.msi_database_storage.proofs.MapLemmas as maps
use Rattle.msi_database_storage.proofs.StreamLemmas.{AreSorted, sorted_removed}
use Rattle.msi_transform.specs.declared.table_streams.TableStream.{TableStream}
use Rattle.msi_transform.specs.TransformFiles.{by_names, is_records_key, is_table_key, others_among, records_among, text_of_key}
use Rattle.msi_transform.specs.TableStreams.{records_taken, table_streams_among, with_records, without_tables}

-- NAMES

-- the text that a name stands for, from the text that has its units
pub text_is : {Z : Type 0} (name encoded : List ℕ) (text : String Z) (is_table : Bool) → IsUtf8 encoded → units_of encoded ≡ name
    → (chars (string_bytes text), is_table) ≡ decoded_name (chars encoded) → string_bytes text ≡ text_of_key name
text_is name encoded text is_table utf8 units decoded =
    let spelled_is : utf16_lossy_chars name ≡ chars encoded =
    ap utf16_lossy_chars (sym units) ∙ units_spell (chars encoded) (scalars-chars encoded utf8) in
    sym (encodes-chars (string_bytes text) (IsUtf8-string_bytes text))
    ∙ ap encode_utf8_all (ap (λ p. p.0) decoded ∙ ap (λ cs. (decoded_name cs).0) (sym spelled_is))

bool_is : (a b : Bool) → (a ≡ true → b ≡ true) → (b ≡ true → a ≡ true) → a ≡ b
bool_is true b f g = sym (f refl)
bool_is false true f g = g refl
bool_is false false f g = refl

named_by : (b : Bool) (name k : List ℕ) → Some k ≡ (if b then Some name else None) → k ≡ name
named_by true name k e = cc
named_by false name k e = cc

unnamed_by : (b : Bool) (name : List ℕ) → None ≡ (if b then Some name else None) → b ≡ false
unnamed_by true name e = cc
unnamed_by false name e = refl

pub key_is : (name encoded key : List ℕ) → Some encoded ≡ named name → encoded ≡ name
key_is name encoded key is = named_by (is_name_length (length name)) name encoded is

-- a name that is too long is none of an entry
pub key_isnt : (name key : List ℕ) → None ≡ named name → 0 < length key → length key ≤ 31 → false ≡ bytes_eq name key
key_isnt name key none some most = let short : is_name_length (length key) ≡ true = grind (arith, nat_tests) in
    bool_is false (bytes_eq name key) (λ e. absurd (true≢false (sym e)))
    (λ same. sym (unnamed_by (is_name_length (length name)) name none) ∙ ap (λ k. is_name_length (length k)) ((bytes_decides name key).0 same) ∙ short)

-- STREAMS THAT ARE TAKEN OUT

pub removed : (m : finite.Streams) (key : List ℕ) → entries (remove m key) ≡ without_stream key (entries m)
removed m key =
    same_entries name_cmp names_total exact_names (entries (remove m key)) (without_stream key (entries m)) (entries_sorted (remove m key))
    (is_sorted-where_key name_cmp (λ (x : List ℕ). not (eq_by_cmp name_cmp key x)) (entries m) (entries_sorted m))
    (λ q. sym (get-entries (remove m key) q) ∙ get-remove names_total m key q
    ∙ ap (λ b. cond b None (get m q)) ((eq_by_cmp_equiv names_total).symm q key)
    ∙ ap (cond (eq_by_cmp name_cmp key q) None) (get-entries m q)
    ∙ sym (find-where_key name_cmp (λ (x : List ℕ). not (eq_by_cmp name_cmp key x)) q (λ x t. ap (λ r. not (is_eq r)) (sym (alike_right names_total q x key t))) (entries m) ∙ cond_not (eq_by_cmp name_cmp key q) (find name_cmp q (entries m)) None))

pub held : (m : finite.Streams) (key : List ℕ) (o : Option (List ℕ)) → o ≡ get m key → stream_at key (entries m) ≡ o
held m key o e = sym (get-entries m key) ∙ sym e

pub with_put : (t : TableStream) (o : Option (List ℕ)) (bytes name : List ℕ) (tables new : List (List ℕ × List ℕ)) → o ≡ Some bytes → is_pool_name t.name ≡ false → name ≡ t.name
    → new ≡ put list_cmp name bytes tables → new ≡ with_records t o tables
with_put t o bytes name tables new there no_pool is e =
    e ∙ ap (λ n. put list_cmp n bytes tables) is ∙ ap (λ b. if b then tables else put list_cmp t.name bytes tables) (sym no_pool)
    ∙ ap (λ (p : Option (List ℕ)). with_records t p tables) (sym there)

pub with_pool : (t : TableStream) (o : Option (List ℕ)) (bytes : List ℕ) (tables : List (List ℕ × List ℕ)) → o ≡ Some bytes → is_pool_name t.name ≡ true → tables ≡ with_records t o tables
with_pool t o bytes tables there is_pool =
    ap (λ b. if b then tables else put list_cmp t.name bytes tables) (sym is_pool) ∙ ap (λ (p : Option (List ℕ)). with_records t p tables) (sym there)

pub with_none : (t : TableStream) (o : Option (List ℕ)) (tables : List (List ℕ × List ℕ)) → o ≡ None → tables ≡ with_records t o tables
with_none t o tables none = ap (λ (p : Option (List ℕ)). with_records t p tables) (sym none)

-- nothing is left where nothing can be popped
pub none_left : (left rest : List TableStream) (n : ℕ) → left ≡ rest ++ [] → rest ≡ take (n - 1) left → n ≡ 0 → left ≡ []
none_left left rest n whole is none = whole ∙ append-nil rest ∙ is ∙ ap (λ k. take (k - 1) left) none

-- those that are taken out, the last first
abbrev pub IsTaken : List TableStream → List TableStream → Streams → List (List ℕ × List ℕ) → Streams → Type 0
IsTaken found left streams tables before = (done : List TableStream) × (left ++ done ≡ found)
    × (streams ≡ without_tables done before) × (tables ≡ records_taken done before)

pub none_taken : (found : List TableStream) (tables : List (List ℕ × List ℕ)) (before : Streams) → tables ≡ [] → IsTaken found found before tables before
none_taken found tables before none = ([], append-nil found, refl, none)

pub one_taken : (found left rest : List TableStream) (t : TableStream) (streams after before : Streams) (tables more : List (List ℕ × List ℕ)) → IsTaken found left streams tables before → left ≡ rest ++ t ∷ []
    → after ≡ without_stream t.key streams → more ≡ with_records t (stream_at t.key streams) tables → IsTaken found rest after more before
one_taken found left rest t streams after before tables more (done, whole, streams_are, tables_are) is after_is more_is = (
  t ∷ done,
  sym (append_assoc rest (t ∷ []) done) ∙ ap (λ (ts : List TableStream). ts ++ done) (sym is) ∙ whole,
  after_is ∙ ap (without_stream t.key) streams_are,
  more_is ∙ ap (λ (ss : Streams). with_records t (stream_at t.key ss) tables) streams_are
      ∙ ap (with_records t (stream_at t.key (without_tables done before))) tables_are,
)

pub all_taken : (found left : List TableStream) (streams before : Streams) (tables : List (List ℕ × List ℕ)) → IsTaken found left streams tables before → left ≡ []
    → (streams ≡ without_tables found before) × (tables ≡ records_taken found before)
all_taken found left streams before tables (done, whole, streams_are, tables_are) none =
    let all : done ≡ found = ap (λ (ts : List TableStream). ts ++ done) (sym none) ∙ whole in
    (streams_are ∙ ap (λ (ts : List TableStream). without_tables ts before) all, tables_are ∙ ap (λ (ts : List TableStream). records_taken ts before) all)

-- WHAT IS LEFT AND WHAT IS TAKEN, where the tables' streams among some are taken out of more

-- the streams without the tables' streams among these
abbrev left_by : Streams → Streams → Streams
left_by es ss = without_tables (table_streams_among es) ss

left_sorted : (es ss : Streams) → AreSorted ss → AreSorted (left_by es ss)
left_sorted [] ss h = h
left_sorted (e ∷ es) ss h =
    elim (is_table_key e.0) as (λ b. AreSorted (without_tables (cons_option (if b then Some (record { key = e.0; name = text_of_key e.0 }) else None) (table_streams_among es)) ss)) [
      | true ↦ sorted_removed e.0 (left_by es ss) (left_sorted es ss h)
      | false ↦ left_sorted es ss h
    ]

and_false : (b : Bool) → (b && false) ≡ false
and_false true = refl
and_false false = refl

-- one that is there, and that isn't taken out
abbrev Stays : List ℕ → Streams → Streams → Option (List ℕ) → Type 0
Stays q es ss o = o ≡ cond (is_table_key q && is_some (stream_at q es)) None (stream_at q ss)

-- one more, of a table or not, of the name that is looked up or not
stays_taken : (q k bytes : List ℕ) (es ss : Streams) (tied : Bool) (o : Option (List ℕ)) → eq_by_cmp name_cmp q k ≡ tied → is_table_key k ≡ true → Stays q es ss o
    → cond (not tied) o None ≡ cond (is_table_key q && is_some (cond tied (Some bytes) (stream_at q es))) None (stream_at q ss)
stays_taken q k bytes es ss true o tie of_table h =
    ap (λ b. cond (b && true) None (stream_at q ss)) (sym of_table ∙ ap is_table_key (sym (maps.tied_is names_total exact_names q k tie)))
stays_taken q k bytes es ss false o tie of_table h = h

stays_other : (q k bytes : List ℕ) (es ss : Streams) (tied : Bool) (o : Option (List ℕ)) → eq_by_cmp name_cmp q k ≡ tied → is_table_key k ≡ false → Stays q es ss o
    → o ≡ cond (is_table_key q && is_some (cond tied (Some bytes) (stream_at q es))) None (stream_at q ss)
stays_other q k bytes es ss true o tie of_none h =
    let none : is_table_key q ≡ false = ap is_table_key (maps.tied_is names_total exact_names q k tie) ∙ of_none in
    h ∙ ap (λ b. cond (b && is_some (stream_at q es)) None (stream_at q ss)) none ∙ ap (λ b. cond (b && true) None (stream_at q ss)) (sym none)
stays_other q k bytes es ss false o tie of_none h = h

pub left_found : (q : List ℕ) (es ss : Streams) → Stays q es ss (stream_at q (left_by es ss))
left_found q [] ss = ap (λ b. cond b None (stream_at q ss)) (sym (and_false (is_table_key q)))
left_found q (e ∷ es) ss =
    elim (is_table_key e.0) as (λ b. is_table_key e.0 ≡ b
    → Stays q (e ∷ es) ss (stream_at q (without_tables (cons_option (if b then Some (record { key = e.0; name = text_of_key e.0 }) else None) (table_streams_among es)) ss))) [
      | true ↦ λ of_table.
          maps.find_where names_total exact_names (λ k. not (eq_by_cmp name_cmp e.0 k)) q (left_by es ss)
          ∙ ap (λ b. cond (not b) (stream_at q (left_by es ss)) None) ((eq_by_cmp_equiv names_total).symm e.0 q)
          ∙ stays_taken q e.0 e.1 es ss (eq_by_cmp name_cmp q e.0) (stream_at q (left_by es ss)) refl of_table (left_found q es ss)
      | false ↦ λ of_none. stays_other q e.0 e.1 es ss (eq_by_cmp name_cmp q e.0) (stream_at q (left_by es ss)) refl of_none (left_found q es ss)
    ] refl

none_of_tables : (of_table : Bool) (o : Option (List ℕ)) → cond (of_table && is_some o) None o ≡ cond (not of_table) o None
none_of_tables true None = refl
none_of_tables true (Some x) = refl
none_of_tables false o = refl

-- all but the tables' streams are left
pub left_are_others : (ss : Streams) → AreSorted ss → left_by ss ss ≡ others_among ss
left_are_others ss h =
    same_entries name_cmp names_total exact_names (left_by ss ss) (others_among ss) (left_sorted ss ss h) (maps.sorted_where names_total exact_names (λ k. not (is_table_key k)) ss h)
    (λ q. left_found q ss ss ∙ none_of_tables (is_table_key q) (stream_at q ss) ∙ sym (maps.find_where names_total exact_names (λ k. not (is_table_key k)) q ss))

not_found : (q : List ℕ) (es : Streams) → AllByRecursion (λ f. q ≢ f.0) es → stream_at q es ≡ None
not_found q [] apart = refl
not_found q (e ∷ es) apart = ap (λ b. cond b (Some e.1) (stream_at q es)) (maps.untied names_total exact_names q e.0 apart.0) ∙ not_found q es apart.1

-- the stream of a table is still there when those behind it are taken out
still_there : (e : List ℕ × List ℕ) (es ss : Streams) → AreSorted (e ∷ es) → stream_at e.0 ss ≡ Some e.1 → stream_at e.0 (left_by es ss) ≡ Some e.1
still_there e es ss h there =
    left_found e.0 es ss
    ∙ ap (λ (o : Option (List ℕ)). cond (is_table_key e.0 && is_some o) None (stream_at e.0 ss)) (not_found e.0 es (maps.head_apart names_total exact_names e es h))
    ∙ ap (λ b. cond b None (stream_at e.0 ss)) (and_false (is_table_key e.0)) ∙ there

-- a table's records, in the order of names
abbrev named_records : List ℕ × List ℕ → List ℕ × List ℕ
named_records s = (text_of_key s.0, s.1)

record_of : (e : List ℕ × List ℕ) (is_pool : Bool) (rest : Streams) → (if is_pool then by_names (map named_records rest) else put list_cmp (text_of_key e.0) e.1 (by_names (map named_records rest)))
    ≡ by_names (map named_records (cond (not is_pool) (e ∷ rest) rest))
record_of e true rest = refl
record_of e false rest = refl

behind_sorted : (e : List ℕ × List ℕ) (es : Streams) → AreSorted (e ∷ es) → AreSorted es
behind_sorted e es h = T_second (below_all name_cmp e.0 es) (is_sorted name_cmp es) h

taken_so : (es ss : Streams) → AreSorted es → AllByRecursion (λ e. stream_at e.0 ss ≡ Some e.1) es → records_taken (table_streams_among es) ss ≡ records_among es
taken_so [] ss h there = refl
taken_so (e ∷ es) ss h there =
    elim (is_table_key e.0) as (λ b. records_taken (cons_option (if b then Some (record { key = e.0; name = text_of_key e.0 }) else None) (table_streams_among es)) ss
    ≡ by_names (map named_records (cond (b && not (is_pool_name (text_of_key e.0))) (e ∷ filter (λ s. is_records_key s.0) es) (filter (λ s. is_records_key s.0) es)))) [
      | true ↦ ap (λ (o : Option (List ℕ)). with_records (record { key = e.0; name = text_of_key e.0 }) o (records_taken (table_streams_among es) ss)) (still_there e es ss h there.0)
          ∙ ap (λ (tables : List (List ℕ × List ℕ)). if is_pool_name (text_of_key e.0) then tables else put list_cmp (text_of_key e.0) e.1 tables) (taken_so es ss (behind_sorted e es h) there.1)
          ∙ record_of e (is_pool_name (text_of_key e.0)) (filter (λ s. is_records_key s.0) es)
      | false ↦ taken_so es ss (behind_sorted e es h) there.1
    ]

-- each table's stream is taken from those that had it
pub taken_are_records : (ss : Streams) → AreSorted ss → records_taken (table_streams_among ss) ss ≡ records_among ss
taken_are_records ss h = taken_so ss ss h (maps.found_each names_total exact_names ss h)
