-- The streams of a transform that is made are those of the new package's rows.
use Rattle.std.proofs.Common.{◌≡◌, ℕ, ◌-◌, Bool, true, false, cond, ◌&&◌, List, [], ◌∷◌, ◌++◌, length, map, filter, fold, drop, refl, sym, ap, subst, ◌∙◌}
use Rattle.std.specs.Prelude.{Ok, Option, Some, None, is_some, if◌then◌else◌, option_and_then, nat_lt, ◌==◌}
use Rattle.std.specs.FinMap.{find}
use Rattle.std.specs.FinMap.Entries.{find-put, find_tied}
use Rattle.std.specs.List.{AllByRecursion, cons_option, flat_map}
use Rattle.std.specs.Option.{option_map_or}
use Rattle.std.specs.Ordering.{eq_by_cmp, is_eq}
use Rattle.std.specs.declared.cmp.Ordering.{Ordering}
use Rattle.std.specs.declared.cmp.Ordering.TheVariants.{Less, Equal, Greater}
use Rattle.std.specs.Cmp.{tied_itself}
use Rattle.std.proofs.lemmas.Bool.{and_parts}
use Rattle.msi_base.specs.Refusals.{first_refusal}
use Rattle.msi_base.proofs.BoolLemmas.{by_test, yes_is_no}
use Rattle.msi_base.proofs.OptionLemmas.{none_is, some_is}
use Rattle.msi_container_format.specs.Names.{name_cmp}
use Rattle.msi_container_format.proofs.NamesLemmas.{names_total}
use Rattle.msi_table_cells.specs.KeyOrder.{key_of}
use Rattle.msi_table_values.specs.declared.value.Value.{Value}
use Rattle.msi_table_values.specs.Columns.{ColumnDef}
use Rattle.msi_database_schema.specs.System.{columns_name, tables_name}
use Rattle.msi_database_changes.specs.Database.{has_table}
use Rattle.msi_database_storage.specs.Kept.{Kept}
use Rattle.msi_database_storage.specs.Streams.{Streams, stream_at, with_stream}
use Rattle.msi_transform_records.specs.declared.action.Action.TheVariants.{Add, Remove}
use Rattle.msi_transform.specs.Transforms.{TransformDef}
use Rattle.msi_transform_rows.specs.KeyOfRows.{key_cmp}
use Rattle.msi_transform_rows.specs.RowStreams.{has_streams, row_stream}
use Rattle.msi_transform_making.specs.Making.{Pair, ToldRecord, ToldRow, ToldRows, ToldTable, addition, can_be_marked, change_of_row, changes, changing, columns_before, columns_in_table, described_columns, describing_record, differences, differing, first_told, has_bit_for, is_replaced, is_told, listing_record, made, marked_values, names_beside, or_first_told, reasons, records_of_columns, records_of_table, removal, stream_of_row, tells_stream, told_names, told_row, told_rows, told_table, told_tables, values_in_table, with_told_stream, with_told_streams}
use Rattle.msi_transform_laws.specs.CarriedOut.{AreNewRows, AreOldRows, IsTellable, carried_out}
use Rattle.msi_transform_laws.specs.StreamsBrought.{HasItsStream, MadeStreamsAreBrought}
use Rattle.msi_transform_laws.proofs.CarriedOutLemmas.{differences_give_new_rows}
use Rattle.msi_transform_laws.proofs.MadeRecordsLemmas.{lists, made_by}
use Rattle.msi_transform_laws.proofs.TableRecordsLemmas.{each_by_keys, new_rows, no_key_of_streams, no_records, old_rows}

-- LISTS

all_as : {X : Type 0} (P Q : X → Type 0) → ((x : X) → P x → Q x) → (xs : List X) → AllByRecursion P xs → AllByRecursion Q xs
all_as P Q f [] h = tt
all_as P Q f (x ∷ xs) h = (f x h.0, all_as P Q f xs h.1)

all_joined : {X : Type 0} (P : X → Type 0) (xs ys : List X) → AllByRecursion P xs → AllByRecursion P ys → AllByRecursion P (xs ++ ys)
all_joined P [] ys h g = g
all_joined P (x ∷ xs) ys h g = (h.0, all_joined P xs ys h.1 g)

all_passing : {X : Type 0} (P : X → Type 0) (p : X → Bool) (xs : List X) → AllByRecursion P xs → AllByRecursion P (filter p xs)
all_passing P p [] h = tt
all_passing P p (x ∷ xs) h = by_test (p x) (λ t. rw t (h.0, all_passing P p xs h.1)) (λ t. rw t (all_passing P p xs h.1))

all_mapped : {X Y : Type 0} (P : X → Type 0) (Q : Y → Type 0) (f : X → Y) → ((x : X) → P x → Q (f x)) → (xs : List X) → AllByRecursion P xs → AllByRecursion Q (map f xs)
all_mapped P Q f g [] h = tt
all_mapped P Q f g (x ∷ xs) h = (g x h.0, all_mapped P Q f g xs h.1)

all_any : {X Y : Type 0} (Q : Y → Type 0) (f : X → Y) → ((x : X) → Q (f x)) → (xs : List X) → AllByRecursion Q (map f xs)
all_any Q f g [] = tt
all_any Q f g (x ∷ xs) = (g x, all_any Q f g xs)

-- RECORDS WHOSE STREAMS ARE THOSE OF THE NEW PACKAGE

module _ (new : Kept) where
  abbrev IsOfNew : List ℕ → ToldRecord → Type 0
  IsOfNew table r = (bytes : List ℕ) → r.stream ≡ Some bytes → stream_of_row new table r.key ≡ Some bytes

  abbrev IsRowOfNew : List ℕ → List Value × ToldRow → Type 0
  IsRowOfNew table e = (bytes : List ℕ) → e.1.stream ≡ Some bytes → stream_of_row new table e.0 ≡ Some bytes

  only_if : (b : Bool) (o : Option (List ℕ)) (bytes : List ℕ) → (if b then o else None) ≡ Some bytes → o ≡ Some bytes
  only_if true o bytes h = h
  only_if false o bytes h = none_is h

  told_rows_own : (table : List ℕ) (n : ℕ) → AllByRecursion (IsRowOfNew table) (told_rows new table n)
  told_rows_own table n =
      let columns = columns_in_table new table in
      each_by_keys (IsRowOfNew table) (map (told_row new table columns n) (values_in_table new table))
      (all_any (IsRowOfNew table) (told_row new table columns n) (λ values bytes is. only_if (has_streams columns) (stream_of_row new table (key_of columns values)) bytes is) (values_in_table new table))

  module _ (table : List ℕ) where
    removed_own : (key : List Value) → IsOfNew table (removal key)
    removed_own key bytes is = none_is is

    changed_own : (columns : List ColumnDef) (marked : List ℕ) (e : List Value × ToldRow) → IsRowOfNew table e → IsOfNew table (changing columns marked e)
    changed_own columns marked e own bytes is = own bytes (only_if (tells_stream (marked_values columns marked e.1.values)) e.1.stream bytes is)

    one_change_own : (columns : List ColumnDef) (old : Option ToldRow) (e : List Value × ToldRow) → IsRowOfNew table e
        → AllByRecursion (IsOfNew table) (cons_option (option_and_then (λ other. let marked = differing other e.1 in if can_be_marked marked && nat_lt 0 (length marked) then Some (changing columns marked e) else None) old) [])
    one_change_own columns None e own = tt
    one_change_own columns (Some other) e own =
        elim (can_be_marked (differing other e.1) && nat_lt 0 (length (differing other e.1))) as (λ b. AllByRecursion (IsOfNew table) (cons_option (if b then Some (changing columns (differing other e.1) e) else None) [])) [
          | true ↦ (changed_own columns (differing other e.1) e own, tt)
          | false ↦ tt
        ]

    added_option : (o : Option ToldRecord) (rs : List ToldRecord) → AllByRecursion (IsOfNew table) (cons_option o []) → AllByRecursion (IsOfNew table) rs → AllByRecursion (IsOfNew table) (cons_option o rs)
    added_option None rs h g = g
    added_option (Some r) rs h g = (h.0, g)

    changes_own : (columns : List ColumnDef) (old es : ToldRows) → AllByRecursion (IsRowOfNew table) es → AllByRecursion (IsOfNew table) (changes columns old es)
    changes_own columns old [] h = tt
    changes_own columns old (e ∷ es) h = added_option (change_of_row columns old e) (changes columns old es) (one_change_own columns (find key_cmp e.0 old) e h.0) (changes_own columns old es h.1)

    differences_own : (columns : List ColumnDef) (old news : ToldRows) → AllByRecursion (IsRowOfNew table) news → AllByRecursion (IsOfNew table) (differences columns old news)
    differences_own columns old news h =
        all_joined (IsOfNew table) (map (λ e. removal e.0) (filter (is_replaced news) old) ++ changes columns old news) (map addition (filter (is_replaced old) news))
        (all_joined (IsOfNew table) (map (λ e. removal e.0) (filter (is_replaced news) old)) (changes columns old news)
        (all_any (IsOfNew table) (λ e. removal e.0) (λ e. removed_own e.0) (filter (is_replaced news) old)) (changes_own columns old news h))
        (all_mapped (IsRowOfNew table) (IsOfNew table) addition (λ e own. own) (filter (is_replaced old) news) (all_passing (IsRowOfNew table) (is_replaced old) news h))

    first_own : (columns : List ColumnDef) (n : ℕ) (es : ToldRows) → AllByRecursion (IsRowOfNew table) es → AllByRecursion (IsOfNew table) (first_told columns n es)
    first_own columns n [] h = tt
    first_own columns n (e ∷ es) h = by_test (has_bit_for n)
        (λ t. rw t (changed_own columns (n ∷ []) e h.0, tt))
        (λ t. rw t (removed_own e.0, (h.0, tt)))

    module _ (columns : List ColumnDef) (before added : ℕ) (old news : ToldRows) (plain : no_key_of_streams columns) (was : AreOldRows columns old) (is : AreNewRows columns news) (own : AllByRecursion (IsRowOfNew table) news) where
      or_first_own : AllByRecursion (IsOfNew table) (or_first_told columns before added old (differences columns old news))
      or_first_own = by_test ((length (differences columns old news) == 0) && nat_lt 0 added)
          (λ t. let none : differences columns old news ≡ [] = no_records (differences columns old news) (and_parts (length (differences columns old news) == 0) (nat_lt 0 added) t).0 in
          let same : old ≡ news = ap (carried_out columns old) (sym none) ∙ differences_give_new_rows columns old news plain was is in
          rw t (first_own columns before old (subst (AllByRecursion (IsRowOfNew table)) (sym same) own)))
          (λ t. rw t (differences_own columns old news own))

  table_own : (old : Kept) (name : List ℕ) → IsTellable old new name → AllByRecursion (IsOfNew name) (records_of_table old new name)
  table_own old name is =
      let columns = columns_in_table new name in
      let whole = new_rows new name is.key is.whole in
      by_test (has_table name old.database)
      (λ t. let kept = is.before t in
      rw t (or_first_own name columns (columns_before old.database name) (length columns - columns_before old.database name)
      (told_rows old name (length columns - columns_before old.database name)) (told_rows new name 0) is.key
      (old_rows old name columns kept.1 is.key kept.0) whole (told_rows_own name 0)))
      (λ t. rw t (all_mapped (IsRowOfNew name) (IsOfNew name) addition (λ e own. own) (told_rows new name 0) (told_rows_own name 0)))

  none_own : (table : List ℕ) (r : ToldRecord) → r.stream ≡ None → IsOfNew table r
  none_own table r none bytes is = none_is (sym none ∙ is)

  columns_own : (old : Kept) (table : List ℕ) (names : List (List ℕ)) → AllByRecursion (IsOfNew table) (flat_map (records_of_columns old new) names)
  columns_own old table [] = tt
  columns_own old table (n ∷ ns) = all_joined (IsOfNew table) (records_of_columns old new n) (flat_map (records_of_columns old new) ns)
      (all_any (IsOfNew table) (describing_record (has_table n old.database)) (λ row. none_own table (describing_record (has_table n old.database) row) refl) (drop (columns_before old.database n) (described_columns new n)))
      (columns_own old table ns)

  tables_own : (old : Kept) → AllByRecursion (IsTellable old new) (told_names new) → AllByRecursion (λ (table : ToldTable). AllByRecursion (IsOfNew table.name) table.records) (told_tables old new)
  tables_own old are = all_passing (λ (table : ToldTable). AllByRecursion (IsOfNew table.name) table.records) is_told (lists old new ++ map (told_table old new) (told_names new)) (
    all_joined (IsOfNew tables_name) (map (listing_record Remove) (names_beside old.database new.database)) (map (listing_record (Add 1)) (names_beside new.database old.database))
        (all_any (IsOfNew tables_name) (listing_record Remove) (λ n. none_own tables_name (listing_record Remove n) refl) (names_beside old.database new.database))
        (all_any (IsOfNew tables_name) (listing_record (Add 1)) (λ n. none_own tables_name (listing_record (Add 1) n) refl) (names_beside new.database old.database)),
    (
      columns_own old columns_name (told_names new),
      all_mapped (IsTellable old new) (λ (table : ToldTable). AllByRecursion (IsOfNew table.name) table.records) (told_table old new) (λ name is. table_own old name is) (told_names new) are,
    ),
  )

  -- THE STREAMS OF THE TRANSFORM

  -- each stream is one of the new package
  abbrev AreOfNew : Streams → Type 0
  AreOfNew streams = (name bytes : List ℕ) → stream_at name streams ≡ Some bytes → stream_at name new.streams ≡ Some bytes

  abbrev Has : List ℕ → Streams → Type 0
  Has name streams = is_some (stream_at name streams) ≡ true

  tied : (o : Ordering) → is_eq o ≡ true → o ≡ Equal
  tied Less h = yes_is_no false h refl
  tied Equal h = refl
  tied Greater h = yes_is_no false h refl

  module _ (name bytes : List ℕ) (streams : Streams) where
    put_of_new : stream_at name new.streams ≡ Some bytes → AreOfNew streams → AreOfNew (with_stream name bytes streams)
    put_of_new is are q b found =
        let one = find-put name_cmp names_total q name bytes streams in
        by_test (eq_by_cmp name_cmp q name)
        (λ t. let same : bytes ≡ b = some_is bytes b (sym (one ∙ ap (λ x. cond x (Some bytes) (stream_at q streams)) t) ∙ found) in
        sym (find_tied name_cmp names_total q name (tied (name_cmp q name) t) new.streams) ∙ is ∙ ap Some same)
        (λ t. are q b (sym (one ∙ ap (λ x. cond x (Some bytes) (stream_at q streams)) t) ∙ found))

    put_has : (q : List ℕ) → Has q streams → Has q (with_stream name bytes streams)
    put_has q h =
        let one = find-put name_cmp names_total q name bytes streams in
        by_test (eq_by_cmp name_cmp q name) (λ t. rw (one, t) refl) (λ t. rw (one, t) h)

    put_there : Has name (with_stream name bytes streams)
    put_there = rw (find-put name_cmp names_total name name bytes streams, tied_itself names_total name) refl

  -- a record's stream comes, if it has one and its row's stream has a name
  module _ (table : List ℕ) (streams : Streams) (key : List Value) where
    abbrev stream_put : Option (List ℕ) → Option (List ℕ) → Streams
    stream_put stream named = option_map_or (λ bytes. option_map_or (λ name. with_stream name bytes streams) named streams) stream streams

    of_new_by : (stream named : Option (List ℕ)) → ((bytes : List ℕ) → stream ≡ Some bytes → option_and_then (λ name. stream_at name new.streams) named ≡ Some bytes)
        → AreOfNew streams → AreOfNew (stream_put stream named)
    of_new_by None named own are = are
    of_new_by (Some bytes) None own are = are
    of_new_by (Some bytes) (Some name) own are = put_of_new name bytes streams (own bytes refl) are

    has_by : (stream named : Option (List ℕ)) (q : List ℕ) → Has q streams → Has q (stream_put stream named)
    has_by None named q h = h
    has_by (Some bytes) None q h = h
    has_by (Some bytes) (Some name) q h = put_has name bytes streams q h

    there_by : (stream named : Option (List ℕ)) (bytes name : List ℕ) → stream ≡ Some bytes → named ≡ Some name → Has name (stream_put stream named)
    there_by None named bytes name is at = none_is is
    there_by (Some b) None bytes name is at = none_is at
    there_by (Some b) (Some n) bytes name is at = subst (λ (q : List ℕ). Has q (with_stream n b streams)) (some_is n name at) (put_there n b streams)

  -- and those of all records
  abbrev Keeps : Streams → Streams → Type 0
  Keeps before after = (q : List ℕ) → Has q before → Has q after

  abbrev IsThere : List ℕ → Streams → ToldRecord → Type 0
  IsThere table streams r = (bytes name : List ℕ) → r.stream ≡ Some bytes → row_stream table r.key ≡ Some name → Has name streams

  there_later : (table : List ℕ) (before after : Streams) → Keeps before after → (rs : List ToldRecord) → AllByRecursion (IsThere table before) rs → AllByRecursion (IsThere table after) rs
  there_later table before after keeps rs h = all_as (IsThere table before) (IsThere table after) (λ r f bytes name is at. keeps name (f bytes name is at)) rs h

  records_put : (table : List ℕ) (streams : Streams) (rs : List ToldRecord) → AllByRecursion (IsOfNew table) rs → AreOfNew streams
      → AreOfNew (fold (with_told_stream table) streams rs) × Keeps streams (fold (with_told_stream table) streams rs) × AllByRecursion (IsThere table (fold (with_told_stream table) streams rs)) rs
  records_put table streams [] own are = (are, (λ q h. h), tt)
  records_put table streams (r ∷ rs) own are =
      let next = with_told_stream table streams r in
      let now = of_new_by table streams r.key r.stream (row_stream table r.key) own.0 are in
      let rest = records_put table next rs own.1 now in (
        rest.0,
        (λ q h. rest.1 q (has_by table streams r.key r.stream (row_stream table r.key) q h)),
        ((λ bytes name is at. rest.1 name (there_by table streams r.key r.stream (row_stream table r.key) bytes name is at)), rest.2),
      )

  abbrev AreThere : Streams → ToldTable → Type 0
  AreThere streams table = AllByRecursion (IsThere table.name streams) table.records

  tables_put : (streams : Streams) (tables : List ToldTable) → AllByRecursion (λ (table : ToldTable). AllByRecursion (IsOfNew table.name) table.records) tables → AreOfNew streams
      → AreOfNew (fold with_told_streams streams tables) × Keeps streams (fold with_told_streams streams tables) × AllByRecursion (AreThere (fold with_told_streams streams tables)) tables
  tables_put streams [] own are = (are, (λ q h. h), tt)
  tables_put streams (table ∷ tables) own are =
      let one = records_put table.name streams table.records own.0 are in
      let rest = tables_put (with_told_streams streams table) tables own.1 one.0 in
      (rest.0, (λ q h. rest.1 q (one.1 q h)), (there_later table.name (with_told_streams streams table) (fold with_told_streams (with_told_streams streams table) tables) rest.1 table.records one.2, rest.2))

  -- so the transform has a record's stream
  found_there : (streams : Streams) (name : List ℕ) (bytes : List ℕ) (o : Option (List ℕ)) → stream_at name streams ≡ o → is_some o ≡ true → AreOfNew streams → stream_at name new.streams ≡ Some bytes → stream_at name streams ≡ Some bytes
  found_there streams name bytes None at there are is = yes_is_no false there refl
  found_there streams name bytes (Some b) at there are is = at ∙ sym (are name b at) ∙ is

  brought_by : (streams : Streams) (named : Option (List ℕ)) (bytes : List ℕ) → ((name : List ℕ) → named ≡ Some name → Has name streams) → AreOfNew streams
      → option_and_then (λ name. stream_at name new.streams) named ≡ Some bytes → option_and_then (λ name. stream_at name streams) named ≡ Some bytes
  brought_by streams None bytes there are is = none_is is
  brought_by streams (Some name) bytes there are is = found_there streams name bytes (stream_at name streams) refl (there name refl) are is

module _ (t : TransformDef) (new : Kept) (are : AreOfNew new t.streams) where
  record_brought : (table : List ℕ) (r : ToldRecord) → IsOfNew new table r → IsThere new table t.streams r → HasItsStream t table r
  record_brought table r own there bytes is = brought_by new t.streams (row_stream table r.key) bytes (λ name at. there bytes name is at) are (own bytes is)

  records_brought : (table : List ℕ) (rs : List ToldRecord) → AllByRecursion (IsOfNew new table) rs → AllByRecursion (IsThere new table t.streams) rs → AllByRecursion (HasItsStream t table) rs
  records_brought table [] own there = tt
  records_brought table (r ∷ rs) own there = (record_brought table r own.0 there.0, records_brought table rs own.1 there.1)

  tables_brought : (tables : List ToldTable) → AllByRecursion (λ (table : ToldTable). AllByRecursion (IsOfNew new table.name) table.records) tables → AllByRecursion (AreThere new t.streams) tables
      → AllByRecursion (λ (table : ToldTable). AllByRecursion (HasItsStream t table.name) table.records) tables
  tables_brought [] own there = tt
  tables_brought (table ∷ tables) own there = (records_brought table.name table.records own.0 there.0, tables_brought tables own.1 there.1)

pub made_streams_are_brought : MadeStreamsAreBrought
made_streams_are_brought p t is are =
    let tables = told_tables p.old p.new in
    let s = made_by p.new_page p.new tables t (first_refusal (reasons p)) is in
    let streams_are : fold with_told_streams [] tables ≡ t.streams = ap (λ (u : TransformDef). u.streams) s.2 in
    let own = tables_own p.new p.old are in
    let put = tables_put p.new [] tables own (λ name bytes at. none_is at) in
    tables_brought t p.new (subst (AreOfNew p.new) streams_are put.0) tables own (subst (λ (streams : Streams). AllByRecursion (AreThere p.new streams) tables) streams_are put.2)

-- and each of its streams is one of the new package
pub made_streams_are_new : (p : Pair) (t : TransformDef) → made p ≡ Ok t → AllByRecursion (IsTellable p.old p.new) (told_names p.new) → (name bytes : List ℕ) → stream_at name t.streams ≡ Some bytes
    → stream_at name p.new.streams ≡ Some bytes
made_streams_are_new p t is are =
    let tables = told_tables p.old p.new in
    let s = made_by p.new_page p.new tables t (first_refusal (reasons p)) is in
    let streams_are : fold with_told_streams [] tables ≡ t.streams = ap (λ (u : TransformDef). u.streams) s.2 in
    subst (AreOfNew p.new) streams_are (tables_put p.new [] tables (tables_own p.new p.old are) (λ name bytes at. none_is at)).0
