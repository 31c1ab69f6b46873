-- The agreement of rows: it is that each stream has the bytes that rows expect.
use Rattle.std.proofs.Common.{◌≡◌, ℕ, ◌+◌, ◌<◌, get_or, take, Bool, true, false, cond, not, ◌&&◌, ◌||◌, List, [], ◌∷◌, ◌++◌, length, map, filter, Option, Some, None, refl, sym, ap, ◌∙◌}
use Rattle.std.specs.Prelude.{Result, Ok, Err, if◌then◌else◌, is_none, option_and_then, bytes_eq}
use Rattle.std.specs.List.{flat_map, list_all}
use Rattle.std.specs.Option.{option_map_or}
use Rattle.std.specs.BTreeSet.{BTreeSet, Updates, contains}
use Rattle.std.specs.Cmp.{eq_by_cmp_equiv}
use Rattle.std.specs.Cmp.Lexicographic.{bytes_decides}
use Rattle.std.specs.Ordering.{eq_by_cmp}
use Rattle.std.proofs.lemmas.List.{take_more}
use Rattle.std.proofs.lemmas.List.Folds.{list_all-append, list_any-append}
use Rattle.msi_container_format.specs.Names.{name_cmp}
use Rattle.msi_container_format.proofs.NamesLemmas.{exact_names, names_total}
use Rattle.msi_container_format.proofs.StreamsLemmas.{is_equal}
use mathlib.Core.Path.{ap₂}
use Rattle.msi_base.specs.declared.errors.ErrorKind.{ErrorKind}
use Rattle.msi_base.specs.declared.errors.ErrorKind.TheVariants.{InvalidInput}
use Rattle.msi_base.specs.Refusals.{unless_refused}
use Rattle.msi_database_changes.specs.Database.{Database}
use Rattle.msi_database_changes.specs.declared.storing.Stored.{Stored}
use Rattle.msi_database_storage.specs.Kept.{Kept}
use Rattle.msi_database_storage.specs.Streams.{Streams, stream_at}
use Rattle.msi_pool.specs.Pool.{Pool}
use Rattle.msi_table_cells.specs.TableCells.{TableCells}
use Rattle.msi_table_values.specs.declared.value.Value.{Value}
use Rattle.msi_transform.specs.Transforms.{TransformDef}
use Rattle.msi_transform_applying.specs.Applying.{Left, TableAnew, TablesChanged, finished, has_its_stream, is_said, pool_left, row_agrees, same_stream, stays, streams_agree, streams_left, table_agrees, table_staying, tables_left, texts_read_back}
use Rattle.msi_transform_applying.specs.ExpectedStreams.{Expected, HasNames, all_expected, expected_at, expected_of, is_met, row_expects, staying_expects, table_expects}
use Rattle.msi_transform_rows.specs.RecordRefusals.{Refusal, nowhere}
use Rattle.msi_transform_rows.specs.RowStreams.{has_streams, row_stream}
use Rattle.msi_transform_rows.specs.declared.row.RowInHand.{RowInHand}
use Rattle.msi_transform_rows.specs.declared.row.RowStream.{RowStream}
use Rattle.msi_transform_rows.specs.declared.row.RowStream.TheVariants.{AsBefore, Gone, Brought}

and_true : (b : Bool) → b ≡ (b && true)
and_true true = refl
and_true false = refl

absent : (o : Option (List ℕ)) → is_none o ≡ (same_stream o None && true)
absent None = refl
absent (Some bytes) = refl

module _ (k : Kept) (t : TransformDef) (said : List Stored) (after : Streams) where
  abbrev met : List Expected → Bool
  met es = list_all (is_met after) es

  if_said : (b : Bool) (name : List ℕ) → (not b || same_stream (stream_at name after) (stream_at name k.streams)) ≡ met (if b then (name, stream_at name k.streams) ∷ [] else [])
  if_said true name = and_true (same_stream (stream_at name after) (stream_at name k.streams))
  if_said false name = refl

  before_agrees : (table : List ℕ) (key : List Value) (o : Option (List ℕ)) → option_map_or (has_its_stream k t said after table key AsBefore) o true ≡ met (option_map_or (expected_of k t said AsBefore) o [])
  before_agrees table key None = refl
  before_agrees table key (Some name) = if_said (is_said said name) name

  gone_agrees : (table : List ℕ) (key : List Value) (o : Option (List ℕ)) → option_map_or (has_its_stream k t said after table key Gone) o true ≡ met (option_map_or (expected_of k t said Gone) o [])
  gone_agrees table key None = refl
  gone_agrees table key (Some name) = absent (stream_at name after)

  brought_agrees : (o : Option (List ℕ)) → option_map_or (λ name. same_stream (stream_at name after) (option_and_then (λ n. stream_at n t.streams) o)) o true ≡ met (option_map_or (expected_of k t said Brought) o [])
  brought_agrees None = refl
  brought_agrees (Some name) = and_true (same_stream (stream_at name after) (stream_at name t.streams))

  by_stream : (table : List ℕ) (key : List Value) (stream : RowStream) → option_map_or (has_its_stream k t said after table key stream) (row_stream table key) true ≡ met (expected_at k t said table key stream)
  by_stream table key AsBefore = before_agrees table key (row_stream table key)
  by_stream table key Gone = gone_agrees table key (row_stream table key)
  by_stream table key Brought = brought_agrees (row_stream table key)

  rows_agree : (table : List ℕ) (rows : List (List Value × RowInHand)) → list_all (row_agrees k t said after table) rows ≡ met (flat_map (row_expects k t said table) rows)
  rows_agree table [] = refl
  rows_agree table (e ∷ es) = ap₂ ◌&&◌ (by_stream table e.0 e.1.stream) (rows_agree table es)
      ∙ sym (list_all-append (is_met after) (row_expects k t said table e) (flat_map (row_expects k t said table) es))

  with_streams : (b : Bool) (table : TableAnew) → (not b || list_all (row_agrees k t said after table.name) table.rows) ≡ met (if b then flat_map (row_expects k t said table.name) table.rows else [])
  with_streams true table = rows_agree table.name table.rows
  with_streams false table = refl

  one_agrees : (table : TableAnew) → table_agrees k t said after table ≡ met (table_expects k t said table)
  one_agrees table = with_streams (has_streams table.columns) table

  tables_agree : (tables : List TableAnew) → list_all (table_agrees k t said after) tables ≡ met (flat_map (table_expects k t said) tables)
  tables_agree [] = refl
  tables_agree (x ∷ xs) = ap₂ ◌&&◌ (one_agrees x) (tables_agree xs)
      ∙ sym (list_all-append (is_met after) (table_expects k t said x) (flat_map (table_expects k t said) xs))

  module _ (d : Database) (is_in : List ℕ × TableCells → Bool) where
    abbrev expects : List ℕ × TableCells → List Expected
    expects e = if is_in e then table_expects k t said (table_staying d e) else []

    if_in : (b : Bool) (e : List ℕ × TableCells) (es : List (List ℕ × TableCells)) → list_all (table_agrees k t said after) (map (table_staying d) (filter is_in es)) ≡ met (flat_map expects es)
        → list_all (table_agrees k t said after) (map (table_staying d) (cond b (e ∷ filter is_in es) (filter is_in es))) ≡ met ((if b then table_expects k t said (table_staying d e) else []) ++ flat_map expects es)
    if_in true e es others = ap₂ ◌&&◌ (one_agrees (table_staying d e)) others
        ∙ sym (list_all-append (is_met after) (table_expects k t said (table_staying d e)) (flat_map expects es))
    if_in false e es others = others

    staying_agree : (es : List (List ℕ × TableCells)) → list_all (table_agrees k t said after) (map (table_staying d) (filter is_in es)) ≡ met (flat_map expects es)
    staying_agree [] = refl
    staying_agree (e ∷ es) = if_in (is_in e) e es (staying_agree es)

abbrev pub left_with : Pool → Streams → Left
left_with pool streams = record { pool = pool; streams = streams }

-- the two tests that come last
abbrev pub answer : Bool → Bool → Left → Result Left Refusal
answer met read left = nowhere (unless_refused ((not met, InvalidInput) ∷ (not read, InvalidInput) ∷ []) left)

abbrev pub checked : Bool → Result Unit ErrorKind
checked met = unless_refused ((not met, InvalidInput) ∷ []) tt

passed_both : (met read : Bool) (left : Left) → Ok tt ≡ checked met → Ok tt ≡ checked read → answer met read left ≡ Ok left
passed_both true true left a b = refl
passed_both true false left a b = cc
passed_both false read left a b = cc

first_fails : (met read : Bool) (left : Left) (kind : ErrorKind) → Err kind ≡ checked met → answer met read left ≡ Err (record { kind = kind; place = None })
first_fails true read left kind e = cc
first_fails false read left kind e = cc

second_fails : (met read : Bool) (left : Left) (kind : ErrorKind) → Ok tt ≡ checked met → Err kind ≡ checked read → answer met read left ≡ Err (record { kind = kind; place = None })
second_fails true true left kind a b = cc
second_fails true false left kind a b = cc
second_fails false read left kind a b = cc

module _ (k : Kept) (t : TransformDef) (c : TablesChanged) where
  -- all rows agree where each stream is as they expect
  agree : (after : Streams) → list_all (table_agrees k t c.tables.streams after) (c.tables.tables ++ map (table_staying k.database) (filter (λ e. stays k.database c.told c.tables e.0) k.database.tables))
      ≡ list_all (is_met after) (all_expected k t c)
  agree after =
      let is_in = λ (e : List ℕ × TableCells). stays k.database c.told c.tables e.0 in
      let staying = map (table_staying k.database) (filter is_in k.database.tables) in
      list_all-append (table_agrees k t c.tables.streams after) c.tables.tables staying
      ∙ ap₂ ◌&&◌ (tables_agree k t c.tables.streams after c.tables.tables) (staying_agree k t c.tables.streams after k.database is_in k.database.tables)
      ∙ sym (list_all-append (is_met after) (flat_map (table_expects k t c.tables.streams) c.tables.tables) (flat_map (staying_expects k t c) k.database.tables))

  module _ (pool : Pool) (streams : Streams) (pool_is : pool ≡ pool_left k.database.pool t c.tables.pool) (streams_are : streams ≡ streams_left k pool.long c.tables) where
    finished_by : finished k t c ≡ answer (list_all (is_met streams) (all_expected k t c)) (texts_read_back pool) (left_with pool streams)
    finished_by =
        ap (λ (p : Pool). answer (streams_agree k t c.told c.tables p.long) (texts_read_back p) (left_with p (streams_left k p.long c.tables))) (sym pool_is)
        ∙ ap (λ (ss : Streams). answer (list_all (table_agrees k t c.tables.streams ss) (tables_left k.database c.told c.tables)) (texts_read_back pool) (left_with pool ss)) (sym streams_are)
        ∙ ap (λ b. answer b (texts_read_back pool) (left_with pool streams)) (agree streams)

    module _ (expected : List Expected) (expected_are : expected ≡ all_expected k t c) where
      finished_with : finished k t c ≡ answer (list_all (is_met streams) expected) (texts_read_back pool) (left_with pool streams)
      finished_with = finished_by ∙ ap (λ (es : List Expected). answer (list_all (is_met streams) es) (texts_read_back pool) (left_with pool streams)) (sym expected_are)

      pub all_kept : Ok tt ≡ checked (list_all (is_met streams) expected) → Ok tt ≡ checked (texts_read_back pool) → finished k t c ≡ Ok (left_with pool streams)
      all_kept met read = finished_with ∙ passed_both _ _ (left_with pool streams) met read

      pub streams_refused : (kind : ErrorKind) → Err kind ≡ checked (list_all (is_met streams) expected) → finished k t c ≡ Err (record { kind = kind; place = None })
      streams_refused kind unmet = finished_with ∙ first_fails _ _ (left_with pool streams) kind unmet

      pub texts_refused : (kind : ErrorKind) → Ok tt ≡ checked (list_all (is_met streams) expected) → Err kind ≡ checked (texts_read_back pool) → finished k t c ≡ Err (record { kind = kind; place = None })
      texts_refused kind met unread = finished_with ∙ second_fails _ _ (left_with pool streams) kind met unread

-- THE NAMES OF WHICH SOMETHING IS SAID

bool_is : (a b : Bool) → (a ≡ true → b ≡ true) → (b ≡ true → a ≡ true) → a ≡ b
bool_is true b f g = sym (f refl)
bool_is false true f g = g refl
bool_is false false f g = refl

same_name : (name other : List ℕ) → eq_by_cmp name_cmp name other ≡ bytes_eq name other
same_name name other = bool_is _ _
    (λ e. (bytes_decides name other).1 (exact_names name other (is_equal _ e)))
    (λ e. ap (eq_by_cmp name_cmp name) (sym ((bytes_decides name other).0 e)) ∙ (eq_by_cmp_equiv names_total).refl name)

one_more : (b c : Bool) → cond b true c ≡ (c || (b || false))
one_more true true = refl
one_more true false = refl
one_more false true = refl
one_more false false = refl

pub name_added : (set new : BTreeSet (List ℕ)) (said : List Stored) (i : ℕ) (stored : Stored) (name : List ℕ) → i < length said → stored ≡ get_or said i stored → name ≡ stored.name
    → HasNames set (take i said) → Updates name_cmp set new name true → HasNames new (take (i + 1) said)
name_added set new said i stored name inside at named has updated q =
    updated.0 q ∙ ap (λ b. cond b true (contains name_cmp set q)) (same_name name q)
    ∙ ap (cond (bytes_eq name q) true) (has q) ∙ ap (λ (n : List ℕ). cond (bytes_eq n q) true (is_said (take i said) q)) named
    ∙ one_more (bytes_eq stored.name q) (is_said (take i said) q)
    ∙ sym (list_any-append (λ (s : Stored). bytes_eq s.name q) (take i said) (stored ∷ []))
    ∙ ap (λ (ss : List Stored). is_said ss q) (sym (take_more said i stored inside ∙ ap (λ (s : Stored). take i said ++ s ∷ []) (sym at)))
