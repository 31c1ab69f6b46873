-- Applying a transform that is made to the old package, where no table has a column of streams.
use Rattle.std.proofs.Common.{◌≡◌, ℕ, Bool, true, false, not, ◌||◌, List, [], ◌∷◌, ◌++◌, map, filter, refl, sym, ap, subst, ◌∙◌}
use Rattle.std.specs.Prelude.{Option, None, Result, option_map, unwrap_or, ◌==◌, if◌then◌else◌}
use Rattle.std.specs.FinMap.{find}
use Rattle.std.specs.List.{AllByRecursion, list_all, list_any}
use Rattle.std.specs.Ordering.{eq_by_cmp}
use Rattle.msi_base.specs.Lists.{list_cmp}
use Rattle.msi_base.specs.Refusals.{first_refusal, unless}
use Rattle.msi_base.specs.declared.codepage.CodePage.{CodePage}
use Rattle.msi_base.specs.declared.codepage.CodePage.TheVariants.{Utf8}
use Rattle.msi_base.specs.declared.errors.ErrorKind.{ErrorKind}
use Rattle.msi_base.specs.declared.errors.ErrorKind.TheVariants.{InvalidInput}
use Rattle.msi_base.proofs.BoolLemmas.{by_test}
use Rattle.msi_pool.specs.Pool.{Place}
use Rattle.msi_pool.specs.FirstFitLaws.{TakenPlacesHoldTheirText, GivenBackTakesOne}
use Rattle.msi_table_cells.specs.TableCells.{TableCells}
use Rattle.msi_table_values.specs.Columns.{ColumnDef}
use Rattle.msi_database_changes.specs.Database.{Database, Tables}
use Rattle.msi_database_changes.specs.declared.storing.Stored.{Stored}
use Rattle.msi_database_schema.specs.System.{columns_columns, columns_name, tables_columns, tables_name}
use Rattle.msi_database_storage.specs.Kept.{Kept}
use Rattle.msi_database_storage.specs.Streams.{Streams}
use Rattle.msi_transform_records.specs.declared.shape.Shape.{Shape}
use Rattle.msi_transform.specs.Transforms.{TransformDef, shapes_of}
use Rattle.msi_transform.specs.declared.conditions.ErrorConditions.{ErrorConditions}
use Rattle.msi_transform_rows.specs.RecordRefusals.{Refusal, nowhere, ◌>>=◌}
use Rattle.msi_transform_rows.specs.RowStreams.{has_streams, is_of_streams}
use Rattle.msi_transform_applying.specs.Applying.{TableAnew, TablesChanged, changed_with, finished, pool_left, reads_back, stays, streams_agree, streams_left, system_anew, systems_anew, table_agrees, table_staying, texts_read_back}
use Rattle.msi_transform_making.specs.Making.{Pair, columns_in_table}
use Rattle.msi_transform_laws.specs.MadeApplied.{HasNoStreams, MadeTransformsAreApplied, TablesWithoutStreamsAreStored, left_of}
use Rattle.msi_transform_laws.specs.TablesChanged.{HasNewRows}
use Rattle.msi_transform_laws.proofs.NewTablesLemmas.{all_joined, made_transforms_give_new_tables}
use Rattle.msi_transform_laws.proofs.SchemaListsLemmas.{all_passing}

-- NOTHING IS REFUSED

abbrev IsPlain : TableAnew → Type 0
IsPlain table = has_streams table.columns ≡ false

abbrev IsPlainTable : List ℕ × TableCells → Type 0
IsPlainTable e = has_streams e.1.columns ≡ false

all_agree : (k : Kept) (t : TransformDef) (said : List Stored) (after : Streams) (tables : List TableAnew) → AllByRecursion IsPlain tables → list_all (table_agrees k t said after) tables ≡ true
all_agree k t said after [] h = refl
all_agree k t said after (table ∷ tables) h = rw h.0 (all_agree k t said after tables h.1)

all_staying : (d : Database) (es : Tables) → AllByRecursion IsPlainTable es → AllByRecursion IsPlain (map (table_staying d) es)
all_staying d [] h = tt
all_staying d (e ∷ es) h = (h.0, all_staying d es h.1)

pub all_read : (places : List Place) → list_all (λ (p : Place). (p.count == 0) || reads_back Utf8 p.text) places ≡ true
all_read [] = refl
all_read (p ∷ ps) = by_test (p.count == 0) (λ b. rw b (all_read ps)) (λ b. rw b (all_read ps))

pub unrefused : (agree read : Bool) → agree ≡ true → read ≡ true → first_refusal ((not agree, InvalidInput) ∷ (not read, InvalidInput) ∷ []) ≡ None
unrefused agree read a r = rw (a, r) refl

pub tables_without_streams_are_stored : TablesWithoutStreamsAreStored
tables_without_streams_are_stored k t changed page plain_before plain =
    let d = k.database in
    let pool = pool_left d.pool t changed.tables.pool in
    let agree : streams_agree k t changed.told changed.tables pool.long ≡ true =
    all_agree k t changed.tables.streams (streams_left k pool.long changed.tables) (changed.tables.tables ++ map (table_staying d) (filter (λ e. stays d changed.told changed.tables e.0) d.tables))
    (all_joined IsPlain changed.tables.tables (map (table_staying d) (filter (λ e. stays d changed.told changed.tables e.0) d.tables)) plain
    (all_staying d (filter (λ e. stays d changed.told changed.tables e.0) d.tables) (all_passing IsPlainTable (λ e. stays d changed.told changed.tables e.0) d.tables plain_before))) in
    let read : texts_read_back pool ≡ true =
    subst (λ (page : CodePage). list_all (λ (p : Place). (p.count == 0) || reads_back page p.text) pool.places ≡ true) (sym page) (all_read pool.places) in
    ap (λ (o : Option ErrorKind). nowhere (unless o (left_of k t changed.tables))) (unrefused (streams_agree k t changed.told changed.tables pool.long) (texts_read_back pool) agree read)

-- TABLES THAT ARE STORED ANEW

by_shapes : (columns : List ColumnDef) → has_streams columns ≡ list_any (λ (s : Shape). is_of_streams s.coltype) (shapes_of columns)
by_shapes [] = refl
by_shapes (c ∷ columns) = ap (λ b. is_of_streams c.coltype || b) (by_shapes columns)

plain_at : (name : List ℕ) (es : Tables) → AllByRecursion IsPlainTable es → has_streams (unwrap_or (option_map (λ (t : TableCells). t.columns) (find list_cmp name es)) []) ≡ false
plain_at name [] h = refl
plain_at name (e ∷ es) h = by_test (eq_by_cmp list_cmp name e.0) (λ t. rw t h.0) (λ t. rw t (plain_at name es h.1))

module _ (p : Pair) (t : TransformDef) (passing : ErrorConditions) (places : List Place) (plain : HasNoStreams p.new) where
  all_plain : (done : List TableAnew) → AllByRecursion (HasNewRows p t passing places) done → AllByRecursion IsPlain done
  all_plain [] h = tt
  all_plain (table ∷ done) h = (
    by_shapes table.columns ∙ ap (list_any (λ (s : Shape). is_of_streams s.coltype)) h.0.0 ∙ sym (by_shapes (columns_in_table p.new table.name)) ∙ plain_at table.name p.new.database.tables plain,
    all_plain done h.1,
  )

pub made_transforms_are_applied : TakenPlacesHoldTheirText → GivenBackTakesOne → MadeTransformsAreApplied
made_transforms_are_applied takes gives p t passing others is can adds changes streams passes counts fits plain plain_too page =
    let (schema, after, done, ran, are) = made_transforms_give_new_tables takes gives p t passing others is can adds changes streams passes counts fits in
    let systems : AllByRecursion IsPlain (systems_anew t schema) =
    subst (λ (b : Bool). AllByRecursion IsPlain (if b then system_anew tables_name tables_columns schema.listed ∷ system_anew columns_name columns_columns schema.described ∷ [] else [])) (sym changes) (refl, (refl, tt)) in
    let all : AllByRecursion IsPlain after.tables =
    subst (AllByRecursion IsPlain) (sym are.tables) (all_joined IsPlain (systems_anew t schema) done systems (all_plain p t passing after.pool.places plain_too done are.rows)) in (
      schema,
      after,
      done,
      ap (λ (r : Result TablesChanged Refusal). r >>= finished p.old t) ran ∙ tables_without_streams_are_stored p.old t (changed_with schema.tables after) page plain all,
      are,
    )
