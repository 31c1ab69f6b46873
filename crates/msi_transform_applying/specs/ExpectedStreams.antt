-- The streams that rows are to have once a transform is applied: what the agreement of rows comes to.
use Rattle.std.specs.Prelude.{◌≡◌, ℕ, Bool, List, [], ◌∷◌, ◌++◌, Option, None, if◌then◌else◌}
use Rattle.std.specs.BTreeSet.{BTreeSet, contains}
use Rattle.std.specs.List.{flat_map}
use Rattle.std.specs.Option.{option_map_or}
use Rattle.msi_container_format.specs.Names.{name_cmp}
use Rattle.msi_database_changes.specs.declared.storing.Stored.{Stored}
use Rattle.msi_database_storage.specs.Kept.{Kept}
use Rattle.msi_database_storage.specs.Streams.{Streams, stream_at}
use Rattle.msi_table_cells.specs.TableCells.{TableCells}
use Rattle.msi_table_values.specs.declared.value.Value.{Value}
use Rattle.msi_transform.specs.Transforms.{TransformDef}
use Rattle.msi_transform_applying.specs.Applying.{TableAnew, TablesChanged, is_said, same_stream, stays, table_staying}
use Rattle.msi_transform_rows.specs.RowStreams.{has_streams, row_stream}
use Rattle.msi_transform_rows.specs.declared.row.RowInHand.{RowInHand}
use Rattle.msi_transform_rows.specs.declared.row.RowStream.{RowStream}
use Rattle.msi_transform_rows.specs.declared.row.RowStream.TheVariants.{AsBefore, Gone, Brought}

-- a stream by its name, and the bytes that it is to have, if it is to be there
abbrev pub Expected : Type 0
Expected = List ℕ × Option (List ℕ)

abbrev pub is_met : Streams → Expected → Bool
is_met after e = same_stream (stream_at e.0 after) e.1

-- a set has the names of the streams of which something is said
abbrev pub HasNames : BTreeSet (List ℕ) → List Stored → Type 0
HasNames set said = (name : List ℕ) → contains name_cmp set name ≡ is_said said name

-- What a row expects of the stream of its name: one that stays, and of which nothing is said, expects nothing
abbrev pub expected_of : Kept → TransformDef → List Stored → RowStream → List ℕ → List Expected
expected_of k t said AsBefore name = if is_said said name then (name, stream_at name k.streams) ∷ [] else []
expected_of k t said Gone name = (name, None) ∷ []
expected_of k t said Brought name = (name, stream_at name t.streams) ∷ []

abbrev pub expected_at : Kept → TransformDef → List Stored → List ℕ → List Value → RowStream → List Expected
expected_at k t said table key stream = option_map_or (expected_of k t said stream) (row_stream table key) []

abbrev pub row_expects : Kept → TransformDef → List Stored → List ℕ → List Value × RowInHand → List Expected
row_expects k t said table e = expected_at k t said table e.0 e.1.stream

-- the rows of a table, of one that stays as it is, and of all
abbrev pub table_expects : Kept → TransformDef → List Stored → TableAnew → List Expected
table_expects k t said table = if has_streams table.columns
    then flat_map (row_expects k t said table.name) table.rows else []

abbrev pub staying_expects : Kept → TransformDef → TablesChanged → List ℕ × TableCells → List Expected
staying_expects k t c e = if stays k.database c.told c.tables e.0
    then table_expects k t c.tables.streams (table_staying k.database e) else []

abbrev pub all_expected : Kept → TransformDef → TablesChanged → List Expected
all_expected k t c = flat_map (table_expects k t c.tables.streams) c.tables.tables
    ++ flat_map (staying_expects k t c) k.database.tables
