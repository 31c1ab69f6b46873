-- A transform applied to a database: what it leaves is read, and its counts are made true.
use Rattle.std.specs.Prelude.{ℕ, List, map, Option, option_map, Result}
use Rattle.msi_base.specs.declared.errors.ErrorKind.{ErrorKind}
use Rattle.msi_base.specs.declared.errors.ErrorKind.TheVariants.{InvalidData}
use Rattle.msi_base.specs.Refusals.{or_refused, unless_refused}
use Rattle.msi_pool.specs.Pool.{Pool, with_named_texts}
use Rattle.msi_table.specs.Tables.{TableDef}
use Rattle.msi_database_schema.specs.Schema.{table_with}
use Rattle.msi_database_changes.specs.Changes.{sound_refusal}
use Rattle.msi_database_changes.specs.Recounting.{recount_refusals}
use Rattle.msi_database_storage.specs.Agreement.{is_shown, schema_in}
use Rattle.msi_database_storage.specs.Kept.{Kept, database_kept, kept_of}
use Rattle.msi_database_storage.specs.Streams.{Streams}
use Rattle.msi_transform.specs.Transforms.{TransformDef}
use Rattle.msi_transform.specs.declared.conditions.ErrorConditions.{ErrorConditions}
use Rattle.msi_transform_applying.specs.Applying.{◌>>=◌, Left, Refusal, applied, nowhere}
use Rattle.msi_database.specs.Recounting.{after_recount}

-- a database as it is read: a free place has lost its text where no cell names it
abbrev pub shown_with : Pool → List TableDef → Streams → Pool
shown_with raw tables streams =
    record raw { places = with_named_texts (is_shown streams (database_kept raw tables streams)) raw.places }

abbrev pub read_with : Pool → Streams → List TableDef → Kept
read_with raw streams tables = kept_of (shown_with raw tables streams) tables streams

-- the database of a pool and of streams, if the rows of the system tables describe one
abbrev pub database_read : Pool → Streams → Option Kept
database_read raw streams =
    option_map (λ listed. read_with raw streams (map (table_with raw.long) listed)) (schema_in streams raw)

-- a database whose counts are made true
abbrev pub with_true_counts : Kept → Result Kept ErrorKind
with_true_counts k = unless_refused (recount_refusals k.database) (after_recount k)

-- what is left, read
abbrev pub opened : Left → Result Kept Refusal
opened left = nowhere (or_refused InvalidData (database_read left.pool left.streams)) >>=
    λ k. nowhere (with_true_counts k)

-- a transform applied to a database whose page has this id as it is stored
abbrev pub apply_transform : Kept → ℕ → TransformDef → ErrorConditions → Result Kept Refusal
apply_transform k page_id t passing = nowhere (unless_refused (sound_refusal k.database) k) >>=
    λ k. applied k page_id t passing >>= opened
