-- The records of a transform's tables: which tables have some, all of them read, and applied in turn.
use Rattle.std.specs.Prelude.{ℕ, ◌+◌, Bool, List, [], ◌∷◌, length, if◌then◌else◌, bytes_eq, ◌||◌}
use Rattle.std.specs.Prelude.{is_some, Result, Ok, Err}
use Rattle.std.specs.Option.{option_map_or}
use Rattle.msi_base.specs.declared.errors.ErrorKind.{ErrorKind}
use Rattle.msi_base.specs.declared.errors.ErrorKind.TheVariants.{InvalidData}
use Rattle.msi_database_schema.specs.System.{columns_name, tables_name}
use Rattle.msi_transform_records.specs.declared.records.Record.{Record}
use Rattle.msi_transform_records.specs.declared.shape.Shape.{Shape}
use Rattle.msi_transform_records.specs.Records.{leading, records_in}
use Rattle.msi_transform_rows.specs.RecordRefusals.{◌>>=◌, Refusal, at_record, in_turn_from}
use Rattle.msi_transform.specs.Transforms.{TransformDef, records_for}

abbrev pub changes_schema : TransformDef → Bool
changes_schema t = is_some (records_for tables_name t) || is_some (records_for columns_name t)

-- the place of a table among those of the transform; where it has none, that behind the last
abbrev pub place_among : List ℕ → List (List ℕ × List ℕ) → ℕ
place_among name [] = 0
place_among name (e ∷ es) = if bytes_eq e.0 name then 0 else place_among name es + 1

abbrev pub number_of : TransformDef → List ℕ → ℕ
number_of t name = place_among name t.tables

-- a table's records, all read before the first is applied
abbrev pub read_for : ℕ → TransformDef → List Shape → List ℕ → Result (List Record) Refusal
read_for table t shapes bytes = option_map_or Ok (records_in shapes t.pool bytes)
    (at_record table (length (leading shapes t.pool bytes).0) (Err InvalidData))

abbrev pub all_applied : {S : Type 0} → ℕ → TransformDef → List Shape → List ℕ
    → (S → Record → Result S ErrorKind) → S → Result S Refusal
all_applied table t shapes bytes step s =
    read_for table t shapes bytes >>= λ records. in_turn_from table step 0 s records
