-- Worked examples of calls, by computation.
use Rattle.std.specs.Prelude.{◌≡◌, ℕ, true, false, List, [], ◌∷◌, Option, Some, None, refl, codes, map, length, pos, drop, option_map, Result, Ok, Err, slice_get, replicate}
use Rattle.msi_base.specs.declared.errors.ErrorKind.{ErrorKind}
use Rattle.msi_base.specs.declared.errors.ErrorKind.TheVariants.{AlreadyExists, InvalidInput}
use Rattle.msi_pool.specs.Pool.{Place, pool_stream}
use Rattle.msi_pool.specs.FirstFit.{taken}
use Rattle.msi_table_values.specs.declared.value.Value.{Value}
use Rattle.msi_table_values.specs.declared.value.Value.TheVariants.{Int, Str}
use Rattle.msi_table_values.specs.declared.column.ColumnType.TheVariants.{Int16, Int32}
use Rattle.msi_table_values.specs.declared.column.ColumnType.TheVariants as coltype
use Rattle.msi_table_values.specs.Columns.{ColumnDef}
use Rattle.msi_database_schema.specs.Keys.{table_key}
use Rattle.msi_database.specs.Database.{is_sound}
use Rattle.msi_query.specs.Queries.{no_clauses, table}
use Rattle.msi.specs.declared.kinds.PackageType.TheVariants as kind
use Rattle.msi_database_schema.specs.System.{plain_column, key, nullable}
use Rattle.msi.specs.State.{State}
use Rattle.msi_database_storage.specs.Streams.{stream_at}
use Rattle.msi.specs.Calls.{Call, Answer}
use Rattle.msi.specs.Calls as calls
use Rattle.msi.specs.Steps.{outcome}
use Rattle.msi.specs.Runs.{fresh}

abbrev pub state_after : State → Call → State
state_after s c = (outcome 0 s c).1

abbrev answer_to : State → Call → Result Answer ErrorKind
answer_to s c = (outcome 0 s c).0

abbrev pub int : ℕ → Value
int n = Int (pos n)

abbrev pub numbers : List ColumnDef
numbers = key (plain_column (codes "Number") Int16) ∷ nullable (plain_column (codes "Word") (coltype.Str 50)) ∷ []

abbrev pub with_numbers : State
with_numbers = state_after (fresh kind.Installer) (calls.create_table (codes "Numbers") numbers)

abbrev pub insertion : List (List Value) → Call
insertion rows = calls.insert_rows (record { table = codes "Numbers"; columns = []; rows = rows })

abbrev pub filled : State
filled = state_after with_numbers (insertion ((int 2 ∷ Str (codes "Two") ∷ []) ∷ (int 4 ∷ Str (codes "Four") ∷ []) ∷ (int 1 ∷ Str (codes "One") ∷ []) ∷ []))

abbrev numbers_stream : State → Option (List ℕ)
numbers_stream s = stream_at (table_key (codes "Numbers")) s.kept.streams

abbrev place_at : State → ℕ → Option Place
place_at s number = slice_get s.kept.database.pool.places number

stored : numbers_stream filled ≡ Some (1 ∷ 0x80 ∷ 2 ∷ 0x80 ∷ 4 ∷ 0x80 ∷ 0x17 ∷ 0 ∷ 0x15 ∷ 0 ∷ 0x16 ∷ 0 ∷ [])
unfolding Rattle.std.specs.Str.chars
stored = refl

-- dropped: places 18 to 23 are free, `N` has count 3 again, and the next text takes place 18
abbrev dropped : State
dropped = state_after filled (calls.drop_table (codes "Numbers"))

dropped_pool : option_map {T = List ℕ} {U = ℕ × List ℕ} (λ bytes. (length bytes, drop 72 bytes)) (pool_stream dropped.kept.database.pool) ≡ Some (96, replicate 24 0)
unfolding Rattle.std.specs.Str.chars
dropped_pool = refl

dropped_stream : numbers_stream dropped ≡ None
unfolding Rattle.std.specs.Str.chars
dropped_stream = refl

next_place : option_map (λ r. r.0) (taken false dropped.kept.database.pool.places (codes "fresh")) ≡ Some 18
unfolding Rattle.std.specs.Str.chars
next_place = refl

-- Word set to Five everywhere
abbrev fives : State
fives = state_after filled (calls.update_rows (record { table = codes "Numbers"; sets = (codes "Word", Str (codes "Five")) ∷ []; condition = None }))

fives_stream : numbers_stream fives ≡ Some (1 ∷ 0x80 ∷ 2 ∷ 0x80 ∷ 4 ∷ 0x80 ∷ 0x17 ∷ 0 ∷ 0x15 ∷ 0 ∷ 0x15 ∷ 0 ∷ [])
unfolding Rattle.std.specs.Str.chars
fives_stream = refl

fives_places : map (place_at fives) (20 ∷ 21 ∷ 22 ∷ []) ≡ Some (record { text = codes "Five"; count = 2 }) ∷ Some (record { text = []; count = 0 }) ∷ Some (record { text = codes "Five"; count = 1 }) ∷ []
unfolding Rattle.std.specs.Str.chars
fives_places = refl

-- a row with a null word comes and goes; then all rows go
abbrev all_gone : State
all_gone = state_after filled (calls.delete_rows (record { table = codes "Numbers"; condition = None }))

gone : map (place_at all_gone) (20 ∷ 21 ∷ 22 ∷ []) ≡ replicate 3 (Some (record { text = []; count = 0 }))
unfolding Rattle.std.specs.Str.chars
gone = refl

gone_stream : numbers_stream all_gone ≡ None
unfolding Rattle.std.specs.Str.chars
gone_stream = refl

-- refusals
twice : answer_to filled (insertion ((int 6 ∷ Str (codes "Six") ∷ []) ∷ (int 6 ∷ Str (codes "Six") ∷ []) ∷ [])) ≡ Err InvalidInput
unfolding Rattle.std.specs.Str.chars
twice = refl

held : answer_to filled (insertion ((int 2 ∷ Str (codes "x") ∷ []) ∷ [])) ≡ Err AlreadyExists
unfolding Rattle.std.specs.Str.chars
held = refl

keys_collide : answer_to filled (calls.update_rows (record { table = codes "Numbers"; sets = (codes "Number", int 5) ∷ []; condition = None })) ≡ Err AlreadyExists
unfolding Rattle.std.specs.Str.chars
keys_collide = refl

barred : answer_to filled (calls.insert_rows (record { table = codes "_Tables"; columns = []; rows = [] })) ≡ Err InvalidInput
unfolding Rattle.std.specs.Str.chars
barred = refl

long_name : answer_to filled (calls.create_table (codes "Other") (key (plain_column (replicate 33 97) Int16) ∷ [])) ≡ Err InvalidInput
unfolding Rattle.std.specs.Str.chars
long_name = refl

validation_update : map (answer_to filled) (
    calls.update_rows (record { table = codes "_Validation"; sets = (codes "Description", Str (codes "x")) ∷ []; condition = None })
    ∷ calls.update_rows (record { table = codes "_Validation"; sets = (codes "Description", Str (codes "x")) ∷ (codes "Category", Str (codes "Text")) ∷ []; condition = None }) ∷ [])
    ≡ Ok calls.done ∷ Err InvalidInput ∷ []
unfolding Rattle.std.specs.Str.chars
validation_update = refl

-- selected rows, in stored order
abbrev rows_in_answer : Result Answer ErrorKind → Option (List (List Value))
rows_in_answer (Ok (calls.rows_are columns rows)) = Some rows
rows_in_answer _ = None

selected_rows : rows_in_answer (answer_to filled (calls.select_rows (table (codes "Numbers") no_clauses)))
    ≡ Some ((int 1 ∷ Str (codes "One") ∷ []) ∷ (int 2 ∷ Str (codes "Two") ∷ []) ∷ (int 4 ∷ Str (codes "Four") ∷ []) ∷ [])
unfolding Rattle.std.specs.Str.chars
selected_rows = refl

still_sound : is_sound fives.kept.database ≡ true
unfolding Rattle.std.specs.Str.chars
still_sound = refl

-- a column added: zeros behind the old stream, and a text that two cells more name
abbrev lengthened : State
lengthened = state_after filled (calls.add_column (codes "Numbers") (nullable (plain_column (codes "Size") Int32)))

lengthened_stream : numbers_stream lengthened ≡ Some (1 ∷ 0x80 ∷ 2 ∷ 0x80 ∷ 4 ∷ 0x80 ∷ 0x17 ∷ 0 ∷ 0x15 ∷ 0 ∷ 0x16 ∷ 0 ∷ replicate 12 0)
unfolding Rattle.std.specs.Str.chars
lengthened_stream = refl

lengthened_place : place_at lengthened 23 ≡ Some (record { text = codes "Size"; count = 2 })
unfolding Rattle.std.specs.Str.chars
lengthened_place = refl

columns_refused : map (answer_to filled) (
    calls.add_column (codes "Numbers") (key (plain_column (codes "Size") Int32))
    ∷ calls.add_column (codes "Numbers") (plain_column (codes "Size") Int32)
    ∷ calls.add_column (codes "Numbers") (nullable (plain_column (codes "Size") coltype.Binary))
    ∷ calls.add_column (codes "Numbers") (nullable (plain_column (codes "Word") Int32))
    ∷ calls.add_column (codes "_Validation") (nullable (plain_column (codes "Size") Int32)) ∷ []) ≡ replicate 5 (Err InvalidInput)
unfolding Rattle.std.specs.Str.chars
columns_refused = refl
