-- What each call on a package answers and leaves.
use Rattle.std.specs.Prelude.{◌≡◌, ℕ, ◌⊎◌, Bool, true, false, not, List, [], ◌∷◌, ◌++◌, map, filter, Option, Some, None}
use Rattle.std.specs.Prelude.{option_and_then, unwrap_or, ◌&&◌, ◌||◌, if◌then◌else◌, IsTrue, Result, Ok}
use Rattle.std.specs.Prelude.{Err, MatchBool, nat_lt}
use Rattle.std.specs.FinMap.{from_sorted}
use Rattle.msi_base.specs.declared.codepage.CodePage.{CodePage}
use Rattle.msi_base.specs.declared.errors.ErrorKind.{ErrorKind}
use Rattle.msi_base.specs.declared.errors.ErrorKind.TheVariants.{InvalidInput, NotFound, Io, OutOfMemory}
use Rattle.msi_summary.specs.Properties.{Properties}
use Rattle.msi_container_format.specs.declared.contents.Contents.{Contents}
use Rattle.msi_container_write.specs.Layout.{layout, refuses}
use Rattle.msi_base.specs.Refusals.{AnswersWith, Refusals, first_refusal, unless_refused, or_refused, ◌>>=◌}
use Rattle.msi_query.specs.Rows.{columns_read}
use Rattle.msi_query.specs.Selection.{early_refusal, relation_of}
use Rattle.msi_database_schema.specs.Keys.{is_stream_name, stream_key, signature_key, signature_ex_key}
use Rattle.msi_database.specs.Database.{Database, has_table, table_at, values_of}
use Rattle.msi_database.specs.Changes.{Change, sound_refusal}
use Rattle.msi_database.specs.Insert.{early_insert_refusals, insert_rows}
use Rattle.msi_database.specs.Update.{early_update_refusals, update_rows}
use Rattle.msi_database.specs.Delete.{delete_rows, early_delete_refusals}
use Rattle.msi_database.specs.Create.{create_table}
use Rattle.msi_database.specs.Drop.{drop_table, early_drop_refusals}
use Rattle.msi_database.specs.AddColumn.{add_column, early_column_refusals}
use Rattle.msi_database.specs.RecountedDatabases.{counts_changed, early_recount_refusals, recount}
use Rattle.msi_database_storage.specs.Streams.{Streams, stream_at, has_stream_at, with_stream, without_stream}
use Rattle.msi_database_storage.specs.Kept as databases
use Rattle.msi_database_storage.specs.Kept.{Kept}
use Rattle.msi_database.specs.Creating.{create_refusals}
use Rattle.msi_database.specs.Listed.{table_def_at, tables_listed}
use Rattle.msi_database.specs.Listed as listed
use Rattle.msi_database.specs.Recounting as recounts
use Rattle.msi_streams.specs.Listing.{is_listed, text_of_key}
use Rattle.msi.specs.Renewing.{pool_over, summary_over}
use Rattle.msi.specs.Renewing as renewals
use Rattle.msi.specs.Kinds.{clsid_of}
use Rattle.msi_transform_rows.specs.RecordRefusals.{Refusal}
use Rattle.msi.specs.State.{Parts, State, parts_of}
pub use Rattle.msi.specs.State.{storage_refusal}
use Rattle.msi.specs.Transforming.{IsLeft, after_transform, transforming}
use Rattle.msi.specs.Calls.{Call, Answer}
use Rattle.msi.specs.Calls as calls
use Rattle.msi.specs.Lent.{RunsTo, summary_outcome, summary_wants_memory, reader_outcome, reader_wants_memory}
use Rattle.msi.specs.Lent.{writer_outcome, writer_wants_memory, Cursor, at_start}

-- what a change of tables leaves
abbrev pub after_change : State → Change → State
after_change s c = record s {
  kept = databases.after_change s.kept c;
  is_unwritten = true;
  is_pool_changed = s.is_pool_changed || c.is_pool_used;
}

abbrev pub changing : Parts → (Database → Result Change ErrorKind) → Result Change ErrorKind
changing p change = unless_refused (storage_refusal p) p.database >>= change

abbrev pub changed : State → Result Change ErrorKind → Result Answer ErrorKind × State
changed s (Ok c) = (Ok calls.done, after_change s c)
changed s (Err kind) = (Err kind, s)

-- A recount: its answer, and what it leaves
abbrev pub recounting : Parts → Result ℕ ErrorKind
recounting p = unless_refused (storage_refusal p) p.database >>= recount

abbrev pub after_recount : State → State
after_recount s = record s {
  kept = recounts.after_recount s.kept;
  is_unwritten = true;
  is_pool_changed = s.is_pool_changed || nat_lt 0 (counts_changed s.kept.database);
}

abbrev pub recounted : State → Result ℕ ErrorKind → Result Answer ErrorKind × State
recounted s (Ok changed) = (Ok (calls.count_is changed), after_recount s)
recounted s (Err kind) = (Err kind, s)

-- an applied transform leaves its database, or is refused with the kind of its refusal
abbrev pub transformed : State → Result Kept Refusal → Result Answer ErrorKind × State
transformed s (Ok k) = (Ok calls.done, after_transform s k)
transformed s (Err refusal) = (Err refusal.kind, s)

-- The root's other streams
abbrev pub with_streams : (Streams → Streams) → State → State
with_streams edit s = record s { kept = record s.kept { streams = edit s.kept.streams }; is_unwritten = true }

abbrev pub without_signature : Streams → Streams
without_signature streams = without_stream signature_key (without_stream signature_ex_key streams)

abbrev pub stream_names : Parts → List (List ℕ)
stream_names p = map (λ s. text_of_key s.0) (filter (λ s. is_listed s.0) p.streams)

abbrev pub has_stream : Parts → List ℕ → Bool
has_stream p name = is_stream_name name && has_stream_at (stream_key name) p.streams

abbrev pub bytes_of_stream : Parts → List ℕ → List ℕ
bytes_of_stream p name = unwrap_or (stream_at (stream_key name) p.streams) []

abbrev pub name_refusals : Parts → List ℕ → Refusals
name_refusals p name = storage_refusal p ++ (not (is_stream_name name), InvalidInput) ∷ []

-- What a flush writes: the summary anew where it was lent, the pool where it was changed; nothing where the page can't
-- carry a text
abbrev pub with_summary : State → Streams → Option Streams
with_summary s streams = summary_over s.is_summary_lent s.summary streams

abbrev pub with_pool : State → Streams → Option Streams
with_pool s streams = pool_over s.is_pool_changed s.kept.database.pool streams

abbrev pub streams_written : State → Option Streams
streams_written s = option_and_then (with_pool s) (with_summary s s.kept.streams)

-- why nothing is written: a page can't encode a text
abbrev pub text_refusals : State → Refusals
text_refusals s = renewals.text_refusals s.is_summary_lent s.summary s.is_pool_changed s.kept.database.pool

abbrev pub flush_refusals : State → Refusals
flush_refusals s = if s.is_unwritten then text_refusals s else []

abbrev pub contents_of : State → Streams → Contents
contents_of s streams = record {
  clsid = clsid_of s.kind;
  streams = from_sorted streams;
  has_storages = s.has_storages;
}

abbrev pub image_refusals : State → ℕ → Streams → Refusals
image_refusals s earlier_len streams = (refuses (contents_of s streams) earlier_len, InvalidInput) ∷ []

abbrev pub written_for : State → ℕ → Result Streams ErrorKind
written_for s earlier_len = or_refused InvalidInput (streams_written s)
    >>= λ streams. unless_refused (image_refusals s earlier_len streams) streams

abbrev pub image_of : State → ℕ → Result (List ℕ) ErrorKind
image_of s earlier_len = written_for s earlier_len >>= λ streams. Ok (layout (contents_of s streams) earlier_len)

abbrev pub as_written : State → Streams → State
as_written s streams = record s {
  kept = record s.kept { streams = streams };
  is_unwritten = false;
  is_summary_lent = false;
  is_pool_changed = false;
}

abbrev pub flushed : State → Result Streams ErrorKind → Result Answer ErrorKind × State
flushed s (Ok streams) = (Ok calls.done, as_written s streams)
flushed s (Err kind) = (Err kind, s)

abbrev pub flush_outcome : State → ℕ → Result Answer ErrorKind × State
flush_outcome s earlier_len = if s.is_unwritten then flushed s (written_for s earlier_len) else (Ok calls.done, s)

-- a call that changes the state, unless it is refused
abbrev pub leaving_or : Option ErrorKind → State → State → Result Answer ErrorKind × State
leaving_or None old new = (Ok calls.done, new)
leaving_or (Some kind) old new = (Err kind, old)

abbrev pub leaving : State → Refusals → State → Result Answer ErrorKind × State
leaving old refusals new = leaving_or (first_refusal refusals) old new

abbrev pub with_page : CodePage → State → State
with_page page s = record s { kept = listed.with_page page s.kept; is_unwritten = true; is_pool_changed = true }

abbrev pub with_lent_summary : State → State
with_lent_summary s = record s { is_summary_lent = true; is_unwritten = true }

abbrev pub answer_of : {A : Type 0} → (A → Answer) → Result A ErrorKind → Result Answer ErrorKind
answer_of f (Ok x) = Ok (f x)
answer_of f (Err kind) = Err kind

-- what each call that lends nothing answers and leaves; `earlier_len` is how many bytes the device holds
abbrev pub outcome : ℕ → State → Call → Result Answer ErrorKind × State
outcome earlier_len s calls.package_type = (Ok (calls.kind_is s.kind), s)
outcome earlier_len s calls.database_codepage = (Ok (calls.page_is s.kept.database.pool.page), s)
outcome earlier_len s (calls.has_table name) = (Ok (calls.flag_is (has_table name s.kept.database)), s)
outcome earlier_len s (calls.get_table name) =
    (Ok (calls.table_is (table_def_at name s.kept.database)), s)
outcome earlier_len s calls.tables = (Ok (calls.tables_are (tables_listed s.kept.database)), s)
outcome earlier_len s (calls.has_stream name) = (Ok (calls.flag_is (has_stream (parts_of s) name)), s)
outcome earlier_len s calls.streams = (Ok (calls.names_are (stream_names (parts_of s))), s)
outcome earlier_len s calls.has_digital_signature =
    (Ok (calls.flag_is (has_stream_at signature_key (parts_of s).streams)), s)
outcome earlier_len s (calls.select_rows query) =
    (answer_of (λ r. calls.rows_are r.columns r.rows) (relation_of (values_of s.kept.database) query), s)
outcome earlier_len s (calls.insert_rows query) =
    changed s (changing (parts_of s) (λ d. insert_rows d query))
outcome earlier_len s (calls.update_rows query) =
    changed s (changing (parts_of s) (λ d. update_rows d query))
outcome earlier_len s (calls.delete_rows query) =
    changed s (changing (parts_of s) (λ d. delete_rows d query))
outcome earlier_len s (calls.create_table name columns) =
    changed s (changing (parts_of s) (λ d. create_table d name columns))
outcome earlier_len s (calls.drop_table name) = changed s (changing (parts_of s) (λ d. drop_table d name))
outcome earlier_len s (calls.add_column name column) =
    changed s (changing (parts_of s) (λ d. add_column d name column))
outcome earlier_len s (calls.apply_transform t passing) = transformed s (transforming s t passing)
outcome earlier_len s (calls.set_database_codepage page) =
    leaving s (storage_refusal (parts_of s) ++ sound_refusal s.kept.database) (with_page page s)
outcome earlier_len s (calls.remove_stream name) =
    leaving s (name_refusals (parts_of s) name ++ (not (has_stream (parts_of s) name), NotFound) ∷ [])
    (with_streams (without_stream (stream_key name)) s)
outcome earlier_len s calls.remove_digital_signature =
    leaving s (storage_refusal (parts_of s)) (with_streams without_signature s)
outcome earlier_len s calls.recount = recounted s (recounting (parts_of s))
outcome earlier_len s (calls.image n) = (answer_of calls.bytes_are (image_of s n), s)
outcome earlier_len s calls.flush = flush_outcome s earlier_len
-- the device alone knows; a session answers it (`Runs`)
outcome earlier_len s calls.device_failed = (Ok calls.done, s)
-- these lend: here what lending alone leaves
outcome earlier_len s (calls.summary_info questions) = (Ok calls.done, s)
outcome earlier_len s (calls.summary_info_mut summary_calls) =
    leaving s (storage_refusal (parts_of s)) (with_lent_summary s)
outcome earlier_len s (calls.write_stream name stream_calls) =
    leaving s (name_refusals (parts_of s) name) (with_streams (with_stream (stream_key name) []) s)
outcome earlier_len s (calls.read_stream name stream_calls) = leaving s
    ((not (is_stream_name name), InvalidInput) ∷ (not (has_stream (parts_of s) name), NotFound) ∷ []) s

abbrev pub with_summary_calls : Properties → State → State
with_summary_calls summary s = record s { summary = summary }

-- what lends is refused, or runs the calls on what it lends; the new state holds what they leave
abbrev pub Lends : State → Call → Answer → State → Type 0
Lends s (calls.summary_info questions) (calls.summary_says answers) new = (summary : Properties)
    × RunsTo summary_outcome summary_wants_memory s.summary (map calls.ask questions) answers summary × (new ≡ s)
Lends s (calls.summary_info_mut summary_calls) (calls.summary_says answers) new = (summary : Properties)
    × RunsTo summary_outcome summary_wants_memory s.summary summary_calls answers summary
    × (new ≡ with_summary_calls summary s)
Lends s (calls.write_stream name stream_calls) (calls.stream_says answers) new = (cursor : Cursor)
    × RunsTo writer_outcome writer_wants_memory (at_start []) stream_calls answers cursor
    × (new ≡ with_streams (with_stream (stream_key name) cursor.bytes) s)
Lends s (calls.read_stream name stream_calls) (calls.stream_says answers) new = (cursor : Cursor)
    × RunsTo reader_outcome reader_wants_memory (at_start (bytes_of_stream (parts_of s) name))
    stream_calls answers cursor
    × (new ≡ s)
Lends s (calls.summary_info questions) _ new = ⊥
Lends s (calls.summary_info_mut summary_calls) _ new = ⊥
Lends s (calls.write_stream name stream_calls) _ new = ⊥
Lends s (calls.read_stream name stream_calls) _ new = ⊥
Lends s calls.package_type _ new = ⊥
Lends s calls.database_codepage _ new = ⊥
Lends s (calls.has_table name) _ new = ⊥
Lends s (calls.get_table name) _ new = ⊥
Lends s calls.tables _ new = ⊥
Lends s (calls.has_stream name) _ new = ⊥
Lends s calls.streams _ new = ⊥
Lends s calls.has_digital_signature _ new = ⊥
Lends s (calls.select_rows query) _ new = ⊥
Lends s (calls.insert_rows query) _ new = ⊥
Lends s (calls.update_rows query) _ new = ⊥
Lends s (calls.delete_rows query) _ new = ⊥
Lends s (calls.create_table name columns) _ new = ⊥
Lends s (calls.drop_table name) _ new = ⊥
Lends s (calls.add_column name column) _ new = ⊥
Lends s (calls.apply_transform t passing) _ new = ⊥
Lends s (calls.set_database_codepage page) _ new = ⊥
Lends s (calls.remove_stream name) _ new = ⊥
Lends s calls.remove_digital_signature _ new = ⊥
Lends s calls.recount _ new = ⊥
Lends s (calls.image n) _ new = ⊥
Lends s calls.flush _ new = ⊥
Lends s calls.device_failed _ new = ⊥

abbrev pub is_lending : Call → Bool
is_lending (calls.summary_info questions) = true
is_lending (calls.summary_info_mut summary_calls) = true
is_lending (calls.write_stream name stream_calls) = true
is_lending (calls.read_stream name stream_calls) = true
is_lending calls.package_type = false
is_lending calls.database_codepage = false
is_lending (calls.has_table name) = false
is_lending (calls.get_table name) = false
is_lending calls.tables = false
is_lending (calls.has_stream name) = false
is_lending calls.streams = false
is_lending calls.has_digital_signature = false
is_lending (calls.select_rows query) = false
is_lending (calls.insert_rows query) = false
is_lending (calls.update_rows query) = false
is_lending (calls.delete_rows query) = false
is_lending (calls.create_table name columns) = false
is_lending (calls.drop_table name) = false
is_lending (calls.add_column name column) = false
is_lending (calls.apply_transform t passing) = false
is_lending (calls.set_database_codepage page) = false
is_lending (calls.remove_stream name) = false
is_lending calls.remove_digital_signature = false
is_lending calls.recount = false
is_lending (calls.image n) = false
is_lending calls.flush = false
is_lending calls.device_failed = false

abbrev pub LendsOrRefuses : State → Call → Result Answer ErrorKind × State → Result Answer ErrorKind → State → Type 0
LendsOrRefuses s call (Ok lent, after) (Ok answer) new = Lends after call answer new
LendsOrRefuses s call (Err kind, after) answer new = (answer ≡ Err kind) × (new ≡ s)
LendsOrRefuses s call (Ok lent, after) (Err kind) new = ⊥

-- which calls may want memory, and which may meet a fault of the device: of a package with nothing unwritten a flush
-- neither
abbrev pub may_want_memory : State → Call → Bool
may_want_memory s (calls.select_rows q) = true
may_want_memory s (calls.insert_rows q) = true
may_want_memory s (calls.update_rows q) = true
may_want_memory s (calls.delete_rows q) = true
may_want_memory s (calls.create_table name columns) = true
may_want_memory s (calls.drop_table name) = true
may_want_memory s (calls.add_column name column) = true
may_want_memory s (calls.apply_transform t passing) = true
may_want_memory s (calls.set_database_codepage page) = false
may_want_memory s (calls.write_stream name c) = true
may_want_memory s (calls.read_stream name c) = false
may_want_memory s (calls.remove_stream name) = false
may_want_memory s (calls.image n) = true
may_want_memory s calls.recount = true
may_want_memory s calls.flush = s.is_unwritten
may_want_memory s calls.package_type = false
may_want_memory s calls.database_codepage = false
may_want_memory s (calls.has_table name) = false
may_want_memory s (calls.get_table name) = false
may_want_memory s calls.tables = false
may_want_memory s (calls.has_stream name) = false
may_want_memory s calls.streams = false
may_want_memory s calls.has_digital_signature = false
may_want_memory s calls.remove_digital_signature = false
may_want_memory s calls.device_failed = false
may_want_memory s (calls.summary_info questions) = false
may_want_memory s (calls.summary_info_mut summary_calls) = false

abbrev pub may_meet_fault : State → Call → Bool
may_meet_fault s calls.flush = s.is_unwritten
may_meet_fault s calls.package_type = false
may_meet_fault s calls.database_codepage = false
may_meet_fault s (calls.has_table name) = false
may_meet_fault s (calls.get_table name) = false
may_meet_fault s calls.tables = false
may_meet_fault s (calls.has_stream name) = false
may_meet_fault s calls.streams = false
may_meet_fault s calls.has_digital_signature = false
may_meet_fault s (calls.select_rows query) = false
may_meet_fault s (calls.insert_rows query) = false
may_meet_fault s (calls.update_rows query) = false
may_meet_fault s (calls.delete_rows query) = false
may_meet_fault s (calls.create_table name columns) = false
may_meet_fault s (calls.drop_table name) = false
may_meet_fault s (calls.add_column name column) = false
may_meet_fault s (calls.apply_transform t passing) = false
may_meet_fault s (calls.set_database_codepage page) = false
may_meet_fault s (calls.remove_stream name) = false
may_meet_fault s calls.remove_digital_signature = false
may_meet_fault s calls.recount = false
may_meet_fault s (calls.image n) = false
may_meet_fault s calls.device_failed = false
may_meet_fault s (calls.summary_info questions) = false
may_meet_fault s (calls.summary_info_mut summary_calls) = false
may_meet_fault s (calls.write_stream name stream_calls) = false
may_meet_fault s (calls.read_stream name stream_calls) = false

-- why a call is refused before it asks for memory or calls a device
abbrev pub refused_early : State → Call → Option ErrorKind
refused_early s (calls.select_rows query) = early_refusal (columns_read (λ q. table_at q s.kept.database)) query
refused_early s (calls.insert_rows query) =
    first_refusal (storage_refusal (parts_of s) ++ early_insert_refusals s.kept.database query)
refused_early s (calls.update_rows query) =
    first_refusal (storage_refusal (parts_of s) ++ early_update_refusals s.kept.database query)
refused_early s (calls.delete_rows query) =
    first_refusal (storage_refusal (parts_of s) ++ early_delete_refusals s.kept.database query)
refused_early s (calls.create_table name columns) =
    first_refusal (storage_refusal (parts_of s) ++ create_refusals s.kept.database name columns)
refused_early s (calls.drop_table name) =
    first_refusal (storage_refusal (parts_of s) ++ early_drop_refusals s.kept.database name)
refused_early s (calls.add_column name column) =
    first_refusal (storage_refusal (parts_of s) ++ early_column_refusals s.kept.database name column)
refused_early s calls.recount = first_refusal (storage_refusal (parts_of s) ++ early_recount_refusals s.kept.database)
refused_early s (calls.write_stream name stream_calls) = first_refusal (name_refusals (parts_of s) name)
refused_early s (calls.image n) = first_refusal (storage_refusal (parts_of s) ++ text_refusals s)
refused_early s calls.flush = first_refusal (flush_refusals s)
-- want of memory may come in place of each refusal of a transform
refused_early s (calls.apply_transform t passing) = None
-- these want no memory, and call no device
refused_early s calls.package_type = None
refused_early s calls.database_codepage = None
refused_early s (calls.has_table name) = None
refused_early s (calls.get_table name) = None
refused_early s calls.tables = None
refused_early s (calls.has_stream name) = None
refused_early s calls.streams = None
refused_early s calls.has_digital_signature = None
refused_early s (calls.set_database_codepage page) = None
refused_early s (calls.remove_stream name) = None
refused_early s calls.remove_digital_signature = None
refused_early s calls.device_failed = None
refused_early s (calls.summary_info questions) = None
refused_early s (calls.summary_info_mut summary_calls) = None
refused_early s (calls.read_stream name stream_calls) = None

-- what an applied transform leaves beside its outcome
abbrev pub LeavesKept : Call → Result Answer ErrorKind → State → Type 0
LeavesKept (calls.apply_transform t passing) (Ok answer) new = IsLeft new.kept
LeavesKept (calls.apply_transform t passing) (Err kind) new = Unit {0}
LeavesKept _ answer new = Unit {0}

-- One call: the first refusal that holds, and nothing changes; or its effect. Want of memory and a fault of the device
-- change nothing, and neither comes in place of an early refusal
abbrev pub Step : ℕ → State → Call → Result Answer ErrorKind → State → Type 0
Step earlier_len old call answer new =
    MatchBool (is_lending call) (LendsOrRefuses old call (outcome earlier_len old call) answer new)
    ((outcome earlier_len old call ≡ (answer, new)) × LeavesKept call answer new)
    ⊎ IsTrue (may_want_memory old call) × (answer ≡ Err OutOfMemory) × (new ≡ old)
    × AnswersWith (refused_early old call) answer
    ⊎ IsTrue (may_meet_fault old call) × (answer ≡ Err Io) × (new ≡ old)
    × AnswersWith (refused_early old call) answer
