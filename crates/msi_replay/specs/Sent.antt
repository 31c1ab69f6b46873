-- The calls that values stand for.
use Rattle.std.specs.Prelude.{map, string_bytes}
use Rattle.std.specs.declared.io.SeekFrom.{SeekFrom}
use Rattle.std.specs.declared.io.SeekFrom.TheVariants.{Start, End, Current}
use Rattle.msi_streams.specs.Cursor as streams
use Rattle.msi.specs.Calls as calls
use Rattle.msi.specs.Lent.{Cursor}
use Rattle.msi_replay.specs.declared.call.Setting.{Setting}
use Rattle.msi_replay.specs.declared.call.Setting.TheVariants as set
use Rattle.msi_replay.specs.declared.call.SummaryCall.{SummaryCall}
use Rattle.msi_replay.specs.declared.call.SummaryCall.TheVariants.{Ask, Set, Clear}
use Rattle.msi_replay.specs.declared.call.ReaderCall.{ReaderCall}
use Rattle.msi_replay.specs.declared.call.ReaderCall.TheVariants as reading
use Rattle.msi_replay.specs.declared.call.WriterCall.{WriterCall}
use Rattle.msi_replay.specs.declared.call.WriterCall.TheVariants as writing
use Rattle.msi_replay.specs.declared.call.LookUp.{LookUp}
use Rattle.msi_replay.specs.declared.call.LookUp.TheVariants as look
use Rattle.msi_replay.specs.declared.call.Change.{Change}
use Rattle.msi_replay.specs.declared.call.Change.TheVariants as change
use Rattle.msi_replay.specs.declared.call.Call.{Call}
use Rattle.msi_replay.specs.declared.call.Call.TheVariants as sent

-- CALLS ON THE SUMMARY

abbrev pub setting_sent : Setting → calls.SummaryCall
setting_sent (set.Text p text) = calls.set_text p text
setting_sent (set.Number p n) = calls.set_number p n
setting_sent (set.Time p ticks) = calls.set_time p ticks
setting_sent (set.Arch text) = calls.set_arch text
setting_sent (set.Languages ids) = calls.set_languages ids
setting_sent (set.Keywords words) = calls.set_keywords (map string_bytes words)
setting_sent (set.Uuid id) = calls.set_uuid id
setting_sent (set.Codepage page) = calls.set_codepage page

abbrev pub summary_call_sent : SummaryCall → calls.SummaryCall
summary_call_sent (Ask p) = calls.ask p
summary_call_sent (Set s) = setting_sent s
summary_call_sent (Clear p) = calls.clear p

-- CALLS ON STREAMS

-- a stream with a place in it, as calls see it
abbrev pub lent_cursor : streams.Cursor → Cursor
lent_cursor c = record { bytes = c.bytes; place = c.place }

abbrev pub seek_sent : SeekFrom → calls.SeekTo
seek_sent (Start n) = calls.from_start n
seek_sent (End z) = calls.from_end z
seek_sent (Current z) = calls.from_here z

abbrev pub reader_call_sent : ReaderCall → calls.ReaderCall
reader_call_sent (reading.Read n) = calls.read n
reader_call_sent (reading.Seek to) = calls.seek (seek_sent to)

abbrev pub writer_call_sent : WriterCall → calls.WriterCall
writer_call_sent (writing.Write piece) = calls.write piece
writer_call_sent (writing.Seek to) = calls.seek (seek_sent to)
writer_call_sent writing.Flush = calls.flush

-- CALLS ON A PACKAGE

abbrev pub look_up_sent : LookUp → calls.Call
look_up_sent look.PackageType = calls.package_type
look_up_sent look.DatabaseCodepage = calls.database_codepage
look_up_sent (look.HasTable name) = calls.has_table name
look_up_sent (look.GetTable name) = calls.get_table name
look_up_sent look.Tables = calls.tables
look_up_sent (look.HasStream name) = calls.has_stream name
look_up_sent look.Streams = calls.streams
look_up_sent look.HasDigitalSignature = calls.has_digital_signature

abbrev pub change_sent : Change → calls.Call
change_sent (change.CreateTable name columns) = calls.create_table name columns
change_sent (change.InsertRows query) = calls.insert_rows query
change_sent (change.UpdateRows query) = calls.update_rows query
change_sent (change.DeleteRows query) = calls.delete_rows query
change_sent (change.DropTable name) = calls.drop_table name
change_sent (change.AddColumn name column) = calls.add_column name column
change_sent (change.ApplyTransform t passing) = calls.apply_transform t passing
change_sent (change.SetDatabaseCodepage page) = calls.set_database_codepage page
change_sent (change.RemoveStream name) = calls.remove_stream name
change_sent change.RemoveDigitalSignature = calls.remove_digital_signature

abbrev pub call_sent : Call → calls.Call
call_sent (sent.LookUp question) = look_up_sent question
call_sent (sent.SelectRows query) = calls.select_rows query
call_sent (sent.Change c) = change_sent c
call_sent sent.Recount = calls.recount
call_sent (sent.SummaryInfo questions) = calls.summary_info questions
call_sent (sent.SummaryInfoMut summary_calls) = calls.summary_info_mut (map summary_call_sent summary_calls)
call_sent (sent.WriteStream name stream_calls) = calls.write_stream name (map writer_call_sent stream_calls)
call_sent (sent.ReadStream name stream_calls) = calls.read_stream name (map reader_call_sent stream_calls)
call_sent (sent.Image n) = calls.image n
call_sent sent.Flush = calls.flush
call_sent sent.DeviceFailed = calls.device_failed
