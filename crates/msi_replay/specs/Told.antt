-- The answers that values stand for.
use Rattle.std.specs.Prelude.{map, string_bytes, Result, Ok, Err}
use Rattle.msi.specs.Text.ErrorKind.{ErrorKind}
use Rattle.msi.specs.Table.Row.{RowDef}
use Rattle.msi.specs.Calls as calls
use Rattle.msi_replay.specs.declared.answer.SummaryAnswer.{SummaryAnswer}
use Rattle.msi_replay.specs.declared.answer.SummaryAnswer.TheVariants as said
use Rattle.msi_replay.specs.declared.answer.StreamAnswer.{StreamAnswer}
use Rattle.msi_replay.specs.declared.answer.StreamAnswer.TheVariants as flowed
use Rattle.msi_replay.specs.declared.answer.Answer.{Answer}
use Rattle.msi_replay.specs.declared.answer.Answer.TheVariants as given

-- what a call gave, seen by view, or its refusal
abbrev pub told : {A B : Type 0} → (A → B) → Result A ErrorKind → Result B ErrorKind
told view (Ok x) = Ok (view x)
told view (Err kind) = Err kind

abbrev pub summary_answer : SummaryAnswer → calls.SummaryAnswer
summary_answer said.Done = calls.done
summary_answer (said.Text text) = calls.text_is text
summary_answer (said.Number n) = calls.number_is n
summary_answer (said.Time ticks) = calls.time_is ticks
summary_answer (said.Languages ids) = calls.numbers_are ids
summary_answer (said.Keywords words) = calls.texts_are (map string_bytes words)
summary_answer (said.Uuid id) = calls.text_is id
summary_answer (said.Codepage page) = calls.page_is page

abbrev pub stream_answer : StreamAnswer → calls.StreamAnswer
stream_answer flowed.Done = calls.done
stream_answer (flowed.Bytes bytes) = calls.bytes_are bytes
stream_answer (flowed.Place n) = calls.place_is n

abbrev pub answer_told : Answer → calls.Answer
answer_told given.Done = calls.done
answer_told (given.Kind kind) = calls.kind_is kind
answer_told (given.Codepage page) = calls.page_is page
answer_told (given.Flag flag) = calls.flag_is flag
answer_told (given.Count many) = calls.count_is many
answer_told (given.Table table) = calls.table_is table
answer_told (given.Tables tables) = calls.tables_are tables
answer_told (given.Names names) = calls.names_are names
answer_told (given.Rows columns rows) = calls.rows_are columns (map (λ (row : RowDef). row.values) rows)
answer_told (given.Bytes bytes) = calls.bytes_are bytes
answer_told (given.Summary answers) = calls.summary_says (map (told summary_answer) answers)
answer_told (given.Stream answers) = calls.stream_says (map (told stream_answer) answers)
