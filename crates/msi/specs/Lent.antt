-- The calls on what a package lends: its summary, and the bytes of a stream with a place.
use Rattle.std.specs.Prelude.{◌≡◌, ℕ, ◌+◌, ◌^◌, ◌<◌, ◌⊎◌, Bool, true, false, List, [], ◌∷◌, ◌++◌, length, take, drop}
use Rattle.std.specs.Prelude.{◌&&◌, if◌then◌else◌, IsTrue, ℤ, pos, ◌+ℤ◌, int_le, nat_abs, Result, Ok, Err}
use Rattle.std.specs.Int.{w32}
use Rattle.std.specs.Int.RustNames.{FitsSigned}
use Rattle.msi_base.specs.declared.errors.ErrorKind.{ErrorKind}
use Rattle.msi_base.specs.declared.errors.ErrorKind.TheVariants.{InvalidInput, OutOfMemory}
use Rattle.msi_summary.specs.Properties.{Properties, with_page, page_of}
use Rattle.msi_summary.specs.declared.property.SummaryProperty.{SummaryProperty}
use Rattle.msi_summary.specs.declared.property.SummaryProperty.TheVariants as property
use Rattle.msi_summary.specs.Property.{text_id, number_id, time_id}
use Rattle.msi_summary.specs.Summary as summary
use Rattle.msi.specs.Calls.{SummaryCall, SummaryAnswer, ReaderCall, WriterCall, StreamAnswer, SeekTo}
use Rattle.msi.specs.Calls as calls

-- what a call gives: its outcome; or it is refused for want of memory, and changes nothing
abbrev pub Gives : {S A : Type 0} → Result A ErrorKind × S → Bool → S → Result A ErrorKind → S → Type 0
Gives outcome may_want_memory old answer new = (outcome ≡ (answer, new))
    ⊎ IsTrue may_want_memory × (answer ≡ Err OutOfMemory) × (new ≡ old)

-- calls one after another
abbrev pub RunsTo : {S C A : Type 0} → (S → C → Result A ErrorKind × S) → (C → Bool)
    → S → List C → List (Result A ErrorKind) → S → Type 0
RunsTo outcome wants old [] [] new = new ≡ old
RunsTo {S} outcome wants old (c ∷ cs) (a ∷ others) new =
    (mid : S) × Gives (outcome old c) (wants c) old a mid × RunsTo outcome wants mid cs others new
RunsTo outcome wants old [] (a ∷ others) new = ⊥
RunsTo outcome wants old (c ∷ cs) [] new = ⊥

-- the summary
abbrev pub said_of : Properties → SummaryProperty → SummaryAnswer
said_of set (property.Text p) = calls.text_is (summary.text_with_id (text_id p) set)
said_of set (property.Number p) = calls.number_is (summary.number_with_id (number_id p) set)
said_of set (property.Time p) = calls.time_is (summary.time_with_id (time_id p) set)
said_of set property.Arch = calls.text_is (summary.arch_of set)
said_of set property.Languages = calls.numbers_are (summary.languages_of set)
said_of set property.Keywords = calls.texts_are (summary.keywords_of set)
said_of set property.Uuid = calls.text_is (summary.uuid_of set)
said_of set property.Codepage = calls.page_is (page_of set)

abbrev pub summary_after : Properties → SummaryCall → Properties
summary_after set (calls.ask q) = set
summary_after set (calls.set_text p text) = summary.with_text (text_id p) text set
summary_after set (calls.set_number p n) = summary.with_number (number_id p) n set
summary_after set (calls.set_time p ticks) = summary.with_time (time_id p) ticks set
summary_after set (calls.set_arch text) = summary.with_arch text set
summary_after set (calls.set_languages ids) = summary.with_languages ids set
summary_after set (calls.set_keywords words) = summary.with_keywords words set
summary_after set (calls.set_uuid id) = summary.with_uuid id set
summary_after set (calls.set_codepage page) = with_page page set
summary_after set (calls.clear p) = summary.cleared p set

abbrev pub summary_outcome : Properties → SummaryCall → Result SummaryAnswer ErrorKind × Properties
summary_outcome set (calls.ask q) = (Ok (said_of set q), set)
summary_outcome set c = (Ok calls.done, summary_after set c)

abbrev pub question_wants_memory : SummaryProperty → Bool
question_wants_memory property.Languages = true
question_wants_memory property.Keywords = true
question_wants_memory _ = false

abbrev pub summary_wants_memory : SummaryCall → Bool
summary_wants_memory (calls.ask q) = question_wants_memory q
summary_wants_memory (calls.clear p) = summary.is_set_empty p
summary_wants_memory _ = true

-- numbers that their types hold
abbrev pub FitsSummaryCall : SummaryCall → Type 0
FitsSummaryCall (calls.set_number p n) = FitsSigned w32 n
FitsSummaryCall (calls.set_time p ticks) = ticks < 2 ^ 64
FitsSummaryCall _ = Unit {0}

-- a stream with a place in it, which is never past the end
pub record Cursor : Type 0 where
  pub bytes : List ℕ
  pub place : ℕ

abbrev pub at_start : List ℕ → Cursor
at_start bytes = record { bytes = bytes; place = 0 }

abbrev pub seek_target : Cursor → SeekTo → ℤ
seek_target c (calls.from_start n) = pos n
seek_target c (calls.from_end z) = pos (length c.bytes) +ℤ z
seek_target c (calls.from_here z) = pos c.place +ℤ z

abbrev pub can_seek : Cursor → SeekTo → Bool
can_seek c to = int_le (pos 0) (seek_target c to) && int_le (seek_target c to) (pos (length c.bytes))

-- a write overwrites and extends
abbrev pub bytes_written : Cursor → List ℕ → List ℕ
bytes_written c piece = take c.place c.bytes ++ piece ++ drop (c.place + length piece) c.bytes

abbrev pub sought : Cursor → SeekTo → Result StreamAnswer ErrorKind × Cursor
sought c to = if can_seek c to
    then (Ok (calls.place_is (nat_abs (seek_target c to))), record c { place = nat_abs (seek_target c to) })
    else (Err InvalidInput, c)

abbrev pub reader_outcome : Cursor → ReaderCall → Result StreamAnswer ErrorKind × Cursor
reader_outcome c (calls.read n) = let piece = take n (drop c.place c.bytes) in
    (Ok (calls.bytes_are piece), record c { place = c.place + length piece })
reader_outcome c (calls.seek to) = sought c to

abbrev pub writer_outcome : Cursor → WriterCall → Result StreamAnswer ErrorKind × Cursor
writer_outcome c (calls.write piece) =
    (Ok (calls.place_is (length piece)), record { bytes = bytes_written c piece; place = c.place + length piece })
writer_outcome c (calls.seek to) = sought c to
writer_outcome c calls.flush = (Ok calls.done, c)

abbrev pub reader_wants_memory : ReaderCall → Bool
reader_wants_memory call = false

abbrev pub writer_wants_memory : WriterCall → Bool
writer_wants_memory (calls.write piece) = true
writer_wants_memory _ = false
