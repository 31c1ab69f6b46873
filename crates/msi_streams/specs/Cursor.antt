-- A stream with a place in it, which is never past its end, and what reading, writing and seeking do there.
use Rattle.std.specs.Prelude.{ℕ, ◌+◌, ℤ, pos, ◌+ℤ◌, int_le, nat_abs, Bool, ◌&&◌, if◌then◌else◌, List, ◌++◌, length}
use Rattle.std.specs.Prelude.{take, drop, Result, Ok, Err}
use Rattle.std.specs.declared.io.SeekFrom.{SeekFrom}
use Rattle.std.specs.declared.io.SeekFrom.TheVariants.{Start, End, Current}
use Rattle.msi_base.specs.declared.errors.ErrorKind.{ErrorKind}
use Rattle.msi_base.specs.declared.errors.ErrorKind.TheVariants.{InvalidInput}

pub record Cursor : Type 0 where
  pub bytes : List ℕ
  pub place : ℕ

-- at the first byte
abbrev pub at_start : List ℕ → Cursor
at_start bytes = record { bytes = bytes; place = 0 }

abbrev pub moved_to : Cursor → ℕ → Cursor
moved_to c place = record { bytes = c.bytes; place = place }

-- the bytes from the place on
abbrev pub bytes_ahead : Cursor → List ℕ
bytes_ahead c = drop c.place c.bytes

-- A read gives as many bytes as there is room for and are left, and goes behind them.
abbrev pub piece_read : Cursor → ℕ → List ℕ
piece_read c room = take room (bytes_ahead c)

abbrev pub count_read : Cursor → ℕ → ℕ
count_read c room = length (piece_read c room)

abbrev pub after_read : Cursor → ℕ → Cursor
after_read c room = moved_to c (c.place + count_read c room)

-- A write puts the whole piece over the bytes from the place on and past the end, and goes behind it.
abbrev pub bytes_written : Cursor → List ℕ → List ℕ
bytes_written c piece = take c.place c.bytes ++ piece ++ drop (c.place + length piece) c.bytes

abbrev pub after_write : Cursor → List ℕ → Cursor
after_write c piece = record { bytes = bytes_written c piece; place = c.place + length piece }

-- where a seek goes, counted from the first byte
abbrev pub seek_target : Cursor → SeekFrom → ℤ
seek_target c (Start n) = pos n
seek_target c (End offset) = pos (length c.bytes) +ℤ offset
seek_target c (Current offset) = pos c.place +ℤ offset

-- to the first byte, to the end, or between
abbrev pub can_seek : Cursor → SeekFrom → Bool
can_seek c to = int_le (pos 0) (seek_target c to) && int_le (seek_target c to) (pos (length c.bytes))

-- A seek answers the place it goes to. One that would leave the bytes is refused, and leaves the place.
abbrev pub sought : Cursor → SeekFrom → Result ℕ ErrorKind × Cursor
sought c to = if can_seek c to
    then (Ok (nat_abs (seek_target c to)), moved_to c (nat_abs (seek_target c to)))
    else (Err InvalidInput, c)
