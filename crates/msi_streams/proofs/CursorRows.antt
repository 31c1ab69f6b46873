-- Worked rows: what calls do to a stream with a place in it.
use Rattle.std.specs.Prelude.{◌≡◌, ℕ, pos, negsuc, [], codes, Result, Ok, Err, refl}
use Rattle.std.specs.declared.io.SeekFrom.TheVariants.{Start, End, Current}
use Rattle.msi_base.specs.declared.errors.ErrorKind.{ErrorKind}
use Rattle.msi_base.specs.declared.errors.ErrorKind.TheVariants.{InvalidInput}
use Rattle.msi_streams.specs.Cursor.{Cursor, after_read, after_write, at_start, moved_to, piece_read, sought}

-- `Hello` is written, and `ipp` over it from its second byte on; then a seek past the end is refused
hello : Cursor
hello = after_write (at_start []) (codes "Hello")

hello_stands : hello ≡ record { bytes = codes "Hello"; place = 5 }
unfolding hello
hello_stands = refl

hippo : Cursor
hippo = after_write (moved_to hello 1) (codes "ipp")

hippo_stands : hippo ≡ record { bytes = codes "Hippo"; place = 4 }
unfolding hello hippo
hippo_stands = refl

refused_past_end : ◌≡◌ {A = Result ℕ ErrorKind × Cursor} (sought hippo (Start 6)) (Err InvalidInput, hippo)
unfolding hello hippo
refused_past_end = refl

refused_before_start : ◌≡◌ {A = Result ℕ ErrorKind × Cursor} (sought hippo (Current (negsuc 4))) (Err InvalidInput, hippo)
unfolding hello hippo
refused_before_start = refl

-- to the end, and two bytes before it
end_sought : ◌≡◌ {A = Result ℕ ErrorKind × Cursor} (sought hippo (End (pos 0))) (Ok 5, moved_to hippo 5)
unfolding hello hippo
end_sought = refl

two_left : ◌≡◌ {A = Result ℕ ErrorKind × Cursor} (sought hippo (End (negsuc 1))) (Ok 3, moved_to hippo 3)
unfolding hello hippo
two_left = refl

-- a read takes what is left where there is more room, and then nothing
rest_read : piece_read (moved_to hippo 3) 8 ≡ codes "po"
unfolding hello hippo
rest_read = refl

nothing_read : piece_read (after_read (moved_to hippo 3) 8) 8 ≡ []
unfolding hello hippo
nothing_read = refl

-- a write that ends past the end makes the stream longer
longer : after_write (moved_to hippo 4) (codes "odrome") ≡ record { bytes = codes "Hippodrome"; place = 10 }
unfolding hello hippo
longer = refl
