-- Fingerprints of keys: numbers of 64 bits, one and the same for keys that are the same.
use Rattle.std.specs.Prelude.{ℕ, ◌+◌, ◌*◌, ◌%◌, ◌^◌, List}
use Rattle.std.specs.Int.{cast_unsigned, w32}
use Rattle.std.specs.List.{fold}
use Rattle.msi_table_values.specs.declared.value.Value.{Value}
use Rattle.msi_table_values.specs.declared.value.Value.TheVariants.{Null, Int, Str, Binary}

-- after one more number
unfoldable pub with_number : ℕ → ℕ → ℕ
with_number print number = (print * 6364136223846793005 % 2 ^ 64 + number) % 2 ^ 64

-- after one more value: first which of the four it is, by a number that no byte has
abbrev pub with_value : ℕ → Value → ℕ
with_value print Null = with_number print 256
with_value print (Int number) = with_number (with_number print 257) (cast_unsigned w32 number)
with_value print (Str text) = fold with_number (with_number print 258) text
with_value print Binary = with_number print 259

abbrev pub fingerprint : List Value → ℕ
fingerprint key = fold with_value 0 key
