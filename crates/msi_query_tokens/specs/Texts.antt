-- What tokens in quotes and digits stand for.
use Rattle.std.specs.Prelude.{ℕ, ◌+◌, ◌-◌, ◌*◌, min, ℤ, pos, neg_ℤ, Bool, true, false, ◌&&◌, ◌||◌, if◌then◌else◌, ◌==◌}
use Rattle.std.specs.Prelude.{nat_le, nat_lt, List, [], ◌∷◌, ◌++◌, length, take, drop, fold, Option, Some, None, Ok}
use Rattle.std.specs.Char.{encode_utf8}
use Rattle.std.specs.Str.{is_utf8}
use Rattle.msi_query_tokens.specs.declared.texts.Mode.{Mode}
use Rattle.msi_query_tokens.specs.declared.texts.Mode.TheVariants as mode
use Rattle.msi_query_tokens.specs.declared.token.Kind.{Kind}
use Rattle.msi_query_tokens.specs.declared.token.Kind.TheVariants as k
use Rattle.msi_query_tokens.specs.declared.refusal.Expected.TheVariants as expected
use Rattle.msi_query_tokens.specs.Input.{Reader, kind, spelling, next, refuse}

-- what stands between the first byte and the last
abbrev pub inside : List ℕ → List ℕ
inside token = let rest = drop (min 1 (length token)) token in take (length rest - 1) rest

-- a doubled quote stands for one; the flag says that the first byte is the second of two
abbrev pub undoubled : ℕ → Bool → List ℕ → List ℕ
undoubled quote is_second [] = []
undoubled quote true (b ∷ text) = undoubled quote false text
undoubled quote false (b ∷ text) = b ∷ undoubled quote (b == quote) text

-- ---- escapes: what a byte makes of what was read before it

abbrev pub digit_value : ℕ → Option ℕ
digit_value b =
    if nat_le 48 b && nat_le b 57 then Some (b - 48) else (if nat_le 97 b && nat_le b 102 then Some (b - 97 + 10)
    else (if nat_le 65 b && nat_le b 70 then Some (b - 65 + 10) else None))

abbrev pub more_than_characters : ℕ
more_than_characters = 1114112

abbrev pub with_digit_of : ℕ → Option ℕ → Mode
with_digit_of number (Some digit) =
    mode.Number (if nat_lt number more_than_characters then number * 16 + digit else more_than_characters)
with_digit_of number None = mode.Unknown

unfoldable pub with_digit : ℕ → ℕ → Mode
with_digit number b = with_digit_of number (digit_value b)

-- `\"`, `\'` and `\\` stand for the second byte, `\n`, `\r`, `\t` and `\0` for control characters
unfoldable pub escaped : ℕ → Option ℕ
escaped b =
    if b == 34 || b == 39 || b == 92 then Some b else (if b == 110 then Some 10 else (if b == 114 then Some 13
    else (if b == 116 then Some 9 else (if b == 48 then Some 0 else None))))

abbrev pub is_character : ℕ → Bool
is_character n = nat_lt n 55296 || (nat_le 57344 n && nat_lt n more_than_characters)

unfoldable pub with_character : List ℕ → ℕ → Mode × List ℕ
with_character bytes n = if is_character n then (mode.Plain, bytes ++ encode_utf8 n) else (mode.Unknown, bytes)

abbrev pub with_escaped : List ℕ → Option ℕ → Mode × List ℕ
with_escaped bytes (Some b) = (mode.Plain, bytes ++ b ∷ [])
with_escaped bytes None = (mode.Unknown, bytes)

unfoldable pub unescape : Mode → List ℕ → ℕ → Mode × List ℕ
unescape mode.Plain bytes b = if b == 92 then (mode.Escape, bytes) else (mode.Plain, bytes ++ b ∷ [])
unescape mode.Escape bytes b = if b == 117 then (mode.Brace, bytes) else with_escaped bytes (escaped b)
unescape mode.Brace bytes b = (if b == 123 then mode.FirstDigit else mode.Unknown, bytes)
unescape mode.FirstDigit bytes b = (with_digit 0 b, bytes)
unescape (mode.Number n) bytes b = if b == 125 then with_character bytes n else (with_digit n b, bytes)
unescape mode.Unknown bytes b = (mode.Unknown, bytes)

abbrev pub unescaped_from : Mode × List ℕ → List ℕ → Mode × List ℕ
unescaped_from s text = fold (λ s b. unescape s.0 s.1 b) s text

abbrev pub plain_or_none : Mode → List ℕ → Option (List ℕ)
plain_or_none mode.Plain bytes = Some bytes
plain_or_none _ bytes = None

-- the bytes of a text in double quotes; none where an escape isn't known
unfoldable pub unescaped : List ℕ → Option (List ℕ)
unescaped text = let s = unescaped_from (mode.Plain, []) text in plain_or_none s.0 s.1

-- the bytes that a name or a text stands for
abbrev pub plain_bytes : Kind → List ℕ → Option (List ℕ)
plain_bytes k.QuotedName token = Some (undoubled 96 false (inside token))
plain_bytes k.SingleQuoted token = Some (undoubled 39 false (inside token))
plain_bytes k.DoubleQuoted token = unescaped (inside token)
plain_bytes _ token = Some token

abbrev pub utf8_text : List ℕ → Option (List ℕ)
utf8_text bytes = if is_utf8 bytes then Some bytes else None

abbrev pub taken : Option (List ℕ) → Reader (List ℕ)
taken None = refuse expected.Escape
taken (Some text) = λ i. Ok (text, next i)

abbrev pub checked : Option (List ℕ) → Reader (List ℕ)
checked None = refuse expected.Escape
checked (Some bytes) = taken (utf8_text bytes)

-- a name or a text
unfoldable pub text : Reader (List ℕ)
text = λ i. checked (plain_bytes (kind i) (spelling i)) i

-- ---- numbers

-- the number of decimal digits, cut where it is past any of 32 bits
abbrev pub number_of : List ℕ → ℕ
number_of = fold (λ n b. min (n * 10 + (b - 48)) 2147483649) 0

unfoldable pub positive : Reader ℤ
positive = λ i.
    let n = number_of (spelling i) in
    if nat_le n 2147483647 then Ok (pos n, next i) else refuse expected.Number i

-- digits behind a minus
unfoldable pub negative : Reader ℤ
negative = λ i.
    let n = number_of (spelling i) in
    if nat_le n 2147483648 then Ok (neg_ℤ (pos n), next i) else refuse expected.Number i
