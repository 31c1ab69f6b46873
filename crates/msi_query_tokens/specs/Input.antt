-- What is read from, and the steps that every rule is made of.
use Rattle.std.specs.Prelude.{◌≡◌, ◌≢◌, ℕ, ◌+◌, ◌-◌, ◌^◌, max, min, Bool, if◌then◌else◌, nat_lt}
use Rattle.std.specs.Prelude.{List, length, take, drop, Result, Ok, Err, refl}
use Rattle.std.specs.Coded.{Coded, code_by, coded×, coded_ℕ, coded_list}
use Rattle.msi_query_tokens.specs.declared.token.Kind.{Kind}
use Rattle.msi_query_tokens.specs.declared.token.Kind.TheVariants.{Unclosed}
use Rattle.msi_query_tokens.specs.declared.refusal.Expected.{Expected}
use Rattle.msi_query_tokens.specs.declared.refusal.Expected.TheVariants.{ClosingQuote, FewerLevels}
use Rattle.msi_query_tokens.specs.declared.refusal.ParseError.{ParseError}
use Rattle.msi_query_tokens.specs.declared.refusal.ParseError.TheVariants.{OutOfMemory, Refused}
use Rattle.msi_query_tokens.specs.Tokens.{token, skip_blanks, same_kind}

pub record Input : Type 0 where
  -- the number of bytes of the whole text
  pub len : ℕ
  -- the text from the next token on
  pub ahead : List ℕ
  -- the height of what was read last
  pub height : ℕ

abbrev pub input_code : Coded Input
input_code = code_by (ℕ × (List ℕ × ℕ)) (coded× coded_ℕ (coded× (coded_list coded_ℕ) coded_ℕ))
    (λ i. (i.len, (i.ahead, i.height))) (λ p. record { len = p.0; ahead = p.1.0; height = p.1.1 }) (λ _. refl)

abbrev pub start_of : List ℕ → Input
start_of text = record { len = length text; ahead = skip_blanks text; height = 0 }

-- ---- the next token

unfoldable pub kind : Input → Kind
kind i = (token i.ahead).0

unfoldable pub spelling : Input → List ℕ
spelling i = take (token i.ahead).1 i.ahead

unfoldable pub next : Input → Input
next i = record i { ahead = skip_blanks (drop (token i.ahead).1 i.ahead) }

-- how many bytes there are from the token on
unfoldable pub left : Input → ℕ
left i = length i.ahead

-- ---- readers

abbrev pub Outcome : Type 0 → Type 0
Outcome A = Result (A × Input) ParseError

abbrev pub Reader : Type 0 → Type 0
Reader A = Input → Outcome A

abbrev pub and_then : {A B : Type 0} → Outcome A → (A → Reader B) → Outcome B
and_then (Ok p) f = f p.0 p.1
and_then (Err e) f = Err e

infixl 10 ◌>>=◌
abbrev pub ◌>>=◌ : {A B : Type 0} → Reader A → (A → Reader B) → Reader B
p >>= f = λ i. and_then (p i) f

infixl 10 ◌>>◌
abbrev pub ◌>>◌ : {A B : Type 0} → Reader A → Reader B → Reader B
p >> q = p >>= (λ _. q)

abbrev pub pure : {A : Type 0} → A → Reader A
pure a = λ i. Ok (a, i)

infixr 11 ◌<$>◌
abbrev pub ◌<$>◌ : {A B : Type 0} → (A → B) → Reader A → Reader B
f <$> p = p >>= (λ x. pure (f x))

-- a quote without its end is refused for that
unfoldable pub refusal : Expected → Input → ParseError
refusal expected i = Refused (record {
  place = i.len - left i;
  expected = if same_kind (kind i) Unclosed then ClosingQuote else expected;
})

abbrev pub refuse : {A : Type 0} → Expected → Reader A
refuse expected = λ i. Err (refusal expected i)

abbrev pub peek : Reader Kind
peek = λ i. Ok (kind i, i)

abbrev pub take_token : Reader (Unit {0})
take_token = λ i. Ok (tt, next i)

unfoldable pub sees : Kind → Input → Bool
sees k i = same_kind (kind i) k

unfoldable pub after : Kind → Input → Input
after k i = if sees k i then next i else i

-- goes past a token of this kind, if it comes next
abbrev pub eat : Kind → Reader Bool
eat k = λ i. Ok (sees k i, after k i)

unfoldable pub expect : Kind → Expected → Reader (Unit {0})
expect k expected = λ i. if sees k i then Ok (tt, next i) else refuse expected i

-- ---- height

abbrev pub enter : Reader ℕ
enter = λ i. Ok (i.height, record i { height = 0 })

unfoldable pub rise : ℕ → Reader (Unit {0})
rise limit = λ i. if nat_lt i.height limit then Ok (tt, record i { height = i.height + 1 }) else refuse FewerLevels i

abbrev pub leave : ℕ → Reader (Unit {0})
leave outer = λ i. Ok (tt, record i { height = max outer (min (i.height + 1) (2 ^ 64 - 1)) })

abbrev pub lower : Reader (Unit {0})
lower = λ i. Ok (tt, record i { height = i.height - 1 })

abbrev pub restore : ℕ → Reader (Unit {0})
restore outer = λ i. Ok (tt, record i { height = outer })

-- ---- lists. The number bounds the turns, and each turn takes a token, so the count of bytes is enough.

abbrev pub turns : Input → ℕ
turns i = left i

-- ---- what a function that reads ensures: the reader's outcome, unless memory is refused

abbrev pub Reads : {A : Type 0} → Outcome A → Result A ParseError → Input → Type 0
Reads outcome (Ok a) new = outcome ≡ Ok (a, new)
Reads outcome (Err e) new = e ≢ OutOfMemory → outcome ≡ Err e

-- the same of one that needs no memory
abbrev pub ReadsExactly : {A : Type 0} → Outcome A → Result A ParseError → Input → Type 0
ReadsExactly outcome (Ok a) new = outcome ≡ Ok (a, new)
ReadsExactly outcome (Err e) new = outcome ≡ Err e
