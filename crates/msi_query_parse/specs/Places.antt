-- Where a refused text stops to be a query: in front of a token, or at its end.
use Rattle.std.specs.Prelude.{◌≡◌, ℕ, zero, suc, ◌-◌, ◌≤◌, true, List, length, drop, Err}
use Rattle.msi_query_tokens.specs.declared.token.Kind.TheVariants as k
use Rattle.msi_query_tokens.specs.declared.refusal.Expected.TheVariants as expected
use Rattle.msi_query_tokens.specs.declared.refusal.ParseError.TheVariants as error
use Rattle.msi_query_tokens.specs.declared.refusal.Refused.{Refused}
use Rattle.msi_query_tokens.specs.Tokens.{token, skip_blanks, same_kind}
use Rattle.msi_query_tokens.specs.Input.{Reader}
use Rattle.msi_query_parse.specs.Reading.{whole}

-- the text from the token behind so many others on
abbrev pub past_tokens : ℕ → List ℕ → List ℕ
past_tokens zero text = text
past_tokens (suc n) text = past_tokens n (skip_blanks (drop (token text).1 text))

-- the byte at which a token begins, or the length of the text where none is left; an open quote is refused for that
pub record IsAtToken (text : List ℕ) (r : Refused) : Type 0 where
  pub before : ℕ
  pub place : r.place ≡ length text - length (past_tokens before (skip_blanks text))
  pub within : r.place ≤ length text
  pub quote : same_kind (token (past_tokens before (skip_blanks text))).0 k.Unclosed ≡ true
      → r.expected ≡ expected.ClosingQuote

-- so it is for each text that is refused
abbrev pub RefusesTokens : {A : Type 0} → Reader A → Type 0
RefusesTokens reader = (text : List ℕ) (r : Refused) → whole reader text ≡ Err (error.Refused r) → IsAtToken text r
