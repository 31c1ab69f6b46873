-- What a `Tokens` shows, and what it keeps ready.
use Rattle.std.specs.Prelude.{◌≡◌, ◌≤◌, length}
use Rattle.msi_query_tokens.specs.declared.tokens.Tokens.TheInside.{Inside}
use Rattle.msi_query_tokens.specs.Tokens.{token}
use Rattle.msi_query_tokens.specs.Input.{Input}

abbrev pub input_of : Inside → Input
input_of t = record { len = t.len; ahead = t.ahead.now; height = t.height }

abbrev pub IsReady : Inside → Type 0
IsReady t = (t.token ≡ token t.ahead.now) × (t.token.1 ≤ length t.ahead.now)
