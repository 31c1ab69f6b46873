-- The symbols of a text: its tokens, without how each is written.
use Rattle.std.specs.Prelude.{◌≡◌, ℕ, Bool, true, false, List, [], ◌∷◌, take, drop, Option, Some, None}
use Rattle.msi_query_tokens.specs.declared.token.Kind.{Kind}
use Rattle.msi_query_tokens.specs.declared.token.Kind.TheVariants as k
use Rattle.msi_query_tokens.specs.Tokens.{token, skip_blanks, same_kind}
use Rattle.msi_query_tokens.specs.Texts.{plain_bytes, utf8_text, number_of}

pub data Symbol : Type 0 where
  -- a key word, an operator, a bracket, a comma or a full stop, by its kind
  mark : Kind → Symbol
  -- a name, plain or in back quotes
  named : List ℕ → Symbol
  number : ℕ → Symbol
  -- a text in quotes of either kind
  quote : List ℕ → Symbol

abbrev pub with_bytes : (List ℕ → Symbol) → Option (List ℕ) → Symbol
with_bytes f None = mark k.Unknown
with_bytes f (Some bytes) = f bytes

abbrev pub checked_bytes : Option (List ℕ) → Option (List ℕ)
checked_bytes None = None
checked_bytes (Some bytes) = utf8_text bytes

abbrev pub symbol_of : Kind → List ℕ → Symbol
symbol_of k.Name spelling = named spelling
symbol_of k.QuotedName spelling = with_bytes named (checked_bytes (plain_bytes k.QuotedName spelling))
symbol_of k.Number spelling = number (number_of spelling)
symbol_of k.SingleQuoted spelling = with_bytes quote (checked_bytes (plain_bytes k.SingleQuoted spelling))
symbol_of k.DoubleQuoted spelling = with_bytes quote (checked_bytes (plain_bytes k.DoubleQuoted spelling))
symbol_of kind spelling = mark kind

abbrev pub ends : List ℕ → Bool
ends text = same_kind (token text).0 k.End

-- these symbols lead from one place of a text, where no blank stands, to another
abbrev pub Spans : List ℕ → List Symbol → List ℕ → Type 0
Spans text [] rest = text ≡ rest
Spans text (symbol ∷ symbols) rest = (ends text ≡ false)
    × (symbol_of (token text).0 (take (token text).1 text) ≡ symbol)
    × Spans (skip_blanks (drop (token text).1 text)) symbols rest

-- they lead to the end
pub record AreSymbols (text : List ℕ) (symbols : List Symbol) : Type 0 where
  pub rest : List ℕ
  pub spans : Spans (skip_blanks text) symbols rest
  pub end : ends rest ≡ true

-- no text has two lists of symbols
abbrev pub TextsHaveOneListOfSymbols : Type 0
TextsHaveOneListOfSymbols = (text : List ℕ) (symbols others : List Symbol)
    → AreSymbols text symbols → AreSymbols text others → symbols ≡ others
