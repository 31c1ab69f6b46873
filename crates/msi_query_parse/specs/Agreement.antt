-- Reading and the grammar agree: a text is read as what it spells, and refused where it spells nothing.
use Rattle.std.specs.Prelude.{◌≡◌, ◌≢◌, ℕ, ◌↔◌, List, Result, Ok, IfErr}
use Rattle.msi_query_tokens.specs.declared.refusal.ParseError.{ParseError}
use Rattle.msi_query_tokens.specs.declared.refusal.ParseError.TheVariants.{OutOfMemory}
use Rattle.msi_query_tokens.specs.Input.{Reader}
use Rattle.msi_query_parse.specs.declared.statement.Statement.{Statement}
use Rattle.msi_query_parse.specs.declared.statement.Statement.TheVariants as any
use Rattle.msi_query_parse.specs.Reading.{whole}
use Rattle.msi_query_parse.specs.Grammar.{SpellsSelect, SpellsInsert, SpellsUpdate, SpellsDelete}

-- a query of any kind
abbrev pub SpellsStatement : List ℕ → Statement → Type 0
SpellsStatement text (any.Select q) = SpellsSelect text q
SpellsStatement text (any.Insert q) = SpellsInsert text q
SpellsStatement text (any.Update q) = SpellsUpdate text q
SpellsStatement text (any.Delete q) = SpellsDelete text q

-- what is read is spelled, and what is spelled is read
abbrev pub Agrees : {A : Type 0} → Reader A → (List ℕ → A → Type 0) → Type 0
Agrees {A} reader Spells = (text : List ℕ) (a : A) → (whole reader text ≡ Ok a) ↔ Spells text a

-- no text spells two
abbrev pub SpellsOne : {A : Type 0} → (List ℕ → A → Type 0) → Type 0
SpellsOne {A} Spells = (text : List ℕ) (a b : A) → Spells text a → Spells text b → a ≡ b

abbrev pub SpellsNone : {A : Type 0} → (List ℕ → A → Type 0) → List ℕ → Type 0
SpellsNone {A} Spells text = (a : A) → Spells text a → ⊥

-- a call refuses a text for what stands in it only where that spells nothing
abbrev pub RefusesUnspelled : {A : Type 0} → (List ℕ → A → Type 0) → List ℕ → Result A ParseError → Type 0
RefusesUnspelled Spells text result = IfErr result (λ e. e ≢ OutOfMemory → SpellsNone Spells text)
