-- Refusals, and the records at which they come.
use Rattle.std.specs.Prelude.{◌≡◌, ◌⊎◌, ℕ, ◌+◌, List, [], ◌∷◌, Option, Some, None, Result, Ok, Err}
use Rattle.msi_base.specs.declared.errors.ErrorKind.{ErrorKind}
use Rattle.msi_base.specs.declared.errors.ErrorKind.TheVariants.{OutOfMemory}
use Rattle.msi_transform_records.specs.declared.records.Record.{Record}
pub use Rattle.msi_transform_rows.specs.declared.refusal.RecordPlace.{RecordPlace}

-- the place is that of the record that is at fault, if one is
pub record Refusal : Type 0 where
  pub kind : ErrorKind
  pub place : Option RecordPlace

-- steps that each may be refused
infixl 10 ◌>>=◌
abbrev pub ◌>>=◌ : {A B : Type 0} → Result A Refusal → (A → Result B Refusal) → Result B Refusal
(Ok x) >>= f = f x
(Err refusal) >>= f = Err refusal

-- what is refused at no record, and at this one
abbrev pub nowhere : {A : Type 0} → Result A ErrorKind → Result A Refusal
nowhere (Ok x) = Ok x
nowhere (Err kind) = Err (record { kind = kind; place = None })

abbrev pub at_record : {A : Type 0} → ℕ → ℕ → Result A ErrorKind → Result A Refusal
at_record table n (Ok x) = Ok x
at_record table n (Err kind) = Err (record { kind = kind; place = Some (record { table = table; record_number = n }) })

-- records in turn, the first of which has the number n
abbrev pub in_turn_from : {S : Type 0} → ℕ → (S → Record → Result S ErrorKind) → ℕ → S → List Record → Result S Refusal
in_turn_from table step n s [] = Ok s
in_turn_from table step n s (r ∷ rs) =
    at_record table n (step s r) >>= λ s. in_turn_from table step (n + 1) s rs

-- why a call is refused that has this answer where memory suffices
abbrev pub IsRefused : {A : Type 0} → Result A Refusal → Refusal → Type 0
IsRefused answer refusal = (refusal.kind ≡ OutOfMemory) ⊎ (answer ≡ Err refusal)
