-- Why no transform is made, and the table that is at fault.
use Rattle.std.specs.Prelude.{◌≡◌, ℕ, List, [], Option, Some, IfSome, get_or}
use Rattle.msi_base.specs.declared.errors.ErrorKind.{ErrorKind}
use Rattle.msi_base.specs.Refusals.{Refusals, first_refusal}

-- the place of a table among those of which rows are told
pub record MakingRefusal : Type 0 where
  pub kind : ErrorKind
  pub table : Option ℕ

-- where a table is named, it is refused for a reason of its own
abbrev pub IsAtFault : (List ℕ → Refusals) → List (List ℕ) → MakingRefusal → Type 0
IsAtFault reasons names r = IfSome r.table (λ place. first_refusal (reasons (get_or names place [])) ≡ Some r.kind)
