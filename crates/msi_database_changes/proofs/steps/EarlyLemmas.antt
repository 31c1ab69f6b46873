-- Refusals that are told before memory is taken.
use Rattle.std.proofs.Common.{◌≡◌, ◌++◌, Option, Some, None, ap, ◌∙◌}
use Rattle.msi_base.specs.declared.errors.ErrorKind.{ErrorKind}
use Rattle.msi_base.specs.declared.errors.ErrorKind.TheVariants.{NotFound}
use Rattle.msi_base.specs.Refusals.{Refusals, first_refusal}
use Rattle.msi_table_cells.specs.TableCells.{TableCells}
use Rattle.msi_database_changes.specs.Changes.{missing_or}
use Rattle.msi_database_changes.proofs.steps.RefusedLemmas.{behind_passed}

-- there is no table
pub missing_first : (rs : Refusals) (o : Option TableCells) (f : TableCells → Refusals) → first_refusal rs ≡ None → o ≡ None → first_refusal (rs ++ missing_or o f) ≡ Some NotFound
missing_first rs o f passed none = behind_passed rs (missing_or o f) passed ∙ ap (λ (o : Option TableCells). first_refusal (missing_or o f)) none

-- there is one, and what it refuses decides
pub found_first : (rs : Refusals) (o : Option TableCells) (f : TableCells → Refusals) (t : TableCells) (k : Option ErrorKind) → first_refusal rs ≡ None → o ≡ Some t → first_refusal (f t) ≡ k → first_refusal (rs ++ missing_or o f) ≡ k
found_first rs o f t k passed there e = behind_passed rs (missing_or o f) passed ∙ ap (λ (o : Option TableCells). first_refusal (missing_or o f)) there ∙ e
