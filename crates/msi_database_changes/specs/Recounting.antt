-- Counting anew: the count of each place becomes the number of the cells that name it.
use Rattle.std.specs.Prelude.{◌≡◌, ℕ, ◌+◌, Bool, true, not, List, [], ◌∷◌, ◌++◌, length, nat_le, None, Result}
use Rattle.std.specs.List.{list_all}
use Rattle.msi_base.specs.declared.errors.ErrorKind.{ErrorKind}
use Rattle.msi_base.specs.declared.errors.ErrorKind.TheVariants.{InvalidData}
use Rattle.msi_base.specs.Lists.{tabulated}
use Rattle.msi_pool.specs.Recounting.{many_recounted, with_counts}
use Rattle.msi_base.specs.Refusals.{Refusals, first_refusal, unless_refused}
use Rattle.msi_database_changes.specs.Database.{Database, CountsAreExact, cells_naming, is_sound, is_well_formed}
use Rattle.msi_database_changes.specs.Database.{names_stay_in_pool, pool_fits_width, tables_are_readable, values_of}
use Rattle.msi_database_changes.specs.Database.{validation_is_standard, with_places}
use Rattle.msi_database_changes.specs.Laws.{KeysAreDistinct}

-- how many cells name each place, in the places' order
abbrev pub cell_counts : Database → List ℕ
cell_counts d = tabulated (length d.pool.places) (λ i. cells_naming d (i + 1))

-- the database with these counts, and how many places get another one
abbrev pub recounted : Database → Database
recounted d = with_places (with_counts (cell_counts d) d.pool.places) d

abbrev pub counts_changed : Database → ℕ
counts_changed d = many_recounted (cell_counts d) d.pool.places

-- a count has 16 bits
abbrev pub counts_fit : Database → Bool
counts_fit d = list_all (λ n. nat_le n 65535) (cell_counts d)

-- what refuses a recount: first what is seen without memory
abbrev pub early_recount_refusals : Database → Refusals
early_recount_refusals d = (not (tables_are_readable d), InvalidData) ∷ (not (pool_fits_width d), InvalidData) ∷ []

abbrev pub counting_refusals : Database → Refusals
counting_refusals d = (not (validation_is_standard d), InvalidData) ∷ (not (names_stay_in_pool d), InvalidData)
    ∷ (not (counts_fit d), InvalidData) ∷ []

abbrev pub recount_refusals : Database → Refusals
recount_refusals d = early_recount_refusals d ++ counting_refusals d

-- what it answers
abbrev pub recount : Database → Result ℕ ErrorKind
recount d = unless_refused (recount_refusals d) (counts_changed d)

-- A database that was recounted is well formed and sound, each count is the number of its cells, every table has the
-- values that it had, and keys that were distinct still are
pub record IsRecounted (old new : Database) : Type 0 where
  pub formed : is_well_formed new ≡ true
  pub sound : is_sound new ≡ true
  pub counts : CountsAreExact new
  pub values : (name : List ℕ) → values_of new name ≡ values_of old name
  pub keys : KeysAreDistinct old → KeysAreDistinct new

abbrev pub RecountsMakeExact : Type 0
RecountsMakeExact = (d : Database) → is_well_formed d ≡ true → first_refusal (recount_refusals d) ≡ None
    → IsRecounted d (recounted d)
