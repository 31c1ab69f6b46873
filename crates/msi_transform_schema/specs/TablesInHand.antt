-- A table while a transform is applied.
use Rattle.std.specs.Prelude.{◌≡◌, ℕ, ◌≤◌, ⊤, ℤ, pos, int_le, true, List, length, map}
use Rattle.std.specs.Borrow.{Bor}
use Rattle.msi_table_values.specs.Columns.{ColumnDef}
use Rattle.msi_transform_schema.specs.declared.schema.Standing.{Standing}
use Rattle.msi_transform_schema.specs.declared.schema.Standing.TheVariants as stands

-- What the transform does to a table: how it stands, and the columns that are added to it.
-- It is kept from the package, or was found there when it was to be added, and then columns that are told without a
-- number have the numbers from 1 on; or it is added, or gone
pub record TableInHand : Type 0 where
  pub standing : Standing
  pub added : List ColumnDef

abbrev pub table_with : Standing → List ColumnDef → TableInHand
table_with standing added = record { standing = standing; added = added }

-- A package's table has at most 32767 columns, and one with 32 or more gets no further one: so the numbers of columns,
-- and the next number, which is at most one past them, fit a cell of numbers
abbrev pub most_added : ℕ
most_added = 32

abbrev pub most_numbers : ℕ
most_numbers = 32800

abbrev pub HasSmallNumber : Standing → Type 0
HasSmallNumber (stands.Found next) = next ≤ most_numbers
HasSmallNumber stands.Kept = ⊤
HasSmallNumber stands.Added = ⊤
HasSmallNumber stands.Gone = ⊤

-- where a column of this number comes, or is there, the next number is still small
abbrev pub IsNextSmall : ℤ → Standing → Type 0
IsNextSmall number standing = int_le number (pos 32799) ≡ true → HasSmallNumber standing

pub record IsSmall (t : TableInHand) : Type 0 where
  pub few : length t.added ≤ most_added
  pub number : HasSmallNumber t.standing

-- entries by the names that their keys point to
abbrev pub named : {X : Type 0} → List (Bor (List ℕ) × X) → List (List ℕ × X)
named {X} es = map {B = List ℕ × X} (λ e. (e.0.now, e.1)) es
