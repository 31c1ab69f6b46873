-- Worked examples, by computation: what the streams describe is what the calls made, also for columns at the edges of their rules.
use Rattle.std.specs.Prelude.{◌≡◌, ℕ, ℤ, Bool, true, false, not, bytes_eq, zip, ◌==◌, ◌&&◌, List, [], ◌∷◌, Option, Some, None, refl, codes, length, pos, negsuc}
use Rattle.msi_categories.specs.declared.category.Category.{Category}
use Rattle.msi_categories.specs.declared.category.Category.TheVariants as category
use Rattle.msi_categories.specs.Categories.{all_categories, category_name}
use Rattle.std.specs.List.{list_all}
use Rattle.std.specs.Option.{option_map_or}
use Rattle.std.specs.Ordering.{int_cmp, is_eq}
use Rattle.msi_table_values.specs.declared.value.Value.TheVariants.{Str}
use Rattle.msi_table_values.specs.declared.column.ColumnType.TheVariants.{Int16, Int32}
use Rattle.msi_table_values.specs.declared.column.ColumnType.TheVariants as coltype
use Rattle.msi_table_values.specs.Columns.{ColumnDef, type_bits}
use Rattle.msi_database.specs.Database.{has_table, columns_by_name}
use Rattle.msi.specs.declared.kinds.PackageType.TheVariants as kind
use Rattle.msi_database_schema.specs.System.{plain_column, key, nullable, one_of, in_range, of_category}
use Rattle.msi.specs.State.{State}
use Rattle.msi.specs.Calls.{Call, Answer}
use Rattle.msi.specs.Calls as calls
use Rattle.msi.specs.Steps.{outcome}
use Rattle.msi.specs.Runs.{fresh}
use Rattle.msi_database_storage.specs.Agreement.{schema_in}

abbrev state_after : State → Call → State
state_after s c = (outcome 0 s c).1

abbrev odd : List ColumnDef
odd = key (plain_column (codes "K") (coltype.Str 0))
    ∷ one_of ([] ∷ []) (plain_column (codes "A") (coltype.Str 255))
    ∷ one_of (codes "a" ∷ [] ∷ []) (nullable (plain_column (codes "B") Int16))
    ∷ record (in_range (negsuc 4) (pos 7) (plain_column (codes "C") Int32)) { is_localizable = true; foreign_key = Some (codes "Odd", pos 32) }
    ∷ nullable (plain_column (codes "D") coltype.Binary)
    ∷ of_category category.FormattedSddlText (plain_column (codes "E") (coltype.Str 4))
    ∷ of_category category.Guid (plain_column (codes "F") (coltype.Str 4)) ∷ []

abbrev made : State
made = state_after (fresh kind.Installer) (calls.create_table (codes "Odd") odd)

is_there : has_table (codes "Odd") made.kept.database ≡ true
unfolding Rattle.std.specs.Str.chars
is_there = refl

abbrev all_same : {X : Type 0} → (X → X → Bool) → List X → List X → Bool
all_same eq xs ys = (length xs == length ys) && list_all (λ e. eq e.0 e.1) (zip xs ys)

abbrev int_same : ℤ → ℤ → Bool
int_same a b = is_eq (int_cmp a b)

abbrev range_same : Option (ℤ × ℤ) → Option (ℤ × ℤ) → Bool
range_same None None = true
range_same (Some a) (Some b) = int_same a.0 b.0 && int_same a.1 b.1
range_same _ _ = false

abbrev foreign_same : Option (List ℕ × ℤ) → Option (List ℕ × ℤ) → Bool
foreign_same None None = true
foreign_same (Some a) (Some b) = bytes_eq a.0 b.0 && int_same a.1 b.1
foreign_same _ _ = false

abbrev category_same : Option Category → Option Category → Bool
category_same None None = true
category_same (Some a) (Some b) = bytes_eq (category_name a) (category_name b)
category_same _ _ = false

abbrev flag_same : Bool → Bool → Bool
flag_same true b = b
flag_same false b = not b

abbrev column_same : ColumnDef → ColumnDef → Bool
column_same a b = bytes_eq a.name b.name && (type_bits a == type_bits b) && flag_same a.is_nullable b.is_nullable && range_same a.value_range b.value_range
    && foreign_same a.foreign_key b.foreign_key && category_same a.category b.category && all_same bytes_eq a.enum_values b.enum_values

abbrev schema_same : State → Bool
schema_same s = option_map_or (λ ts. all_same (λ a b. bytes_eq a.0 b.0 && all_same column_same a.1 b.1) ts (columns_by_name s.kept.database)) (schema_in s.kept.streams s.kept.database.pool) false

schema : schema_same made ≡ true
unfolding Rattle.std.specs.Str.chars
schema = refl

abbrev of_one : Category → State
of_one c = state_after (fresh kind.Installer) (calls.create_table (codes "Odd") (key (of_category c (plain_column (codes "K") (coltype.Str 0))) ∷ []))

-- every category comes back
schema_each : list_all (λ c. has_table (codes "Odd") (of_one c).kept.database && schema_same (of_one c)) all_categories ≡ true
unfolding Rattle.std.specs.Str.chars
schema_each = refl

-- rows of the table, a description, and the table dropped
abbrev described : State
described = state_after made (calls.update_rows (record { table = codes "_Validation"; sets = (codes "Description", Str (codes "Text")) ∷ []; condition = None }))

described_schema : schema_same described ≡ true
unfolding Rattle.std.specs.Str.chars
described_schema = refl

dropped_schema : schema_same (state_after described (calls.drop_table (codes "Odd"))) ≡ true
unfolding Rattle.std.specs.Str.chars
dropped_schema = refl
