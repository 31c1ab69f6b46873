-- Bytes spell one set, what is written of a set is read as the set, and calls change one value.
use Rattle.std.specs.Prelude.{◌≡◌, ℕ, ◌^◌, ◌<◌, false, List, [], ◌∷◌, Some, None, IsSome, ◌==◌, if◌then◌else◌}
use Rattle.std.specs.List.{AllByRecursion}
use Rattle.msi_summary_properties.specs.declared.propset.PropertyValue.{PropertyValue}
use Rattle.msi_summary_properties.specs.Properties.{Properties, page_in, value_with_id, with_value, without_value}
use Rattle.msi_summary_properties.specs.PropertyStream.{FitsHeader, FitsValue, Spells, AreWritable, property_stream}
use Rattle.msi_summary_properties.specs.PropertyWriting.{is_refused}

-- each id is below those behind it
abbrev pub Ascending : {X : Type 0} → List (ℕ × X) → Type 0
Ascending [] = Unit {0}
Ascending (e ∷ es) = AllByRecursion (λ f. e.0 < f.0) es × Ascending es

-- each value is one that its type holds
abbrev pub AreInRange : List (ℕ × PropertyValue) → Type 0
AreInRange entries = AllByRecursion (λ e. FitsValue e.1) entries

-- a set as it is kept: fields and values that their types hold, ids of 32 bits that ascend, and a page that is known
pub record IsKept (set : Properties) : Type 0 where
  pub header : FitsHeader set
  pub ids : AllByRecursion (λ e. e.0 < 2 ^ 32) set.values
  pub ascending : Ascending set.values
  pub range : AreInRange set.values
  pub page : IsSome (page_in (value_with_id 1 set.values))

-- bytes spell at most one set
abbrev pub OneSet : Type 0
OneSet = (bytes : List ℕ) (a b : Properties) → AllByRecursion (λ b. b < 2 ^ 8) bytes
    → Spells bytes a → Spells bytes b → a ≡ b

-- what is written of a set whose texts the page can carry there and back spells the set
abbrev pub SetsReadBack : Type 0
SetsReadBack = (set : Properties) (bytes : List ℕ) → IsKept set → AreWritable set → is_refused set ≡ false
    → property_stream set ≡ Some bytes → Spells bytes set

-- what is written of a set that isn't refused spells a set, though a text that the page doesn't carry back has changed
abbrev pub CanBeRead : Properties → Type 0
CanBeRead set = (bytes : List ℕ) → is_refused set ≡ false → property_stream set ≡ Some bytes
    → (read : Properties) × Spells bytes read

-- a value that is set is there, and every other stays
abbrev pub SettingChangesOne : Type 0
SettingChangesOne = (id other : ℕ) (value : PropertyValue) (set : Properties)
    → value_with_id other (with_value id value set).values
    ≡ (if id == other then Some value else value_with_id other set.values)

-- a value that is removed is gone, and every other stays
abbrev pub RemovingChangesOne : Type 0
RemovingChangesOne = (id other : ℕ) (set : Properties)
    → value_with_id other (without_value id set).values
    ≡ (if id == other then None else value_with_id other set.values)
