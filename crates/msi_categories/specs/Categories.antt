-- The names of categories (MSI SDK, "Column Data Types").
use Rattle.std.specs.Prelude.{◌≡◌, ℕ, List, [], ◌∷◌, Option, Some, ◌||◌, find, codes, bytes_eq}
use Rattle.msi_categories.specs.declared.category.Category.{Category}
use Rattle.msi_categories.specs.declared.category.Category.TheVariants as category

-- how a category prints
abbrev pub category_name : Category → List ℕ
category_name category.Text = codes "Text"
category_name category.UpperCase = codes "UpperCase"
category_name category.LowerCase = codes "LowerCase"
category_name category.Integer = codes "Integer"
category_name category.DoubleInteger = codes "DoubleInteger"
category_name category.Number = codes "Number"
category_name category.TimeDate = codes "TimeDate"
category_name category.Identifier = codes "Identifier"
category_name category.Property = codes "Property"
category_name category.Filename = codes "Filename"
category_name category.WildCardFilename = codes "WildCardFilename"
category_name category.Path = codes "Path"
category_name category.Paths = codes "Paths"
category_name category.AnyPath = codes "AnyPath"
category_name category.DefaultDir = codes "DefaultDir"
category_name category.RegPath = codes "RegPath"
category_name category.Formatted = codes "Formatted"
category_name category.FormattedSddlText = codes "FormattedSDDLText"
category_name category.Template = codes "Template"
category_name category.Condition = codes "Condition"
category_name category.Guid = codes "GUID"
category_name category.Version = codes "Version"
category_name category.Language = codes "Language"
category_name category.Binary = codes "Binary"
category_name category.CustomSource = codes "CustomSource"
category_name category.Cabinet = codes "Cabinet"
category_name category.Shortcut = codes "Shortcut"

abbrev pub all_categories : List Category
all_categories = category.Text ∷ category.UpperCase ∷ category.LowerCase ∷ category.Integer
    ∷ category.DoubleInteger ∷ category.Number ∷ category.TimeDate ∷ category.Identifier ∷ category.Property
    ∷ category.Filename ∷ category.WildCardFilename ∷ category.Path ∷ category.Paths ∷ category.AnyPath
    ∷ category.DefaultDir ∷ category.RegPath ∷ category.Formatted ∷ category.FormattedSddlText
    ∷ category.Template ∷ category.Condition ∷ category.Guid ∷ category.Version ∷ category.Language
    ∷ category.Binary ∷ category.CustomSource ∷ category.Cabinet ∷ category.Shortcut ∷ []

-- how else a category may be written
abbrev pub other_name : Category → List ℕ
other_name category.FormattedSddlText = codes "FormattedSddlText"
other_name category.Guid = codes "Guid"
other_name c = category_name c

-- the category that a text names
abbrev pub category_in : List ℕ → Option Category
category_in text = find (λ c. bytes_eq (category_name c) text || bytes_eq (other_name c) text) all_categories

-- a category's name tells it
abbrev pub CategoryNamesComeBack : Type 0
CategoryNamesComeBack = (c : Category) → category_in (category_name c) ≡ Some c
