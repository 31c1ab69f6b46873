-- The summary's properties (Windows Installer SDK, "Summary Information Stream Property Set"): their ids, and the names
-- that the programs use.
use Rattle.std.specs.Prelude.{◌≡◌, ℕ, List, [], ◌∷◌, Option, Some, find, codes, bytes_eq}
use Rattle.msi_summary.specs.declared.property.TextProperty.{TextProperty}
use Rattle.msi_summary.specs.declared.property.TextProperty.TheVariants.{Title, Subject, Author, Comments, LastSavedBy}
use Rattle.msi_summary.specs.declared.property.TextProperty.TheVariants.{CreatingApplication}
use Rattle.msi_summary.specs.declared.property.NumberProperty.{NumberProperty}
use Rattle.msi_summary.specs.declared.property.NumberProperty.TheVariants.{PageCount, WordCount, CharacterCount}
use Rattle.msi_summary.specs.declared.property.NumberProperty.TheVariants.{DocSecurity}
use Rattle.msi_summary.specs.declared.property.TimeProperty.{TimeProperty}
use Rattle.msi_summary.specs.declared.property.TimeProperty.TheVariants.{LastPrinted, CreationTime, LastSavedTime}
use Rattle.msi_summary.specs.declared.property.SummaryProperty.{SummaryProperty}
use Rattle.msi_summary.specs.declared.property.SummaryProperty.TheVariants.{Codepage, Text, Number, Time, Keywords}
use Rattle.msi_summary.specs.declared.property.SummaryProperty.TheVariants.{Arch, Languages, Uuid}

abbrev pub text_id : TextProperty → ℕ
text_id Title = 2
text_id Subject = 3
text_id Author = 4
text_id Comments = 6
text_id LastSavedBy = 8
text_id CreatingApplication = 18

abbrev pub number_id : NumberProperty → ℕ
number_id PageCount = 14
number_id WordCount = 15
number_id CharacterCount = 16
number_id DocSecurity = 19

abbrev pub time_id : TimeProperty → ℕ
time_id LastPrinted = 11
time_id CreationTime = 12
time_id LastSavedTime = 13

abbrev pub codepage_id : ℕ
codepage_id = 1

abbrev pub keywords_id : ℕ
keywords_id = 5

abbrev pub template_id : ℕ
template_id = 7

abbrev pub uuid_id : ℕ
uuid_id = 9

-- the architecture and the languages are both in the template
abbrev pub property_id : SummaryProperty → ℕ
property_id Codepage = codepage_id
property_id (Text p) = text_id p
property_id (Number p) = number_id p
property_id (Time p) = time_id p
property_id Keywords = keywords_id
property_id Arch = template_id
property_id Languages = template_id
property_id Uuid = uuid_id

abbrev pub text_name : TextProperty → List ℕ
text_name Title = codes "title"
text_name Subject = codes "subject"
text_name Author = codes "author"
text_name Comments = codes "comments"
text_name LastSavedBy = codes "last_saved_by"
text_name CreatingApplication = codes "creating_application"

abbrev pub number_name : NumberProperty → List ℕ
number_name PageCount = codes "page_count"
number_name WordCount = codes "word_count"
number_name CharacterCount = codes "character_count"
number_name DocSecurity = codes "doc_security"

abbrev pub time_name : TimeProperty → List ℕ
time_name LastPrinted = codes "last_printed"
time_name CreationTime = codes "creation_time"
time_name LastSavedTime = codes "last_saved_time"

abbrev pub property_name : SummaryProperty → List ℕ
property_name Codepage = codes "codepage"
property_name (Text p) = text_name p
property_name (Number p) = number_name p
property_name (Time p) = time_name p
property_name Keywords = codes "keywords"
property_name Arch = codes "arch"
property_name Languages = codes "languages"
property_name Uuid = codes "uuid"

abbrev pub all_properties : List SummaryProperty
all_properties = Codepage ∷ Text Title ∷ Text Subject ∷ Text Author ∷ Keywords ∷ Text Comments ∷ Arch ∷ Languages
    ∷ Text LastSavedBy ∷ Uuid ∷ Time LastPrinted ∷ Time CreationTime ∷ Time LastSavedTime ∷ Number PageCount
    ∷ Number WordCount ∷ Number CharacterCount ∷ Text CreatingApplication ∷ Number DocSecurity ∷ []

-- the property of a name
abbrev pub property_named : List ℕ → Option SummaryProperty
property_named name = find (λ p. bytes_eq (property_name p) name) all_properties

-- a property's name tells it
abbrev pub PropertyNamesComeBack : Type 0
PropertyNamesComeBack = (p : SummaryProperty) → property_named (property_name p) ≡ Some p
