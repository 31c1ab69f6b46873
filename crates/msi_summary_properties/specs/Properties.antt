-- Property sets as values (MS-OLEPS 2.20, 2.21).
use Rattle.std.specs.Prelude.{◌≡◌, ℕ, Bool, true, not, List, [], filter, replicate, Option, Some, None, unwrap_or}
use Rattle.std.specs.Prelude.{is_some, ◌==◌, if◌then◌else◌}
use Rattle.std.specs.Ordering.{nat_cmp}
use Rattle.std.specs.BTreeMap.{insert_entry}
use Rattle.std.specs.Int.{w16, cast_unsigned, cast_signed}
use Rattle.msi_base.specs.declared.codepage.CodePage.{CodePage}
use Rattle.msi_base.specs.declared.codepage.CodePage.TheVariants as page
use Rattle.msi_base.specs.Pages.{page_id, page_with_id}
use Rattle.msi_base.specs.Lists.{entry_where}
use Rattle.msi_summary_properties.specs.declared.propset.PropertyValue.{PropertyValue}
use Rattle.msi_summary_properties.specs.declared.propset.PropertyValue.TheVariants.{I2}
use Rattle.msi_summary_properties.specs.declared.propset.OperatingSystem.{OperatingSystem}

-- values stand by their ids, which ascend
pub record Properties : Type 0 where
  pub os : OperatingSystem
  pub os_version : ℕ
  pub clsid : List ℕ
  pub format_identifier : List ℕ
  pub values : List (ℕ × PropertyValue)

-- a set of its parts
abbrev pub set_of : OperatingSystem → ℕ → List ℕ → List ℕ → List (ℕ × PropertyValue) → Properties
set_of os os_version clsid format values =
    record { os = os; os_version = os_version; clsid = clsid; format_identifier = format; values = values }

abbrev pub value_with_id : ℕ → List (ℕ × PropertyValue) → Option PropertyValue
value_with_id id values = entry_where (λ k. k == id) values

abbrev pub with_value : ℕ → PropertyValue → Properties → Properties
with_value id value set = record set { values = insert_entry nat_cmp set.values id value }

abbrev pub without_value : ℕ → Properties → Properties
without_value id set = record set { values = filter (λ e. not (e.0 == id)) set.values }

-- property 1 names the page, as a number without sign; without it the page is Utf8
abbrev pub page_in : Option PropertyValue → Option CodePage
page_in None = Some page.Utf8
page_in (Some (I2 n)) = page_with_id (cast_unsigned w16 n)
page_in _ = None

abbrev pub page_value : CodePage → PropertyValue
page_value p = I2 (cast_signed w16 (page_id p))

abbrev pub page_of : Properties → CodePage
page_of set = unwrap_or (page_in (value_with_id 1 set.values)) page.Utf8

abbrev pub with_page : CodePage → Properties → Properties
with_page p set = with_value 1 (page_value p) set

-- the page that the values name is known
abbrev pub NamesPage : List (ℕ × PropertyValue) → Type 0
NamesPage values = is_some (page_in (value_with_id 1 values)) ≡ true

-- whether a value may be set: property 1 only to a known page
abbrev pub can_set : ℕ → PropertyValue → Bool
can_set id value = if id == 1 then is_some (page_in (Some value)) else true

-- a set with no property
abbrev pub new_set : OperatingSystem → ℕ → List ℕ → Properties
new_set os os_version format = set_of os os_version (replicate 16 0) format []
