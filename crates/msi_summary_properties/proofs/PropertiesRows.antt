-- Worked examples of sets, by computation.
use Rattle.std.specs.Prelude.{◌≡◌, true, false, [], ◌∷◌, refl, map, replicate, pos, negsuc}
use Rattle.msi_base.specs.declared.codepage.CodePage.TheVariants as page
use Rattle.msi_summary_properties.specs.declared.propset.PropertyValue.TheVariants.{I2, I4}
use Rattle.msi_summary_properties.specs.declared.propset.OperatingSystem.TheVariants as os
use Rattle.msi_summary_properties.specs.Properties.{Properties, can_set, new_set, with_value, without_value, with_page, page_of}

abbrev bare : Properties
bare = new_set os.Win32 10 (replicate 16 0)

page_values : map (can_set 1) (I2 (pos 1) ∷ I4 (pos 1252) ∷ I2 (negsuc 534) ∷ []) ≡ false ∷ false ∷ true ∷ []
page_values = refl

page_unsigned : page_of (with_value 1 (I2 (negsuc 534)) bare) ≡ page.Utf8
page_unsigned = refl

page_back : page_of (with_page page.Utf8 (with_page page.Windows1252 bare)) ≡ page.Utf8
page_back = refl

page_removed : page_of (without_value 1 (with_page page.Windows1252 bare)) ≡ page.Utf8
page_removed = refl
