-- Worked streams, by computation.
use Rattle.std.specs.Prelude.{◌≡◌, [], ◌∷◌, Some, refl, codes, length, negsuc, option_map, drop, replicate, take}
use Rattle.msi_base.specs.declared.codepage.CodePage.TheVariants as page
use Rattle.msi_summary_properties.specs.declared.propset.PropertyValue.TheVariants.{I2, LpStr}
use Rattle.msi_summary_properties.specs.declared.propset.OperatingSystem.TheVariants as os
use Rattle.msi_summary_properties.specs.Properties.{Properties, new_set, with_page, with_value}
use Rattle.msi_summary_properties.specs.PropertyStream.{property_stream, value_bytes}

-- a page and a title
abbrev titled : Properties
titled = with_value 2 (LpStr (codes "Installation Database")) (with_page page.Utf8 (new_set os.Win32 10 (replicate 16 0)))

titled_length : option_map length (property_stream titled) ≡ Some 112
titled_length = refl

titled_places : option_map (λ bytes. take 32 (drop 48 bytes)) (property_stream titled)
    ≡ Some (64 ∷ 0 ∷ 0 ∷ 0 ∷ 2 ∷ 0 ∷ 0 ∷ 0 ∷ 1 ∷ 0 ∷ 0 ∷ 0 ∷ 24 ∷ 0 ∷ 0 ∷ 0 ∷ 2 ∷ 0 ∷ 0 ∷ 0 ∷ 32 ∷ 0 ∷ 0 ∷ 0 ∷ 2 ∷ 0 ∷ 0 ∷ 0 ∷ 0xE9 ∷ 0xFD ∷ 0 ∷ 0 ∷ [])
titled_places = refl

short_value : value_bytes page.Utf8 (I2 (negsuc 1233)) ≡ Some (2 ∷ 0 ∷ 0 ∷ 0 ∷ 0x2E ∷ 0xFB ∷ [])
short_value = refl
