-- The plain spelling of a value spells it.
use Rattle.std.proofs.Common.{◌≡◌, ℕ, ◌+◌, ◌^◌, ◌<◌, true, List, [], ◌∷◌, length, Some, refl, sym, ap, ◌∙◌, arith, inl}
use Rattle.std.specs.Prelude.{option_and_then}
use Rattle.std.proofs.lemmas.List.{length-append}
use Rattle.msi_base.specs.declared.codepage.CodePage.{CodePage}
use Rattle.msi_base.specs.Pages.{text_in, bytes_in, Reads}
use Rattle.msi_summary_properties.specs.declared.propset.PropertyValue.{PropertyValue}
use Rattle.msi_summary_properties.specs.declared.propset.PropertyValue.TheVariants.{Empty, Null, I1, I2, I4, LpStr, FileTime}
use Rattle.msi_summary_properties.specs.PropertyStream.{SpellsValue, value_bytes, string_bytes_of, IsWritableValue, needs_version_1}
use Rattle.msi_base.proofs.OptionLemmas.{map_some, some_is}

pub spelled_length : (piece : List ℕ) → length (string_bytes_of piece) ≡ length piece + 9
spelled_length piece = omega (arith, length-append piece (0 ∷ []))

-- a value that needs version 1 stands in a set of version 1
pub plain_value : (version : ℕ) (p : CodePage) (v : PropertyValue) (bytes : List ℕ) → (needs_version_1 v ≡ true → version ≡ 1) → length bytes < 2 ^ 32 → IsWritableValue p v → value_bytes p v ≡ Some bytes → SpellsValue version p bytes v
plain_value version p Empty bytes one fits ok e = sym (some_is _ bytes e)
plain_value version p Null bytes one fits ok e = sym (some_is _ bytes e)
plain_value version p (I2 n) bytes one fits ok e = sym (some_is _ bytes e)
plain_value version p (I4 n) bytes one fits ok e = sym (some_is _ bytes e)
plain_value version p (I1 n) bytes one fits ok e = (one refl, sym (some_is _ bytes e))
plain_value version p (LpStr text) bytes one fits ok e =
    let m = map_some (bytes_in p text) string_bytes_of bytes e in
    let reads : Reads p m.0 text = sym (ap (option_and_then (text_in p)) m.1) ∙ ok in
    let long : length (string_bytes_of m.0) ≡ length m.0 + 9 = spelled_length m.0 in
    let is : length bytes ≡ length m.0 + 9 = ap length (sym m.2) ∙ long in
    inl (m.0, omega arith, reads, sym m.2)
plain_value version p (FileTime n) bytes one fits ok e = sym (some_is _ bytes e)
