-- The texts that names stand for, and names that are listed.
use Rattle.std.proofs.Common.{◌≡◌, Bool, List, ℕ, String, chars, string_bytes, sym, ap, ◌∙◌}
use Rattle.std.proofs.lemmas.Str.{encodes-chars, IsUtf8-string_bytes, scalars-chars}
use Rattle.std.specs.Char.Utf16.{utf16_lossy_chars}
use Rattle.std.specs.Prelude.{encode_utf8_all}
use Rattle.std.specs.Str.{IsUtf8}
use Rattle.msi_container_format.specs.Names.{units_of}
use Rattle.msi_container_format.specs.StreamNames.{decoded_name}
use Rattle.msi_container_format.proofs.SpelledUnitsLemmas.{units_spell}
use Rattle.msi_streams.specs.Listing.{text_of_key}

-- the text that a name stands for, from the text that has its units
pub text_is : {Z : Type 0} (name encoded : List ℕ) (text : String Z) (is_table : Bool) → IsUtf8 encoded → units_of encoded ≡ name
    → (chars (string_bytes text), is_table) ≡ decoded_name (chars encoded) → string_bytes text ≡ text_of_key name
text_is name encoded text is_table utf8 units decoded =
    let spelled_is : utf16_lossy_chars name ≡ chars encoded =
    ap utf16_lossy_chars (sym units) ∙ units_spell (chars encoded) (scalars-chars encoded utf8) in
    sym (encodes-chars (string_bytes text) (IsUtf8-string_bytes text))
    ∙ ap encode_utf8_all (ap (λ p. p.0) decoded ∙ ap (λ cs. (decoded_name cs).0) (sym spelled_is))
