-- Worked rows: which streams are listed, and under which names.
use Rattle.std.specs.Char.Utf16.{utf16_chars}
use Rattle.std.specs.Prelude.{◌≡◌, [], ◌∷◌, codes, refl}
use Rattle.std.specs.Str.{chars}
use Rattle.msi_database_schema.specs.Keys.{document_summary_key, signature_ex_key, signature_key, stream_key, summary_key, table_key}
use Rattle.msi_streams.specs.Listing.{listed_names}
use lib.Utf8.{encode}

one_is_listed : listed_names (summary_key ∷ stream_key (codes "Icon.a") ∷ table_key (codes "Icon") ∷ signature_key ∷ []) ≡ codes "Icon.a" ∷ []
unfolding chars utf16_chars encode
one_is_listed = refl

others_are_not : listed_names (document_summary_key ∷ signature_ex_key ∷ table_key (codes "_Tables") ∷ []) ≡ []
unfolding chars
others_are_not = refl

-- a name that isn't packed is its own text, also where it ends in a surrogate pair
unpacked_name : listed_names ((0x41 ∷ 0xD83D ∷ 0xDE00 ∷ []) ∷ []) ≡ (0x41 ∷ 0xF0 ∷ 0x9F ∷ 0x98 ∷ 0x80 ∷ []) ∷ []
unfolding utf16_chars encode
unpacked_name = refl
