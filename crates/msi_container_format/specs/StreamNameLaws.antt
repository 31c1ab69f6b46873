-- What the packing of stream names promises.
use Rattle.std.specs.Prelude.{◌≡◌, ◌≢◌, ℕ, List, [], ◌∷◌, Bool, true, false, IsTrue, length}
use Rattle.std.specs.List.{AllByRecursion}
use Rattle.msi_container_format.specs.declared.streamname.TheConstants.{DIGITAL_SIGNATURE_STREAM_NAME}
use Rattle.msi_container_format.specs.declared.streamname.TheConstants.{MSI_DIGITAL_SIGNATURE_EX_STREAM_NAME}
use Rattle.msi_container_format.specs.declared.streamname.TheConstants.{SUMMARY_INFO_STREAM_NAME}
use Rattle.msi_container_format.specs.declared.streamname.TheConstants.{DOCUMENT_SUMMARY_INFO_STREAM_NAME}
use Rattle.msi_container_format.specs.Names.{is_name_length, units_of, utf16_units}
use Rattle.msi_container_format.specs.StreamNames.{decoded_name, encoded_name, is_valid_name}

-- An accepted name and its mark come back, and the container takes the encoded name.
abbrev pub AcceptedNamesComeBack : Type 0
AcceptedNamesComeBack = (is_table : Bool) (cs : List ℕ) → is_valid_name is_table cs ≡ true
    → (decoded_name (encoded_name is_table cs) ≡ (cs, is_table))
    × IsTrue (is_name_length (length (utf16_units (encoded_name is_table cs))))

-- No other accepted name and mark is encoded alike.
abbrev pub EncodedNamesTellNames : Type 0
EncodedNamesTellNames = (is_table is_other_table : Bool) (cs ds : List ℕ)
    → is_valid_name is_table cs ≡ true → is_valid_name is_other_table ds ≡ true
    → encoded_name is_table cs ≡ encoded_name is_other_table ds → (cs ≡ ds) × (is_table ≡ is_other_table)

-- the names of the streams that a package has beside its tables and the streams put into it, which stand as they are
abbrev pub special_names : List (List ℕ)
special_names = DIGITAL_SIGNATURE_STREAM_NAME.now ∷ MSI_DIGITAL_SIGNATURE_EX_STREAM_NAME.now
    ∷ SUMMARY_INFO_STREAM_NAME.now ∷ DOCUMENT_SUMMARY_INFO_STREAM_NAME.now ∷ []

-- No name is encoded as one of these, whether a stream's or a table's: units of the container's names are compared.
abbrev pub SpecialNamesStandAlone : Type 0
SpecialNamesStandAlone = (is_table : Bool) (cs : List ℕ)
    → AllByRecursion (λ special. utf16_units (encoded_name is_table cs) ≢ units_of special) special_names

-- No accepted stream name is encoded as the name of a table's stream.
abbrev pub StreamsAreNoTables : Type 0
StreamsAreNoTables = (cs ds : List ℕ) → is_valid_name false cs ≡ true
    → utf16_units (encoded_name false cs) ≢ utf16_units (encoded_name true ds)
