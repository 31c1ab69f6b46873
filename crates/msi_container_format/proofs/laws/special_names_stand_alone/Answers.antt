use Rattle.std.proofs.Common.{refl}
use Rattle.std.specs.Str.{chars}
use Rattle.msi_container_format.specs.Names.{units_of}
use Rattle.msi_container_format.specs.declared.streamname.TheConstants.{DIGITAL_SIGNATURE_STREAM_NAME, MSI_DIGITAL_SIGNATURE_EX_STREAM_NAME, SUMMARY_INFO_STREAM_NAME, DOCUMENT_SUMMARY_INFO_STREAM_NAME}
use Rattle.msi_container_format.proofs.SpecialNamesLemmas.{encoded≢valued}
use Rattle.msi_container_format.proofs.laws.special_names_stand_alone.Goals as goal

pub returns : goal.returns
unfolding chars
returns c = λ is_table cs.
    let signature = encoded≢valued is_table cs (units_of DIGITAL_SIGNATURE_STREAM_NAME.now) refl in
    let signature_ex = encoded≢valued is_table cs (units_of MSI_DIGITAL_SIGNATURE_EX_STREAM_NAME.now) refl in
    let summary = encoded≢valued is_table cs (units_of SUMMARY_INFO_STREAM_NAME.now) refl in
    let document = encoded≢valued is_table cs (units_of DOCUMENT_SUMMARY_INFO_STREAM_NAME.now) refl in
    (signature, (signature_ex, (summary, (document, tt))))
