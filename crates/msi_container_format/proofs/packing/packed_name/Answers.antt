use Rattle.std.proofs.Common.{◌≡◌, chars, ap, ◌∙◌}
use Rattle.msi_container_format.specs.Names.{is_text, named, utf16_units}
use Rattle.msi_container_format.specs.StreamNames.{encoded_name}
use Rattle.msi_container_format.proofs.PackedNamesLemmas.{encoded_is_text, named_by}
use Rattle.msi_container_format.proofs.packing.packed_name.Goals as goal

pub returns : goal.returns
returns c =
    let same : c.as_slice.result.now ≡ utf16_units (encoded_name c.args.is_table (chars c.args.name.now)) = c.as_slice.ensures ∙ c.in_ok-units.ensures.units in
    named_by c.from_units.result c.as_slice.result.now (ap is_text same ∙ encoded_is_text c.args.is_table c.args.name.now c.utf8.name)
    c.from_units.ensures.accepted c.from_units.ensures.found
    ∙ ap named same
