use Rattle.std.proofs.Common.{◌≡◌, ◌≤◌, ◌++◌, length, chars}
use denote.Text.{Utf8}
use denote.Shadow.{shadow}
use Rattle.msi_container_format.specs.Names.{utf16_units}
use Rattle.msi_container_format.specs.StreamNames.{encoded_name, packed}
use Rattle.msi_container_format.proofs.packing.packed_units.Given as goal

-- The units so far, which are few enough, and those to come are the encoded name's.
abbrev pub invariant-loop-c : goal.invariant-loop-c
invariant-loop-c l = record {
  utf8 : shadow (Utf8 l.rest);
  units : l.units ++ utf16_units (packed (chars l.rest)) ≡ utf16_units (encoded_name l.fn.is_table (chars l.fn.name));
  few : length l.units ≤ 31;
}

abbrev pub decreases-loop-c : goal.decreases-loop-c
decreases-loop-c l = length l.rest
