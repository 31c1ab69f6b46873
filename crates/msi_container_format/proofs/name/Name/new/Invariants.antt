-- The units so far and those to come are the text's.
use Rattle.std.proofs.Common.{◌≡◌, ◌≤◌, ◌++◌, take, length}
use Rattle.std.specs.Str.{IsUtf8}
use Rattle.std.specs.Str.Iter.{encode_utf16_rest}
use Rattle.msi_container_format.specs.Names.{units_of}
use Rattle.msi_container_format.proofs.Utf16Lemmas.{units_left}
use Rattle.msi_container_format.proofs.name.Name.new.Given as goal

abbrev pub invariant-loop-unit : goal.invariant-loop-unit
invariant-loop-unit l = record {
  few : l.len ≤ 31;
  room : length l.units ≡ 31;
  utf8 : IsUtf8 (encode_utf16_rest l.unit-iterator);
  units : take l.len l.units ++ units_left l.unit-iterator ≡ units_of l.text;
}
