-- The header that the code reads, as the definitions see it.
use Rattle.msi_summary_properties.specs.declared.header.Head.{Head}
use Rattle.msi_summary_properties.specs.Reading.{Header}

abbrev pub view_head : Head → Header
view_head h = record {
  version = h.version;
  os_version = h.os_version;
  os = h.os;
  clsid = h.clsid;
  reserved = h.reserved;
  format_identifier = h.format_identifier;
  section = h.section;
}
