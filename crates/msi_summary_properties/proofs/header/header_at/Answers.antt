use Rattle.std.specs.Int.{w16, w32}
use Rattle.std.proofs.lemmas.Result.{err_from_is_err_and}
use Rattle.msi_base.specs.Numbers.{bytes_at, number_at}
use Rattle.msi_summary_properties.specs.Reading.{header_at, os_with_number}
use Rattle.msi_summary_properties.proofs.HeaderLemmas.{header_of, no_section, other_mark, other_version, passes}
use Rattle.msi_summary_properties.proofs.StepLemmas.{bind_fails}
use Rattle.msi_summary_properties.proofs.header.header_at.Goals as goal

pub returns-in_err-mark : goal.returns-in_err-mark
unfolding header_at
returns-in_err-mark c =
    let p = err_from_is_err_and c.from_residual.result c.from_residual.ensures.1 in
    rw (p.1, p.2) (bind_fails c.in_err-mark.field-0.0 (number_at w16 c.args.bytes.now) _ c.in_err-mark.ensures)

pub returns-in_err-version : goal.returns-in_err-version
unfolding header_at
returns-in_err-version c =
    let p = err_from_is_err_and c.from_residual-in_err-version.result c.from_residual-in_err-version.ensures.1 in
    rw (p.1, p.2, c.in_ok-mark.ensures) (bind_fails c.in_err-version.field-0.0 (number_at w16 c.in_ok-mark.rest.now) _ c.in_err-version.ensures)

pub returns-in_err-os_version : goal.returns-in_err-os_version
unfolding header_at
returns-in_err-os_version c =
    let p = err_from_is_err_and c.from_residual-in_err-os_version.result c.from_residual-in_err-os_version.ensures.1 in
    rw (p.1, p.2, c.in_ok-mark.ensures, c.in_ok-version.ensures) (bind_fails c.in_err-os_version.field-0.0 (number_at w16 c.in_ok-version.rest.now) _ c.in_err-os_version.ensures)

pub returns-in_err-number : goal.returns-in_err-number
unfolding header_at
returns-in_err-number c =
    let p = err_from_is_err_and c.from_residual-in_err-number.result c.from_residual-in_err-number.ensures.1 in
    rw (p.1, p.2, c.in_ok-mark.ensures, c.in_ok-version.ensures, c.in_ok-os_version.ensures) (bind_fails c.in_err-number.field-0.0 (number_at w16 c.in_ok-os_version.rest.now) _ c.in_err-number.ensures)

pub returns-in_err-clsid : goal.returns-in_err-clsid
unfolding header_at
returns-in_err-clsid c =
    let p = err_from_is_err_and c.from_residual-in_err-clsid.result c.from_residual-in_err-clsid.ensures.1 in
    rw (p.1, p.2, c.in_ok-mark.ensures, c.in_ok-version.ensures, c.in_ok-os_version.ensures, c.in_ok-number.ensures) (bind_fails c.in_err-clsid.field-0.0 (bytes_at 16 c.in_ok-number.rest.now) _ c.in_err-clsid.ensures)

pub returns-in_err-reserved : goal.returns-in_err-reserved
unfolding header_at
returns-in_err-reserved c =
    let p = err_from_is_err_and c.from_residual-in_err-reserved.result c.from_residual-in_err-reserved.ensures.1 in
    rw (p.1, p.2, c.in_ok-mark.ensures, c.in_ok-version.ensures, c.in_ok-os_version.ensures, c.in_ok-number.ensures, c.in_ok-clsid.ensures) (bind_fails c.in_err-reserved.field-0.0 (number_at w32 c.in_ok-clsid.rest.now) _ c.in_err-reserved.ensures)

pub returns-in_err-format_identifier : goal.returns-in_err-format_identifier
unfolding header_at
returns-in_err-format_identifier c =
    let p = err_from_is_err_and c.from_residual-in_err-format_identifier.result c.from_residual-in_err-format_identifier.ensures.1 in
    rw (p.1, p.2, c.in_ok-mark.ensures, c.in_ok-version.ensures, c.in_ok-os_version.ensures, c.in_ok-number.ensures, c.in_ok-clsid.ensures, c.in_ok-reserved.ensures) (bind_fails c.in_err-format_identifier.field-0.0 (bytes_at 16 c.in_ok-reserved.rest.now) _ c.in_err-format_identifier.ensures)

pub returns-in_err-section : goal.returns-in_err-section
unfolding header_at
returns-in_err-section c =
    let p = err_from_is_err_and c.from_residual-in_err-section.result c.from_residual-in_err-section.ensures.1 in
    rw (p.1, p.2, c.in_ok-mark.ensures, c.in_ok-version.ensures, c.in_ok-os_version.ensures, c.in_ok-number.ensures, c.in_ok-clsid.ensures, c.in_ok-reserved.ensures, c.in_ok-format_identifier.ensures) (bind_fails c.in_err-section.field-0.0 (number_at w32 c.in_ok-format_identifier.rest.now) _ c.in_err-section.ensures)

pub returns-in_err-os : goal.returns-in_err-os
unfolding header_at
returns-in_err-os c =
    let p = err_from_is_err_and c.from_residual-in_err-os.result c.from_residual-in_err-os.ensures.1 in
    rw (p.1, p.2, c.in_ok-mark.ensures, c.in_ok-version.ensures, c.in_ok-os_version.ensures, c.in_ok-number.ensures, c.in_ok-clsid.ensures, c.in_ok-reserved.ensures, c.in_ok-format_identifier.ensures, c.in_ok-section.ensures) (bind_fails c.in_err-os.field-0.0 (os_with_number c.in_ok-number.number) _ c.in_err-os.ensures)

pub returns-then-mark : goal.returns-then-mark
returns-then-mark c = rw (header_of c.args.bytes.now _ _ _ _ _ _ _ _ _ c.in_ok-mark.ensures c.in_ok-version.ensures c.in_ok-os_version.ensures c.in_ok-number.ensures c.in_ok-clsid.ensures c.in_ok-reserved.ensures
    c.in_ok-format_identifier.ensures c.in_ok-section.ensures c.in_ok-os.ensures)
    (other_mark c.new.result c.in_ok-mark.mark (record {
      version = c.in_ok-version.version;
      os_version = c.in_ok-os_version.os_version;
      os = c.in_ok-os.os;
      clsid = c.in_ok-clsid.clsid;
      reserved = c.in_ok-reserved.reserved;
      format_identifier = c.in_ok-format_identifier.format_identifier;
      section = c.in_ok-section.section;
    }) c.new.ensures c.if-mark.true)

pub returns-then-version-ge2 : goal.returns-then-version-ge2
returns-then-version-ge2 c = rw (header_of c.args.bytes.now _ _ _ _ _ _ _ _ _ c.in_ok-mark.ensures c.in_ok-version.ensures c.in_ok-os_version.ensures c.in_ok-number.ensures c.in_ok-clsid.ensures c.in_ok-reserved.ensures
    c.in_ok-format_identifier.ensures c.in_ok-section.ensures c.in_ok-os.ensures)
    (other_version c.new-then-version-ge2.result _ _ c.new-then-version-ge2.ensures c.if-mark.false c.if-version-ge2.true)

pub returns-then-reserved-eq0 : goal.returns-then-reserved-eq0
returns-then-reserved-eq0 c = rw (header_of c.args.bytes.now _ _ _ _ _ _ _ _ _ c.in_ok-mark.ensures c.in_ok-version.ensures c.in_ok-os_version.ensures c.in_ok-number.ensures c.in_ok-clsid.ensures c.in_ok-reserved.ensures
    c.in_ok-format_identifier.ensures c.in_ok-section.ensures c.in_ok-os.ensures)
    (no_section c.new-then-reserved-eq0.result _ _ c.new-then-reserved-eq0.ensures c.if-mark.false c.if-version-ge2.false c.if-reserved-eq0.true)

pub returns : goal.returns
returns c = rw (header_of c.args.bytes.now _ _ _ _ _ _ _ _ _ c.in_ok-mark.ensures c.in_ok-version.ensures c.in_ok-os_version.ensures c.in_ok-number.ensures c.in_ok-clsid.ensures c.in_ok-reserved.ensures
    c.in_ok-format_identifier.ensures c.in_ok-section.ensures c.in_ok-os.ensures)
    (passes _ _ c.if-mark.false c.if-version-ge2.false c.if-reserved-eq0.false)
