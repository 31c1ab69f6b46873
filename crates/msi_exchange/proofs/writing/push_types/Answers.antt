use Rattle.std.proofs.Common.{◌≡◌, ◌∷◌, [], ◌++◌, string_bytes, subst, sym}
use Rattle.msi_exchange.specs.Archives.{ArchiveColumnDef}
use Rattle.msi_exchange.specs.Writing.{line_of, type_field, type_fields}
use Rattle.msi_exchange.proofs.PushedLemmas.{line_written, when_pushed}
use Rattle.msi_exchange.proofs.writing.push_types.Goals as goal

pub returns : goal.returns
returns c =
    when_pushed c.push_str-2.result (string_bytes c.loop-column.text) (13 ∷ 10 ∷ []) (string_bytes c.push_str-2.new.self) _ c.push_str-2.ensures.bytes (λ ended.
    subst (λ columns. string_bytes c.push_str-2.new.self ≡ string_bytes c.args.text.now ++ line_of (type_fields columns)) (sym c.in-Some.ensures.cases.0)
    (line_written (λ (column : ArchiveColumnDef). type_field column.field_type) c.in-Some.first.now c.in-Some.others.now c.loop-column.column-index (string_bytes c.args.text.now) (string_bytes c.push_type.new.text) (string_bytes c.loop-column.text) (string_bytes c.push_str-2.new.self)
    c.loop-column-test.false c.in_ok-push_type.ensures c.loop-column.invariant ended))
