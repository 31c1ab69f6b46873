use Rattle.std.proofs.Common.{◌≡◌, ◌∙◌, ap, sym, chars, false, true}
use Rattle.std.specs.Prelude.{Some, None, if◌then◌else◌}
use Rattle.msi_container_format.proofs.AcceptedNamesLemmas.{accepted_named}
use Rattle.msi_database_schema.specs.Keys.{is_stream_name, stream_key}
use Rattle.msi_streams.proofs.keys.accepted_key.Goals as goal

pub returns : goal.returns
returns c =
    let name = c.args.name.now in
    let is : is_stream_name name ≡ true = sym c.if-not-is_stream_name.ensures in
    c.packed_name.ensures ∙ accepted_named false (chars name) is ∙ ap (λ b. if b then Some (stream_key name) else None) (sym is)
