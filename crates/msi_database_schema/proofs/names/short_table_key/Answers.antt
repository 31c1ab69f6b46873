use Rattle.std.proofs.Common.{◌≡◌, Some, is_some, sym, ap, ◌∙◌}
use Rattle.msi_container_format.proofs.PackedNamesLemmas.{named_some}
use Rattle.msi_database_schema.specs.Keys.{table_key}
use Rattle.msi_database_schema.proofs.names.short_table_key.Goals as goal

pub unwrap-requires : goal.unwrap-requires
unwrap-requires c = ap is_some (c.table_key.ensures.value ∙ named_some (table_key c.args.name.now) c.requires)

pub returns : goal.returns
returns c =
    let same : Some c.unwrap.result ≡ Some (table_key c.args.name.now) =
    sym c.unwrap.ensures ∙ c.table_key.ensures.value ∙ named_some (table_key c.args.name.now) c.requires in
    cc
