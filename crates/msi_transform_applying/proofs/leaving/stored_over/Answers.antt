use Rattle.std.proofs.Common.{◌∙◌, Bool, ap, map, sym}
use Rattle.std.specs.FinMap.{entries}
use Rattle.msi_database_storage.specs.Storing.{stored_in}
use Rattle.msi_transform_applying.specs.Applying.{table_stored}
use Rattle.msi_transform_applying.proofs.LeavingLemmas.{stored_joined}
use Rattle.msi_transform_applying.proofs.leaving.stored_over.Goals as goal

pub returns-clause-streams : goal.returns-clause-streams
returns-clause-streams c = let long : Bool = c.pool_left-pool.result.long in let tables = c.args.tables.tables.items in
    c.in_ok-store_tables.ensures.ok
    ∙ ap (λ (b : Bool). stored_in (map (table_stored b) tables) (entries c.store_each.new.streams)) c.long_string_refs.ensures
    ∙ ap (stored_in (map (table_stored long) tables)) c.in_ok-store_each.ensures.ok
    ∙ sym (stored_joined c.args.tables.streams.items (map (table_stored long) tables) (entries c.args.under))
