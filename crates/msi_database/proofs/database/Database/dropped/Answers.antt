use Rattle.std.proofs.Common.{ap, ◌++◌}
use Rattle.std.specs.FinMap.{entries}
use Rattle.msi_database_changes.specs.Changes.{no_change, pool_of}
use Rattle.msi_database_schema.specs.System.{tables_name, columns_name, validation_name}
use Rattle.msi_database_storage.specs.Kept.{Kept}
use Rattle.msi_database.specs.Dropping.{about_given_back, rows_given_back, own_stream, system_stream}
use Rattle.msi_database.proofs.table_changes.DroppingCallLemmas.{DropLeft, began_by, drop_called, went_on}
use Rattle.msi_database.proofs.database.Database.dropped.Goals as goal

made : (c : goal.After-into_pool) → DropLeft c.self.inside.pool c.self.inside.tables (entries c.self.inside.streams) c.self.inside.is_sound c.self.invariant c.args.self.now c.self.view_is c.args.name.now c.into_pool.result c.in_ok-tables.tables c.forget-3.new.dropping.stored.items c.is_used-is_pool_used.result
made c = let own = c.self.inside in let k = c.args.self.now in let d = k.database in let name = c.args.name.now in
    let u0 = rows_given_back d name (pool_of (no_change d)) in
    let u1 = about_given_back d name validation_name u0 in
    let u2 = about_given_back d name columns_name u1 in
    let s0 = own_stream name in
    let s1 = s0 ++ system_stream d name validation_name in
    let s2 = s1 ++ system_stream d name columns_name in
    let x0 = c.drop_rows.new.dropping in
    let x1 = c.forget.new.dropping in
    let x2 = c.forget-2.new.dropping in
    let x3 = c.forget-3.new.dropping in
    let w0 = began_by k own.pool c.in_ok-clone.field-0 (c.in_ok-clone.ensures.ok) (ap (λ (k : Kept). k.database.pool) c.self.view_is) c.new.result x0.pool c.new.ensures name c.args.table.now c.requires.known
    c.new-2.result.items x0.stored.items c.in_ok-drop_rows.ensures.pool c.in_ok-drop_rows.ensures.page c.in_ok-drop_rows.ensures.long c.new-2.ensures.items c.in_ok-drop_rows.ensures.stored in
    let w1 = went_on d name validation_name x0.pool x1.pool x0.stored.items x1.stored.items u0 s0 w0 c.in_ok-forget.ensures.pool c.in_ok-forget.ensures.page c.in_ok-forget.ensures.long c.in_ok-forget.ensures.stored in
    let w2 = went_on d name columns_name x1.pool x2.pool x1.stored.items x2.stored.items u1 s1 w1 c.in_ok-forget-2.ensures.pool c.in_ok-forget-2.ensures.page c.in_ok-forget-2.ensures.long c.in_ok-forget-2.ensures.stored in
    let w3 = went_on d name tables_name x2.pool x3.pool x2.stored.items x3.stored.items u2 s2 w2 c.in_ok-forget-3.ensures.pool c.in_ok-forget-3.ensures.page c.in_ok-forget-3.ensures.long c.in_ok-forget-3.ensures.stored in
    drop_called own.pool own.tables (entries own.streams) own.is_sound c.self.invariant k c.self.view_is name c.requires.sound c.requires.free c.requires.named
    c.args.table.now c.requires.known x3.pool x3.stored.items w3 c.into_pool.result c.into_pool.ensures c.in_ok-tables.tables c.in_ok-tables.ensures.ok c.is_used-is_pool_used.result c.is_used-is_pool_used.ensures

pub returns-clause-ok : goal.returns-clause-ok
returns-clause-ok c = (made c).makes

pub returns-clause-used : goal.returns-clause-used
returns-clause-used c = (made c).tells

pub returns-clause-names : goal.returns-clause-names
returns-clause-names c = (made c).names
