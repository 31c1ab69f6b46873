use Rattle.std.specs.Vec.Iter.{into_iter_items}
use Rattle.msi_database.proofs.calls.ChangingLemmas.{streams_stored, tables_moved_in}
use Rattle.msi_database.proofs.database.Database.store_tables.Goals as goal

pub invariant_of-self-2 : goal.invariant_of-self-2
invariant_of-self-2 c = let d = c.self.inside in let es = c.args.stored.items in
    (tables_moved_in d.pool c.args.pool d.tables c.args.tables d.streams c.store_all.new.streams es d.is_sound c.args.self.now c.self.view_is c.self.invariant c.requires.sound c.requires.kept
    (streams_stored d.streams c.store_all.new.streams es (into_iter_items c.into_iter.result) c.in_ok-store_all.ensures.ok c.into_iter.ensures.rest)).kept

pub returns-clause-ok : goal.returns-clause-ok
returns-clause-ok c = let d = c.self.inside in let es = c.args.stored.items in
    (tables_moved_in d.pool c.args.pool d.tables c.args.tables d.streams c.store_all.new.streams es d.is_sound c.args.self.now c.self.view_is c.self.invariant c.requires.sound c.requires.kept
    (streams_stored d.streams c.store_all.new.streams es (into_iter_items c.into_iter.result) c.in_ok-store_all.ensures.ok c.into_iter.ensures.rest)).same
