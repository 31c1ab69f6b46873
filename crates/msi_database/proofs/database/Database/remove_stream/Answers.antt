use Rattle.std.proofs.Common.{None}
use Rattle.msi_database.proofs.keeping.OtherStreamLemmas.{held_before, stays}
use Rattle.msi_database.proofs.database.Database.remove_stream.Goals as goal

pub invariant_of-self : goal.invariant_of-self
invariant_of-self c = let d = c.self.inside in
    (stays d.pool d.tables d.streams d.is_sound c.args.self.now c.self.view_is c.remove.new.self c.args.name.now None c.self.invariant c.requires c.know_length.ensures c.remove.ensures.gone).kept

pub returns-clause-held : goal.returns-clause-held
returns-clause-held c = let d = c.self.inside in
    held_before d.pool d.tables d.streams d.is_sound c.args.self.now c.self.view_is c.args.name.now c.remove.result c.remove.ensures.held

pub returns-clause-gone : goal.returns-clause-gone
returns-clause-gone c = let d = c.self.inside in
    (stays d.pool d.tables d.streams d.is_sound c.args.self.now c.self.view_is c.remove.new.self c.args.name.now None c.self.invariant c.requires c.know_length.ensures c.remove.ensures.gone).same
