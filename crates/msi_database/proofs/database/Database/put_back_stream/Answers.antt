use Rattle.msi_database.proofs.keeping.OtherStreamLemmas.{stays, there_before}
use Rattle.msi_database.proofs.database.Database.put_back_stream.Goals as goal

pub put_back-requires : goal.put_back-requires
put_back-requires c = let d = c.self.inside in
    there_before d.pool d.tables d.streams d.is_sound c.args.self.now c.self.view_is c.args.name.now c.requires.there

pub invariant_of-self : goal.invariant_of-self
invariant_of-self c = let d = c.self.inside in
    (stays d.pool d.tables d.streams d.is_sound c.args.self.now c.self.view_is c.put_back.new.streams c.args.name.now c.args.bytes c.self.invariant c.requires.other c.know_length.ensures c.put_back.ensures).kept

pub returns : goal.returns
returns c = let d = c.self.inside in
    (stays d.pool d.tables d.streams d.is_sound c.args.self.now c.self.view_is c.put_back.new.streams c.args.name.now c.args.bytes c.self.invariant c.requires.other c.know_length.ensures c.put_back.ensures).same
