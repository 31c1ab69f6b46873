use Rattle.std.proofs.Common.{Some}
use Rattle.msi_base.proofs.ResultLemmas.{on_err_from}
use Rattle.msi_database.proofs.keeping.OtherStreamLemmas.{absent_before, held_before, stays, there_after}
use Rattle.msi_database.proofs.database.Database.replace_stream.Goals as goal

pub returns-in_err-replace-clause-absent : goal.returns-in_err-replace-clause-absent
returns-in_err-replace-clause-absent c = let d = c.self.inside in
    on_err_from c.from_residual.result
    (absent_before d.pool d.tables d.streams d.is_sound c.args.self.now c.self.view_is c.args.name c.in_err-replace.ensures.absent)

pub invariant_of-self-2 : goal.invariant_of-self-2
invariant_of-self-2 c = let d = c.self.inside in
    (stays d.pool d.tables d.streams d.is_sound c.args.self.now c.self.view_is c.replace.new.self c.args.name (Some c.args.bytes) c.self.invariant c.requires c.know_length.ensures c.in_ok-replace.ensures.ok).kept

pub returns-clause-ok : goal.returns-clause-ok
returns-clause-ok c = let d = c.self.inside in
    (stays d.pool d.tables d.streams d.is_sound c.args.self.now c.self.view_is c.replace.new.self c.args.name (Some c.args.bytes) c.self.invariant c.requires c.know_length.ensures c.in_ok-replace.ensures.ok).same

pub returns-clause-held : goal.returns-clause-held
returns-clause-held c = let d = c.self.inside in
    held_before d.pool d.tables d.streams d.is_sound c.args.self.now c.self.view_is c.args.name c.in_ok-replace.field-0 c.in_ok-replace.ensures.held

pub returns-clause-there : goal.returns-clause-there
returns-clause-there c = there_after c.replace.new.self c.args.name c.in_ok-replace.ensures.there
