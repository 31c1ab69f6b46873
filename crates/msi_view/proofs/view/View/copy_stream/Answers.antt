use Rattle.std.proofs.Common.{rules, ◌≡◌}
use Rattle.std.specs.Io.KnownBytes.{Appends}
use Rattle.msi_base.specs.Faults.{AppendsPart}
use Rattle.msi_view.proofs.ViewLemmas.{copied_any, look_kept, part_any, reads_one}
use Rattle.msi_view.proofs.view.View.copy_stream.Goals as goal

pub invariant_of-self : goal.invariant_of-self
invariant_of-self g c = look_kept _ _ c.self.inside.catalog _ c.copy.ensures.same c.self.invariant

pub returns-clause-reads : goal.returns-clause-reads
returns-clause-reads g c =
    let same : c.self.inside.container ≡ c.args.self.now = search rules in
    rw (← same) (reads_one c.self.inside.container c.copy.new.self c.args.name.now c.copy.ensures.same)

pub returns-clause-ok : goal.returns-clause-ok
returns-clause-ok g c =
    let same : c.self.inside.container ≡ c.args.self.now = search rules in
    rw (← same) (copied_any c.copy.result c.self.inside.container c.args.name.now (λ bytes. Appends (g.W.Write.contents c.args.to.now) (g.W.Write.contents c.copy.new.to) bytes) c.copy.ensures.ok)

pub returns-clause-part : goal.returns-clause-part
returns-clause-part g c =
    let same : c.self.inside.container ≡ c.args.self.now = search rules in
    rw (← same) (part_any c.copy.result c.self.inside.container c.args.name.now (λ bytes. AppendsPart (g.W.Write.contents c.args.to.now) (g.W.Write.contents c.copy.new.to) bytes) c.copy.ensures.part)
