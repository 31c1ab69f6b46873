use Rattle.std.proofs.Common.{arith, length-drop, subst, take_all}
use Rattle.std.specs.Io.KnownBytes.{Appends}
use Rattle.std.specs.IoError.{error_kind}
use Rattle.std.proofs.KnownBytes.{Appends-kept}
use Rattle.msi_base.proofs.WriteLemmas.{appended-more, fault_kinds, part-kept, part-more}
use Rattle.msi_base.proofs.faults.write_fully.Goals as goal
use Rattle.msi_base.proofs.faults.write_fully.Goals.{in-Ok, in-Err+in-Interrupted}

pub writes-preserved : goal.writes-preserved
writes-preserved g c = elim c.match-write.branch [
  | in-Ok w ↦ rw w.at-is (record {
    within = omega (arith, c.writes.invariant.within, w.in-Ok.ensures.bound, length-drop c.writes.at c.args.bytes.now);
    given = appended-more (g.W.Write.contents c.args.writer.now) (g.W.Write.contents c.writes.writer) (g.W.Write.contents c.write.new.self) c.args.bytes.now c.writes.at w.in-Ok.n c.writes.invariant.given w.in-Ok.ensures.bytes;
  })
  | in-Err+in-Interrupted w ↦ rw w.at-is (record {
    within = c.writes.invariant.within;
    given = Appends-kept _ _ _ _ c.writes.invariant.given w.in-Err.ensures.bytes;
  })
]

pub returns-then-at-bytes-clause-ok : goal.returns-then-at-bytes-clause-ok
returns-then-at-bytes-clause-ok g c =
    subst (Appends (g.W.Write.contents c.args.writer.now) (g.W.Write.contents c.writes.writer)) (take_all c.writes.at c.args.bytes.now (omega arith)) c.writes.invariant.given

pub returns-in-Ok-eq0-clause-part : goal.returns-in-Ok-eq0-clause-part
returns-in-Ok-eq0-clause-part g c =
    part-more (g.W.Write.contents c.args.writer.now) (g.W.Write.contents c.writes.writer) (g.W.Write.contents c.write.new.self) c.args.bytes.now c.writes.at c.in-Ok-eq0.field-0
    c.writes.invariant.within c.in-Ok-eq0.ensures.bound c.writes.invariant.given c.in-Ok-eq0.ensures.bytes

pub returns-in_default : goal.returns-in_default
returns-in_default g c = record {
  ok = tt;
  part = part-kept (g.W.Write.contents c.args.writer.now) (g.W.Write.contents c.writes.writer) (g.W.Write.contents c.write.new.self) c.args.bytes.now c.writes.at
      c.writes.invariant.within c.writes.invariant.given c.in-Err.ensures.bytes;
  kind = fault_kinds (error_kind c.in-Err.error) c.from.result c.from.ensures;
}

pub returns-clause-part : goal.returns-clause-part
returns-clause-part g c = (c.writes.at, c.writes.invariant.within, c.writes.invariant.given)
