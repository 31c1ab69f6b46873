use Rattle.std.proofs.Common.{◌<◌, inr, [], length, arith, subst, take_all}
use Rattle.std.specs.Io.KnownBytes.{Consumes}
use Rattle.std.proofs.KnownBytes.{Consumes-nil}
use Rattle.std.specs.IoError.{error_kind}
use Rattle.msi_base.proofs.WriteLemmas.{fault_kinds, fault_no_data}
use Rattle.msi_base.proofs.ReadLemmas.{given-kept, given-more, given-none, room-more, room-same}
use Rattle.msi_base.proofs.faults.read_exactly.Goals as goal
use Rattle.msi_base.proofs.faults.read_exactly.Goals.{in-Ok, in-Err+in-Interrupted}

pub reads-init : goal.reads-init
reads-init g c = record { within = omega arith; given = Consumes-nil _ }

pub returns-then-at-bytes-clause-ok : goal.returns-then-at-bytes-clause-ok
returns-then-at-bytes-clause-ok g c =
    subst (Consumes (g.R.Read.remaining c.args.reader.now) (g.R.Read.remaining c.reads.reader)) (take_all c.reads.at c.reads.bytes (omega arith)) c.reads.invariant.given

pub returns-in-Ok-eq0-clause-cut : goal.returns-in-Ok-eq0-clause-cut
returns-in-Ok-eq0-clause-cut g c = λ _.
    let both = c.in-Ok-eq0.ensures.bytes in
    let room : 0 < length c.read.new.buf = omega arith in
    let less : c.reads.at < length c.args.bytes.now = omega arith in
    given-none c.reads.at c.reads.bytes c.reads.invariant.within c.read.new.buf [] _ _ _ _ _ c.in-Ok-eq0.field-0-test c.reads.invariant.given
    both.0 (both.1 c.in-Ok-eq0.field-0-test room) less

pub reads-preserved : goal.reads-preserved
reads-preserved g c = elim c.match-read.branch [
  | in-Ok w ↦ rw w.at-is (record {
    within = room-more c.reads.at c.reads.bytes c.reads.invariant.within c.read.new.buf _ w.in-Ok.n w.in-Ok.ensures.bound.0;
    given = given-more c.reads.at c.reads.bytes c.reads.invariant.within c.read.new.buf _ _ _ _ w.in-Ok.n w.in-Ok.ensures.bound.0
        c.reads.invariant.given w.in-Ok.ensures.bytes.0;
  })
  | in-Err+in-Interrupted w ↦ rw w.at-is (record {
    within = room-same c.reads.at c.reads.bytes c.reads.invariant.within c.read.new.buf _;
    given = given-kept c.reads.at c.reads.bytes c.reads.invariant.within c.read.new.buf _ _ _ _ c.reads.invariant.given w.in-Err.ensures.bytes;
  })
]

pub returns-in_default : goal.returns-in_default
returns-in_default g c = record {
  ok = tt;
  cut = λ cut. fault_no_data (error_kind c.in-Err.error) c.from.result c.from.ensures cut;
  kind = inr (fault_kinds (error_kind c.in-Err.error) c.from.result c.from.ensures);
}
