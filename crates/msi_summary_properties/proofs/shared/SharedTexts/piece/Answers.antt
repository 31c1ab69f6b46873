use Rattle.std.proofs.Common.{arith}
use Rattle.std.specs.Rc.{rc_str_bytes}
use Rattle.msi_summary_properties.proofs.SharedTextsLemmas.{found, reads_between}
use Rattle.msi_summary_properties.specs.SharedTexts.{IsCut}
use Rattle.msi_summary_properties.proofs.shared.SharedTexts.piece.Goals as goal

pub returns-then-is_char_boundary-2-clause-ok : goal.returns-then-is_char_boundary-2-clause-ok
returns-then-is_char_boundary-2-clause-ok c = λ page bytes all cuts.
    let whole = rc_str_bytes c.args.self.now.whole in
    let from = c.in-Some-Some.field-0-0.now in
    let to = c.in-Some-Some.field-0-1.now in
    let first = found (IsCut page bytes whole) c.args.self.now.cuts.entries c.args.start from cuts c.in-Some-Some.ensures.value in
    let last = found (IsCut page bytes whole) c.args.self.now.cuts.entries c.args.end to cuts c.in-Some-Some.ensures'.value in
    rw (c.new.ensures, c.in_ok-clone.ensures.cases) (reads_between page bytes whole c.args.start c.args.end from to all first last c.requires (omega (arith, c.if-from-to.true)))

pub returns-then-is_char_boundary-2-clause-within : goal.returns-then-is_char_boundary-2-clause-within
returns-then-is_char_boundary-2-clause-within c = λ page bytes cuts.
    let whole = rc_str_bytes c.args.self.now.whole in
    let last = found (IsCut page bytes whole) c.args.self.now.cuts.entries c.args.end c.in-Some-Some.field-0-1.now cuts c.in-Some-Some.ensures'.value in
    last.begins.1
