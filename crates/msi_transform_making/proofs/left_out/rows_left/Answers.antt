use Rattle.std.proofs.Common.{arith, refl}
use Rattle.msi_transform_making.proofs.LeftOutSteps.{new_more, old_more, others_stay, pair_more, same_there}
use Rattle.msi_transform_making.proofs.left_out.rows_left.Goals as goal

pub loop-i-preserved-in-Equal-1 : goal.loop-i-preserved-in-Equal-1
loop-i-preserved-in-Equal-1 c = record {
  old_within = omega arith;
  new_within = omega arith;
  so_far = pair_more c.args.texts.now c.args.old.now.rows c.args.new.now.rows c.loop-i.i c.loop-i.j c.loop-i.left.items c.loop-i.others.items c.loop-i.invariant.so_far
      c.in_ok-row.row c.in_ok-other.other c.in_ok-row.ensures.ok c.in_ok-other.ensures.ok
      (same_there c.args.texts.now c.as_slice.result.now c.as_slice-in-loop-i.result.now c.in_ok-row.row c.in_ok-other.other c.as_slice.ensures c.as_slice-in-loop-i.ensures
      (c.in-Equal.ensures refl));
}

pub loop-i-preserved-in-Less-1 : goal.loop-i-preserved-in-Less-1
loop-i-preserved-in-Less-1 c = record {
  old_within = omega arith;
  new_within = omega arith;
  so_far = old_more c.args.texts.now c.args.old.now.rows c.args.new.now.rows c.loop-i.i c.loop-i.j c.loop-i.left.items c.loop-i.others.items c.loop-i.invariant.so_far
      c.in_ok-row.row c.push.new.self.items c.in_ok-row.ensures.ok c.in_ok-push-in-Less.ensures.items;
}

pub loop-i-preserved : goal.loop-i-preserved
loop-i-preserved c = record {
  old_within = omega arith;
  new_within = omega arith;
  so_far = new_more c.args.texts.now c.args.old.now.rows c.args.new.now.rows c.loop-i.i c.loop-i.j c.loop-i.left.items c.loop-i.others.items c.loop-i.invariant.so_far
      c.in_ok-other.other c.push-in-Greater.new.self.items c.in_ok-other.ensures.ok c.in_ok-push-in-Greater.ensures.items;
}

pub returns-clause-ok : goal.returns-clause-ok
returns-clause-ok c =
    others_stay c.args.texts.now c.args.old.now.rows c.args.new.now.rows c.loop-i.i c.loop-i.j c.loop-i.left.items c.loop-i.others.items c.loop-i.invariant.so_far
    c.push_rows.new.rows.items c.push_rows-2.new.rows.items c.in_ok-push_rows.ensures.ok c.in_ok-push_rows-2.ensures.ok
