use Rattle.std.proofs.Common.{map, suc, take, Ok}
use Rattle.std.specs.Fmt.{DisplaysOnOk}
use Rattle.msi_query.specs.QueryTexts.{listed}
use Rattle.msi_query.proofs.query.printing.write_list.Given as goal

abbrev pub invariant-loop-item : goal.invariant-loop-item
invariant-loop-item g l = DisplaysOnOk g.W.Write.write_str_gives l.fn.f (Ok tt) (listed (map g.T.Display.output (take (suc l.item-index) l.fn.items))) l.f
