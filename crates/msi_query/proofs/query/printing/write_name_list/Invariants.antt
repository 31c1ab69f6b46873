use Rattle.std.proofs.Common.{map, suc, take, Ok, Some}
use Rattle.std.specs.Fmt.{DisplaysOnOk}
use Rattle.msi_query_tokens.specs.Names.{name_text}
use Rattle.msi_query.specs.QueryTexts.{listed}
use Rattle.msi_query.proofs.query.printing.write_name_list.Given as goal

abbrev pub invariant-loop-name : goal.invariant-loop-name
invariant-loop-name g l = DisplaysOnOk g.W.Write.write_str_gives l.fn.f (Ok tt) (listed (map (λ name. Some (name_text name)) (take (suc l.name-index) l.fn.names))) l.f
