use Rattle.std.proofs.Common.{length}
use denote.Shadow.{shadow}
use denote.Text.{Utf8}
use Rattle.msi_query_tokens.proofs.NameLemmas.{GoesOn}
use Rattle.msi_query_tokens.proofs.names.write_doubled.Given as goal

abbrev pub invariant-loop-front : goal.invariant-loop-front
invariant-loop-front g l = record {
  utf8 : shadow (Utf8 l.rest);
  goes_on : GoesOn g.W.Write.write_str_gives l.fn.f l.fn.text l.f l.rest;
}

abbrev pub decreases-loop-front : goal.decreases-loop-front
decreases-loop-front g l = length l.rest
