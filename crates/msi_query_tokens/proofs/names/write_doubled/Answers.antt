use Rattle.std.proofs.Common.{List, ℕ, Some, refl, rules, sym, ap}
use Rattle.std.proofs.Output.{displays_on_ok_of_eq}
use Rattle.msi_query_tokens.specs.Names.{doubled}
use Rattle.msi_query_tokens.proofs.NameLemmas.{goes_on, doubled_split, doubled_whole}
use Rattle.msi_query_tokens.proofs.names.write_doubled.Goals as goal

pub loop-front-init : goal.loop-front-init
loop-front-init g c = record { utf8 = c.utf8.text; goes_on = record { whole = λ r last w. w } }

pub loop-front-smaller : goal.loop-front-smaller
loop-front-smaller g c = (doubled_split c.loop-front.rest.now (c.in-Some.front, c.in-Some.behind) c.in-Some.ensures.cases).1

pub loop-front-preserved : goal.loop-front-preserved
loop-front-preserved g c = record {
  utf8 = search rules;
  goes_on = goes_on g.W.Write.write_str_gives c.args.f.now c.loop-front.f c.write_str.new.self c.write_str-in-Some.new.self
      c.args.text.now c.loop-front.rest.now c.in-Some.front.now c.in-Some.behind.now c.write_str.result c.write_str-in-Some.result
      c.loop-front.invariant.goes_on (doubled_split c.loop-front.rest.now (c.in-Some.front, c.in-Some.behind) c.in-Some.ensures.cases).0
      (rw c.in_ok-write_str.was refl) (rw c.in_ok-write_str-2.was refl) c.write_str.ensures.writes c.write_str-in-Some.ensures.writes;
}

pub returns : goal.returns
returns g c =
    c.loop-front.invariant.goes_on.whole c.write_str-2.result c.write_str-2.new.self
    (displays_on_ok_of_eq g.W.Write.write_str_gives c.loop-front.f c.write_str-2.new.self c.write_str-2.result (Some c.loop-front.rest.now) (Some (doubled c.loop-front.rest.now))
    (ap (λ (t : List ℕ). Some t) (sym (doubled_whole c.loop-front.rest.now c.in_default.ensures.cases))) c.write_str-2.ensures.writes)
