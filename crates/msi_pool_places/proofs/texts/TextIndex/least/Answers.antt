use Rattle.std.proofs.Common.{◌≡◌, false, List, Some, None, subst, sym, ◌∙◌, is_gt}
use Rattle.std.proofs.lemmas.Option.{MatchOption-at_none}
use Rattle.msi_pool_places.specs.declared.texts.Entry.{Entry}
use Rattle.msi_pool_places.specs.PoolIndexes.{IsLeast}
use Rattle.msi_pool_places.specs.TextIndexes.{entry_cmp, is_entered}
use Rattle.msi_pool_places.proofs.TextIndexLemmas.{BeginsWith, least_found, none_found, in_front, first_of}
use Rattle.msi_pool_places.proofs.texts.TextIndex.least.Goals as goal

pub returns-in-Some-clause-least : goal.returns-in-Some-clause-least
returns-in-Some-clause-least c =
    let s = c.args.start.now in
    let k = c.in-Some.next.now in
    let keys = c.self.inside.entries.keys in
    let within = c.range.ensures.in_range tt in
    let first = first_of _ c.range.result c.next.new.self k c.in-Some.ensures.steps within.1 in
    let begins : BeginsWith s k keys = λ q from held. first_of (λ (e : Entry). is_gt (entry_cmp e q) ≡ false) c.range.result c.next.new.self k c.in-Some.ensures.steps (within.2 q (from, tt) held) in
    subst (λ (es : List Entry). IsLeast (is_entered es s.text) (Some k.at)) c.self.view_is (least_found s k keys c.requires.start (sym c.eq.ensures ∙ c.if-eq.true) first.1 begins)

pub returns-in_default-clause-least : goal.returns-in_default-clause-least
returns-in_default-clause-least c =
    let s = c.args.start.now in
    let k = c.in-Some.next.now in
    let keys = c.self.inside.entries.keys in
    let within = c.range.ensures.in_range tt in
    let first = first_of _ c.range.result c.next.new.self k c.in-Some.ensures.steps within.1 in
    let begins : BeginsWith s k keys = λ q from held. first_of (λ (e : Entry). is_gt (entry_cmp e q) ≡ false) c.range.result c.next.new.self k c.in-Some.ensures.steps (within.2 q (from, tt) held) in
    subst (λ (es : List Entry). IsLeast (is_entered es s.text) None) c.self.view_is (none_found s k keys c.requires.start (sym c.eq.ensures ∙ c.if-eq.false) first.0.0 begins)

pub returns-in_default-2-clause-least : goal.returns-in_default-2-clause-least
returns-in_default-2-clause-least c =
    let s = c.args.start.now in
    let empty = MatchOption-at_none _ _ c.in_default.is c.next.ensures.steps in
    subst (λ (es : List Entry). IsLeast (is_entered es s.text) None) c.self.view_is (λ i. (c.range.ensures.in_range tt).5 empty.0 (record { text = s.text; at = i }) (in_front s i c.requires.start, tt))
