use Rattle.std.proofs.Common.{◌∙◌, ◌&&◌, ap, length, nat_le, sym}
use Rattle.msi_categories.proofs.CategoryRulesLemmas.{short_name_parts, short_name_whole}
use Rattle.msi_categories.proofs.category_rules.is_short_name.Goals as goal

pub returns-then-is_short_front : goal.returns-then-is_short_front
returns-then-is_short_front c =
    let (i, j, found, front, end, up, before, behind) = c.in-Some.ensures.cases in
    ap (λ b. b && nat_le (length c.in-Some.end.now) 3) (sym c.if-is_short_front.true)
    ∙ short_name_parts c.args.text.now c.in-Some.front.now c.in-Some.end.now i j c.is_short_front.result found front end behind c.is_short_front.ensures

pub returns-else-is_short_front : goal.returns-else-is_short_front
returns-else-is_short_front c =
    let (i, j, found, front, end, up, before, behind) = c.in-Some.ensures.cases in
    c.if-is_short_front.false
    ∙ ap (λ b. b && nat_le (length c.in-Some.end.now) 3) (sym c.if-is_short_front.false)
    ∙ short_name_parts c.args.text.now c.in-Some.front.now c.in-Some.end.now i j c.is_short_front.result found front end behind c.is_short_front.ensures

pub returns-in-None : goal.returns-in-None
returns-in-None c = c.is_short_front-in-None.ensures ∙ sym (short_name_whole c.args.text.now c.in-None.ensures.cases)
