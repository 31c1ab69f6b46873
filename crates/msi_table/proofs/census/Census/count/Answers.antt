use Rattle.std.proofs.Common.{◌≡◌, ◌∷◌, [], ◌+◌, ◌<◌, ◌≤◌, false, suc, length, set, get_or, refl, subst, sym, ap, ◌∙◌, arith}
use Rattle.std.proofs.lemmas.List.{get_or_default}
use Rattle.msi_table_cells.specs.declared.cell.ValueRef.{ValueRef}
use Rattle.msi_table.specs.Census.{CensusDef, CountsMore, most_counted, numbers_of_row}
use Rattle.msi_table.proofs.CensusLemmas.{full_counted, past_counted, place_counted}
use Rattle.msi_table.proofs.census.Census.count.Goals as goal

pub returns-then-at-len : goal.returns-then-at-len
returns-then-at-len c =
    let before : CensusDef = record { counts = c.self.inside.counts.items; is_within = c.self.inside.is_within; fits = c.self.inside.fits } in
    let after : CensusDef = record { counts = c.self.inside.counts.items; is_within = false; fits = c.self.inside.fits } in
    let number : suc c.in-Some.at ≡ c.in-Str.reference = omega (arith, c.place_number.ensures, c.in-Some.ensures) in
    subst (λ (x : ValueRef). CountsMore (numbers_of_row (x ∷ [])) c.args.self.now after) (sym c.in-Str.is)
    (subst (λ n. CountsMore (n ∷ []) c.args.self.now after) number
    (subst (λ b. CountsMore (suc c.in-Some.at ∷ []) b after) c.self.view_is (past_counted before after c.in-Some.at (omega (arith, c.if-at-len.true, c.len.ensures)) refl refl refl)))

pub returns-then-index-lt-MAX_CELLS : goal.returns-then-index-lt-MAX_CELLS
returns-then-index-lt-MAX_CELLS c =
    let before : CensusDef = record { counts = c.self.inside.counts.items; is_within = c.self.inside.is_within; fits = c.self.inside.fits } in
    let after : CensusDef = record { counts = set c.self.inside.counts.items c.in-Some.at (c.index_mut.result.now + 1); is_within = c.self.inside.is_within; fits = c.self.inside.fits } in
    let number : suc c.in-Some.at ≡ c.in-Str.reference = omega (arith, c.place_number.ensures, c.in-Some.ensures) in
    let inside : c.in-Some.at < length before.counts = omega (arith, c.if-at-len.false, c.len.ensures) in
    let short : get_or before.counts c.in-Some.at 0 < most_counted = omega (arith, c.if-index-lt-MAX_CELLS.true, c.index.ensures, get_or_default before.counts c.in-Some.at c.index.result.now 0 inside) in
    let seen : c.index_mut.result.now ≡ get_or before.counts c.in-Some.at 0 = c.index_mut.ensures.value ∙ get_or_default before.counts c.in-Some.at c.index_mut.result.now 0 inside in
    subst (λ (x : ValueRef). CountsMore (numbers_of_row (x ∷ [])) c.args.self.now after) (sym c.in-Str.is)
    (subst (λ n. CountsMore (n ∷ []) c.args.self.now after) number
    (subst (λ b. CountsMore (suc c.in-Some.at ∷ []) b after) c.self.view_is (place_counted before after c.in-Some.at inside short (ap (λ n. set before.counts c.in-Some.at (n + 1)) seen) refl refl)))

pub returns-else-index-lt-MAX_CELLS : goal.returns-else-index-lt-MAX_CELLS
returns-else-index-lt-MAX_CELLS c =
    let before : CensusDef = record { counts = c.self.inside.counts.items; is_within = c.self.inside.is_within; fits = c.self.inside.fits } in
    let after : CensusDef = record { counts = c.self.inside.counts.items; is_within = c.self.inside.is_within; fits = false } in
    let number : suc c.in-Some.at ≡ c.in-Str.reference = omega (arith, c.place_number.ensures, c.in-Some.ensures) in
    let inside : c.in-Some.at < length before.counts = omega (arith, c.if-at-len.false, c.len.ensures) in
    let full : most_counted ≤ get_or before.counts c.in-Some.at 0 = omega (arith, c.if-index-lt-MAX_CELLS.false, c.index.ensures, get_or_default before.counts c.in-Some.at c.index.result.now 0 inside) in
    subst (λ (x : ValueRef). CountsMore (numbers_of_row (x ∷ [])) c.args.self.now after) (sym c.in-Str.is)
    (subst (λ n. CountsMore (n ∷ []) c.args.self.now after) number
    (subst (λ b. CountsMore (suc c.in-Some.at ∷ []) b after) c.self.view_is (full_counted before after c.in-Some.at inside full refl refl refl)))
