use Rattle.std.proofs.Common.{◌≡◌, ◌-◌, take, arith, ap, sym, ◌∙◌}
use Rattle.msi_pool_places.specs.JoinedTexts.{end_of}
use Rattle.msi_pool_places.proofs.JoinedTextsLemmas.{counted, none_there, start_after, text_there}
use Rattle.msi_pool_places.proofs.PlaceLoopLemmas.{got}
use Rattle.msi_pool_places.proofs.joined.JoinedTexts.piece.Goals as goal
use Rattle.msi_pool_places.proofs.joined.JoinedTexts.piece.Goals.{then-at-eq0, else-at-eq0}

pub get-start-requires : goal.get-start-requires
get-start-requires c =
    let texts = c.args.self.now in
    omega (arith, c.if-at-eq0.false, counted texts c.args.at c.requires.place, c.requires.joined.many)

pub index-count-requires : goal.index-count-requires
index-count-requires c = omega (arith, counted c.args.self.now c.args.at c.requires.place, c.args.self.now.counts.ok.0)

pub get-requires : goal.get-requires
get-requires c =
    let texts = c.args.self.now in
    omega (arith, counted texts c.args.at c.requires.place, c.requires.joined.many)

pub returns-then-is_forgotten : goal.returns-then-is_forgotten
returns-then-is_forgotten c =
    let texts = c.args.self.now in
    let at = c.args.at in
    let start_is : c.if-at-eq0.start ≡ end_of 0 (take at texts.ends) = elim c.if-at-eq0.branch [
      | then-at-eq0 w ↦ w.start-is ∙ ap (λ n. end_of 0 (take n texts.ends)) (sym w.if-at-eq0.true)
      | else-at-eq0 w ↦ w.start-is ∙ start_after texts at w.get-start.result c.requires.joined w.if-at-eq0.false c.requires.place (got texts.ends (at - 1) w.get-start.result w.get-start.ensures)
    ] in
    rw c.cells.ensures (none_there texts at c.if-at-eq0.start c.index-count.result.now c.requires.joined c.requires.place start_is c.index-count.ensures (sym c.is_forgotten.ensures ∙ c.if-is_forgotten.true))

pub returns : goal.returns
returns c =
    let texts = c.args.self.now in
    let at = c.args.at in
    let start_is : c.if-at-eq0.start ≡ end_of 0 (take at texts.ends) = elim c.if-at-eq0.branch [
      | then-at-eq0 w ↦ w.start-is ∙ ap (λ n. end_of 0 (take n texts.ends)) (sym w.if-at-eq0.true)
      | else-at-eq0 w ↦ w.start-is ∙ start_after texts at w.get-start.result c.requires.joined w.if-at-eq0.false c.requires.place (got texts.ends (at - 1) w.get-start.result w.get-start.ensures)
    ] in
    rw c.cells-2.ensures (text_there texts at c.if-at-eq0.start c.get.result c.index-count.result.now c.requires.joined c.requires.place start_is (got texts.ends at c.get.result c.get.ensures) c.index-count.ensures (sym c.is_forgotten.ensures ∙ c.if-is_forgotten.false))
