use Rattle.std.proofs.Common.{◌+◌, ◌∷◌, [], ◌++◌, ap, sym, ◌∙◌}
use Rattle.msi_container_view.proofs.table_lemmas.LoadLemmas.{range_more}
use Rattle.msi_container_view.proofs.tables.places_from.Goals as goal

pub loop-i-preserved : goal.loop-i-preserved
loop-i-preserved c =
    c.in_ok-push.ensures.items
    ∙ ap (λ xs. xs ++ (c.args.first + c.loop-i.i) ∷ []) c.loop-i.invariant
    ∙ sym (range_more c.args.first c.loop-i.i)
