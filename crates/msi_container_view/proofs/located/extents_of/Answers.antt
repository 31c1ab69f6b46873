use Rattle.std.proofs.Common.{◌<◌, ◌≤◌, List, Vec, Global, ap, sym, ◌∙◌, arith}
use Rattle.msi_container_view.specs.Extents.{Extent, bytes_stored}
use Rattle.msi_container_view.proofs.located_lemmas.StoredLemmas.{stored_small, stored_large}
use Rattle.msi_container_view.proofs.located.extents_of.Goals as goal
use Rattle.msi_container_view.proofs.located.extents_of.Goals.{then-size-from+in_ok-extents, else-size-from+in_ok-extents-2}

-- what a vector holds
abbrev held : Vec Extent Global → List Extent
held v = v.items

pub returns-clause-ok : goal.returns-clause-ok
returns-clause-ok c = λ file same.
    let mini_stream = c.args.mini_stream.now in
    let chain = c.args.chain.now in
    let count = c.size-size.result in
    let sized = same ∙ sym c.sector_size-sector.ensures.value in
    let stored = ap (λ n. bytes_stored file mini_stream n chain) c.size-size.ensures in
    elim c.if-size-from.branch [
      | then-size-from+in_ok-extents w ↦
          let small : count < 4096 = omega (arith, w.if-size-from.true, c.from.ensures) in
          let made = c.from_vec.ensures ∙ ap held w.extents-is in
          rw made (w.in_ok-extents.ensures.ok file sized ∙ stored_small file mini_stream count chain small ∙ stored)
      | else-size-from+in_ok-extents-2 w ↦
          let large : 4096 ≤ count = omega (arith, w.if-size-from.false, c.from.ensures) in
          let made = c.from_vec.ensures ∙ ap held w.extents-is in
          rw made (w.in_ok-extents-2.ensures.ok file sized ∙ stored_large file mini_stream count chain large ∙ stored)
    ]
