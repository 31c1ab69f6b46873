use Rattle.std.proofs.Common.{◌≤◌, ◌+◌, ◌++◌, length, [], ◌∷◌, ◌∙◌, ap, sym, arith}
use Rattle.std.proofs.lemmas.List.{append_assoc}
use Rattle.msi_container_format.specs.Bytes.{bytes_at}
use Rattle.msi_container_format.proofs.ByteLemmas.{bytes_within, bytes_at_past}
use Rattle.msi_container_format.proofs.bytes.push_bytes.Goals as goal

pub loop-init : goal.loop-init
loop-init c =
    let bytes = c.args.bytes.now in
    c.in_ok-extend_from_slice.ensures.items
    ∙ ap (λ bs. c.args.held.now.items ++ bs) (bytes_within bytes c.args.from c.args.count c.min-start.result c.min-end.result c.min-start.ensures c.min-end.ensures)

pub loop-preserved : goal.loop-preserved
loop-preserved c =
    let bytes = c.args.bytes.now in
    let from = c.args.from in
    let k = c.loop.counter in
    let past : length bytes ≤ from + k = omega (arith, c.min-start.ensures, c.min-end.ensures) in
    c.in_ok-push.ensures.items
    ∙ ap (λ bs. bs ++ 0 ∷ []) c.loop.invariant
    ∙ append_assoc c.args.held.now.items (bytes_at bytes from k) (0 ∷ [])
    ∙ ap (λ bs. c.args.held.now.items ++ bs) (sym (bytes_at_past bytes from k past))
