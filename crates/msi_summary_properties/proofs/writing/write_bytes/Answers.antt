use Rattle.std.proofs.Common.{◌≡◌, ℕ, ◌-◌, List, ◌++◌, length, take, drop, sym, ap, ◌∙◌, append_assoc, take-append-drop}
use Rattle.std.proofs.KnownBytes.{Appends-kept, Appends-trans}
use Rattle.std.proofs.lemmas.List.{take_rest}
use Rattle.msi_summary_properties.proofs.writing.write_bytes.Goals as goal
use Rattle.msi_summary_properties.proofs.writing.write_bytes.Goals.{in-Ok, in-Err+in-Interrupted}

moves_front : (all begun rest : List ℕ) (n : ℕ) → all ≡ begun ++ rest → all ≡ (begun ++ take n rest) ++ take (length rest - n) (drop n rest)
moves_front all begun rest n e =
    e ∙ ap (λ (l : List ℕ). begun ++ l) (sym (take-append-drop n rest)) ∙ sym (append_assoc begun (take n rest) (drop n rest))
    ∙ ap (λ (l : List ℕ). (begun ++ take n rest) ++ l) (sym (take_rest rest n))

pub writes-preserved : goal.writes-preserved
writes-preserved g c =
    let (begun, split, appended) = c.writes.invariant in
    let rest = c.writes.rest.now in
    elim c.match-write.branch [
      | in-Ok w ↦ rw w.rest-is (begun ++ take w.in-Ok.n rest, moves_front _ begun rest w.in-Ok.n split, Appends-trans _ _ _ _ _ appended w.in-Ok.ensures.bytes)
      | in-Err+in-Interrupted w ↦ rw w.rest-is (begun, split, Appends-kept _ _ _ _ appended w.in-Err.ensures.bytes)
    ]
