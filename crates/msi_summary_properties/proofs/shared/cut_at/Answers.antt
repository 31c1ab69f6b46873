use Rattle.std.proofs.Common.{◌≡◌, ◌++◌, ◌∷◌, ◌∙◌, [], length, string_bytes, inl, refl, ap, arith}
use Rattle.msi_summary_properties.proofs.PageCutLemmas.{reads_nothing}
use Rattle.msi_summary_properties.proofs.SharedTextsLemmas.{next_cut}
use Rattle.msi_summary_properties.proofs.shared.cut_at.Goals as goal
use Rattle.msi_summary_properties.proofs.shared.cut_at.Goals.{then-start-place+then-begins_character+in_ok-text+in_ok-push_str+in_ok-insert, else-start-place}

pub loop-place-init : goal.loop-place-init
loop-place-init c = rw (c.new-whole.ensures.bytes, c.new-cuts.ensures.empty) (inl refl, reads_nothing c.args.page (c.requires (0x80 ∷ [])), tt)

pub loop-place-preserved : goal.loop-place-preserved
loop-place-preserved c = elim c.if-start-place.branch [
  | then-start-place+then-begins_character+in_ok-text+in_ok-push_str+in_ok-insert w ↦
      let whole = string_bytes c.loop-place.whole in
      let text = string_bytes w.in_ok-text.text in
      let pushed : string_bytes w.push_str.new.self ≡ whole ++ text = w.in_ok-push_str.ensures.bytes ∙ ap (λ t. whole ++ t) w.as_str.ensures.value in
      rw (w.whole-is, w.cuts-is, w.start-is, w.in_ok-insert.ensures.entries, pushed)
      (next_cut c.args.page c.args.bytes.now whole text c.loop-place.cuts.entries c.loop-place.start _ _ c.requires c.loop-place.invariant (omega (arith, w.if-start-place.true)) (w.begins_character.ensures.0 w.if-begins_character.true) w.in_ok-text.ensures.ok (ap length (w.as_str-then-begins_character.ensures.value ∙ pushed)))
  | else-start-place w ↦ rw (w.whole-is, w.cuts-is, w.start-is) c.loop-place.invariant
]
