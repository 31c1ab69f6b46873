use Rattle.std.proofs.Common.{◌∙◌, sym, ap, subst}
use Rattle.std.specs.Prelude.{length, slice_range}
use Rattle.msi_base.specs.Pages.{Reads}
use Rattle.msi_summary_properties.proofs.PageCutLemmas.{for_all_any, other_page, own_page, reads_all}
use Rattle.msi_summary_properties.proofs.SharedTextsLemmas.{ascii_between}
use Rattle.msi_summary_properties.specs.SharedTexts.{page_for_all}
use Rattle.msi_summary_properties.proofs.shared.SharedTexts.text.Goals as goal
use Rattle.msi_summary_properties.proofs.shared.SharedTexts.text.Goals.{then-reads_any-via-then-reads_any, then-reads_any-via-else-reads_any+then-as_str-end}

pub returns-then-reads_any-clause-ok : goal.returns-then-reads_any-clause-ok
returns-then-reads_any-clause-ok c = λ bytes cuts.
    let p = c.args.page in
    let between = slice_range bytes c.args.start c.args.end in
    let all = reads_all (page_for_all p) (for_all_any p) in
    let read = rw c.in-Some.is at (c.in_ok-piece.ensures.ok (page_for_all p) bytes all cuts) in
    let within = rw c.in-Some.is at (c.in_ok-piece.ensures.within (page_for_all p) bytes cuts) in
    elim c.then-reads_any.branch [
      | then-reads_any-via-then-reads_any w ↦
          rw c.from_piece.ensures (subst (λ q. Reads q between c.in-Some.piece) (own_page p (sym c.reads_any.ensures ∙ w.if-reads_any.true)) read)
      | then-reads_any-via-else-reads_any+then-as_str-end w ↦
          rw c.from_piece.ensures (ascii_between p bytes c.in-Some.piece c.args.start c.args.end c.requires within (subst (λ q. Reads q between c.in-Some.piece) (other_page p (sym c.reads_any.ensures ∙ w.if-reads_any.false)) read) (ap length (sym w.as_str.ensures) ∙ w.if-as_str-end.true))
    ]
