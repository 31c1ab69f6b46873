use Rattle.std.proofs.Common.{refl, ap, ◌∙◌, lit<}
use Rattle.msi_summary.specs.Summary.{is_close_brace, without_end}
use Rattle.msi_summary.proofs.BraceLemmas.{without_end-trimmed, without_front-trimmed}
use Rattle.msi_summary.proofs.summary.identity.without_braces.Goals as goal

pub returns : goal.returns
returns c = without_end-trimmed 125 (lit< tt) refl _ _ c.trim_end_matches.ensures.matches
    ∙ ap (without_end is_close_brace) (without_front-trimmed 123 (lit< tt) refl _ _ c.trim_start_matches.ensures.matches)
