-- A summary that is read, from what the code gives.
use Rattle.std.proofs.Common.{◌≡◌, Some, Result, Ok, Err, sym, ap, ◌∙◌}
use Rattle.std.specs.Prelude.{◌≢◌, IfOk, OnErr}
use Rattle.msi_base.specs.declared.errors.ErrorKind.{ErrorKind}
use Rattle.msi_base.specs.Results.{Gives}
use Rattle.msi_base.proofs.OptionLemmas.{some_is}
use Rattle.msi_summary_properties.specs.Properties.{Properties}
use Rattle.msi_summary.specs.Summary.{summary_format}

-- a set that was read and is a summary where it has the format is the one that is spelled
pub is_only_summary : (r : Result Properties ErrorKind) (read set : Properties) → Some set ≡ Some read → set.format_identifier ≡ summary_format
    → IfOk r (λ s. s ≡ read) → OnErr r (read.format_identifier ≢ summary_format) → Gives (λ (s : Properties). s) r (Some set)
is_only_summary (Ok s) read set same format ok refused = same ∙ ap Some (sym ok)
is_only_summary (Err e) read set same format ok refused =
    absurd (refused (ap (λ (s : Properties). s.format_identifier) (sym (some_is set read same)) ∙ format))
