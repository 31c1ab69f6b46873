use Rattle.std.proofs.Common.{List, ℕ, Bool, sym, ap, ◌∙◌}
use Rattle.msi_container_format.specs.StreamNames.{decoded_name}
use Rattle.msi_container_format.proofs.AcceptedNamesLemmas.{accepted_is}
use Rattle.msi_container_format.proofs.UnpackingLemmas.{name_back}
use Rattle.msi_container_format.proofs.laws.encoded_names_tell_names.Goals as goal

pub returns : goal.returns
returns c = λ t u cs ds h k e.
    let a = accepted_is t cs h in
    let b = accepted_is u ds k in
    let same = sym (name_back t cs a.unmarked a.allowed) ∙ ap decoded_name e ∙ name_back u ds b.unmarked b.allowed in
    (ap (λ (p : List ℕ × Bool). p.0) same, ap (λ (p : List ℕ × Bool). p.1) same)
