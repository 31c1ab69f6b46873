-- The laws of reading, from what the code gives.
use Rattle.std.proofs.Common.{◌≡◌, ℕ, List, Option, Some, Result, Ok, Err, subst}
use Rattle.std.specs.Prelude.{IfOk}
use Rattle.msi_base.specs.declared.errors.ErrorKind.{ErrorKind}
use Rattle.msi_summary_properties.specs.Properties.{Properties}
use Rattle.msi_summary_properties.specs.PropertyLaws.{IsKept}
use Rattle.msi_summary_properties.specs.PropertyStream.{Spells}
use Rattle.msi_base.specs.Results.{Gives}
use Rattle.msi_summary_properties.specs.Reading.{set_put}
use Rattle.msi_base.proofs.ReadFieldLemmas.{IsBytes}
use Rattle.msi_summary_properties.proofs.KeptSetLemmas.{IsKept-spelled}
use Rattle.msi_summary_properties.proofs.SpelledSetLemmas.{set_found, set_again}
use Rattle.msi_summary_properties.proofs.PutInLemmas.{set_put_in, set_in_put}

pub is_found : (bytes : List ℕ) (r : Result Properties ErrorKind) → IsBytes bytes → Gives (λ (s : Properties). s) r (set_put bytes) → IfOk r (λ set. Spells bytes set)
is_found bytes (Ok set) fits given = set_found bytes set fits (set_put_in bytes set given)
is_found bytes (Err e) fits given = tt

pub is_only : (bytes : List ℕ) (r : Result Properties ErrorKind) (set : Properties) → IsBytes bytes → Spells bytes set → Gives (λ (s : Properties). s) r (set_put bytes) → Gives (λ (s : Properties). s) r (Some set)
is_only bytes r set fits spelled given = subst (λ (o : Option Properties). Gives (λ (s : Properties). s) r o) (set_in_put bytes set (set_again bytes set fits spelled)) given

-- what the code puts together is as a set is kept
pub kept_read : (bytes : List ℕ) (set : Properties) → IsBytes bytes → set_put bytes ≡ Some set → IsKept set
kept_read bytes set fits put = IsKept-spelled bytes set (set_found bytes set fits (set_put_in bytes set put))
