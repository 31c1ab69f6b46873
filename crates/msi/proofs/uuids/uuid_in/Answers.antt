use Rattle.std.proofs.Common.{◌≡◌, Option, Some, None, refl, ◌∙◌}
use Rattle.std.specs.Prelude.{Result, Ok, Err, IsOk, IfOk, ◌↔◌}
use Rattle.std.specs.Result.{result_ok}
use Rattle.std.proofs.lemmas.Bool.{false≢true}
use Rattle.msi.proofs.uuids.uuid_in.Goals as goal

-- a parser that answers what there is answers nothing where there is nothing
result_ok-is : {U E : Type 0} (r : Result U E) (o : Option U) → (IsOk r ↔ ((u : U) × (o ≡ Some u))) → IfOk r (λ u. Some u ≡ o) → result_ok r ≡ o
result_ok-is (Ok u) o ok value = value
result_ok-is (Err e) None ok value = refl
result_ok-is (Err e) (Some u) ok value = absurd (false≢true (ok.1 (u, refl)))

pub returns : goal.returns
returns c = c.ok.ensures.value ∙ result_ok-is c.parse_str.result _ c.parse_str.ensures.ok c.parse_str.ensures.bytes
