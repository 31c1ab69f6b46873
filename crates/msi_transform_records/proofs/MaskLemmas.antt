-- A mask tells its action, and each action has a mask.
use Rattle.std.proofs.Common.{◌≡◌, ℕ, ◌/◌, ◌%◌, ◌^◌, ◌<◌, Some, refl, sym, arith, inl, inr, subst}
use Rattle.std.specs.Prelude.{◌==◌}
use Rattle.std.proofs.lemmas.Bool.{eqb-true}
use Rattle.std.proofs.lemmas.Bool.Decides.{nat_tests}
use Rattle.msi_base.proofs.OptionLemmas.{branch, guard_held, some_is}
use Rattle.msi_transform_records.specs.declared.action.Action.{Action}
use Rattle.msi_transform_records.specs.declared.action.Action.TheVariants as action
use Rattle.msi_transform_records.specs.Actions.{IsAction, action_of_mask, mask_of}

pub action_again : (a : Action) → IsAction a → action_of_mask (mask_of a) ≡ Some a
action_again (action.Add k) h = grind (arith, nat_tests)
action_again action.Remove h = refl
action_again (action.Change mask) h = grind (arith, nat_tests)

pub mask_below : (a : Action) → IsAction a → mask_of a < 2 ^ 16
mask_below (action.Add k) h = omega arith
mask_below action.Remove h = omega arith
mask_below (action.Change mask) h = h.2

-- an action that a mask of 16 bits says
pub record Says (mask : ℕ) (a : Action) : Type 0 where
  pub same : mask_of a ≡ mask
  pub is : IsAction a

pub mask_says : (mask : ℕ) (a : Action) → mask < 2 ^ 16 → action_of_mask mask ≡ Some a → Says mask a
mask_says mask a fits e =
    elim (branch (mask == 0) (Some action.Remove) _ a e) [
      | inl z ↦ (let none : mask ≡ 0 = eqb-true mask 0 z.0 in subst (Says mask) (some_is _ a z.1) (record { same = sym none; is = tt }))
      | inr o ↦ (let more : 0 < mask = (let h = o.0 in grind (arith, nat_tests)) in
          elim (branch (mask % 2 == 0) (Some (action.Change mask)) _ a o.1) [
            | inl z ↦ subst (Says mask) (some_is _ a z.1) (record { same = refl; is = (more, eqb-true (mask % 2) 0 z.0, fits) })
            | inr q ↦ (let g = guard_held (mask % 256 == 1) (Some (action.Add (mask / 256))) a q.1 in
                let low : mask % 256 ≡ 1 = eqb-true (mask % 256) 1 g.0 in
                subst (Says mask) (some_is _ a g.1) (record { same = omega arith; is = omega arith }))
          ])
    ]
