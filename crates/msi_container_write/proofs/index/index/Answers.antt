use Rattle.std.proofs.Common.{◌≡◌, ◌∷◌, List, ℕ, if◌then◌else◌, [], length, ◌∙◌, ap, subst, arith, rules}
use Rattle.std.proofs.lemmas.Result.{IfOk-from_err}
use Rattle.msi_container_format.specs.Chains.{AreBelow}
use Rattle.msi_container_format.specs.Container.{is_mini}
use Rattle.msi_container_write.specs.Extents.{units, all_units}
use Rattle.msi_container_write.specs.Layout.{large_part, mini_part, large_parts, mini_sectors}
use Rattle.msi_container_write.specs.LayoutLaw.{IsName}
use Rattle.msi_container_write.proofs.directories.EntriesLemmas.{name_known}
use Rattle.msi_container_write.proofs.sectors.IndexLemmas.{place_pushed}
use Rattle.msi_container_write.proofs.index.index.Goals as goal

pub loop-name-preserved : goal.loop-name-preserved
loop-name-preserved c =
    let stream : List ℕ × List ℕ = (c.in-Some.name.now, c.in-Some.stream.now) in
    let is : c.loop-name.name-iterator ≡ stream ∷ c.next.new.self = c.in-Some.ensures.steps in
    let bytes : c.as_slice-bytes.result.now ≡ stream.1 = c.as_slice-bytes.ensures in
    let u : c.units.result ≡ units 512 (large_part stream) =
    c.units.ensures ∙ ap (units 512) (c.large_part.ensures ∙ ap (λ bs. if is_mini (length bs) then [] else bs) bytes) in
    let v : c.units-in-loop-name.result ≡ units 64 (mini_part stream) =
    c.units-in-loop-name.ensures ∙ ap (units 64) (c.mini_part.ensures ∙ ap (λ bs. if is_mini (length bs) then bs else []) bytes) in
    let below : AreBelow 65536 c.units-units_of_name.result.now = λ i within. search rules in
    let named : IsName stream.0 = record {
      some = c.units-units_of_name.ensures.some;
      most = c.units-units_of_name.ensures.most;
      units = subst (AreBelow 65536) c.units-units_of_name.ensures.units below;
      text = c.units-units_of_name.ensures.text;
    } in
    record {
      sectors = omega (arith, ap (λ ss. all_units 512 (large_parts ss)) is, u, c.loop-name.invariant.sectors);
      mini = omega (arith, ap mini_sectors is, v, c.loop-name.invariant.mini);
      indexed =
          place_pushed stream c.loop-name.name-iterator c.next.new.self c.loop-name.first c.loop-name.first_mini c.units.result c.units-in-loop-name.result _ _ _ _ _ is
          c.units-units_of_name.ensures.units bytes u v c.in_ok-push.ensures.items c.loop-name.invariant.indexed;
      names = name_known stream c.loop-name.name-iterator c.next.new.self is named c.loop-name.invariant.names;
    }

pub returns-in_err-places-clause-indexed : goal.returns-in_err-places-clause-indexed
returns-in_err-places-clause-indexed c = IfOk-from_err c.from_residual.result _ c.from_residual.ensures.0

pub returns-in_err-places-clause-names : goal.returns-in_err-places-clause-names
returns-in_err-places-clause-names c = IfOk-from_err c.from_residual.result _ c.from_residual.ensures.0

pub returns-in_err-push-clause-indexed : goal.returns-in_err-push-clause-indexed
returns-in_err-push-clause-indexed c = IfOk-from_err c.from_residual-in_err-push.result _ c.from_residual-in_err-push.ensures.0

pub returns-in_err-push-clause-names : goal.returns-in_err-push-clause-names
returns-in_err-push-clause-names c = IfOk-from_err c.from_residual-in_err-push.result _ c.from_residual-in_err-push.ensures.0
