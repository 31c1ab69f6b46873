use Rattle.std.proofs.Common.{◌∙◌, ap, sym}
use Rattle.std.specs.FinMap as finite
use Rattle.std.specs.Prelude.{is_some}
use Rattle.std.proofs.lemmas.Result.{IfOk-weaker, on_err_weaker, on_ok_weaker}
use Rattle.msi_container_format.proofs.NamesLemmas.{from_entries_updated, get_is_lookup}
use Rattle.msi_container_format.proofs.StreamsLemmas.{there_once_put}
use Rattle.msi_container_format.proofs.contents.StreamMap.replace.Goals as goal

pub returns-clause-ok : goal.returns-clause-ok
returns-clause-ok c = on_ok_weaker c.insert.result
    (λ updates. from_entries_updated c.self.inside.map.entries _ c.args.name c.args.bytes updates.0
    ∙ ap (λ m. finite.insert m c.args.name c.args.bytes) c.self.view_is)
    c.insert.ensures.updates

pub returns-clause-there : goal.returns-clause-there
returns-clause-there c = on_ok_weaker c.insert.result
    (λ is. ap (λ m. finite.contains_key m c.args.name) is ∙ there_once_put c.args.self.now c.args.name c.args.bytes)
    (returns-clause-ok c)

pub returns-clause-held : goal.returns-clause-held
returns-clause-held c = IfOk-weaker c.insert.result _ _
    (λ held is. is ∙ sym (get_is_lookup c.self.inside.map.entries c.args.name) ∙ ap (λ m. finite.get m c.args.name) c.self.view_is)
    c.insert.ensures.old

pub returns-clause-absent : goal.returns-clause-absent
returns-clause-absent c = on_err_weaker c.insert.result
    (λ absent. ap is_some (sym (ap (λ m. finite.get m c.args.name) c.self.view_is) ∙ get_is_lookup c.self.inside.map.entries c.args.name ∙ absent))
    c.insert.ensures.absent
