use Rattle.std.proofs.Common.{rules, ◌≡◌, List, ℕ, [], ◌∷◌, sym, ◌∙◌, Some}
use Rattle.std.specs.FinMap.{get}
use Rattle.msi_container_view.specs.Reading.{Tells}
use Rattle.msi_container_view.specs.Views.{contents_in, streams_at}
use Rattle.msi_database_schema.specs.Keys.{summary_key}
use Rattle.msi_summary.specs.Summary.{SpellsSummary}
use Rattle.msi.specs.Meaning.{has_summary, reads_summary}
use Rattle.msi.proofs.reading.OpenStepLemmas.{summary_stops}
use Rattle.msi_view.proofs.ViewLemmas.{found_part, look_kept, missing_part, refused_part, stream_found}
use Rattle.msi_view.proofs.view.View.summary_info.Goals as goal

pub invariant_of-self : goal.invariant_of-self
invariant_of-self g c = look_kept _ _ c.self.inside.catalog _ c.read.ensures.same c.self.invariant

pub invariant_of-self-in_default : goal.invariant_of-self-in_default
invariant_of-self-in_default g c = look_kept _ _ c.self.inside.catalog _ c.read.ensures.same c.self.invariant

pub invariant_of-self-2 : goal.invariant_of-self-2
invariant_of-self-2 g c = look_kept _ _ c.self.inside.catalog _ c.read.ensures.same c.self.invariant

pub returns-in_default-clause-kind : goal.returns-in_default-clause-kind
returns-in_default-clause-kind g c =
    missing_part g.S.Source.can_fail c.args.self.now summary_key has_summary (reads_summary ∷ []) c.new.result
    (λ file told. search rules) (λ file p. p) (search rules)

pub returns-clause-ok : goal.returns-clause-ok
returns-clause-ok g c =
    found_part c.args.self.now summary_key c.as_slice.result.now c.summary_of.result SpellsSummary c.summary_of.ensures.found (λ file told. search rules)

pub returns-clause-kind : goal.returns-clause-kind
returns-clause-kind g c =
    let v = c.args.self.now in
    let there : (file : List ℕ) → Tells v.held file → Some c.as_slice.result.now ≡ get (streams_at file v.streams) summary_key = λ file told. search rules in
    refused_part g.S.Source.can_fail v (has_summary ∷ reads_summary ∷ []) c.summary_of.result c.summary_of.ensures.kinds
    (λ file told. summary_stops (contents_in file v) c.summary_of.result c.as_slice.result.now (stream_found file v summary_key ∙ sym (there file told)) c.summary_of.ensures.only c.summary_of.ensures.kinds)
