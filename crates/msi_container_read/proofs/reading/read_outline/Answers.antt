use Rattle.std.proofs.Common.{subst}
use Rattle.std.proofs.lemmas.Option.{same_Some}
use Rattle.std.proofs.lemmas.Result.{IfOk-weaker}
use Rattle.msi_container_read.specs.Outlines.{IsOutline}
use Rattle.msi_container_tables.specs.Reading.{views}
use Rattle.msi_container_read.proofs.plans.StorageLemmas.{at_root, of_root}
use Rattle.msi_container_read.proofs.reading.read_outline.Goals as goal

pub returns-clause-found : goal.returns-clause-found
returns-clause-found c =
    let bytes = c.args.bytes.now in
    IfOk-weaker c.read_outline_at.result _ _ (λ o (storage, plan, reached, is_plan, steps, outline). (
      plan,
      λ names. of_root bytes storage plan (is_plan names),
      steps,
      subst (λ k. IsOutline bytes k plan o.clsid o.entries.has_storages o.start.directory.items o.mini.stream.items o.entries.storages.items o.entries.streams.items (views o.chains.items)) (same_Some storage 0 reached.leads) outline,
    )) c.read_outline_at.ensures.found

pub returns-clause-only : goal.returns-clause-only
returns-clause-only c = λ plan h. c.read_outline_at.ensures.only 0 plan (at_root c.args.bytes.now plan h)
