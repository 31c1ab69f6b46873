use Rattle.std.proofs.Common.{◌≡◌, ◌∙◌, ℕ, List, ap, rules}
use Rattle.std.specs.FinMap.{entries}
use Rattle.msi_database_storage.specs.Streams.{with_stream}
use Rattle.msi_transform.proofs.WrittenLemmas.{inserted}
use Rattle.msi_transform_making.proofs.storing.put_stream.Goals as goal

pub returns-clause-ok : goal.returns-clause-ok
returns-clause-ok c =
    let same : c.in_ok-clone.field-0 ≡ c.args.bytes.now = search rules in
    inserted c.args.streams.now c.insert.new.self c.args.name c.in_ok-clone.field-0 c.in_ok-insert.ensures.ok
    ∙ ap (λ (bs : List ℕ). with_stream c.args.name bs (entries c.args.streams.now)) same
