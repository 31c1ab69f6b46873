use Rattle.std.proofs.Common.{◌≡◌, ◌<◌, ◌∷◌, List, ℕ, subst}
use Rattle.std.specs.Prelude.{All}
use Rattle.msi_database_storage.proofs.ReadingLemmas.{bytes_seen, name_seen}
use Rattle.msi_database_storage.proofs.reading.look_at.Goals as goal

pub loop-name-preserved : goal.loop-name-preserved
loop-name-preserved c =
    let stream : List ℕ × List ℕ = (c.in-Some.name.now, c.in-Some.bytes.now) in
    let is : c.loop-name.name-iterator ≡ stream ∷ c.next.new.self = c.in-Some.ensures.steps in
    let held : All (λ b. b < 256) stream.1 = subst (All (λ b. b < 256)) c.as_slice.ensures c.look_at_bytes.ensures in
    record {
      names = name_seen stream c.loop-name.name-iterator c.next.new.self is c.units-units.ensures.some c.units-units.ensures.most c.loop-name.invariant.names;
      bytes = bytes_seen stream c.loop-name.name-iterator c.next.new.self is held c.loop-name.invariant.bytes;
    }
