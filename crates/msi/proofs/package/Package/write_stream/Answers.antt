use Rattle.std.proofs.Common.{◌∙◌, ap}
use Rattle.msi_database.specs.Database.{is_sound}
use Rattle.msi_database_storage.specs.Kept.{Kept}
use Rattle.msi_base.proofs.RefusalLemmas.{none_answered}
use Rattle.msi.specs.State.{parts_of}
use Rattle.msi.specs.Steps.{name_refusals}
use Rattle.msi.proofs.named_streams.StreamRefusalLemmas.{key_accepted, key_is, storages_seen, write_passes}
use Rattle.msi.proofs.named_streams.StreamWriteLemmas.{left_written, lent_same, opened_held, stream_is_other}
use Rattle.msi.proofs.package.Package.write_stream.Goals as goal

pub replace_stream-requires : goal.replace_stream-requires
replace_stream-requires g c =
    let s = c.args.self.now.state in
    stream_is_other c.settle.new.database.database c.args.name.now c.duplicate.result
    (key_accepted s c.args.name.now c.in_ok-key.key c.in_ok-key.ensures)
    (c.duplicate.ensures ∙ key_is s c.args.name.now c.in_ok-key.key c.in_ok-key.ensures)

pub invariant_of-self-lent : goal.invariant_of-self-lent
invariant_of-self-lent g c = λ left.
    let s = c.args.self.now.state in
    opened_held c.replace_stream.new.self c.args.name.now c.in_ok-key.key c.duplicate.result c.self.inside.is_pool_changed
    (key_accepted s c.args.name.now c.in_ok-key.key c.in_ok-key.ensures) (key_is s c.args.name.now c.in_ok-key.key c.in_ok-key.ensures)
    c.duplicate.ensures c.in_ok-replace_stream.ensures.there
    (λ changed. ap (λ (k : Kept). is_sound k.database) c.in_ok-replace_stream.ensures.ok
    ∙ ap (λ (k : Kept). is_sound k.database) c.settle.ensures.database ∙ c.self.invariant.changed changed)

pub returns : goal.returns
returns g c = (
  lent_same (λ left. left_written _ c.args.self.now c.settle.new.database c.replace_stream.new.self c.args.name.now c.in_ok-key.key c.duplicate.result
      c.from_vec-empty.result left.bytes c.self.view_is c.settle.ensures.kept.in_order c.in_ok-replace_stream.ensures.ok c.duplicate.ensures
      (key_is c.args.self.now.state c.args.name.now c.in_ok-key.key c.in_ok-key.ensures) c.settle.ensures.database),
  (
    c.new-2.ensures,
    (
      write_passes c.args.self.now.state c.args.name.now c.in_ok-key.key c.in_ok-key.ensures
          (storages_seen _ c.args.self.now c.self.view_is c.in_ok-check_storages.ensures),
      (
        tt,
        none_answered (name_refusals (parts_of c.args.self.now.state) c.args.name.now) _
            (write_passes c.args.self.now.state c.args.name.now c.in_ok-key.key c.in_ok-key.ensures
            (storages_seen _ c.args.self.now c.self.view_is c.in_ok-check_storages.ensures)),
      ),
    ),
  ),
)
