use Rattle.std.proofs.Common.{◌∙◌, ap}
use Rattle.msi_database.specs.Database.{is_sound}
use Rattle.msi.specs.Whole.{Whole}
use Rattle.msi.proofs.packages.ChangeLemmas.{noted_sound}
use Rattle.msi.proofs.package.Package.note_change.Goals as goal

pub invariant_of-self : goal.invariant_of-self
invariant_of-self g c = record {
  current = c.self.invariant.current;
  changed = noted_sound c.self.inside.is_pool_changed c.args.is_pool_used c.self.invariant.changed
      (λ used. ap (λ (w : Whole). is_sound w.state.kept.database) c.self.view_is ∙ c.requires used);
}
