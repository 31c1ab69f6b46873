-- A transform made of two databases.
use Rattle.std.proofs.Common.{◌≡◌, Result, Ok, sym, ap, subst, ◌∙◌}
use Rattle.std.specs.Prelude.{IfErr, IfOk}
use Rattle.msi_base.specs.declared.errors.ErrorKind.{ErrorKind}
use Rattle.msi_base.specs.Refusals.{IsRefusal, unless_refused, ◌>>=◌}
use Rattle.msi_database_changes.specs.Changes.{sound_refusal}
use Rattle.msi_transform.specs.Transforms.{TransformDef}
use Rattle.msi_transform_making.specs.Making.{Side, made, pair_of, table_reasons, told_names}
use Rattle.msi_transform_pair.specs.MakingRefusals.{IsAtFault, MakingRefusal}
use Rattle.msi_database.specs.TransformMaking.{transform_between, with_sound}

module _ (old new a b : Side) (a_is : a ≡ old) (b_is : b ≡ new)
    (passes : ◌≡◌ {A = Result (Unit {0}) ErrorKind} (Ok tt) (unless_refused (sound_refusal old.kept.database) tt))
    (new_passes : ◌≡◌ {A = Result (Unit {0}) ErrorKind} (Ok tt) (unless_refused (sound_refusal new.kept.database) tt)) where
  pub made_is : made (pair_of a b) ≡ transform_between old new
  made_is =
      ap (λ (s : Side). made (pair_of s b)) a_is ∙ ap (λ (s : Side). made (pair_of old s)) b_is
      ∙ ap (λ (r : Result (Unit {0}) ErrorKind). r >>= λ u. made (pair_of old new)) new_passes
      ∙ ap (λ (r : Result (Unit {0}) ErrorKind). r >>= λ u. with_sound new (made (pair_of old new))) passes

  pub made_between : (r : Result TransformDef MakingRefusal) → IfOk r (λ t. made (pair_of a b) ≡ Ok t) → IfOk r (λ t. transform_between old new ≡ Ok t)
  made_between r h = subst (λ m. IfOk r (λ t. m ≡ Ok t)) made_is h

  pub refused_between : (r : Result TransformDef MakingRefusal) → IfErr r (λ e. IsRefusal (made (pair_of a b)) e.kind) → IfErr r (λ e. IsRefusal (transform_between old new) e.kind)
  refused_between r h = subst (λ m. IfErr r (λ e. IsRefusal m e.kind)) made_is h

  pub at_fault_between : (r : Result TransformDef MakingRefusal) → IfErr r (IsAtFault (table_reasons (pair_of a b)) (told_names b.kept)) → IfErr r (IsAtFault (table_reasons (pair_of old new)) (told_names new.kept))
  at_fault_between r h = subst (λ (s : Side). IfErr r (IsAtFault (table_reasons (pair_of old s)) (told_names s.kept))) b_is
      (subst (λ (s : Side). IfErr r (IsAtFault (table_reasons (pair_of s b)) (told_names b.kept))) a_is h)
