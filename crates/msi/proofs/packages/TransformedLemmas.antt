-- An accepted transform leaves a package, sound and with exact counts.
use Rattle.std.proofs.Common.{◌≡◌, true, Ok, sym, subst}
use Rattle.std.proofs.lemmas.Bool.{true≢false}
use Rattle.msi_base.specs.Refusals.{unless_refused}
use Rattle.msi_database.specs.Database.{CountsAreExact, is_sound}
use Rattle.msi_database.specs.Transforming.{apply_transform}
use Rattle.msi_database.proofs.TransformedLemmas.{Applies, applied_exact, applied_summary, applies}
use Rattle.msi_database_storage.specs.Kept.{Kept}
use Rattle.msi_transform.specs.Transforms.{TransformDef}
use Rattle.msi_transform.specs.declared.conditions.ErrorConditions.{ErrorConditions}
use Rattle.msi_transform_rows.specs.RecordRefusals.{nowhere}
use Rattle.msi_transform_applying.proofs.OtherStreamsLemmas.{accepted, passed}
use Rattle.msi.specs.State.{State, parts_of, storage_refusal}
use Rattle.msi.specs.Meaning.{IsPackage}
use Rattle.msi.specs.Transforming.{IsLeft, after_transform, stored_page, transforming}
use Rattle.msi.proofs.meaning.AgreementLemmas.{summary_same}

module _ (s : State) (t : TransformDef) (passing : ErrorConditions) (k : Kept) (h : IsPackage s) (is : transforming s t passing ≡ Ok k) (left : IsLeft k) where
  applied_here : Applies s.kept (stored_page s) t passing k
  applied_here =
      let (same, unrefused, made) = passed (nowhere (unless_refused (storage_refusal (parts_of s)) s.kept)) (λ (k : Kept). apply_transform k (stored_page s) t passing) k is in
      let here : s.kept ≡ same = accepted (storage_refusal (parts_of s)) s.kept same unrefused in
      applies s.kept (stored_page s) t passing k (subst (λ (x : Kept). apply_transform x (stored_page s) t passing ≡ Ok k) (sym here) made)

  pub transformed_exact : (is_sound k.database ≡ true) × CountsAreExact k.database
  transformed_exact = applied_exact s.kept (stored_page s) t passing k applied_here left.database

  pub package_transformed : IsPackage (after_transform s k)
  package_transformed = record {
    names = left.names;
    database = left.database;
    summary = h.summary;
    format = h.format;
    agrees = record {
      summary = λ lent writable. summary_same s.kept.streams k.streams s.summary (applied_summary s.kept (stored_page s) t passing k applied_here h.database) (h.agrees.summary lent writable);
      pool = λ changed. absurd (true≢false changed);
      database = left.database.spelled;
    };
    changed = λ _. transformed_exact.0;
  }
