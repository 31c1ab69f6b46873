-- What an applied transform leaves: a sound database with exact counts, and the stream of the summary.
use Rattle.std.proofs.Common.{◌≡◌, ℕ, Bool, true, false, not, List, [], map, Option, Some, None, Ok, refl, sym, ap, subst, ◌∙◌}
use Rattle.std.specs.Prelude.{◌&&◌, if◌then◌else◌, option_map}
use Rattle.std.proofs.lemmas.Bool.{not-false}
use Rattle.std.proofs.lemmas.Option.{same_Some}
use Rattle.msi_base.specs.declared.errors.ErrorKind.TheVariants.{InvalidData}
use Rattle.msi_base.specs.Refusals.{first_refusal, or_refused, unless_refused}
use Rattle.msi_pool.specs.Pool.{Pool}
use Rattle.msi_table_values.specs.Columns.{ColumnDef}
use Rattle.msi_database_schema.specs.Keys.{summary_key}
use Rattle.msi_database_schema.specs.Schema.{table_with}
use Rattle.msi_database_schema.proofs.KeyLemmas.{stream_key≢summary_key, table_key≢summary_key}
use Rattle.msi_database_changes.specs.Changes.{sound_refusal}
use Rattle.msi_database_changes.specs.Database.{CountsAreExact, is_sound, is_well_formed}
use Rattle.msi_database_changes.specs.Recounting.{IsRecounted, recount_refusals, recounted}
use Rattle.msi_database_changes.proofs.steps.RefusedLemmas.{first_fails, not_refused, value_there}
use Rattle.msi_database_changes.proofs.text_counts.RecountingLemmas.{recounts_make_exact}
use Rattle.msi_database_storage.specs.Agreement.{schema_in}
use Rattle.msi_database_storage.specs.Kept.{Kept}
use Rattle.msi_database_storage.specs.Streams.{Streams, stream_at}
use Rattle.msi_database_storage.specs.Widening.{streams_widened}
use Rattle.msi_transform.specs.Transforms.{TransformDef}
use Rattle.msi_transform.specs.declared.conditions.ErrorConditions.{ErrorConditions}
use Rattle.msi_transform_applying.specs.Applying.{◌>>=◌, Left, applied, nowhere}
use Rattle.msi_transform_applying.proofs.OtherStreamsLemmas.{accepted, other_stays, passed, placed}
use Rattle.msi_database.specs.Keeping.{IsKeptDatabase}
use Rattle.msi_database.specs.Recounting.{after_recount}
use Rattle.msi_database.specs.Transforming.{apply_transform, database_read, opened, read_with, with_true_counts}
use Rattle.msi_database.proofs.keeping.KeptLawLemmas.{kept_is_well_formed}
use Rattle.msi_database.proofs.widths.WideningLemmas.{widened_summary}

-- the database is sound; what the tables leave is read, and counted anew
pub record Applies (k : Kept) (page_id : ℕ) (t : TransformDef) (passing : ErrorConditions) (new : Kept) : Type 0 where
  pub sound : is_sound k.database ≡ true
  pub left : Left
  pub leaves : applied k page_id t passing ≡ Ok left
  pub read : Kept
  pub reads : database_read left.pool left.streams ≡ Some read
  pub passes : first_refusal (recount_refusals read.database) ≡ None
  pub counted : after_recount read ≡ new

pub applies : (k : Kept) (page_id : ℕ) (t : TransformDef) (passing : ErrorConditions) (new : Kept) → apply_transform k page_id t passing ≡ Ok new → Applies k page_id t passing new
applies k page_id t passing new is =
    let (same, unrefused, rest) = passed (nowhere (unless_refused (sound_refusal k.database) k)) (λ (k : Kept). applied k page_id t passing >>= opened) new is in
    let here : k ≡ same = accepted (sound_refusal k.database) k same unrefused in
    let sound = not_refused (sound_refusal k.database) k same (placed (unless_refused (sound_refusal k.database) k) same unrefused) in
    let (left, leaves, opens) = passed (applied k page_id t passing) opened new (subst (λ (k : Kept). (applied k page_id t passing >>= opened) ≡ Ok new) (sym here) rest) in
    let (read, found, counted) = passed (nowhere (or_refused InvalidData (database_read left.pool left.streams))) (λ (k : Kept). nowhere (with_true_counts k)) new opens in
    let counts = not_refused (recount_refusals read.database) (after_recount read) new (placed (with_true_counts read) new counted) in
    record {
      sound = not-false (is_sound k.database) (first_fails (not (is_sound k.database)) InvalidData [] sound.0).0;
      left = left;
      leaves = leaves;
      read = read;
      reads = value_there InvalidData (database_read left.pool left.streams) read (placed (or_refused InvalidData (database_read left.pool left.streams)) read found);
      passes = counts.0;
      counted = counts.1;
    }

read_streams : (raw : Pool) (streams : Streams) (o : Option (List (List ℕ × List ColumnDef))) (k : Kept)
    → option_map (λ (listed : List (List ℕ × List ColumnDef)). read_with raw streams (map (table_with raw.long) listed)) o ≡ Some k → k.streams ≡ streams
read_streams raw streams None k e = absurd cc
read_streams raw streams (Some listed) k e = ap (λ (k : Kept). k.streams) (sym (same_Some (read_with raw streams (map (table_with raw.long) listed)) k e))

module _ (k : Kept) (page_id : ℕ) (t : TransformDef) (passing : ErrorConditions) (new : Kept) (a : Applies k page_id t passing new) where
  -- where it is kept, it is sound, and its counts are exact
  pub applied_exact : IsKeptDatabase new → (is_sound new.database ≡ true) × CountsAreExact new.database
  applied_exact kept =
      let formed : is_well_formed a.read.database ≡ true = subst (λ (x : Kept). is_well_formed x.database ≡ true) (sym a.counted) (kept_is_well_formed new kept) in
      let made : IsRecounted a.read.database (recounted a.read.database) = recounts_make_exact a.read.database formed a.passes in
      subst (λ (x : Kept). (is_sound x.database ≡ true) × CountsAreExact x.database) a.counted (made.sound, made.counts)

  under_by : IsKeptDatabase k → (b : Bool) → stream_at summary_key (if b then streams_widened k.database k.streams else k.streams) ≡ stream_at summary_key k.streams
  under_by kept true = widened_summary k kept a.sound
  under_by kept false = refl

  -- the summary stays
  pub applied_summary : IsKeptDatabase k → stream_at summary_key new.streams ≡ stream_at summary_key k.streams
  applied_summary kept =
      ap (λ (x : Kept). stream_at summary_key x.streams) (sym a.counted)
      ∙ ap (stream_at summary_key) (read_streams a.left.pool a.left.streams (schema_in a.left.streams a.left.pool) a.read a.reads)
      ∙ other_stays summary_key (λ name e. table_key≢summary_key name (sym e)) (λ text e. stream_key≢summary_key text (sym e)) k page_id t passing a.left a.leaves
      (λ long. under_by kept (long && not k.database.pool.long))
