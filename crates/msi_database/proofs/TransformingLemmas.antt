-- A transform applied to a database, step by step: what is refused, and what is left.
use Rattle.std.proofs.Common.{◌≡◌, ℕ, List, Option, Some, None, Result, Ok, Err, refl, sym, ap, subst, ◌∙◌, inl, inr}
use Rattle.std.specs.Prelude.{IfErr, IsErrAnd}
use Rattle.msi_base.specs.declared.errors.ErrorKind.{ErrorKind}
use Rattle.msi_base.specs.declared.errors.ErrorKind.TheVariants.{InvalidData, OutOfMemory}
use Rattle.msi_base.specs.Refusals as bases
use Rattle.msi_base.specs.Refusals.{IsRefusal, first_refusal, or_refused, unless_refused}
use Rattle.msi_base.proofs.RefusalLemmas.{refusals-Ok}
use Rattle.msi_pool.specs.Pool.{Pool}
use Rattle.msi_table.specs.Tables.{TableDef}
use Rattle.msi_database_changes.specs.Changes.{sound_refusal}
use Rattle.msi_database_changes.specs.Recounting.{recount, recount_refusals}
use Rattle.msi_database_storage.specs.Kept.{Kept, database_kept, kept_of}
use Rattle.msi_database_storage.specs.Streams.{Streams}
use Rattle.msi_transform.specs.Transforms.{TransformDef}
use Rattle.msi_transform.specs.declared.conditions.ErrorConditions.{ErrorConditions}
use Rattle.msi_transform_applying.specs.Applying.{◌>>=◌, Left, Refusal, TablesChanged, applied, change_with, finished, nowhere, tables_changed}
use Rattle.msi_transform_applying.specs.LeftInHand.{base_of}
use Rattle.msi_transform_rows.specs.RecordRefusals.{IsRefused}
use Rattle.msi_transform_schema.specs.SchemaChanges.{SchemaChange}
use Rattle.msi_database.specs.Recounting.{after_recount}
use Rattle.msi_database.specs.Transforming.{apply_transform, database_read, opened, with_true_counts}

-- REFUSALS

abbrev pub placeless : ErrorKind → Refusal
placeless kind = record { kind = kind; place = None }

-- an error that comes at no record
pub refused_nowhere : {A B : Type 0} (r : Result B Refusal) (kind : ErrorKind) (answer : Result A Refusal) → IsErrAnd r (λ e. e ≡ placeless kind) → IsRefused answer (placeless kind) → IfErr r (IsRefused answer)
refused_nowhere (Ok x) kind answer is h = tt
refused_nowhere (Err e) kind answer is h = subst (IsRefused answer) (sym is) h

-- READING WHAT IS LEFT

unless_alike : {A B : Type 0} (o : Option ErrorKind) (x : A) (y : B) (kind : ErrorKind) → bases.unless o x ≡ Err kind → bases.unless o y ≡ Err kind
unless_alike None x y kind is = absurd cc
unless_alike (Some other) x y kind is = cc

module _ (left : Left) (k : Kept) (read : or_refused InvalidData (database_read left.pool left.streams) ≡ Ok k) where
  opened_is : opened left ≡ nowhere (with_true_counts k)
  opened_is = ap (λ r. nowhere r >>= λ k. nowhere (with_true_counts k)) read

  pub opened_refused : (kind : ErrorKind) → IsRefusal (recount k.database) kind → IsRefused (opened left) (placeless kind)
  opened_refused kind (inl memory) = inl memory
  opened_refused kind (inr is) = inr (opened_is ∙ ap nowhere (unless_alike (first_refusal (recount_refusals k.database)) _ (after_recount k) kind is))

-- APPLYING

module _ (k : Kept) (page_id : ℕ) (t : TransformDef) (passing : ErrorConditions) where
  -- the steps of a change of these parts
  pub applied_is : (change : SchemaChange) → change ≡ change_with k t passing → (c : TablesChanged) → tables_changed change page_id ≡ Ok c
      → applied k page_id t passing ≡ finished (base_of change) change.by c
  applied_is change is c changed =
      ap (λ r. r >>= finished k t) (ap (λ (change : SchemaChange). tables_changed change page_id) (sym is) ∙ changed)
      ∙ ap (λ (change : SchemaChange). finished (base_of change) change.by c) (sym is)

  module _ (passes : ◌≡◌ {A = Result (Unit {0}) ErrorKind} (Ok tt) (unless_refused (sound_refusal k.database) tt)) where
    sound_applied : apply_transform k page_id t passing ≡ (applied k page_id t passing >>= opened)
    sound_applied = ap (λ r. nowhere r >>= λ k. applied k page_id t passing >>= opened) (refusals-Ok (sound_refusal k.database) tt tt k k passes refl)

    pub applied_opened : (left : Left) → applied k page_id t passing ≡ Ok left → apply_transform k page_id t passing ≡ opened left
    applied_opened left is = sound_applied ∙ ap (λ r. r >>= opened) is

-- AS THE CALL HAS THEM

pub change_is : (change : SchemaChange) (pool : Pool) (tables listed : List TableDef) (streams : Streams) (k : Kept) (t : TransformDef) (passing : ErrorConditions)
    → kept_of pool tables streams ≡ k → listed ≡ tables
    → change ≡ record { database = database_kept pool listed streams; streams = streams; by = t; passing = passing } → change ≡ change_with k t passing
change_is change pool tables listed streams k t passing is same made =
    made ∙ ap (λ (ts : List TableDef). change_with (kept_of pool ts streams) t passing) same ∙ ap (λ (k : Kept). change_with k t passing) is
