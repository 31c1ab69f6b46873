-- An insert.
use Rattle.std.proofs.Common.{◌≡◌, true, not, [], ◌∷◌, ◌++◌, Ok, sym, subst, IsPermutation}
use Rattle.std.proofs.lemmas.Bool.{not-false}
use Rattle.msi_base.specs.declared.errors.ErrorKind.TheVariants.{InvalidData, InvalidInput}
use Rattle.msi_pool.specs.FirstFitLaws.{TakenPlacesHoldTheirText, GivenBackTakesOne}
use Rattle.msi_query.specs.Queries.{InsertQuery}
use Rattle.msi_base.specs.Refusals.{Refusals, unless_refused}
use Rattle.msi_database_schema.specs.System.{is_system_table}
use Rattle.msi_database_changes.specs.Database.{Database, is_sound, CountsAreExact}
use Rattle.msi_database_changes.specs.Changes.{Change, no_change, sound_refusal}
use Rattle.msi_database_changes.specs.Insert.{rows_inserted, insert_at_width}
use Rattle.msi_database_changes.specs.Laws.{rows_at, OthersStay}
use Rattle.msi_database_changes.proofs.steps.RefusedLemmas.{bind_ok, not_refused, first_fails, front_fails}
use Rattle.msi_database_changes.proofs.steps.StoredLemmas.{WellFormed}
use Rattle.msi_database_changes.proofs.row_changes.InsertedLemmas.{Inserted, inserted_parts, inserted_sound, inserted_well, inserted_exact, inserted_adds}

abbrev early_refusals : Database → InsertQuery → Refusals
early_refusals d q = sound_refusal d ++ (is_system_table q.table, InvalidInput) ∷ []

pub insert_parts : (d : Database) (q : InsertQuery) (c : Change) → insert_at_width d q ≡ Ok c → (is_sound d ≡ true) × Inserted (no_change d) q.table q.rows c
insert_parts d q c e =
    bind_ok (unless_refused (early_refusals d q) (no_change d)) (rows_inserted q.table q.rows) c e
    (λ c₀ c₀_is rest.
    let passed = not_refused (early_refusals d q) (no_change d) c₀ c₀_is in
    let sound = not-false (is_sound d) (first_fails (not (is_sound d)) InvalidData [] (front_fails (sound_refusal d) ((is_system_table q.table, InvalidInput) ∷ []) passed.0).0).0 in
    (sound, inserted_parts (no_change d) q.table q.rows c (subst (λ c₁. rows_inserted q.table q.rows c₁ ≡ Ok c) (sym passed.1) rest)))

module _ (takes : TakenPlacesHoldTheirText) (gives : GivenBackTakesOne) (d : Database) (q : InsertQuery) (c : Change) (well : WellFormed d) (e : insert_at_width d q ≡ Ok c) where
  abbrev parts : (is_sound d ≡ true) × Inserted (no_change d) q.table q.rows c
  parts = insert_parts d q c e

  pub insert_sound : is_sound c.database ≡ true
  insert_sound = inserted_sound takes gives (no_change d) q.table q.rows c parts.0 well parts.1

  pub insert_well : WellFormed c.database
  insert_well = inserted_well takes gives (no_change d) q.table q.rows c parts.0 well parts.1

  pub insert_exact : CountsAreExact d → CountsAreExact c.database
  insert_exact exact = inserted_exact takes gives (no_change d) q.table q.rows c parts.0 well parts.1 exact

  -- the table has the rows that it had and those of the query, and the others are as they were
  pub insert_adds : IsPermutation (rows_at q.table d ++ q.rows) (rows_at q.table c.database) × OthersStay q.table d c.database
  insert_adds = inserted_adds takes gives (no_change d) q.table q.rows c parts.0 well parts.1
