-- After a change no two rows of a table share a key, if none did before.
use Rattle.std.proofs.Common.{◌≡◌, ℕ, true, false, List, [], ◌∷◌, ◌++◌, map, None, refl, sym, ap, ◌∙◌, subst}
use Rattle.std.specs.List.{list_any}
use Rattle.std.proofs.lemmas.Bool.{or_parts}
use Rattle.std.proofs.lemmas.List.{map-append}
use Rattle.msi_base.specs.declared.errors.ErrorKind.TheVariants.{AlreadyExists, InvalidData, InvalidInput}
use Rattle.msi_pool.specs.FirstFitLaws.{TakenPlacesHoldTheirText, GivenBackTakesOne}
use Rattle.msi_base.specs.Lists.{has_pair}
use Rattle.msi_table_values.specs.declared.value.Value.{Value}
use Rattle.msi_table_cells.specs.declared.cell.ValueRef.{ValueRef}
use Rattle.msi_table_cells.specs.CellValues.{row_values}
use Rattle.msi_table_cells.specs.StoredOrder.{row_cmp, in_stored_order}
use Rattle.msi_base.specs.Refusals.{first_refusal}
use Rattle.msi_table_cells.specs.KeyOrder.{key_of, same_key, key_cmp, in_key_order}
use Rattle.msi_database_changes.specs.Database.{rows_of, is_sound}
use Rattle.msi_database_changes.specs.Changes.{Change}
use Rattle.msi_database_changes.specs.KeySets.{key_refusals}
use Rattle.msi_database_changes.specs.Insert.{keys_of}
use Rattle.msi_database_changes.specs.Laws.{rows_at, KeysAreDistinct}
use Rattle.msi_database_changes.proofs.steps.RefusedLemmas.{first_fails}
use Rattle.msi_database_changes.proofs.row_keys.KeyPairLemmas.{same_key_turned, AllApart, pair-append}
use Rattle.msi_database_changes.proofs.steps.StoredLemmas.{WellFormed}
use Rattle.msi_database_changes.proofs.steps.ValuesLemmas.{rows_before}
use Rattle.msi_database_changes.proofs.row_keys.DistinctLemmas.{keys, keys_sorted, distinct_after}
use Rattle.msi_database_changes.proofs.row_changes.InsertedLemmas.{Inserted, keys_fit, values_now, inserted_moved}
use Rattle.msi_database_changes.proofs.row_changes.UpdateLemmas.{map_map}

-- the new keys are apart from those that are held, from the earlier ones, and from one another
pub record NewKeys (held earlier ks : List (List Value)) : Type 0 where
  pub held_apart : AllApart same_key held ks
  pub earlier_apart : AllApart same_key earlier ks
  pub distinct : has_pair same_key ks ≡ false

behind_apart : (k : List Value) (earlier ks : List (List Value)) → AllApart same_key (k ∷ earlier) ks → (list_any (same_key k) ks ≡ false) × AllApart same_key earlier ks
behind_apart k earlier [] h = (refl, tt)
behind_apart k earlier (l ∷ ks) h =
    let parts = or_parts (same_key l k) (list_any (same_key l) earlier) h.0 in
    let rest = behind_apart k earlier ks h.1 in
    (rw (same_key_turned k l, parts.0) rest.0, (parts.1, rest.1))

new_keys : (held earlier ks : List (List Value)) → first_refusal (key_refusals held earlier ks) ≡ None → NewKeys held earlier ks
new_keys held earlier [] e = record { held_apart = tt; earlier_apart = tt; distinct = refl }
new_keys held earlier (k ∷ ks) e =
    let first = first_fails (list_any (same_key k) held) AlreadyExists ((list_any (same_key k) earlier, InvalidInput) ∷ key_refusals held (k ∷ earlier) ks) e in
    let second = first_fails (list_any (same_key k) earlier) InvalidInput (key_refusals held (k ∷ earlier) ks) first.1 in
    let rest = new_keys held (k ∷ earlier) ks second.1 in
    let behind = behind_apart k earlier ks rest.earlier_apart in
    record { held_apart = (first.0, rest.held_apart); earlier_apart = (second.0, behind.1); distinct = rw (behind.0, rest.distinct) }

module _ (takes : TakenPlacesHoldTheirText) (gives : GivenBackTakesOne) (b : Change) (name : List ℕ) (values : List (List Value)) (c : Change)
    (sound : is_sound b.database ≡ true) (well : WellFormed b.database) (s : Inserted b name values c) (before : KeysAreDistinct b.database) where
  abbrev all_rows : List (List ValueRef)
  all_rows = rows_of s.table ++ s.put.0

  held_is : keys_of b.database.pool.places s.table ≡ map (key_of s.table.columns) (rows_at name b.database)
  held_is = map_map (key_of s.table.columns) (row_values b.database.pool.places) (rows_of s.table) ∙ ap (map (key_of s.table.columns)) (sym (rows_before b.database name s.table s.found well.in_order))

  both_distinct : has_pair same_key (keys s.table.columns s.put.1.places all_rows) ≡ false
  both_distinct =
      let fit = keys_fit b.database values s.table s.passed in
      let held = keys_of b.database.pool.places s.table in
      let news = map (key_of s.table.columns) values in
      let first = first_fails (has_pair same_key held) InvalidData (key_refusals held [] news) fit in
      let apart = new_keys held [] news first.1 in
      ap (λ rs. has_pair same_key (map (key_of s.table.columns) rs)) (values_now takes gives b name values c sound well s)
      ∙ ap (has_pair same_key) (map-append (key_of s.table.columns) (rows_at name b.database) values)
      ∙ ap (λ ks. has_pair same_key (ks ++ news)) (sym held_is)
      ∙ pair-append same_key same_key_turned held news first.0 apart.distinct apart.held_apart

  pub inserted_distinct : KeysAreDistinct c.database
  inserted_distinct =
      let keyed = in_key_order s.table.columns s.put.1.places all_rows in
      subst (λ (c : Change). KeysAreDistinct c.database) s.stored
      (distinct_after b.database name s.table s.found well.in_order (in_stored_order s.table.columns keyed) s.put.1.places
      (inserted_moved takes gives b name values c sound well s).texts before
      (keys_sorted (row_cmp s.table.columns) s.table.columns s.put.1.places keyed ∙ keys_sorted (key_cmp s.table.columns s.put.1.places) s.table.columns s.put.1.places all_rows ∙ both_distinct))
