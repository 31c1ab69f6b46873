-- A recount leaves a sound database with exact counts, and no value changes.
use Rattle.std.proofs.Common.{◌≡◌, ◌≢◌, ℕ, zero, suc, ◌+◌, ◌-◌, ◌<◌, ◌≤◌, Bool, true, false, not, ◌&&◌, ◌==◌, List, [], ◌∷◌, map, length, get_or, Option, Some, None, option_map, slice_get, nat_le, nat_lt, unwrap_or, cond, refl, sym, ap, ap₂, subst, ◌∙◌, arith, ⊎_elim}
use Rattle.std.specs.Prelude.{◌^◌, All, if◌then◌else◌, option_and_then, zip}
use Rattle.std.specs.List.{list_all}
use Rattle.std.specs.Option.{option_map_or}
use Rattle.std.proofs.lemmas.Bool.{and_parts, cases_lt, le-leb, leb-true, ne_eqb, eqb-true, not-false}
use Rattle.std.proofs.lemmas.Option.{get_or_from_slice_get, slice_get_past}
use Rattle.msi_base.specs.Lists.{has_pair, list_cmp}
use Rattle.msi_base.proofs.ListLemmas.{tabulated_at}
use Rattle.msi_pool.specs.Pool.{Place, PlacesWritten}
use Rattle.msi_pool.specs.FirstFit.{count_of, most_places}
use Rattle.msi_pool.specs.FirstFitLaws.{text_at}
use Rattle.msi_pool.specs.Recounting.{many_recounted, with_count, with_counts}
use Rattle.msi_pool.proofs.RecountingLemmas.{length-with_counts, many_recounted-cons}
use Rattle.msi_table.proofs.ReadRowsLemmas.{length-tabulated}
use Rattle.msi_table_cells.specs.KeyOrder.{key_of, same_key}
use Rattle.msi_base.specs.Refusals.{first_refusal}
use Rattle.msi_query.specs.Selection.{TableValues}
use Rattle.msi_database_changes.specs.Database.{Database, CountsAreExact, cells_naming, counts_suffice, is_sound, is_well_formed, named_numbers, names_stay_in_pool, pool_fits_width, table_at, tables_are_readable, validation_is_standard, values_of, with_places}
use Rattle.msi_database_changes.specs.Laws.{KeysAreDistinct}
use Rattle.msi_database_changes.specs.Recounting.{cell_counts, counts_changed, counts_fit, IsRecounted, recount_refusals, recounted, RecountsMakeExact}
use Rattle.msi_database_changes.proofs.soundness.LawLemmas.{well_formed_from, well_formed_to}
use Rattle.msi_database_changes.proofs.steps.RefusedLemmas.{none_holds}
use Rattle.msi_database_changes.proofs.soundness.SoundLemmas.{counts_suffice_at, not_named, numbers_all, suffices_at}
use Rattle.msi_database_changes.proofs.text_counts.TablesLemmas.{naming_is, table_uses, total-found}
use Rattle.msi_database_changes.proofs.steps.TurnLemmas.{TextsStay}
use Rattle.msi_database_changes.proofs.steps.ValuesLemmas.{found_stays}

-- PLACES

counted_at : (counts : List ℕ) (places : List Place) (i : ℕ) → length counts ≡ length places → i < length places → count_of (slice_get (with_counts counts places) i) ≡ get_or counts i 0
counted_at [] [] i same inside = absurd (omega (arith, inside))
counted_at [] (p ∷ ps) i same inside = absurd (omega (arith, same))
counted_at (c ∷ cs) [] i same inside = absurd (omega (arith, same))
counted_at (c ∷ cs) (p ∷ ps) zero same inside = refl
counted_at (c ∷ cs) (p ∷ ps) (suc i) same inside = counted_at cs ps i (omega (arith, same)) (omega (arith, inside))

text_counted : (n : ℕ) (p : Place) → 0 < n → (with_count n p).text ≡ p.text
text_counted n p some = let e : (n == 0) ≡ false = ne_eqb n 0 (λ z. omega (arith, z, some)) in ap (λ b. if b then [] else p.text) e

text_kept_at : (counts : List ℕ) (places : List Place) (i : ℕ) → length counts ≡ length places → 0 < get_or counts i 0
    → option_map_or (λ p. p.text) (slice_get (with_counts counts places) i) [] ≡ option_map_or (λ p. p.text) (slice_get places i) []
text_kept_at [] [] i same some = refl
text_kept_at [] (p ∷ ps) i same some = absurd (omega (arith, same))
text_kept_at (c ∷ cs) [] i same some = absurd (omega (arith, same))
text_kept_at (c ∷ cs) (p ∷ ps) zero same some = text_counted c p some
text_kept_at (c ∷ cs) (p ∷ ps) (suc i) same some = text_kept_at cs ps i (omega (arith, same)) some

-- where no count changes, each is the number that is set, and places whose free ones are empty stay
same_first : (c : ℕ) (p : Place) (rest : ℕ) → cond (not (c == p.count)) 1 0 + rest ≡ 0 → (c ≡ p.count) × (rest ≡ 0)
same_first c p rest e = by_test (c == p.count) refl e where
  by_test : (b : Bool) → (c == p.count) ≡ b → cond (not b) 1 0 + rest ≡ 0 → (c ≡ p.count) × (rest ≡ 0)
  by_test true t e = (eqb-true c p.count t, omega (arith, e))
  by_test false t e = absurd (omega (arith, e))

none_changed : (counts : List ℕ) (places : List Place) (i : ℕ) → length counts ≡ length places → many_recounted counts places ≡ 0 → i < length places → count_of (slice_get places i) ≡ get_or counts i 0
none_changed [] [] i same e inside = absurd (omega (arith, inside))
none_changed [] (p ∷ ps) i same e inside = absurd (omega (arith, same))
none_changed (c ∷ cs) [] i same e inside = absurd (omega (arith, inside))
none_changed (c ∷ cs) (p ∷ ps) zero same e inside = sym (same_first c p (many_recounted cs ps) (sym (many_recounted-cons c cs p ps) ∙ e)).0
none_changed (c ∷ cs) (p ∷ ps) (suc i) same e inside = none_changed cs ps i (omega (arith, same)) (same_first c p (many_recounted cs ps) (sym (many_recounted-cons c cs p ps) ∙ e)).1 (omega (arith, inside))

place_same : (p : Place) → (p.count ≡ 0 → p.text ≡ []) → with_count p.count p ≡ p
place_same p written = λ i. record { text = text_by (p.count == 0) refl i; count = p.count } where
  text_by : (b : Bool) → (p.count == 0) ≡ b → (if b then [] else p.text) ≡ p.text
  text_by true t = sym (written (eqb-true p.count 0 t))
  text_by false t = refl

places_same : (counts : List ℕ) (places : List Place) → length counts ≡ length places → many_recounted counts places ≡ 0 → PlacesWritten places → with_counts counts places ≡ places
places_same [] [] same e written = refl
places_same [] (p ∷ ps) same e written = absurd (omega (arith, same))
places_same (c ∷ cs) [] same e written = absurd (omega (arith, same))
places_same (c ∷ cs) (p ∷ ps) same e written =
    let parts = same_first c p (many_recounted cs ps) (sym (many_recounted-cons c cs p ps) ∙ e) in
    ap₂ (λ (q : Place) (qs : List Place). q ∷ qs) (ap (λ n. with_count n p) parts.0 ∙ place_same p written.0) (places_same cs ps (omega (arith, same)) parts.1 written.1)

few_at : (counts : List ℕ) (i e : ℕ) → i < length counts → list_all (λ n. nat_le n 65535) counts ≡ true → get_or counts i e ≤ 65535
few_at [] i e inside fit = absurd (omega (arith, inside))
few_at (c ∷ cs) zero e inside fit = leb-true c 65535 (and_parts (nat_le c 65535) (list_all (λ n. nat_le n 65535) cs) fit).0
few_at (c ∷ cs) (suc i) e inside fit = few_at cs i e (omega (arith, inside)) (and_parts (nat_le c 65535) (list_all (λ n. nat_le n 65535) cs) fit).1

-- THE DATABASE

five : (a b c d e : Bool) → a ≡ true → b ≡ true → c ≡ true → d ≡ true → e ≡ true → (a && b && c && d && e) ≡ true
five a b c d e p q r s t = rw (p, q, r, s, t) refl

module _ (d : Database) where
  pub many_counts : length (cell_counts d) ≡ length d.pool.places
  many_counts = length-tabulated (length d.pool.places) (λ i. cells_naming d (i + 1))

  pub many_places : length (recounted d).pool.places ≡ length d.pool.places
  many_places = length-with_counts (cell_counts d) d.pool.places many_counts

  -- where the test is passed, each count has 16 bits
  pub counts_fit_are : counts_fit d ≡ true → All (λ n. n < 2 ^ 16) (cell_counts d)
  counts_fit_are fit i e inside = let few : get_or (cell_counts d) i e ≤ 65535 = few_at (cell_counts d) i e inside fit in omega (arith, few)

  pub cells_at : (i : ℕ) → i < length d.pool.places → get_or (cell_counts d) i 0 ≡ cells_naming d (i + 1)
  cells_at i inside = get_or_from_slice_get (cell_counts d) i (cells_naming d (i + 1)) 0 (tabulated_at (λ i. cells_naming d (i + 1)) (length d.pool.places) i inside)

  count_now : (i : ℕ) → i < length d.pool.places → count_of (slice_get (recounted d).pool.places i) ≡ cells_naming d (i + 1)
  count_now i inside = counted_at (cell_counts d) d.pool.places i many_counts inside ∙ cells_at i inside

  pub counts_exact : CountsAreExact (recounted d)
  counts_exact i inside = count_now i (omega (arith, inside, many_places))

  suffice_now : counts_suffice (recounted d) ≡ true
  suffice_now = counts_suffice_at (recounted d) ∙ numbers_all (suffices_at (recounted d)) (length (recounted d).pool.places) 0
      (λ i low high. le-leb (cells_naming d (i + 1)) (count_of (slice_get (recounted d).pool.places i)) (omega (arith, count_now i (omega (arith, high, many_places)))))

  module _ (formed : is_well_formed d ≡ true) where
    -- what is named keeps its text
    pub texts_stay : TextsStay (cells_naming d) d.pool.places (recounted d).pool.places
    texts_stay zero some = absurd (omega (arith, some, not_named (λ n. nat_lt 0 n) 0 (named_numbers d) (well_formed_from d formed).numbers refl))
    texts_stay (suc i) some = ⊎_elim
        (λ (inside : i < length d.pool.places).
        let here : suc i - 1 ≡ i = omega arith in
        let next : i + 1 ≡ suc i = omega arith in
        let named : 0 < get_or (cell_counts d) i 0 = omega (arith, some, cells_at i inside, ap (cells_naming d) next) in
        subst (λ k. option_map_or (λ p. p.text) (slice_get (recounted d).pool.places k) [] ≡ option_map_or (λ p. p.text) (slice_get d.pool.places k) []) (sym here)
        (text_kept_at (cell_counts d) d.pool.places i many_counts named))
        (λ (past : length d.pool.places ≤ i).
        let here : suc i - 1 ≡ i = omega arith in
        subst (λ k. option_map_or (λ p. p.text) (slice_get (recounted d).pool.places k) [] ≡ option_map_or (λ p. p.text) (slice_get d.pool.places k) []) (sym here)
        (ap (λ (o : Option Place). option_map_or (λ p. p.text) o []) (slice_get_past (recounted d).pool.places i (omega (arith, past, many_places)) ∙ sym (slice_get_past d.pool.places i past))))
        (cases_lt i (length d.pool.places))

    pub values_stay : (name : List ℕ) → values_of (recounted d) name ≡ values_of d name
    values_stay name = found_stays (table_at name d) d.pool.places (recounted d).pool.places
        (λ u found n some. texts_stay n (omega (arith, some, naming_is d n, total-found list_cmp table_uses name u d.tables n found)))

    pub keys_stay : KeysAreDistinct d → KeysAreDistinct (recounted d)
    keys_stay distinct name t found =
        ap (λ (o : Option TableValues). has_pair same_key (map (key_of t.columns) (unwrap_or (option_and_then (λ t. t.rows) o) []))) (values_stay name) ∙ distinct name t found

    module _ (passes : first_refusal (recount_refusals d) ≡ None) where
      pub sound_now : is_sound (recounted d) ≡ true
      sound_now =
          let none = none_holds (recount_refusals d) passes in
          five (counts_suffice (recounted d)) (names_stay_in_pool (recounted d)) (pool_fits_width (recounted d)) (tables_are_readable d) (validation_is_standard d) suffice_now
          (subst (λ many. list_all (λ n. nat_le n many) (named_numbers d) ≡ true) (sym many_places) (not-false (names_stay_in_pool d) none.1.1.1.0))
          (ap (λ many. nat_le many (most_places d.pool.long)) many_places ∙ not-false (pool_fits_width d) none.1.0)
          (not-false (tables_are_readable d) none.0)
          (not-false (validation_is_standard d) none.1.1.0)

      -- where no count changes, the database was sound
      pub unchanged_sound : counts_changed d ≡ 0 → is_sound d ≡ true
      unchanged_sound same =
          let none = none_holds (recount_refusals d) passes in
          five (counts_suffice d) (names_stay_in_pool d) (pool_fits_width d) (tables_are_readable d) (validation_is_standard d)
          (counts_suffice_at d ∙ numbers_all (suffices_at d) (length d.pool.places) 0
          (λ i low high. le-leb (cells_naming d (i + 1)) (count_of (slice_get d.pool.places i))
          (omega (arith, none_changed (cell_counts d) d.pool.places i many_counts same (omega (arith, high)), cells_at i (omega (arith, high))))))
          (not-false (names_stay_in_pool d) none.1.1.1.0) (not-false (pool_fits_width d) none.1.0) (not-false (tables_are_readable d) none.0) (not-false (validation_is_standard d) none.1.1.0)

  pub unchanged_same : counts_changed d ≡ 0 → PlacesWritten d.pool.places → recounted d ≡ d
  unchanged_same same written = ap (λ (places : List Place). with_places places d) (places_same (cell_counts d) d.pool.places many_counts same written)

pub recounts_make_exact : RecountsMakeExact
recounts_make_exact d formed passes = record {
  formed = well_formed_to (recounted d) (record { numbers = (well_formed_from d formed).numbers; in_order = (well_formed_from d formed).in_order; full = (well_formed_from d formed).full });
  sound = sound_now d formed passes;
  counts = counts_exact d;
  values = values_stay d formed;
  keys = keys_stay d formed;
}
