-- Soundness: how far each loop has come, and what the parts of the test are of the database.
use Rattle.std.proofs.Common.{◌≡◌, ◌≢◌, ℕ, suc, ◌+◌, ◌-◌, ◌<◌, ◌≤◌, Bool, true, false, ◌&&◌, List, [], ◌∷◌, map, length, take, get_or, Option, Some, None, option_map, slice_get, refl, sym, ap, ◌∙◌, subst, arith, ⊎_elim}
use Rattle.std.specs.Prelude.{nat_le, slice_index}
use Rattle.std.specs.List.{list_all}
use Rattle.std.specs.Option as options
use Rattle.std.proofs.Math.Seq.{take-length}
use Rattle.std.proofs.lemmas.Bool.{cases_eq, false_from_ne_true, le-leb, leb-true, true≢false}
use Rattle.std.proofs.lemmas.Bool.Decides.{nat_tests}
use Rattle.std.proofs.lemmas.List.{map_push, take_more}
use Rattle.std.proofs.lemmas.List.Folds.{list_all-append, list_all-map, list_all_at}
use Rattle.msi_base.specs.Lists.{numbers_from, tabulated}
use Rattle.msi_base.proofs.ListLemmas.{each_number}
use Rattle.msi_pool.specs.Pool.{Place, Pool}
use Rattle.msi_pool.specs.FirstFit.{count_of}
use Rattle.msi_pool.specs.FirstFitLaws.{count_at}
use Rattle.msi_table_values.specs.Columns.{ColumnDef}
use Rattle.msi_table.specs.Census.{CensusDef, IsCensus, most_counted, times_named}
use Rattle.msi_table.specs.Tables.{TableDef}
use Rattle.msi_table.proofs.CensusLemmas.{all_counted, counted_past, few, fits_by}
use Rattle.msi_table.proofs.PlacesLemmas.{tabulated_more}
use Rattle.msi_table_cells.specs.TableCells.{TableCells}
use Rattle.msi_database_schema.specs.System.{validation_columns, validation_name}
use Rattle.msi_database_changes.specs.Database.{Database, are_alike, counts_suffice, is_readable_table, is_sound, names_stay_in_pool, pool_fits_width, tables_are_readable, validation_is_standard}
use Rattle.msi_database_changes.proofs.soundness.SoundLemmas.{numbers_all}
use Rattle.msi_database_storage.specs.Streams.{Streams}
use Rattle.msi_database_storage.specs.Kept.{AreAsLong, database_kept, table_kept, table_kept_at}
use Rattle.msi_database_storage.specs.Naming.{all_suffice, suffices}
use Rattle.msi_database_storage.proofs.NamingLemmas.{long_here}
use Rattle.msi_database_storage.proofs.TableAtLemmas.{table_at_kept}

true_behind : (a b : Bool) → a ≡ true → b ≡ true → (a && (b && true)) ≡ true
true_behind a b e h = rw (e, h) refl

-- COUNTS

pub counted_at : (places : List Place) (i : ℕ) → count_at places (i + 1) ≡ count_of (slice_get places i)
counted_at places i = let e : i + 1 - 1 ≡ i = omega arith in ap (λ k. count_of (slice_get places k)) e

-- the counts of the first places suffice where the census fits, and all are as small as it counts
pub record CountsSoFar (places : List Place) (census : CensusDef) (i : ℕ) : Type 0 where
  pub enough : (numbers : List ℕ) → IsCensus (length places) numbers census → census.fits ≡ true → list_all (λ enough. enough) (tabulated i (suffices places numbers)) ≡ true
  pub small : (j : ℕ) → j < i → count_of (slice_get places j) ≤ most_counted

-- one count more suffices
enough_more : (places : List Place) (census : CensusDef) (i counted count : ℕ) → i < length places → counted ≡ slice_index census.counts i → count ≡ count_of (slice_get places i) → counted ≤ count
    → ((numbers : List ℕ) → IsCensus (length places) numbers census → census.fits ≡ true → list_all (λ enough. enough) (tabulated i (suffices places numbers)) ≡ true)
    → (numbers : List ℕ) → IsCensus (length places) numbers census → census.fits ≡ true → list_all (λ enough. enough) (tabulated (i + 1) (suffices places numbers)) ≡ true
enough_more places census i counted count h seen is enough so_far numbers c fit =
    let here : suffices places numbers i ≡ true = le-leb (times_named numbers i) (count_of (slice_get places i)) (omega (arith, enough, seen, is, all_counted (length places) numbers census c fit i h)) in
    ap (list_all (λ enough. enough)) (tabulated_more i (suffices places numbers))
    ∙ list_all-append (λ enough. enough) (tabulated i (suffices places numbers)) (suffices places numbers i ∷ [])
    ∙ true_behind (list_all (λ enough. enough) (tabulated i (suffices places numbers))) (suffices places numbers i) (so_far numbers c fit) here

pub count_suffices : (places : List Place) (census : CensusDef) (i counted count : ℕ) → i < length places → counted ≡ slice_index census.counts i → count ≡ count_of (slice_get places i) → count < 65536 → counted ≤ count
    → CountsSoFar places census i → CountsSoFar places census (i + 1)
count_suffices places census i counted count h seen is small enough so_far = record {
  enough = enough_more places census i counted count h seen is enough so_far.enough;
  small = λ j within. ⊎_elim
      (λ (same : j ≡ i). subst (λ k. count_of (slice_get places k) ≤ most_counted) (sym same) (omega (arith, is, small)))
      (λ (other : j ≢ i). so_far.small j (omega (arith, within, other)))
      (cases_eq j i);
}

all_here : (places : List Place) (numbers : List ℕ) (i : ℕ) → i < length places → list_all (λ enough. enough) (tabulated (length places) (suffices places numbers)) ≡ true → suffices places numbers i ≡ true
all_here places numbers i h all = each_number (suffices places numbers) 0 (length places) (sym (list_all-map (λ enough. enough) (suffices places numbers) (numbers_from 0 (length places))) ∙ all) i (omega arith) (omega (arith, h))

-- and one that doesn't decides
pub count_lacks : (places : List Place) (census : CensusDef) (i counted count : ℕ) → i < length places → counted ≡ slice_index census.counts i → count ≡ count_of (slice_get places i) → count < counted
    → (numbers : List ℕ) → IsCensus (length places) numbers census → false ≡ list_all (λ enough. enough) (tabulated (length places) (suffices places numbers))
count_lacks places census i counted count h seen is lacks numbers c =
    sym (false_from_ne_true (list_all (λ enough. enough) (tabulated (length places) (suffices places numbers)))
    (λ all. true≢false (sym (all_here places numbers i h all) ∙ short (times_named numbers i) (count_of (slice_get places i))
    (subst (λ most. most < times_named numbers i) is (counted_past (times_named numbers i) count (omega (arith, lacks, seen, c.counts i h)))))))
  where
    short : (n most : ℕ) → most < n → nat_le n most ≡ false
    short n most h = grind (arith, nat_tests)

-- at the end it is left whether the census fits: where it doesn't, no count is as large as the number of some place's cells
pub all_counts : (places : List Place) (census : CensusDef) (i : ℕ) (fits : Bool) → i ≡ length places → fits ≡ census.fits → CountsSoFar places census i
    → (numbers : List ℕ) → IsCensus (length places) numbers census → fits ≡ all_suffice places numbers
all_counts places census i fits done is so_far numbers c = either fits is where
  few_here : all_suffice places numbers ≡ true → (j : ℕ) → 0 ≤ j → j < 0 + length places → few numbers j ≡ true
  few_here all j low high =
      let within : j < length places = omega (arith, high) in
      le-leb (times_named numbers j) most_counted
      (omega (arith, leb-true (times_named numbers j) (count_of (slice_get places j)) (all_here places numbers j within all), so_far.small j (omega (arith, done, within))))

  either : (b : Bool) → b ≡ census.fits → b ≡ all_suffice places numbers
  either true fit = sym (subst (λ n. list_all (λ enough. enough) (tabulated n (suffices places numbers)) ≡ true) done (so_far.enough numbers c (sym fit)))
  either false unfit = sym (false_from_ne_true (all_suffice places numbers)
      (λ all. true≢false (sym (c.fits ∙ fits_by (length places) numbers ∙ numbers_all (few numbers) (length places) 0 (few_here all)) ∙ sym unfit)))

-- TABLES

-- one table more is sound
pub table_sound : (streams : Streams) (ts : List TableDef) (i : ℕ) (t : TableDef) (b : Bool) → i < length ts → t ≡ get_or ts i t → b ≡ is_readable_table (table_kept streams t.long t) → b ≡ true
    → ((long : Bool) → AreAsLong long ts → list_all is_readable_table (map (table_kept streams long) (take i ts)) ≡ true)
    → (long : Bool) → AreAsLong long ts → list_all is_readable_table (map (table_kept streams long) (take (i + 1) ts)) ≡ true
table_sound streams ts i t b h is now holds so_far long all =
    ap (λ (us : List TableDef). list_all is_readable_table (map (table_kept streams long) us)) (take_more ts i t h)
    ∙ ap (list_all is_readable_table) (map_push (table_kept streams long) (take i ts) (get_or ts i t))
    ∙ list_all-append is_readable_table (map (table_kept streams long) (take i ts)) (table_kept streams long (get_or ts i t) ∷ [])
    ∙ true_behind (list_all is_readable_table (map (table_kept streams long) (take i ts))) (is_readable_table (table_kept streams long (get_or ts i t))) (so_far long all)
    (ap (λ (u : TableDef). is_readable_table (table_kept streams long u)) (sym is) ∙ ap (λ wide. is_readable_table (table_kept streams wide t)) (sym (long_here long ts i t h is all)) ∙ sym now ∙ holds)

-- and one that isn't decides
pub table_unsound : (streams : Streams) (ts : List TableDef) (i : ℕ) (t : TableDef) (b : Bool) → i < length ts → t ≡ get_or ts i t → b ≡ is_readable_table (table_kept streams t.long t) → b ≡ false
    → (long : Bool) → AreAsLong long ts → false ≡ list_all is_readable_table (map (table_kept streams long) ts)
table_unsound streams ts i t b h is now fails long all =
    sym (list_all-map is_readable_table (table_kept streams long) ts
    ∙ list_all_at (λ u. is_readable_table (table_kept streams long u)) ts i t h
    (ap (λ (u : TableDef). is_readable_table (table_kept streams long u)) (sym is) ∙ ap (λ wide. is_readable_table (table_kept streams wide t)) (sym (long_here long ts i t h is all)) ∙ sym now ∙ fails))

pub tables_sound : (streams : Streams) (ts : List TableDef) (i : ℕ) → i ≡ length ts
    → ((long : Bool) → AreAsLong long ts → list_all is_readable_table (map (table_kept streams long) (take i ts)) ≡ true)
    → (long : Bool) → AreAsLong long ts → true ≡ list_all is_readable_table (map (table_kept streams long) ts)
tables_sound streams ts i done so_far long all =
    sym (ap (λ (us : List TableDef). list_all is_readable_table (map (table_kept streams long) us)) (sym (ap (λ n. take n ts) done ∙ take-length ts)) ∙ so_far long all)

-- COLUMNS

-- columns of another number aren't alike
pub unlike_lengths : (cs ds : List ColumnDef) → length cs ≢ length ds → false ≡ are_alike cs ds
unlike_lengths [] [] h = absurd (h refl)
unlike_lengths [] (d ∷ ds) h = refl
unlike_lengths (c ∷ cs) [] h = refl
unlike_lengths (c ∷ cs) (d ∷ ds) h = no_more _ _ (unlike_lengths cs ds (λ e. h (ap suc e))) where
  no_more : (a b : Bool) → false ≡ b → false ≡ (a && b)
  no_more true b e = e
  no_more false b e = refl

-- the standard columns of `_Validation`, in the database
pub standard_kept : (pool : Pool) (tables : List TableDef) (streams : Streams) (standard : List ColumnDef) → standard ≡ validation_columns
    → options.option_map_or (λ t. are_alike t.columns standard) (table_kept_at validation_name tables) true ≡ validation_is_standard (database_kept pool tables streams)
standard_kept pool tables streams standard e =
    ap (λ standard. options.option_map_or (λ (t : TableDef). are_alike t.columns standard) (table_kept_at validation_name tables) true) e
    ∙ mapped (table_kept_at validation_name tables)
    ∙ ap (λ (o : Option TableCells). options.option_map_or (λ t. are_alike t.columns validation_columns) o true) (sym (table_at_kept pool tables streams validation_name))
  where
    mapped : (o : Option TableDef) → options.option_map_or (λ t. are_alike t.columns validation_columns) o true
        ≡ options.option_map_or (λ (t : TableCells). are_alike t.columns validation_columns) (option_map (λ t. (table_kept streams pool.long t).1) o) true
    mapped None = refl
    mapped (Some t) = refl

-- THE FIVE TESTS IN TURN

module _ (d : Database) (a b c t v : Bool) (enough : a ≡ counts_suffice d) (inside : b ≡ names_stay_in_pool d) (fits : c ≡ pool_fits_width d) (readable : t ≡ tables_are_readable d) (standard : v ≡ validation_is_standard d) where
  sound_is : (a && b && c && t && v) ≡ is_sound d
  sound_is = λ i. enough i && inside i && fits i && readable i && standard i

  pub first_fails : a ≡ false → false ≡ is_sound d
  first_fails h = (let e : false ≡ (a && b && c && t && v) = rw h refl in e) ∙ sound_is

  pub second_fails : a ≡ true → b ≡ false → false ≡ is_sound d
  second_fails x h = (let e : false ≡ (a && b && c && t && v) = rw (x, h) refl in e) ∙ sound_is

  pub third_fails : a ≡ true → b ≡ true → c ≡ false → false ≡ is_sound d
  third_fails x y h = (let e : false ≡ (a && b && c && t && v) = rw (x, y, h) refl in e) ∙ sound_is

  pub fourth_fails : a ≡ true → b ≡ true → c ≡ true → t ≡ false → false ≡ is_sound d
  fourth_fails x y z h = (let e : false ≡ (a && b && c && t && v) = rw (x, y, z, h) refl in e) ∙ sound_is

  pub fifth_decides : a ≡ true → b ≡ true → c ≡ true → t ≡ true → v ≡ is_sound d
  fifth_decides x y z w = (let e : v ≡ (a && b && c && t && v) = rw (x, y, z, w) refl in e) ∙ sound_is
