-- What is opened is kept: a pool and tables that are read of streams.
use Rattle.std.proofs.Common.{◌≡◌, ℕ, zero, suc, ◌+◌, ◌<◌, ◌≤◌, Bool, true, false, cond, not, ◌&&◌, ◌||◌, ◌==◌, nat_le, List, [], ◌∷◌, map, filter, length, count_by, slice_get, Option, Some, None, refl, sym, ap, subst, ◌∙◌, arith}
use Rattle.std.specs.Prelude.{if◌then◌else◌, IfSome, T, unwrap_or, is_some}
use Rattle.std.specs.List.{list_any, list_all, AllByRecursion, enumerate_from}
use Rattle.std.specs.FinMap.{is_sorted}
use Rattle.std.proofs.lemmas.Bool.{and_parts, leb-true, eqb-false, true≢false}
use Rattle.std.proofs.lemmas.List.Sums.{length-filter}
use Rattle.msi_container_format.specs.Names.{name_cmp}
use Rattle.msi_base.specs.Lists.{numbers_from}
use Rattle.msi_pool.specs.FirstFit.{count_of}
use Rattle.msi_pool.specs.Pool.{Pool, Place, CountsFit, PlacesWritten, forgotten, with_named_texts}
use Rattle.msi_table_cells.specs.declared.cell.ValueRef.{ValueRef}
use Rattle.msi_table.specs.Tables.{TableDef}
use Rattle.msi_table_values.specs.Columns.{types_of}
use Rattle.msi_table_cells.specs.Fitting.{FitsRow, FitsTable}
use Rattle.msi_database_schema.specs.System.{validation_columns, validation_name}
use Rattle.msi_database_changes.specs.Database.{Database, is_sound, named_numbers, cells_naming}
use Rattle.msi_database_storage.specs.Streams.{Streams, stored_rows}
use Rattle.msi_database_storage.specs.StreamNames.{HaveShortNames}
use Rattle.msi_database_storage.specs.Kept.{database_kept, table_kept, table_kept_at, schema_listed, AreAsLong}
use Rattle.msi_database_storage.specs.Agreement.{DatabaseIs, schema_in, is_shown}
use Rattle.msi_database.specs.Keeping.{AreKept, HasFittingRows}
use Rattle.msi_database.proofs.soundness.SoundLemmas.{sound_is}
use Rattle.msi_database.proofs.soundness.NamedPlacesLemmas.{shown_named}
use Rattle.msi_database.proofs.keeping.KeptPartsLemmas.{parts_spelled}

-- FREE PLACES

pub none_by : (b : Bool) (x : ℕ) (others : List ℕ) (rest : Bool) → length (cond b (x ∷ others) others) ≡ 0 → (length others ≡ 0 → rest ≡ false) → (b || rest) ≡ false
none_by true x others rest e later = absurd (omega (arith, e))
none_by false x others rest e later = later e

pub none_filtered : (p : ℕ → Bool) (xs : List ℕ) → length (filter p xs) ≡ 0 → list_any p xs ≡ false
none_filtered p [] e = refl
none_filtered p (x ∷ xs) e = none_by (p x) x (filter p xs) (list_any p xs) e (none_filtered p xs)

pub none_counted : (p : ℕ → Bool) (xs : List ℕ) → count_by p xs ≡ 0 → list_any p xs ≡ false
none_counted p xs e = none_filtered p xs (length-filter p xs ∙ e)

pub each_tabulated : (f : ℕ → Bool) (k n : ℕ) → list_all (λ enough. enough) (map f (numbers_from k n)) ≡ true → (i : ℕ) → i < n → f (k + i) ≡ true
each_tabulated f k zero h i l = absurd (omega (arith, l))
each_tabulated f k (suc n) h zero l = ap f (omega arith) ∙ (and_parts (f k) _ h).0
each_tabulated f k (suc n) h (suc i) l = ap f (omega arith) ∙ each_tabulated f (k + 1) n (and_parts (f k) _ h).1 i (omega (arith, l))

-- a place whose text was lost where it is free and isn't named
free_text : (p : Place) (free named : Bool) → (p.count == 0) ≡ free → (p.count ≡ 0 → named ≡ false) → p.count ≡ 0 → (if free && not named then [] else p.text) ≡ []
free_text p true false e h zeroed = refl
free_text p true true e h zeroed = absurd (true≢false (h zeroed))
free_text p false named e h zeroed = absurd (eqb-false p.count 0 e zeroed)

each_freed : (named : ℕ → Bool) (k : ℕ) (ps : List Place) → ((i : ℕ) → i < length ps → count_of (slice_get ps i) ≡ 0 → named (k + i) ≡ false)
    → PlacesWritten (map (λ e. forgotten (named e.0) e.1) (enumerate_from k ps))
each_freed named k [] h = tt
each_freed named k (p ∷ ps) h = (
  free_text p (p.count == 0) (named k) refl (λ zeroed. ap named (omega arith) ∙ h 0 (omega arith) zeroed),
  each_freed named (k + 1) ps (λ i l zeroed. ap named (omega arith) ∙ h (suc i) (omega (arith, l)) zeroed),
)

pub forgotten_length : (named : ℕ → Bool) (k : ℕ) (ps : List Place) → length (map (λ e. forgotten (named e.0) e.1) (enumerate_from k ps)) ≡ length ps
forgotten_length named k [] = refl
forgotten_length named k (p ∷ ps) = ap suc (forgotten_length named (k + 1) ps)

forgotten_counts : (named : ℕ → Bool) (k : ℕ) (ps : List Place) → CountsFit ps → CountsFit (map (λ e. forgotten (named e.0) e.1) (enumerate_from k ps))
forgotten_counts named k [] h = tt
forgotten_counts named k (p ∷ ps) h = (h.0, forgotten_counts named (k + 1) ps h.1)

pub forgotten_count_at : (named : ℕ → Bool) (k : ℕ) (ps : List Place) (i : ℕ) → count_of (slice_get (map (λ e. forgotten (named e.0) e.1) (enumerate_from k ps)) i) ≡ count_of (slice_get ps i)
forgotten_count_at named k [] i = refl
forgotten_count_at named k (p ∷ ps) zero = refl
forgotten_count_at named k (p ∷ ps) (suc i) = forgotten_count_at named (k + 1) ps i

-- a free place of a sound database isn't named, so it has no text
pub opened_freed : (streams : Streams) (d : Database) (raw : List Place) → DatabaseIs streams d → d.pool.places ≡ with_named_texts (is_shown streams d) raw → is_sound d ≡ true → PlacesWritten d.pool.places
opened_freed streams d raw spelled is sound =
    let tests = sound_is d sound in
    let many : length d.pool.places ≡ length raw = ap length is ∙ forgotten_length (is_shown streams d) 1 raw in
    subst PlacesWritten (sym is) (each_freed (is_shown streams d) 1 raw (λ i l zeroed.
    let enough : nat_le (cells_naming d (i + 1)) (count_of (slice_get d.pool.places i)) ≡ true =
    ap (λ j. nat_le (cells_naming d (j + 1)) (count_of (slice_get d.pool.places j))) (omega arith)
    ∙ each_tabulated (λ j. nat_le (cells_naming d (j + 1)) (count_of (slice_get d.pool.places j))) 0 (length d.pool.places) tests.suffice i (omega (arith, l, many)) in
    let most : cells_naming d (i + 1) ≤ count_of (slice_get d.pool.places i) = leb-true _ _ enough in
    let free : count_of (slice_get d.pool.places i) ≡ 0 = ap (λ (ps : List Place). count_of (slice_get ps i)) is ∙ forgotten_count_at (is_shown streams d) 1 raw i ∙ zeroed in
    let none : list_any (λ n. n == i + 1) (named_numbers d) ≡ false = none_counted (λ n. n == i + 1) (named_numbers d) (omega (arith, most, free)) in
    ap (is_shown streams d) (omega arith) ∙ shown_named streams d spelled.tables spelled.unlisted tests.standard (i + 1) ∙ none))

-- ROWS THAT ARE READ FIT

-- each table has a column, and the rows of its stream fit where they can be read
abbrev pub HaveFittingRows : Streams → Bool → List TableDef → Type 0
HaveFittingRows streams long tables = AllByRecursion (λ t. IfSome (stored_rows streams long t.columns t.name) (FitsTable long (types_of t.columns))) tables

each_fits : (streams : Streams) (long : Bool) (tables : List TableDef) → HaveFittingRows streams long tables → AllByRecursion (λ t. HasFittingRows long t.1) (map (table_kept streams long) tables)
each_fits streams long [] h = tt
each_fits streams long (t ∷ ts) h = (h.0, each_fits streams long ts h.1)

unlisted_rows : (long : Bool) (b : Bool) (o : Option (List (List ValueRef))) → IfSome o (AllByRecursion (FitsRow long (types_of validation_columns)))
    → AllByRecursion (FitsRow long (types_of validation_columns)) (if b then [] else unwrap_or o [])
unlisted_rows long true o h = tt
unlisted_rows long false None h = tt
unlisted_rows long false (Some rows) h = h

-- THE WHOLE

pub opened : (raw pool : Pool) (tables : List TableDef) (streams : Streams) (is_known_sound : Bool)
    → T (is_sorted name_cmp streams) → HaveShortNames streams → length raw.places ≤ 16777215 → CountsFit raw.places
    → pool.places ≡ with_named_texts (is_shown streams (database_kept pool tables streams)) raw.places
    → AreAsLong pool.long tables → schema_in streams pool ≡ Some (schema_listed tables)
    → HaveFittingRows streams pool.long tables
    → IfSome (stored_rows streams pool.long validation_columns validation_name) (AllByRecursion (FitsRow pool.long (types_of validation_columns)))
    → is_known_sound ≡ is_sound (database_kept pool tables streams)
    → AreKept pool tables streams is_known_sound
opened raw pool tables streams sound in_order names few counts places as_long schema rows validation known =
    let d : Database = database_kept pool tables streams in
    let spelled = parts_spelled pool tables streams schema in record {
      kept = record {
        in_order = in_order;
        names = names;
        spelled = spelled;
        rows = each_fits streams pool.long tables rows;
        unlisted = unlisted_rows pool.long (is_some (table_kept_at validation_name tables)) (stored_rows streams pool.long validation_columns validation_name) validation;
        few = subst (λ (ps : List Place). length ps ≤ 16777215) (sym places) (subst (λ (n : ℕ). n ≤ 16777215) (sym (forgotten_length (is_shown streams d) 1 raw.places)) few);
        counts = subst CountsFit (sym places) (forgotten_counts (is_shown streams d) 1 raw.places counts);
        freed = opened_freed streams d raw.places spelled places;
      };
      as_long = as_long;
      known = known;
    }
