-- A database after a table's rows were stored anew.
use Rattle.std.proofs.Common.{◌≡◌, ℕ, ◌+◌, ◌≤◌, Bool, true, false, T, cond, ◌&&◌, List, [], ◌∷◌, length, Option, Some, None, is_some, nat_le, refl, sym, ap, ◌∙◌, subst, arith, ⊎_elim, ◌==◌, Ordering, Less, Equal, Greater}
use Rattle.std.specs.List.{list_all}
use Rattle.std.specs.Option as options
use Rattle.std.specs.Ordering.{is_eq, eq_by_cmp}
use Rattle.std.specs.Cmp.{IsTotalOrder}
use Rattle.std.specs.Cmp.Lexicographic.{nat_list_cmp_total}
use Rattle.std.specs.FinMap.{find, put, is_sorted}
use Rattle.std.specs.FinMap.Entries.{length-put, is_sorted-put, find-put, find_tied}
use Rattle.std.proofs.lemmas.Bool.{cases_Bool, and_parts, and_from}
use Rattle.std.proofs.lemmas.Bool.Decides.{nat_tests}
use Rattle.std.proofs.lemmas.Option.{none-some, same_Some}
use Rattle.msi_pool.specs.Pool.{Place}
use Rattle.msi_pool.specs.FirstFit.{most_places}
use Rattle.msi_base.specs.Lists.{list_cmp}
use Rattle.msi_base.proofs.BoolLemmas.{T_second}
use Rattle.msi_table_cells.specs.declared.cell.ValueRef.{ValueRef}
use Rattle.msi_table_values.specs.Columns.{ColumnDef}
use Rattle.msi_database_schema.specs.Keys.{is_table_name}
use Rattle.msi_database_schema.specs.System.{validation_name, validation_columns}
use Rattle.msi_database_changes.specs.Database.{Database, table_at, with_table, with_places, rows_of, are_alike, CountsAreExact, counts_suffice, names_stay_in_pool, pool_fits_width, tables_are_readable, validation_is_standard, is_sound}
use Rattle.msi_table_cells.specs.TableCells.{TableCells}
use Rattle.msi_database_schema.proofs.AccountLemmas.{Uses, Enough, Moved}
use Rattle.msi_database_changes.proofs.text_counts.RowsLemmas.{rows_uses}
use Rattle.msi_database_changes.proofs.text_counts.TablesLemmas.{table_uses, tables_uses, database_uses, total-put}
use Rattle.msi_database_changes.proofs.soundness.SoundLemmas.{names_are_numbers, enough_from_sound, sound_from_enough, exact_from, exact_to}

-- a row has a cell for each column
abbrev pub rows_are_full : List ColumnDef → List (List ValueRef) → Bool
rows_are_full columns rows = list_all (λ row. length row == length columns) rows

abbrev pub table_is_full : List ℕ × TableCells → Bool
table_is_full e = rows_are_full e.1.columns (rows_of e.1)

-- what `is_sound` leaves out: 0 names no place, tables stand in the order of their names, and each row has a cell for each column
pub record WellFormed (d : Database) : Type 0 where
  pub numbers : names_are_numbers d ≡ true
  pub in_order : T (is_sorted list_cmp d.tables)
  pub full : list_all table_is_full d.tables ≡ true

pub record SoundParts (d : Database) : Type 0 where
  pub suffice : counts_suffice d ≡ true
  pub in_pool : names_stay_in_pool d ≡ true
  pub width : pool_fits_width d ≡ true
  pub readable : tables_are_readable d ≡ true
  pub standard : validation_is_standard d ≡ true

five : (a b c d e : Bool) → (a && b && c && d && e) ≡ true → (a ≡ true) × (b ≡ true) × (c ≡ true) × (d ≡ true) × (e ≡ true)
five true true true true e h = (refl, refl, refl, refl, h)
five true true true false e h = cc
five true true false d e h = cc
five true false c d e h = cc
five false b c d e h = cc

pub sound_parts : (d : Database) → is_sound d ≡ true → SoundParts d
sound_parts d h =
    let p = five (counts_suffice d) (names_stay_in_pool d) (pool_fits_width d) (tables_are_readable d) (validation_is_standard d) h in
    record { suffice = p.0; in_pool = p.1; width = p.2; readable = p.3; standard = p.4 }

pub sound_whole : (d : Database) → SoundParts d → is_sound d ≡ true
sound_whole d p = rw (p.suffice, p.in_pool, p.width, p.readable, p.standard)

from_test : (m n : ℕ) → nat_le m n ≡ true → m ≤ n
from_test m n h = grind (arith, nat_tests)

to_test : (m n : ℕ) → m ≤ n → nat_le m n ≡ true
to_test m n h = grind (arith, nat_tests)

pub width_on : (m n most : ℕ) → (m ≤ most → n ≤ most) → nat_le m most ≡ true → nat_le n most ≡ true
width_on m n most on h = to_test n most (on (from_test m most h))

-- a test of the entries, after a value was put over another
module _ {K X : Type 0} (R : K → K → Ordering) (o : IsTotalOrder R) (p : K × X → Bool) (k : K) (v w : X) (passes : (key : K) → p (key, v) ≡ true → p (key, w) ≡ true) where
  all_put_over : (x : K × X) (es : List (K × X)) (r : Ordering) → R k x.0 ≡ r → T (is_sorted R (x ∷ es)) → find R k (x ∷ es) ≡ Some v → list_all p (x ∷ es) ≡ true
      → (T (is_sorted R es) → find R k es ≡ Some v → list_all p es ≡ true → list_all p (put R k w es) ≡ true)
      → list_all p (put R k w (x ∷ es)) ≡ true
  all_put_over x es Less is sorted found all next =
      let there = rw is at found in
      absurd (omega (arith, rw (is, there) at (length-put R o k w (x ∷ es) sorted)))
  all_put_over x es Equal is sorted found all next =
      let parts = and_parts (p x) (list_all p es) all in
      rw is (and_from (p (x.0, w)) (list_all p es) (passes x.0 (subst (λ u. p (x.0, u) ≡ true) (same_Some x.1 v (rw is at found)) parts.0)) parts.1)
  all_put_over x es Greater is sorted found all next =
      let parts = and_parts (p x) (list_all p es) all in
      rw is (and_from (p x) (list_all p (put R k w es)) parts.0 (next (T_second _ _ sorted) (rw is at found) parts.1))

  pub all-put : (es : List (K × X)) → T (is_sorted R es) → find R k es ≡ Some v → list_all p es ≡ true → list_all p (put R k w es) ≡ true
  all-put [] sorted found all = absurd (none-some v found)
  all-put (x ∷ es) sorted found all = all_put_over x es (R k x.0) refl sorted found all (all-put es)

pub found_passes : {X : Type 0} (p : List ℕ × X → Bool) (q : X → Bool) → ((k : List ℕ) (v : X) → p (k, v) ≡ true → q v ≡ true) → (k : List ℕ) (v : X) (es : List (List ℕ × X)) → list_all p es ≡ true → find list_cmp k es ≡ Some v → q v ≡ true
found_passes p q each k v [] all e = absurd (none-some v e)
found_passes p q each k v (x ∷ es) all e =
    let parts = and_parts (p x) (list_all p es) all in
    ⊎_elim
    (λ t. subst (λ w. q w ≡ true) (same_Some x.1 v (rw t at e)) (each x.0 x.1 parts.0))
    (λ t. found_passes p q each k v es parts.1 (rw t at e))
    (cases_Bool (is_eq (list_cmp k x.0)))

-- the rows of a table of a well-formed database are full
pub rows_full : (d : Database) (name : List ℕ) (t : TableCells) → WellFormed d → table_at name d ≡ Some t → rows_are_full t.columns (rows_of t) ≡ true
rows_full d name t well found = found_passes table_is_full (λ t. rows_are_full t.columns (rows_of t)) (λ k v h. h) name t d.tables well.full found

-- the table with other rows, beside other places
abbrev pub with_rows : TableCells → List (List ValueRef) → TableCells
with_rows t rows = record { columns = t.columns; rows = Some rows }

abbrev pub stored_in : Database → List ℕ → TableCells → List (List ValueRef) → List Place → Database
stored_in d name t rows places = with_places places (with_table name (with_rows t rows) d)

-- what all but a table's cells name
abbrev pub others : Database → List ℕ → TableCells → Uses
others d name t = database_uses (with_table name (with_rows t []) d)

module _ (d : Database) (name : List ℕ) (t : TableCells) (found : table_at name d ≡ Some t) (in_order : T (is_sorted list_cmp d.tables)) where
  put_uses : (rows : List (List ValueRef)) (n : ℕ) → tables_uses (put list_cmp name (with_rows t rows) d.tables) n + table_uses t n ≡ tables_uses d.tables n + rows_uses rows n
  put_uses rows n = total-put list_cmp nat_list_cmp_total table_uses name t (with_rows t rows) d.tables n in_order found

  pub uses_before : (n : ℕ) → database_uses d n ≡ others d name t n + table_uses t n
  uses_before n = omega (arith, put_uses [] n)

  pub uses_after : (rows : List (List ValueRef)) (places : List Place) (n : ℕ) → database_uses (stored_in d name t rows places) n ≡ others d name t n + rows_uses rows n
  uses_after rows places n = omega (arith, put_uses [] n, put_uses rows n)

  -- the table of the name is the one that was stored, and the others are as they were
  pub found_after : (rows : List (List ValueRef)) (places : List Place) (other : List ℕ) → table_at other (stored_in d name t rows places) ≡ cond (eq_by_cmp list_cmp other name) (Some (with_rows t rows)) (table_at other d)
  found_after rows places other = find-put list_cmp nat_list_cmp_total other name (with_rows t rows) d.tables

  pub same_key_found : (other : List ℕ) → eq_by_cmp list_cmp other name ≡ true → table_at other d ≡ Some t
  same_key_found other h = sym (find_tied list_cmp nat_list_cmp_total other name (ties (list_cmp other name) h) d.tables) ∙ found where
    ties : (r : Ordering) → is_eq r ≡ true → r ≡ Equal
    ties Less e = cc
    ties Equal e = refl
    ties Greater e = cc

  -- a table that was missing still is
  pub still_missing : (rows : List (List ValueRef)) (places : List Place) (other : List ℕ) → table_at other d ≡ None → table_at other (stored_in d name t rows places) ≡ None
  still_missing rows places other missing = ⊎_elim
      (λ (same : eq_by_cmp list_cmp other name ≡ true). absurd (none-some t (sym missing ∙ same_key_found other same)))
      (λ (apart : eq_by_cmp list_cmp other name ≡ false). found_after rows places other ∙ ap (λ e. cond e (Some (with_rows t rows)) (table_at other d)) apart ∙ missing)
      (cases_Bool (eq_by_cmp list_cmp other name))

  abbrev standard_at : Option TableCells → Bool
  standard_at o = options.option_map_or (λ t. are_alike t.columns validation_columns) o true

  still_standard : (rows : List (List ValueRef)) (places : List Place) → validation_is_standard d ≡ true → validation_is_standard (stored_in d name t rows places) ≡ true
  still_standard rows places h = ap standard_at (found_after rows places validation_name) ∙ ⊎_elim
      (λ same. rw same (ap standard_at (sym (same_key_found validation_name same)) ∙ h))
      (λ other. rw other h)
      (cases_Bool (eq_by_cmp list_cmp validation_name name))

  still_readable : (rows : List (List ValueRef)) (places : List Place) → tables_are_readable d ≡ true → tables_are_readable (stored_in d name t rows places) ≡ true
  still_readable rows places h = all-put list_cmp nat_list_cmp_total (λ t. is_some t.1.rows && is_table_name t.0) name t (with_rows t rows)
      (λ key k. (and_parts (is_some t.rows) (is_table_name key) k).1) d.tables in_order found h

  still_full : (rows : List (List ValueRef)) (places : List Place) → rows_are_full t.columns rows ≡ true → list_all table_is_full d.tables ≡ true → list_all table_is_full (stored_in d name t rows places).tables ≡ true
  still_full rows places full h = all-put list_cmp nat_list_cmp_total table_is_full name t (with_rows t rows) (λ key k. full) d.tables in_order found h

  -- the cells of the other tables stayed, and this table's were exchanged
  abbrev pub Exchanged : List (List ValueRef) → List Place → Type 0
  Exchanged rows places = Moved (most_places d.pool.long) (others d name t) (table_uses t) (rows_uses rows) d.pool.places places

  pub enough_before : is_sound d ≡ true → WellFormed d → Enough d.pool.places (database_uses d)
  enough_before sound well = let p = sound_parts d sound in enough_from_sound d p.suffice p.in_pool well.numbers

  enough_after : (rows : List (List ValueRef)) (places : List Place) → is_sound d ≡ true → WellFormed d → Exchanged rows places → Enough places (database_uses (stored_in d name t rows places))
  enough_after rows places sound well moved n = omega (arith, uses_before n, uses_after rows places n, moved.balance n, enough_before sound well n)

  still_fits : (rows : List (List ValueRef)) (places : List Place) → pool_fits_width d ≡ true → Exchanged rows places → pool_fits_width (stored_in d name t rows places) ≡ true
  still_fits rows places h moved = width_on (length d.pool.places) (length places) (most_places d.pool.long) moved.width h

  -- so a sound database stays sound and well formed, and exact counts stay exact
  pub stored_sound : (rows : List (List ValueRef)) (places : List Place) → is_sound d ≡ true → WellFormed d → Exchanged rows places → is_sound (stored_in d name t rows places) ≡ true
  stored_sound rows places sound well moved =
      let p = sound_parts d sound in
      let counts = sound_from_enough (stored_in d name t rows places) (enough_after rows places sound well moved) in
      sound_whole (stored_in d name t rows places) (record {
        suffice = counts.suffice;
        in_pool = counts.in_pool;
        width = still_fits rows places p.width moved;
        readable = still_readable rows places p.readable;
        standard = still_standard rows places p.standard;
      })

  pub stored_well : (rows : List (List ValueRef)) (places : List Place) → is_sound d ≡ true → WellFormed d → Exchanged rows places → rows_are_full t.columns rows ≡ true → WellFormed (stored_in d name t rows places)
  stored_well rows places sound well moved full = record {
    numbers = (sound_from_enough (stored_in d name t rows places) (enough_after rows places sound well moved)).numbers;
    in_order = is_sorted-put list_cmp nat_list_cmp_total name (with_rows t rows) d.tables in_order;
    full = still_full rows places full well.full;
  }

  pub stored_exact : (rows : List (List ValueRef)) (places : List Place) → is_sound d ≡ true → WellFormed d → Exchanged rows places → CountsAreExact d → CountsAreExact (stored_in d name t rows places)
  stored_exact rows places sound well moved exact = exact_to (stored_in d name t rows places)
      (λ n. omega (arith, exact_from d (enough_before sound well) exact n, uses_before n, uses_after rows places n, moved.balance n))
