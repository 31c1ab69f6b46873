-- Rows that are read of bytes have the same values by two pools that agree on the texts that the rows name.
use Rattle.std.proofs.Common.{◌≡◌, ℕ, zero, suc, ◌+◌, ◌-◌, ◌<◌, ◌^◌, Bool, true, false, not, ◌&&◌, ◌==◌, nat_le, List, [], ◌∷◌, map, Option, Some, None, unwrap_or, slice_get, refl, ap, ◌∙◌, arith}
use Rattle.std.specs.Prelude.{ℤ, pos, ◌-ℤ◌, IfSome, option_map, if◌then◌else◌}
use Rattle.std.specs.Option.{option_map_or}
use Rattle.std.specs.List.{AllByRecursion, enumerate_from, filter_map, list_any}
use Rattle.std.proofs.lemmas.Bool.{eq-eqb, eqb-false, or_left, or_right}
use Rattle.std.proofs.lemmas.List.Folds.{list_any-append}
use Rattle.msi_base.specs.Lists.{numbers_below, tabulated}
use Rattle.msi_base.proofs.ListLemmas.{all_mapped}
use Rattle.msi_pool.specs.FirstFitLaws.{text_at}
use Rattle.msi_pool.specs.Pool.{Place, forgotten, with_named_texts}
use Rattle.msi_pool.specs.References.{number_of}
use Rattle.msi_query.specs.Rows.{rows_values}
use Rattle.msi_table.specs.CellValues.{row_values}
use Rattle.msi_table.specs.Cells.{cell_in, row_count, row_in, rows_in}
use Rattle.msi_table.specs.Census.{number_of_cell, numbers_of_rows}
use Rattle.msi_table.specs.ColumnType.{ColumnType}
use Rattle.msi_table.specs.ColumnType.TheVariants as coltype
use Rattle.msi_table.specs.Value.TheVariants as value
use Rattle.msi_table.specs.ValueRef.{ValueRef}
use Rattle.msi_table.specs.ValueRef.TheVariants as cell

-- A PLACE THAT IS NAMED KEEPS ITS TEXT WHERE A POOL IS SHOWN

kept_text : (p : Place) (free named : Bool) → named ≡ true → (if free && not named then [] else p.text) ≡ p.text
kept_text p true named e = rw e
kept_text p false named e = refl

text_kept : (named : ℕ → Bool) (k i : ℕ) (places : List Place) → named (k + i) ≡ true
    → option_map_or (λ p. p.text) (slice_get (map (λ e. forgotten (named e.0) e.1) (enumerate_from k places)) i) [] ≡ option_map_or (λ p. p.text) (slice_get places i) []
text_kept named k i [] h = refl
text_kept named k zero (p ∷ ps) h = kept_text p (p.count == 0) (named k) (ap named (omega arith) ∙ h)
text_kept named k (suc i) (p ∷ ps) h = text_kept named (k + 1) i ps (ap named (omega arith) ∙ h)

pub text_shown : (named : ℕ → Bool) (places : List Place) (number : ℕ) → 0 < number → named number ≡ true → text_at (with_named_texts named places) number ≡ text_at places number
text_shown named places number some h = text_kept named 1 (number - 1) places (ap named (omega arith) ∙ h)

-- A CELL THAT IS READ NAMES NO PLACE, OR ONE OF A NUMBER ABOVE 0

abbrev IsAbove : ValueRef → Type 0
IsAbove (cell.Str number) = 0 < number
IsAbove _ = Unit {0}

abbrev pub AreAbove : List (List ValueRef) → Type 0
AreAbove rows = AllByRecursion (AllByRecursion IsAbove) rows

number_above : (b : Bool) (z : ℤ) → IsAbove (if b then cell.Null else cell.Int z)
number_above true z = tt
number_above false z = tt

text_above : (n : ℕ) (b : Bool) → (n == 0) ≡ b → IsAbove (if b then cell.Null else cell.Str n)
text_above n true e = tt
text_above n false e = let some = eqb-false n 0 e in omega (arith, some)

cell_above : (t : ColumnType) (bytes : List ℕ) → IsAbove (cell_in t bytes)
cell_above coltype.Int16 bytes = number_above (number_of bytes == 0) (pos (number_of bytes) -ℤ pos (2 ^ 15))
cell_above coltype.Int32 bytes = number_above (number_of bytes == 0) (pos (number_of bytes) -ℤ pos (2 ^ 31))
cell_above (coltype.Str n) bytes = text_above (number_of bytes) (number_of bytes == 0) refl
cell_above coltype.Binary bytes = tt

option_above : (f : ColumnType → ValueRef) → ((t : ColumnType) → IsAbove (f t)) → (o : Option ColumnType) → IsAbove (option_map_or f o cell.Null)
option_above f h None = tt
option_above f h (Some t) = h t

row_above : (long : Bool) (types : List ColumnType) (bytes : List ℕ) (i : ℕ) → AllByRecursion IsAbove (row_in long types bytes i)
row_above long types bytes i = all_mapped IsAbove _ (λ j. option_above _ (λ t. cell_above t _) (slice_get types j)) _

pub rows_above : (long : Bool) (types : List ColumnType) (bytes : List ℕ) → IfSome (rows_in long types bytes) AreAbove
rows_above long types bytes = elim (nat_le (row_count long types bytes) 65536) as (λ b. IfSome (if b then Some (tabulated (row_count long types bytes) (row_in long types bytes)) else None) AreAbove) [
  | true ↦ all_mapped (AllByRecursion IsAbove) (row_in long types bytes) (row_above long types bytes) (numbers_below (row_count long types bytes))
  | false ↦ tt
]

-- THE VALUES OF SUCH ROWS

abbrev names : List ℕ → ℕ → Type 0
names numbers n = list_any (λ m. m == n) numbers ≡ true

module _ (a b : List Place) where
  -- the texts of these numbers are the same
  abbrev pub HaveSameTexts : List ℕ → Type 0
  HaveSameTexts numbers = (n : ℕ) → names numbers n → 0 < n → text_at a n ≡ text_at b n

  row_alike : (row : List ValueRef) → AllByRecursion IsAbove row → HaveSameTexts (filter_map number_of_cell row) → row_values a row ≡ row_values b row
  row_alike [] above h = refl
  row_alike (cell.Null ∷ cs) above h = λ i. value.Null ∷ row_alike cs above.1 h i
  row_alike (cell.Int n ∷ cs) above h = λ i. value.Int n ∷ row_alike cs above.1 h i
  row_alike (cell.Str n ∷ cs) above h = λ i. value.Str (h n (or_left _ _ (eq-eqb n n refl)) above.0 i) ∷ row_alike cs above.1 (λ m later. h m (or_right _ _ later)) i
  row_alike (cell.Binary ∷ cs) above h = λ i. value.Binary ∷ row_alike cs above.1 h i

  rows_alike : (rows : List (List ValueRef)) → AreAbove rows → HaveSameTexts (numbers_of_rows rows) → rows_values a rows ≡ rows_values b rows
  rows_alike [] above h = refl
  rows_alike (row ∷ rows) above h =
      let split = λ (n : ℕ). list_any-append (λ m. m == n) (filter_map number_of_cell row) (numbers_of_rows rows) in
      λ i. row_alike row above.0 (λ n here. h n (split n ∙ or_left _ _ here)) i ∷ rows_alike rows above.1 (λ n later. h n (split n ∙ or_right _ _ later)) i

  pub held_alike : (o : Option (List (List ValueRef))) → IfSome o AreAbove → HaveSameTexts (numbers_of_rows (unwrap_or o [])) → option_map (rows_values a) o ≡ option_map (rows_values b) o
  held_alike None above h = refl
  held_alike (Some rows) above h = ap Some (rows_alike rows above h)
