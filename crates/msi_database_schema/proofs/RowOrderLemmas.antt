-- The orders in which rows of the system tables stand: total, and what ties in them.
use Rattle.std.proofs.Common.{◌≡◌, ℕ, zero, suc, ◌+◌, ◌≤◌, Bool, true, false, List, refl, sym, ◌∙◌, arith, Ordering, pos}
use Rattle.std.specs.Prelude.{◌&&◌, bytes_eq}
use Rattle.std.specs.List.Sorted.{IsSorted}
use Rattle.std.specs.Cmp.{IsTotalOrder, int_cmp_total, nat_cmp_total, on_total, then_total}
use Rattle.std.specs.Cmp.Lexicographic.{lists_total}
use Rattle.std.specs.Ordering.{int_cmp, is_eq, ordering_then}
use Rattle.std.specs.declared.cmp.Ordering.TheVariants.{Less, Equal, Greater}
use Rattle.std.proofs.lemmas.Map.Text.{is_eq-slice_cmp}
use Rattle.msi_base.specs.Lists.{list_cmp}
use Rattle.msi_base.proofs.OrderingLemmas.{then_equal}
use Rattle.msi_table_values.specs.declared.value.Value.{Value}
use Rattle.msi_table_values.specs.OrderLaws.{value_cmp-total}
use Rattle.msi_table_values.specs.Values.{value_cmp}
use Rattle.msi_table_cells.proofs.SortedRowsLemmas.{first_not_less}
use Rattle.msi_database_schema.specs.RowOrders.{by_numbers, by_values, number_in, numbers_cmp, pair_cmp, texts_at, texts_cmp, values_cmp}
use Rattle.msi_database_schema.specs.Schema.{has_number, is_about, number_of, share_key, text_at, value_at}

pub pairs_total : {A B : Type 0} (first : A → A → Ordering) (second : B → B → Ordering) → IsTotalOrder first → IsTotalOrder second → IsTotalOrder (pair_cmp first second)
pairs_total first second o p = then_total (on_total (λ q. q.0) o) (on_total (λ q. q.1) p)

pub names_total : IsTotalOrder list_cmp
names_total = lists_total nat_cmp_total

pub about_is : (table : List ℕ) (row : List Value) → is_eq (list_cmp (text_at 0 row) table) ≡ is_about table row
about_is table row = is_eq-slice_cmp (text_at 0 row) table

pub texts_total : IsTotalOrder texts_cmp
texts_total = pairs_total list_cmp list_cmp (lists_total nat_cmp_total) (lists_total nat_cmp_total)

pub numbers_total : IsTotalOrder numbers_cmp
numbers_total = pairs_total list_cmp int_cmp (lists_total nat_cmp_total) int_cmp_total

pub values_total : IsTotalOrder values_cmp
values_total = pairs_total value_cmp value_cmp value_cmp-total value_cmp-total

-- a row stands at a table and a text where it is about the table and has the text
pub at_texts : (place : ℕ) (table text : List ℕ) (row : List Value) → is_eq (texts_cmp (texts_at place row) (table, text)) ≡ (is_about table row && bytes_eq (text_at place row) text)
at_texts place table text row = then_equal (list_cmp (text_at 0 row) table) (list_cmp (text_at place row) text)
    ∙ λ i. is_eq-slice_cmp (text_at 0 row) table i && is_eq-slice_cmp (text_at place row) text i

pub at_number : (table : List ℕ) (number : ℕ) (row : List Value) → is_eq (numbers_cmp (number_in row) (table, pos number)) ≡ (is_about table row && has_number number row)
at_number table number row = then_equal (list_cmp (text_at 0 row) table) (int_cmp (number_of (value_at 1 row)) (pos number))
    ∙ λ i. is_eq-slice_cmp (text_at 0 row) table i && has_number number row

pub tables_ascend : (rows : List (List Value)) → IsSorted by_numbers rows → IsSorted (λ row other. list_cmp (text_at 0 row) (text_at 0 other)) rows
tables_ascend rows sorted k d l h = first_not_less _ _ (sorted k d l h)

-- rows share a key where they tie by their values
three : (a b : Bool) → (a && b) ≡ (a && (b && true))
three true true = refl
three true false = refl
three false b = refl

one_tie : (o : Ordering) → (is_eq o && true) ≡ is_eq (ordering_then o o)
one_tie Less = refl
one_tie Equal = refl
one_tie Greater = refl

pub shared : (place : ℕ) → place ≤ 1 → (row other : List Value) → share_key (place + 1) row other ≡ is_eq (by_values place row other)
shared zero h row other = one_tie (value_cmp (value_at 0 row) (value_at 0 other))
shared (suc zero) h row other = sym (three (is_eq (value_cmp (value_at 0 row) (value_at 0 other))) (is_eq (value_cmp (value_at 1 row) (value_at 1 other))))
    ∙ sym (then_equal (value_cmp (value_at 0 row) (value_at 0 other)) (value_cmp (value_at 1 row) (value_at 1 other)))
shared (suc (suc n)) h row other = absurd (omega arith)
