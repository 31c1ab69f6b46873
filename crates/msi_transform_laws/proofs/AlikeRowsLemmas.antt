-- Rows in hand that have the values of others, with a row more, less or exchanged.
use Rattle.std.proofs.Common.{◌≡◌, ℕ, ◌+◌, Bool, true, false, cond, not, List, [], ◌∷◌, length, refl, sym, ap, subst, ◌∙◌, arith}
use Rattle.std.specs.Prelude.{Option, Some, None, is_some}
use Rattle.std.specs.Cmp.{eq_by_cmp_equiv}
use Rattle.std.specs.FinMap.{find, put}
use Rattle.std.specs.FinMap.Entries.{find-put, find-where_key, is_sorted-put, is_sorted-where_key, length-put, length_without}
use Rattle.std.specs.Ordering.{eq_by_cmp}
use Rattle.msi_base.proofs.BoolLemmas.{by_test, cond_not, yes_is_no}
use Rattle.msi_base.proofs.OptionLemmas.{none_is}
use Rattle.msi_pool.specs.Pool.{Place}
use Rattle.msi_table_values.specs.declared.value.Value.{Value}
use Rattle.msi_database_schema.proofs.AccountLemmas.{Uses}
use Rattle.msi_database_changes.proofs.steps.TurnLemmas.{TextsStay}
use Rattle.msi_database_changes.proofs.text_counts.RowsLemmas.{row_stays, row_uses, rows_uses}
use Rattle.msi_database_storage.specs.Streams.{Streams}
use Rattle.msi_transform_rows.specs.KeyOfRows.{key_cmp}
use Rattle.msi_transform_rows.specs.RowChanges.{Rows, TableChange, cells_of}
use Rattle.msi_transform_rows.specs.declared.row.RowInHand.{RowInHand}
use Rattle.msi_transform_making.specs.Making.{ToldRow, ToldRows}
use Rattle.msi_transform_laws.specs.RowsApplied.{AreAlike, HasValuesOf, HaveValuesOf}
use Rattle.msi_transform_laws.proofs.CarriedOutLemmas.{exact_keys, keys_total, same}
use Rattle.msi_transform_laws.proofs.KeyedEntriesLemmas.{found_within, sum_of, without}

-- the cells of rows, and of all of them but for one
abbrev pub uses_in : ℕ → RowInHand → ℕ
uses_in n row = row_uses row.cells n

pub uses_of_rows : (rows : Rows) (n : ℕ) → rows_uses (cells_of rows) n ≡ sum_of (uses_in n) rows
uses_of_rows [] n = refl
uses_of_rows (e ∷ es) n = ap (λ (m : ℕ). row_uses e.1.cells n + m) (uses_of_rows es n)

abbrev pub uses_without : List Value → Rows → Uses
uses_without key rows n = sum_of (uses_in n) (without key rows)

-- without the row of a key
pub found_without : {X : Type 0} (q key : List Value) (rows : List (List Value × X)) → find key_cmp q (without key rows) ≡ cond (eq_by_cmp key_cmp q key) None (find key_cmp q rows)
found_without q key rows =
    let stays = λ (x : List Value). not (eq_by_cmp key_cmp key x) in
    find-where_key key_cmp stays q (λ x e. ap stays (sym (exact_keys q x e))) rows
    ∙ cond_not (eq_by_cmp key_cmp key q) (find key_cmp q rows) None
    ∙ ap (λ b. cond b None (find key_cmp q rows)) ((eq_by_cmp_equiv keys_total).symm key q)

module _ (streams : Streams) (change : TableChange) where
  later : (before after : List Place) (q : List Value) (o : Option RowInHand) (p : Option ToldRow) → ((row : RowInHand) → o ≡ Some row → TextsStay (row_uses row.cells) before after)
      → AreAlike streams change before q o p → AreAlike streams change after q o p
  later before after q None None stay h = tt
  later before after q None (Some other) stay h = absurd h
  later before after q (Some row) None stay h = absurd h
  later before after q (Some row) (Some other) stay h = record { long = h.long; values = row_stays row.cells before after (stay row refl) ∙ h.values; stream = h.stream }

  pub alike_later : (before after : List Place) (rows : Rows) (valued : ToldRows) → HaveValuesOf streams change before rows valued → TextsStay (rows_uses (cells_of rows)) before after
      → HaveValuesOf streams change after rows valued
  alike_later before after rows valued alike stay = record {
    sorted = alike.sorted;
    sorted_too = alike.sorted_too;
    many = alike.many;
    each = λ q. later before after q (find key_cmp q rows) (find key_cmp q valued)
        (λ row is n u. stay n (omega (arith, u, uses_of_rows rows n, found_within (uses_in n) q row rows is))) (alike.each q);
  }

  pub both_there : (places : List Place) (q : List Value) (o : Option RowInHand) (p : Option ToldRow) → AreAlike streams change places q o p → is_some o ≡ is_some p
  both_there places q None None h = refl
  both_there places q None (Some other) h = absurd h
  both_there places q (Some row) None h = absurd h
  both_there places q (Some row) (Some other) h = refl

  pub there_too : (places : List Place) (q : List Value) (o : Option RowInHand) (p : Option ToldRow) → AreAlike streams change places q o p → is_some p ≡ true
      → (row : RowInHand) × (other : ToldRow) × (o ≡ Some row) × (p ≡ Some other) × HasValuesOf streams change places q row other
  there_too places q None None h s = yes_is_no false s refl
  there_too places q None (Some other) h s = absurd h
  there_too places q (Some row) None h s = absurd h
  there_too places q (Some row) (Some other) h s = (row, other, refl, refl, h)

  pub neither_there : (places : List Place) (q : List Value) (o : Option RowInHand) (p : Option ToldRow) → AreAlike streams change places q o p → p ≡ None → o ≡ None
  neither_there places q None None h s = refl
  neither_there places q None (Some other) h s = absurd h
  neither_there places q (Some row) None h s = absurd h
  neither_there places q (Some row) (Some other) h s = none_is (sym s)

  module _ (before after : List Place) (rows : Rows) (valued : ToldRows) (alike : HaveValuesOf streams change before rows valued) (key : List Value)
      (stay : TextsStay (uses_without key rows) before after) where
    -- the rows of other keys
    others_alike : (q : List Value) → eq_by_cmp key_cmp q key ≡ false → AreAlike streams change after q (find key_cmp q rows) (find key_cmp q valued)
    others_alike q t = later before after q (find key_cmp q rows) (find key_cmp q valued)
        (λ row is n u. stay n (let found : find key_cmp q (without key rows) ≡ Some row = found_without q key rows ∙ ap (λ b. cond b None (find key_cmp q rows)) t ∙ is in
        omega (arith, u, found_within (uses_in n) q row (without key rows) found)))
        (alike.each q)

    put_at : (row : RowInHand) (other : ToldRow) → HasValuesOf streams change after key row other → (q : List Value)
        → AreAlike streams change after q (find key_cmp q (put key_cmp key row rows)) (find key_cmp q (put key_cmp key other valued))
    put_at row other is q =
        let one = find-put key_cmp keys_total q key row rows in
        let two = find-put key_cmp keys_total q key other valued in
        by_test (eq_by_cmp key_cmp q key)
        (λ t. rw (one, two, t) (subst (λ (k : List Value). HasValuesOf streams change after k row other) (sym (same q key t)) is))
        (λ t. rw (one, two, t) (others_alike q t))

    pub alike_put : (row : RowInHand) (other : ToldRow) → HasValuesOf streams change after key row other
        → HaveValuesOf streams change after (put key_cmp key row rows) (put key_cmp key other valued)
    alike_put row other is = record {
      sorted = is_sorted-put key_cmp keys_total key row rows alike.sorted;
      sorted_too = is_sorted-put key_cmp keys_total key other valued alike.sorted_too;
      many = length-put key_cmp keys_total key row rows alike.sorted
          ∙ (λ i. cond (both_there before key (find key_cmp key rows) (find key_cmp key valued) (alike.each key) i) (alike.many i) (alike.many i + 1))
          ∙ sym (length-put key_cmp keys_total key other valued alike.sorted_too);
      each = put_at row other is;
    }

    without_at : (q : List Value) → AreAlike streams change after q (find key_cmp q (without key rows)) (find key_cmp q (without key valued))
    without_at q =
        let one = found_without q key rows in
        let two = found_without q key valued in
        by_test (eq_by_cmp key_cmp q key)
        (λ t. rw (one, two, t) tt)
        (λ t. rw (one, two, t) (others_alike q t))

    fewer : (b : Bool) (m n p : ℕ) → cond b 1 0 + m ≡ p → cond b 1 0 + n ≡ p → m ≡ n
    fewer true m n p h g = omega arith
    fewer false m n p h g = omega arith

    pub alike_without : HaveValuesOf streams change after (without key rows) (without key valued)
    alike_without = record {
      sorted = is_sorted-where_key key_cmp (λ x. not (eq_by_cmp key_cmp key x)) rows alike.sorted;
      sorted_too = is_sorted-where_key key_cmp (λ x. not (eq_by_cmp key_cmp key x)) valued alike.sorted_too;
      many = fewer (is_some (find key_cmp key valued)) (length (without key rows)) (length (without key valued)) (length valued)
          (ap (λ b. cond b 1 0 + length (without key rows)) (sym (both_there before key (find key_cmp key rows) (find key_cmp key valued) (alike.each key)))
          ∙ length_without key_cmp keys_total key rows alike.sorted ∙ alike.many)
          (length_without key_cmp keys_total key valued alike.sorted_too);
      each = without_at;
    }
