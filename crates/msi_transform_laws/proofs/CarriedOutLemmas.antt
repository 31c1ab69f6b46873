-- Records carried out on rows: what is there at each key.
use Rattle.std.proofs.Common.{◌≡◌, ℕ, ◌-◌, ◌≤◌, Bool, true, false, cond, not, ◌&&◌, T, List, [], ◌∷◌, ◌++◌, length, map, filter, replicate, refl, sym, ap, subst, ◌∙◌, arith, append-nil}
use Rattle.std.specs.Prelude.{Option, Some, None, is_some, IfSome, option_map, option_and_then, if◌then◌else◌, filter_map, nat_lt}
use Rattle.std.specs.Cmp.{IsTotalOrder, eq_by_cmp_equiv}
use Rattle.std.specs.Cmp.Lexicographic.{lists_total}
use Rattle.std.specs.FinMap.{IsAntisymmetric, find, is_sorted, put, slice_cmp-IsAntisymmetric}
use Rattle.std.specs.FinMap.Entries.{below_all, find-put, find-where_key, is_sorted-put, is_sorted-where_key, same_entries}
use Rattle.std.specs.List.{AllByRecursion, cons_option, list_any}
use Rattle.std.specs.Option.{option_map_or}
use Rattle.std.specs.Ordering.{eq_by_cmp, is_eq, is_lt}
use Rattle.std.specs.declared.cmp.Ordering.{Ordering}
use Rattle.std.specs.declared.cmp.Ordering.TheVariants.{Less, Equal, Greater}
use Rattle.std.proofs.lemmas.Bool.{ltb-false}
use Rattle.msi_base.proofs.BoolLemmas.{T_parts, by_test, cond_not, yes_is_no}
use Rattle.msi_table_values.specs.declared.value.Value.{Value}
use Rattle.msi_table_values.specs.declared.value.Value.TheVariants.{Null}
use Rattle.msi_table_values.specs.Columns.{ColumnDef}
use Rattle.msi_table_values.specs.OrderLaws.{value_cmp-total, values_tie}
use Rattle.msi_transform_records.specs.declared.action.Action.{Action}
use Rattle.msi_transform_records.specs.declared.action.Action.TheVariants.{Add, Remove, Change}
use Rattle.msi_transform_rows.specs.KeyOfRows.{key_cmp}
use Rattle.msi_transform_making.specs.Making.{ToldRecord, ToldRow, ToldRows, addition, additions, can_be_marked, change_of_row, changes, changing, differences, differing, is_replaced, removal, removals}
use Rattle.msi_transform_laws.specs.CarriedOut.{DifferencesGiveNewRows, IsRow, IsWholeRow, added_row, carried_out, changed_row, done_by, is_key_of_streams, record_done}
use Rattle.msi_transform_laws.proofs.ChangedRowsLemmas.{differing_turned, row_becomes, rows_alike}

pub keys_total : IsTotalOrder key_cmp
keys_total = lists_total value_cmp-total

pub exact_keys : IsAntisymmetric key_cmp
exact_keys = slice_cmp-IsAntisymmetric values_tie

equal : (o : Ordering) → is_eq o ≡ true → o ≡ Equal
equal Less h = yes_is_no false h refl
equal Equal h = refl
equal Greater h = yes_is_no false h refl

pub same : (q k : List Value) → eq_by_cmp key_cmp q k ≡ true → q ≡ k
same q k h = exact_keys q k (equal (key_cmp q k) h)

pub is_less : (o : Ordering) → T (is_lt o) → o ≡ Less
is_less Less h = refl
is_less Equal h = absurd h
is_less Greater h = absurd h

pub less : (o : Ordering) → T (is_lt o) → is_eq o ≡ false
less Less h = refl
less Equal h = absurd h
less Greater h = refl

-- a key before all others isn't among them
pub below_none : (q : List Value) (es : ToldRows) → T (below_all key_cmp q es) → find key_cmp q es ≡ None
below_none q [] h = refl
below_none q (e ∷ es) h =
    let p = T_parts (is_lt (key_cmp q e.0)) (below_all key_cmp q es) h in
    rw (less (key_cmp q e.0) p.0) (below_none q es p.1)

-- what is found is one of the rows
pub found_row : (P : List Value × ToldRow → Type 0) (q : List Value) (es : ToldRows) → AllByRecursion P es → IfSome (find key_cmp q es) (λ row. P (q, row))
found_row P q [] all = tt
found_row P q (e ∷ es) all = by_test (eq_by_cmp key_cmp q e.0)
    (λ t. rw t (subst (λ (k : List Value). P (k, e.1)) (sym (same q e.0 t)) all.0))
    (λ t. rw t (found_row P q es all.1))

pub not_some : {A P : Type 0} (x : A) → Some x ≡ None → P
not_some x h = yes_is_no true refl (ap is_some h)

module _ (columns : List ColumnDef) where
  -- ONE RECORD

  -- what it makes of the row at its key
  abbrev pub done_with : ToldRecord → Action → Option ToldRow → Option ToldRow
  done_with r Remove row = None
  done_with r (Change mask) row = option_map (changed_row columns r) row
  done_with r (Add k) row = Some (added_row columns r)

  pub found_by : (q : List Value) (rows : ToldRows) (r : ToldRecord) (a : Action)
      → find key_cmp q (done_by columns rows r a) ≡ cond (eq_by_cmp key_cmp q r.key) (done_with r a (find key_cmp q rows)) (find key_cmp q rows)
  found_by q rows r Remove =
      let stays = λ (x : List Value). not (eq_by_cmp key_cmp r.key x) in
      find-where_key key_cmp stays q (λ x e. ap stays (sym (exact_keys q x e))) rows
      ∙ cond_not (eq_by_cmp key_cmp r.key q) (find key_cmp q rows) None
      ∙ ap (λ b. cond b None (find key_cmp q rows)) ((eq_by_cmp_equiv keys_total).symm r.key q)
  found_by q rows r (Add k) = find-put key_cmp keys_total q r.key (added_row columns r) rows
  found_by q rows r (Change mask) =
      let change = changed_row columns r in
      let at : eq_by_cmp key_cmp q r.key ≡ true → find key_cmp q rows ≡ find key_cmp r.key rows = λ t. ap (λ (k : List Value). find key_cmp k rows) (same q r.key t) in
      elim (find key_cmp r.key rows) as (λ o. find key_cmp r.key rows ≡ o → find key_cmp q (option_map_or (λ row. put key_cmp r.key (change row) rows) o rows)
      ≡ cond (eq_by_cmp key_cmp q r.key) (option_map change (find key_cmp q rows)) (find key_cmp q rows)) [
        | None ↦ λ f. by_test (eq_by_cmp key_cmp q r.key) (λ t. rw (t, at t, f) refl) (λ t. rw t refl)
        | Some row ↦ λ f. find-put key_cmp keys_total q r.key (change row) rows ∙ by_test (eq_by_cmp key_cmp q r.key) (λ t. rw (t, at t, f) refl) (λ t. rw t refl)
      ] refl

  abbrev pub row_done : ToldRecord → Option ToldRow → Option ToldRow
  row_done r row = done_with r r.action row

  pub sorted_by : (rows : ToldRows) (r : ToldRecord) (a : Action) → T (is_sorted key_cmp rows) → T (is_sorted key_cmp (done_by columns rows r a))
  sorted_by rows r Remove h = is_sorted-where_key key_cmp (λ (x : List Value). not (eq_by_cmp key_cmp r.key x)) rows h
  sorted_by rows r (Add k) h = is_sorted-put key_cmp keys_total r.key (added_row columns r) rows h
  sorted_by rows r (Change mask) h =
      elim (find key_cmp r.key rows) as (λ o. T (is_sorted key_cmp (option_map_or (λ row. put key_cmp r.key (changed_row columns r row) rows) o rows))) [
        | None ↦ h
        | Some row ↦ is_sorted-put key_cmp keys_total r.key (changed_row columns r row) rows h
      ]

  -- RECORDS IN TURN

  pub joined : (rows : ToldRows) (records others : List ToldRecord) → carried_out columns rows (records ++ others) ≡ carried_out columns (carried_out columns rows records) others
  joined rows [] others = refl
  joined rows (r ∷ rs) others = joined (record_done columns rows r) rs others

  pub sorted : (rows : ToldRows) (records : List ToldRecord) → T (is_sorted key_cmp rows) → T (is_sorted key_cmp (carried_out columns rows records))
  sorted rows [] h = h
  sorted rows (r ∷ rs) h = sorted (record_done columns rows r) rs (sorted_by rows r r.action h)

  -- what a record that is told of a row, if one is, makes of another under its key
  abbrev pub done_at : (List Value × ToldRow → Option ToldRecord) → List Value → Option ToldRow → Option ToldRow → Option ToldRow
  done_at tell q at row = option_map_or (λ v. option_map_or (λ r. row_done r row) (tell (q, v)) row) at row

  -- at most one record for each of some rows, of its key
  module _ (tell : List Value × ToldRow → Option ToldRecord) (own : (e : List Value × ToldRow) (r : ToldRecord) → tell e ≡ Some r → r.key ≡ e.0) where
    untouched : (q : List Value) (es rows : ToldRows) → find key_cmp q es ≡ None → find key_cmp q (carried_out columns rows (filter_map tell es)) ≡ find key_cmp q rows
    untouched q [] rows h = refl
    untouched q (e ∷ es) rows h = by_test (eq_by_cmp key_cmp q e.0)
        (λ t. not_some e.1 (rw t at h))
        (λ t. let rest : find key_cmp q es ≡ None = rw t at h in
        elim (tell e) as (λ o. tell e ≡ o → find key_cmp q (carried_out columns rows (cons_option o (filter_map tell es))) ≡ find key_cmp q rows) [
          | None ↦ λ is. untouched q es rows rest
          | Some r ↦ λ is. untouched q es (record_done columns rows r) rest ∙ found_by q rows r r.action
              ∙ ap (λ (k : List Value). cond (eq_by_cmp key_cmp q k) (row_done r (find key_cmp q rows)) (find key_cmp q rows)) (own e r is)
              ∙ ap (λ b. cond b (row_done r (find key_cmp q rows)) (find key_cmp q rows)) t
        ] refl)

    pub each_done : (q : List Value) (es rows : ToldRows) → T (is_sorted key_cmp es)
        → find key_cmp q (carried_out columns rows (filter_map tell es)) ≡ done_at tell q (find key_cmp q es) (find key_cmp q rows)
    each_done q [] rows h = refl
    each_done q (e ∷ es) rows h =
        let p = T_parts (below_all key_cmp e.0 es) (is_sorted key_cmp es) h in
        by_test (eq_by_cmp key_cmp q e.0)
        (λ t. let key : q ≡ e.0 = same q e.0 t in
        let none : find key_cmp q es ≡ None = ap (λ (k : List Value). find key_cmp k es) key ∙ below_none e.0 es p.0 in
        let told : tell (q, e.1) ≡ tell e = ap (λ (k : List Value). tell (k, e.1)) key in
        rw (t, told) (elim (tell e) as (λ o. tell e ≡ o → find key_cmp q (carried_out columns rows (cons_option o (filter_map tell es))) ≡ option_map_or (λ r. row_done r (find key_cmp q rows)) o (find key_cmp q rows)) [
          | None ↦ λ is. untouched q es rows none
          | Some r ↦ λ is. untouched q es (record_done columns rows r) none ∙ found_by q rows r r.action
              ∙ ap (λ (k : List Value). cond (eq_by_cmp key_cmp q k) (row_done r (find key_cmp q rows)) (find key_cmp q rows)) (own e r is)
              ∙ ap (λ b. cond b (row_done r (find key_cmp q rows)) (find key_cmp q rows)) t
        ] refl))
        (λ t. rw t (elim (tell e) as (λ o. tell e ≡ o → find key_cmp q (carried_out columns rows (cons_option o (filter_map tell es))) ≡ done_at tell q (find key_cmp q es) (find key_cmp q rows)) [
          | None ↦ λ is. each_done q es rows p.1
          | Some r ↦ λ is. each_done q es (record_done columns rows r) p.1
              ∙ ap (done_at tell q (find key_cmp q es)) (found_by q rows r r.action
              ∙ ap (λ (k : List Value). cond (eq_by_cmp key_cmp q k) (row_done r (find key_cmp q rows)) (find key_cmp q rows)) (own e r is)
              ∙ ap (λ b. cond b (row_done r (find key_cmp q rows)) (find key_cmp q rows)) t)
        ] refl))

-- THE RECORDS OF WHAT DIFFERS

-- those of the rows that pass a test
abbrev pub tell_if : (List Value × ToldRow → Bool) → (List Value × ToldRow → ToldRecord) → List Value × ToldRow → Option ToldRecord
tell_if test f e = cond (test e) (Some (f e)) None

pub told_if : (test : List Value × ToldRow → Bool) (f : List Value × ToldRow → ToldRecord) (es : ToldRows) → map f (filter test es) ≡ filter_map (tell_if test f) es
told_if test f [] = refl
told_if test f (e ∷ es) = by_test (test e)
    (λ t. rw t (ap (λ (rs : List ToldRecord). f e ∷ rs) (told_if test f es)))
    (λ t. rw t (told_if test f es))

pub own_if : (test : List Value × ToldRow → Bool) (f : List Value × ToldRow → ToldRecord) → ((e : List Value × ToldRow) → (f e).key ≡ e.0)
    → (e : List Value × ToldRow) (r : ToldRecord) → tell_if test f e ≡ Some r → r.key ≡ e.0
own_if test f keys e r = elim (test e) as (λ b. cond b (Some (f e)) None ≡ Some r → r.key ≡ e.0) [
  | true ↦ λ is. let this : f e ≡ r = cc in ap (λ (s : ToldRecord). s.key) (sym this) ∙ keys e
  | false ↦ λ is. not_some r (sym is)
]

module _ (columns : List ColumnDef) where
  abbrev pub change_by : Option ToldRow → List Value × ToldRow → Option ToldRecord
  change_by old e = option_and_then (λ other. let marked = differing other e.1 in
      if can_be_marked marked && nat_lt 0 (length marked) then Some (changing columns marked e) else None) old

  pub own_change : (old : Option ToldRow) (e : List Value × ToldRow) (r : ToldRecord) → change_by old e ≡ Some r → r.key ≡ e.0
  own_change None e r is = not_some r (sym is)
  own_change (Some other) e r is =
      elim (can_be_marked (differing other e.1) && nat_lt 0 (length (differing other e.1))) as (λ b. cond b (Some (changing columns (differing other e.1) e)) None ≡ Some r → r.key ≡ e.0) [
        | true ↦ λ is. let this : changing columns (differing other e.1) e ≡ r = cc in ap (λ (s : ToldRecord). s.key) (sym this)
        | false ↦ λ is. not_some r (sym is)
      ] is

  abbrev pub replaced_by : Option ToldRow → List Value × ToldRow → Bool
  replaced_by others e = option_map_or (λ other. not (can_be_marked (differing other e.1))) others true

  no_more : (n : ℕ) (values : List Value) → length values ≡ n → values ++ replicate (n - length values) Null ≡ values
  no_more n values h = let none : n - length values ≡ 0 = omega arith in ap (λ (k : ℕ). values ++ replicate k Null) none ∙ append-nil values

  -- an added row has all its values
  pub row_again : (q : List Value) (new : ToldRow) → IsWholeRow columns (q, new) → added_row columns (addition (q, new)) ≡ new
  row_again q new is = ap (λ (vs : List Value). record { values = vs; stream = new.stream }) (no_more (length columns) new.values is.row.long)

  -- what becomes of the row of one key
  abbrev pub tell_removed : Option ToldRow → List Value × ToldRow → Option ToldRecord
  tell_removed new = tell_if (replaced_by new) (λ e. removal e.0)

  abbrev tell_added : Option ToldRow → List Value × ToldRow → Option ToldRecord
  tell_added old = tell_if (replaced_by old) addition

  abbrev becomes : List Value → Option ToldRow → Option ToldRow → Option ToldRow
  becomes q old new = done_at columns (tell_added old) q new
      (done_at columns (change_by old) q new (done_at columns (tell_removed new) q old old))

  module _ (q : List Value) (plain : list_any is_key_of_streams columns ≡ false) where
    kept_row : (old new : ToldRow) → IsRow columns (q, old) → IsWholeRow columns (q, new) → becomes q (Some old) (Some new) ≡ Some new
    kept_row old new was is =
        let turned : differing new old ≡ differing old new = differing_turned new old in
        by_test (can_be_marked (differing old new))
        (λ t. by_test (nat_lt 0 (length (differing old new)))
        (λ m. rw (turned, t, m) (ap Some (row_becomes columns q old new plain was is)))
        (λ m. rw (turned, t, m) (ap Some (rows_alike columns q old new plain was is (let none : length (differing old new) ≤ 0 = ltb-false 0 (length (differing old new)) m in omega arith)))))
        (λ t. rw (turned, t) (ap Some (row_again q new is)))

    becomes_new : (old new : Option ToldRow) → IfSome old (λ row. IsRow columns (q, row)) → IfSome new (λ row. IsWholeRow columns (q, row)) → becomes q old new ≡ new
    becomes_new None None was is = refl
    becomes_new (Some o) None was is = refl
    becomes_new None (Some n) was is = ap Some (row_again q n is)
    becomes_new (Some o) (Some n) was is = kept_row o n was is

  module _ (old new : ToldRows) where
    at_each_key : (q : List Value) → T (is_sorted key_cmp old) → T (is_sorted key_cmp new)
        → find key_cmp q (carried_out columns old (differences columns old new)) ≡ becomes q (find key_cmp q old) (find key_cmp q new)
    at_each_key q g h =
        let first = carried_out columns old (removals old new) in
        let second = carried_out columns first (changes columns old new) in
        let one : find key_cmp q first ≡ done_at columns (tell_removed (find key_cmp q new)) q (find key_cmp q old) (find key_cmp q old) =
        ap (λ (rs : List ToldRecord). find key_cmp q (carried_out columns old rs)) (told_if (is_replaced new) (λ e. removal e.0) old)
        ∙ each_done columns (tell_if (is_replaced new) (λ e. removal e.0)) (own_if (is_replaced new) (λ e. removal e.0) (λ e. refl)) q old old g in
        let two : find key_cmp q second ≡ done_at columns (change_by (find key_cmp q old)) q (find key_cmp q new) (find key_cmp q first) =
        each_done columns (change_of_row columns old) (λ e. own_change (find key_cmp e.0 old) e) q new first h in
        let three : find key_cmp q (carried_out columns second (additions old new)) ≡ done_at columns (tell_added (find key_cmp q old)) q (find key_cmp q new) (find key_cmp q second) =
        ap (λ (rs : List ToldRecord). find key_cmp q (carried_out columns second rs)) (told_if (is_replaced old) addition new)
        ∙ each_done columns (tell_if (is_replaced old) addition) (own_if (is_replaced old) addition (λ e. refl)) q new second h in
        ap (find key_cmp q) (joined columns old (removals old new ++ changes columns old new) (additions old new)
        ∙ ap (λ (rows : ToldRows). carried_out columns rows (additions old new)) (joined columns old (removals old new) (changes columns old new)))
        ∙ three
        ∙ ap (done_at columns (tell_added (find key_cmp q old)) q (find key_cmp q new)) (two ∙ ap (done_at columns (change_by (find key_cmp q old)) q (find key_cmp q new)) one)

pub differences_give_new_rows : DifferencesGiveNewRows
differences_give_new_rows columns old new plain was is =
    same_entries key_cmp keys_total exact_keys (carried_out columns old (differences columns old new)) new
    (sorted columns old (differences columns old new) was.sorted) is.sorted
    (λ q. at_each_key columns old new q was.sorted is.sorted
    ∙ becomes_new columns q plain (find key_cmp q old) (find key_cmp q new) (found_row (IsRow columns) q old was.each) (found_row (IsWholeRow columns) q new is.each))
