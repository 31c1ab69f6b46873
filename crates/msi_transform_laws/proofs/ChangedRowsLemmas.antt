-- A row that is changed in the columns in which it differs from another becomes that one.
use Rattle.std.proofs.Common.{◌≡◌, ℕ, ◌+◌, ◌-◌, ◌^◌, ◌≤◌, Bool, true, false, not, ◌&&◌, ◌||◌, List, [], ◌∷◌, ◌++◌, length, map, filter, fold, set, zip, refl, sym, ap, subst, ◌∙◌, arith, append_assoc}
use Rattle.std.specs.Prelude.{⊤, ◌==◌, Option, Some, None, is_some, if◌then◌else◌, bytes_eq}
use Rattle.std.specs.List.{enumerate_from, list_any}
use Rattle.std.specs.Cmp.{eq_by_cmp_equiv}
use Rattle.std.proofs.lemmas.Bool.{and_parts, eq-eqb, ne_eqb}
use Rattle.std.proofs.lemmas.List.{length-append, set-append_right}
use Rattle.std.proofs.lemmas.Slice.Eq.{bytes_eq-Decides}
use Rattle.msi_base.proofs.BoolLemmas.{by_test, same_truth, yes_is_no}
use Rattle.msi_table_cells.specs.KeyOrder.{key_of}
use Rattle.msi_table_values.specs.declared.value.Value.{Value}
use Rattle.msi_table_values.specs.declared.value.Value.TheVariants.{Null, Int, Str, Binary}
use Rattle.msi_table_values.specs.Columns.{ColumnDef, has_bit}
use Rattle.msi_table_values.specs.OrderLaws.{value_cmp-total, value_eq-Decides}
use Rattle.msi_table_values.specs.Values.{is_null}
use Rattle.msi_transform_records.specs.declared.action.Action.TheVariants.{Change}
use Rattle.msi_transform_records.specs.declared.shape.Shape.{Shape}
use Rattle.msi_transform_records.specs.Actions.{told_from}
use Rattle.msi_transform.specs.Transforms.{shapes_of}
use Rattle.msi_transform_applying.specs.Applying.{same_stream}
use Rattle.msi_transform_rows.specs.RowStreams.{is_of_streams}
use Rattle.msi_transform_making.specs.Making.{ToldRow, changing, differing, is_marked, is_marked_in, is_stream, mask_for, same_value, tells_stream, told_value, told_values}
use Rattle.msi_transform_laws.specs.CarriedOut.{IsRow, IsWholeRow, changed_row, is_key_of_streams, is_of_key, is_change_of_streams, changed_values, with_value}
use Rattle.msi_transform_laws.proofs.MarkedColumnsLemmas.{Above, bit_marked, numbers_rise}

-- VALUES THAT ARE THE SAME

pub value_same : (s : Bool) (v w : Value) → same_value s (v, w) ≡ true → v ≡ w
value_same s Null Null h = refl
value_same s Null (Int n) h = (value_eq-Decides Null (Int n)).0 h
value_same s Null (Str t) h = (value_eq-Decides Null (Str t)).0 h
value_same s Null Binary h = (value_eq-Decides Null Binary).0 h
value_same s (Int m) Null h = (value_eq-Decides (Int m) Null).0 h
value_same s (Int m) (Int n) h = (value_eq-Decides (Int m) (Int n)).0 h
value_same s (Int m) (Str t) h = (value_eq-Decides (Int m) (Str t)).0 h
value_same s (Int m) Binary h = (value_eq-Decides (Int m) Binary).0 h
value_same s (Str t) Null h = (value_eq-Decides (Str t) Null).0 h
value_same s (Str t) (Int n) h = (value_eq-Decides (Str t) (Int n)).0 h
value_same s (Str t) (Str u) h = (value_eq-Decides (Str t) (Str u)).0 h
value_same s (Str t) Binary h = (value_eq-Decides (Str t) Binary).0 h
value_same s Binary Null h = (value_eq-Decides Binary Null).0 h
value_same s Binary (Int n) h = (value_eq-Decides Binary (Int n)).0 h
value_same s Binary (Str t) h = (value_eq-Decides Binary (Str t)).0 h
value_same s Binary Binary h = refl

itself : (s : Bool) (v : Value) → s ≡ true → same_value s (v, v) ≡ true
itself s Null h = (value_eq-Decides Null Null).1 refl
itself s (Int n) h = (value_eq-Decides (Int n) (Int n)).1 refl
itself s (Str t) h = (value_eq-Decides (Str t) (Str t)).1 refl
itself s Binary h = h

turned_value : (s : Bool) (v w : Value) → same_value s (v, w) ≡ same_value s (w, v)
turned_value s Null Null = (eq_by_cmp_equiv value_cmp-total).symm Null Null
turned_value s Null (Int n) = (eq_by_cmp_equiv value_cmp-total).symm Null (Int n)
turned_value s Null (Str u) = (eq_by_cmp_equiv value_cmp-total).symm Null (Str u)
turned_value s Null Binary = (eq_by_cmp_equiv value_cmp-total).symm Null Binary
turned_value s (Int m) Null = (eq_by_cmp_equiv value_cmp-total).symm (Int m) Null
turned_value s (Int m) (Int n) = (eq_by_cmp_equiv value_cmp-total).symm (Int m) (Int n)
turned_value s (Int m) (Str u) = (eq_by_cmp_equiv value_cmp-total).symm (Int m) (Str u)
turned_value s (Int m) Binary = (eq_by_cmp_equiv value_cmp-total).symm (Int m) Binary
turned_value s (Str t) Null = (eq_by_cmp_equiv value_cmp-total).symm (Str t) Null
turned_value s (Str t) (Int n) = (eq_by_cmp_equiv value_cmp-total).symm (Str t) (Int n)
turned_value s (Str t) (Str u) = (eq_by_cmp_equiv value_cmp-total).symm (Str t) (Str u)
turned_value s (Str t) Binary = (eq_by_cmp_equiv value_cmp-total).symm (Str t) Binary
turned_value s Binary Null = (eq_by_cmp_equiv value_cmp-total).symm Binary Null
turned_value s Binary (Int n) = (eq_by_cmp_equiv value_cmp-total).symm Binary (Int n)
turned_value s Binary (Str u) = (eq_by_cmp_equiv value_cmp-total).symm Binary (Str u)
turned_value s Binary Binary = refl

turned_stream : (a b : Option (List ℕ)) → same_stream a b ≡ same_stream b a
turned_stream None None = refl
turned_stream None (Some y) = refl
turned_stream (Some x) None = refl
turned_stream (Some x) (Some y) = same_truth (bytes_eq x y) (bytes_eq y x)
    (λ h. (bytes_eq-Decides y x).1 (sym ((bytes_eq-Decides x y).0 h)))
    (λ h. (bytes_eq-Decides x y).1 (sym ((bytes_eq-Decides y x).0 h)))

pub stream_same : (a b : Option (List ℕ)) → same_stream a b ≡ true → a ≡ b
stream_same None None h = refl
stream_same None (Some y) h = yes_is_no false h refl
stream_same (Some x) None h = yes_is_no false h refl
stream_same (Some x) (Some y) h = ap Some ((bytes_eq-Decides x y).0 h)

-- THE ORDER IN WHICH TWO ROWS DIFFER

abbrev differing_from : ℕ → Bool → List Value → List Value → List ℕ
differing_from n same olds news = map (λ e. e.0) (filter (λ e. not (same_value same e.1)) (enumerate_from n (zip olds news)))

abbrev pub is_in : List ℕ → ℕ → Bool
is_in numbers i = list_any (λ j. j == i) numbers

pub rising : (n : ℕ) (same : Bool) (olds news : List Value) → Above n (differing_from n same olds news)
rising n same olds news = numbers_rise {X = Value × Value} (λ e. not (same_value same e.1)) n n (zip olds news) (omega arith)

turned_from : (n : ℕ) (same : Bool) (olds news : List Value) → differing_from n same olds news ≡ differing_from n same news olds
turned_from n same [] [] = refl
turned_from n same [] (w ∷ ws) = refl
turned_from n same (o ∷ os) [] = refl
turned_from n same (o ∷ os) (w ∷ ws) =
    let rest = turned_from (n + 1) same os ws in
    by_test (same_value same (w, o))
    (λ t. rw (turned_value same o w, t) rest)
    (λ t. rw (turned_value same o w, t) (ap (λ (is : List ℕ). n ∷ is) rest))

-- it doesn't matter which of two rows is the old one
pub differing_turned : (a b : ToldRow) → differing a b ≡ differing b a
differing_turned a b =
    ap (λ (s : Bool). differing_from 0 s a.values b.values) (turned_stream a.stream b.stream)
    ∙ turned_from 0 (same_stream b.stream a.stream) a.values b.values

-- CHANGES OF A ROW

set_after : (before : List Value) (o w : Value) (os : List Value) (n : ℕ) → length before ≡ n → set (before ++ o ∷ os) n w ≡ before ++ w ∷ os
set_after before o w os n l =
    let none : n - n ≡ 0 = omega arith in
    set-append_right before (o ∷ os) n n w l (omega arith) ∙ ap (λ (k : ℕ). before ++ set (o ∷ os) k w) none

abbrev pub Told : Type 0
Told = (ℕ × Shape) × Value

abbrev pub told_column : ℕ × (ColumnDef × Value) → Told
told_column e = ((e.0, record { coltype = e.1.0.coltype; is_key = e.1.0.is_primary_key }), e.1.1)

-- a test that fails is one of two that do
neither : (a b : Bool) → (a || b) ≡ false → (a ≡ false) × (b ≡ false)
neither true b h = yes_is_no true refl h
neither false b h = (refl, h)

unmarked_by : (key streams marked : Bool) → (key && streams) ≡ false → (not key && (marked && streams)) ≡ false → streams ≡ true → marked ≡ false
unmarked_by true true marked h g s = yes_is_no true refl h
unmarked_by true false marked h g s = yes_is_no false s refl
unmarked_by false true true h g s = yes_is_no true refl g
unmarked_by false true false h g s = refl
unmarked_by false false marked h g s = yes_is_no false s refl

nothing : (o : Option (List ℕ)) → is_some o ≡ false → o ≡ None
nothing None h = refl
nothing (Some x) h = yes_is_no true refl h

only_none : (b : Bool) (o : Option (List ℕ)) → is_some o ≡ false → (if b then o else None) ≡ o
only_none true o h = refl
only_none false o h = sym (nothing o h)

no_numbers : (is : List ℕ) → length is ≡ 0 → is ≡ []
no_numbers [] h = refl
no_numbers (i ∷ is) h = absurd (omega arith)

abbrev has_key_of_streams : List ColumnDef → Bool
has_key_of_streams columns = list_any is_key_of_streams columns

module _ (marked : List ℕ) (same : Bool) where
  abbrev pub marked_from : ℕ → List ColumnDef → List Value → List (ℕ × (ColumnDef × Value))
  marked_from n columns values = filter (is_marked_in marked) (enumerate_from n (zip columns values))

  abbrev changes_from : ℕ → List ColumnDef → List Value → List Told
  changes_from n columns values = filter (λ e. not (is_of_key e)) (map told_column (marked_from n columns values))

  -- the told columns beside the values of a change
  pub pairs : (mask : ℕ) → ((i : ℕ) → has_bit mask (2 ^ i) ≡ is_in marked i) → (n : ℕ) (columns : List ColumnDef) (values : List Value) → length values ≡ length columns
      → zip (told_from n (shapes_of columns) (Change mask)) (map (λ e. e.1) (map (λ e. e.1) (marked_from n columns values))) ≡ map told_column (marked_from n columns values)
  pairs mask bits n [] [] h = refl
  pairs mask bits n [] (v ∷ vs) h = refl
  pairs mask bits n (c ∷ cs) [] h = absurd (omega arith)
  pairs mask bits n (c ∷ cs) (v ∷ vs) h =
      let rest = pairs mask bits (n + 1) cs vs (omega arith) in
      let tells : (c.is_primary_key || has_bit mask (2 ^ n)) ≡ is_marked marked n c = ap (λ b. c.is_primary_key || b) (bits n) in
      by_test (is_marked marked n c)
      (λ t. rw (tells, t) (ap (λ (l : List Told). told_column (n, (c, v)) ∷ l) rest))
      (λ t. rw (tells, t) rest)

  -- no value differs but in marked columns, and none of the key
  abbrev Meets : ℕ → List ColumnDef → List Value → List Value → Type 0
  Meets n [] [] [] = ⊤
  Meets n [] [] (w ∷ ws) = ⊥
  Meets n [] (o ∷ os) ws = ⊥
  Meets n (c ∷ cs) [] ws = ⊥
  Meets n (c ∷ cs) (o ∷ os) [] = ⊥
  Meets n (c ∷ cs) (o ∷ os) (w ∷ ws) = (c.is_primary_key ≡ true → o ≡ w) × (is_in marked n ≡ false → same_value same (o, w) ≡ true) × Meets (n + 1) cs os ws

  -- the values in front are new ones already
  put_in : (n : ℕ) (columns : List ColumnDef) (before olds news : List Value) → length before ≡ n → Meets n columns olds news
      → fold with_value (before ++ olds) (changes_from n columns news) ≡ before ++ news
  put_in n [] before [] [] l m = refl
  put_in n [] before [] (w ∷ ws) l m = absurd m
  put_in n [] before (o ∷ os) ws l m = absurd m
  put_in n (c ∷ cs) before [] ws l m = absurd m
  put_in n (c ∷ cs) before (o ∷ os) [] l m = absurd m
  put_in n (c ∷ cs) before (o ∷ os) (w ∷ ws) l m =
      let longer : length (before ++ w ∷ []) ≡ n + 1 = omega (arith, length-append before (w ∷ [])) in
      let rest : fold with_value ((before ++ w ∷ []) ++ os) (changes_from (n + 1) cs ws) ≡ (before ++ w ∷ []) ++ ws = put_in (n + 1) cs (before ++ w ∷ []) os ws longer m.2 in
      let further : fold with_value (before ++ w ∷ os) (changes_from (n + 1) cs ws) ≡ before ++ w ∷ ws =
      ap (λ (vs : List Value). fold with_value vs (changes_from (n + 1) cs ws)) (sym (append_assoc before (w ∷ []) os)) ∙ rest ∙ append_assoc before (w ∷ []) ws in
      let stays : o ≡ w → fold with_value (before ++ o ∷ os) (changes_from (n + 1) cs ws) ≡ before ++ w ∷ ws =
      λ e. ap (λ (v : Value). fold with_value (before ++ v ∷ os) (changes_from (n + 1) cs ws)) e ∙ further in
      by_test c.is_primary_key
      (λ k. rw k (stays (m.0 k)))
      (λ k. by_test (is_in marked n)
      (λ t. rw (k, t) (ap (λ (vs : List Value). fold with_value vs (changes_from (n + 1) cs ws)) (set_after before o w os n l) ∙ further))
      (λ t. rw (k, t) (stays (value_same same o w (m.1 t)))))

  -- where a column of streams changes, and the row has a stream, the record tells it
  told_there : (n : ℕ) (columns : List ColumnDef) (news : List Value) → told_values true columns news ≡ news
      → list_any is_change_of_streams (changes_from n columns news) ≡ true → tells_stream (map (λ e. e.1) (marked_from n columns news)) ≡ true
  told_there n [] news e h = yes_is_no false h refl
  told_there n (c ∷ cs) [] e h = yes_is_no false h refl
  told_there n (c ∷ cs) (w ∷ ws) e h =
      let first : told_value true (c, w) ≡ w = cc in
      let others : told_values true cs ws ≡ ws = cc in
      let rest = told_there (n + 1) cs ws others in
      by_test (is_marked marked n c)
      (λ t. by_test (is_of_streams c.coltype)
      (λ b. let binary : Binary ≡ w = (rw b refl) ∙ first in rw (t, b, ← binary) refl)
      (λ b. rw (t, b) (by_test c.is_primary_key
      (λ k. rest (rw (t, k) at h))
      (λ k. rest (rw (t, k, b) at h)))))
      (λ t. rw t (rest (rw t at h)))

  told_first : (n : ℕ) (c : ColumnDef) (cs : List ColumnDef) (w : Value) (ws : List Value) → list_any is_change_of_streams (changes_from n (c ∷ cs) (w ∷ ws))
      ≡ ((not c.is_primary_key && (is_in marked n && is_of_streams c.coltype)) || list_any is_change_of_streams (changes_from (n + 1) cs ws))
  told_first n c cs w ws = by_test c.is_primary_key
      (λ k. rw k refl)
      (λ k. by_test (is_in marked n) (λ t. rw (k, t) refl) (λ t. rw (k, t) refl))

  -- where none changes, two rows have streams alike
  module _ (n : ℕ) (c : ColumnDef) (cs : List ColumnDef) (w : Value) (ws : List Value) (plain : has_key_of_streams (c ∷ cs) ≡ false)
      (none : list_any is_change_of_streams (changes_from n (c ∷ cs) (w ∷ ws)) ≡ false) where
    unmarked : is_of_streams c.coltype ≡ true → is_in marked n ≡ false
    unmarked s = unmarked_by c.is_primary_key (is_of_streams c.coltype) (is_in marked n) (neither _ _ plain).0 (neither _ _ (sym (told_first n c cs w ws) ∙ none)).0 s

    others_plain : has_key_of_streams cs ≡ false
    others_plain = (neither _ _ plain).1

    none_of_others : list_any is_change_of_streams (changes_from (n + 1) cs ws) ≡ false
    none_of_others = (neither _ _ (sym (told_first n c cs w ws) ∙ none)).1

  none_told : (n : ℕ) (columns : List ColumnDef) (olds news : List Value) → has_key_of_streams columns ≡ false → Meets n columns olds news
      → list_any is_change_of_streams (changes_from n columns news) ≡ false → tells_stream (zip columns olds) ≡ tells_stream (zip columns news)
  none_told n [] [] [] plain m h = refl
  none_told n [] [] (w ∷ ws) plain m h = absurd m
  none_told n [] (o ∷ os) ws plain m h = absurd m
  none_told n (c ∷ cs) [] ws plain m h = absurd m
  none_told n (c ∷ cs) (o ∷ os) [] plain m h = absurd m
  none_told n (c ∷ cs) (o ∷ os) (w ∷ ws) plain m h =
      let rest = none_told (n + 1) cs os ws (others_plain n c cs w ws plain h) m.2 (none_of_others n c cs w ws plain h) in
      let first : is_stream (c, o) ≡ is_stream (c, w) = by_test (is_of_streams c.coltype)
      (λ s. ap (λ (v : Value). is_stream (c, v)) (value_same same o w (m.1 (unmarked n c cs w ws plain h s))))
      (λ s. rw s refl) in
      λ i. first i || rest i

  -- and then the stream is one, if there is one
  one_stream : (n : ℕ) (columns : List ColumnDef) (olds news : List Value) → has_key_of_streams columns ≡ false → Meets n columns olds news
      → told_values true columns news ≡ news → list_any is_change_of_streams (changes_from n columns news) ≡ false → tells_stream (zip columns news) ≡ true → same ≡ true
  one_stream n [] [] [] plain m e h t = yes_is_no false t refl
  one_stream n [] [] (w ∷ ws) plain m e h t = absurd m
  one_stream n [] (o ∷ os) ws plain m e h t = absurd m
  one_stream n (c ∷ cs) [] ws plain m e h t = absurd m
  one_stream n (c ∷ cs) (o ∷ os) [] plain m e h t = absurd m
  one_stream n (c ∷ cs) (o ∷ os) (w ∷ ws) plain m e h t =
      let first : told_value true (c, w) ≡ w = cc in
      let others : told_values true cs ws ≡ ws = cc in
      by_test (is_stream (c, w))
      (λ s. let streams : is_of_streams c.coltype ≡ true = (and_parts (is_of_streams c.coltype) (not (is_null w)) s).0 in
      let binary : Binary ≡ w = (rw streams refl) ∙ first in
      let alike : same_value same (o, w) ≡ true = m.1 (unmarked n c cs w ws plain h streams) in
      let both : o ≡ Binary = value_same same o w alike ∙ sym binary in
      subst (λ (v : Value). same_value same (v, Binary) ≡ true) both (subst (λ (v : Value). same_value same (o, v) ≡ true) (sym binary) alike))
      (λ s. one_stream (n + 1) cs os ws (others_plain n c cs w ws plain h) m.2 others (none_of_others n c cs w ws plain h) (rw s at t))

  -- where nothing is marked, nothing changes
  no_changes : ((i : ℕ) → is_in marked i ≡ false) → (n : ℕ) (columns : List ColumnDef) (values : List Value) → changes_from n columns values ≡ []
  no_changes none n [] vs = refl
  no_changes none n (c ∷ cs) [] = refl
  no_changes none n (c ∷ cs) (v ∷ vs) = by_test c.is_primary_key
      (λ k. rw k (no_changes none (n + 1) cs vs))
      (λ k. rw (k, none n) (no_changes none (n + 1) cs vs))

  -- the marked columns are those that differ
  meets : (n : ℕ) (columns : List ColumnDef) (olds news : List Value) → length olds ≡ length columns → length news ≡ length columns → key_of columns olds ≡ key_of columns news
      → ((i : ℕ) → n ≤ i → is_in marked i ≡ is_in (differing_from n same olds news) i) → Meets n columns olds news
  meets n [] [] [] l r keys at = tt
  meets n [] [] (w ∷ ws) l r keys at = absurd (omega arith)
  meets n [] (o ∷ os) ws l r keys at = absurd (omega arith)
  meets n (c ∷ cs) [] ws l r keys at = absurd (omega arith)
  meets n (c ∷ cs) (o ∷ os) [] l r keys at = absurd (omega arith)
  meets n (c ∷ cs) (o ∷ os) (w ∷ ws) l r keys at =
      let others : key_of cs os ≡ key_of cs ws = by_test c.is_primary_key (λ k. let h = rw k at keys in cc) (λ k. rw k at keys) in (
        λ k. let h = rw k at keys in cc,
        λ t. by_test (same_value same (o, w)) (λ s. s)
            (λ s. yes_is_no (is_in marked n) (at n (omega arith) ∙ rw (s, eq-eqb n n refl) refl) t),
        meets (n + 1) cs os ws (omega arith) (omega arith) others (λ i h. at i (omega arith) ∙ by_test (same_value same (o, w))
            (λ s. rw s refl)
            (λ s. rw (s, ne_eqb n i (λ e. omega arith)) refl)),
      )

  meets_itself : (n : ℕ) (columns : List ColumnDef) (values : List Value) → same ≡ true → length values ≡ length columns → Meets n columns values values
  meets_itself n [] [] s h = tt
  meets_itself n [] (v ∷ vs) s h = absurd (omega arith)
  meets_itself n (c ∷ cs) [] s h = absurd (omega arith)
  meets_itself n (c ∷ cs) (v ∷ vs) s h = (λ k. refl, λ t. itself same v s, meets_itself (n + 1) cs vs s (omega arith))

-- A ROW BECOMES ANOTHER

module _ (marked : List ℕ) (same : Bool) (columns : List ColumnDef) (key : List Value) (old new : ToldRow) (plain : has_key_of_streams columns ≡ false)
    (was : IsRow columns (key, old)) (is : IsWholeRow columns (key, new)) (met : Meets marked same 0 columns old.values new.values) (one : same ≡ true → old.stream ≡ new.stream) where
  abbrev changes : List Told
  changes = changes_from marked same 0 columns new.values

  streams_alike : list_any is_change_of_streams changes ≡ false → old.stream ≡ new.stream
  streams_alike none =
      let alike : is_some old.stream ≡ is_some new.stream = was.stream ∙ none_told marked same 0 columns old.values new.values plain met none ∙ sym is.row.stream in
      by_test (is_some new.stream)
      (λ t. one (one_stream marked same 0 columns old.values new.values plain met
      (ap (λ (b : Bool). told_values b columns new.values) (sym t) ∙ is.shared) none (sym is.row.stream ∙ t)))
      (λ t. nothing old.stream (alike ∙ t) ∙ sym (nothing new.stream t))

  new_stream : list_any is_change_of_streams changes ≡ true → (if tells_stream (map (λ e. e.1) (marked_from marked same 0 columns new.values)) then new.stream else None) ≡ new.stream
  new_stream some = by_test (is_some new.stream)
      (λ t. rw (told_there marked same 0 columns new.values (ap (λ (b : Bool). told_values b columns new.values) (sym t) ∙ is.shared) some) refl)
      (λ t. only_none (tells_stream (map (λ e. e.1) (marked_from marked same 0 columns new.values))) new.stream t)

  becomes : Above 0 marked → changed_row columns (changing columns marked (key, new)) old ≡ new
  becomes rises =
      let bits : (i : ℕ) → has_bit (mask_for marked) (2 ^ i) ≡ is_in marked i = λ i. bit_marked i 0 marked rises in
      let told : changed_values columns (changing columns marked (key, new)) ≡ changes =
      ap (λ (l : List Told). filter (λ e. not (is_of_key e)) l) (pairs marked same (mask_for marked) bits 0 columns new.values is.row.long) in
      let values : fold with_value old.values (changed_values columns (changing columns marked (key, new))) ≡ new.values =
      ap (λ (l : List Told). fold with_value old.values l) told ∙ put_in marked same 0 columns [] old.values new.values refl met in
      let brought = (changing columns marked (key, new)).stream in
      let stream : (if list_any is_change_of_streams (changed_values columns (changing columns marked (key, new))) then brought else old.stream) ≡ new.stream =
      ap (λ (l : List Told). if list_any is_change_of_streams l then brought else old.stream) told
      ∙ by_test (list_any is_change_of_streams changes) (λ t. rw t (new_stream t)) (λ t. rw t (streams_alike t)) in
      λ i. record { values = values i; stream = stream i }

  alike : length marked ≡ 0 → old ≡ new
  alike none =
      let unmarked : (i : ℕ) → is_in marked i ≡ false = λ i. ap (λ (is : List ℕ). is_in is i) (no_numbers marked none) in
      let nothing : changes ≡ [] = no_changes marked same unmarked 0 columns new.values in
      let values : old.values ≡ new.values =
      ap (λ (l : List Told). fold with_value old.values l) (sym nothing) ∙ put_in marked same 0 columns [] old.values new.values refl met in
      let stream : old.stream ≡ new.stream = streams_alike (ap (λ (l : List Told). list_any is_change_of_streams l) nothing) in
      λ i. record { values = values i; stream = stream i }

module _ (columns : List ColumnDef) (key : List Value) (old new : ToldRow) (plain : has_key_of_streams columns ≡ false) (was : IsRow columns (key, old)) (is : IsWholeRow columns (key, new)) where
  abbrev same : Bool
  same = same_stream old.stream new.stream

  met : Meets (differing old new) same 0 columns old.values new.values
  met = meets (differing old new) same 0 columns old.values new.values was.long is.row.long (was.key ∙ sym is.row.key) (λ i _. refl)

  pub row_becomes : changed_row columns (changing columns (differing old new) (key, new)) old ≡ new
  row_becomes = becomes (differing old new) same columns key old new plain was is met (stream_same old.stream new.stream) (rising 0 same old.values new.values)

  pub rows_alike : length (differing old new) ≡ 0 → old ≡ new
  rows_alike none = alike (differing old new) same columns key old new plain was is met (stream_same old.stream new.stream) none

-- a row that is told as if it differed in one column stays
pub row_stays : (columns : List ColumnDef) (key : List Value) (row : ToldRow) (n : ℕ) → has_key_of_streams columns ≡ false → IsWholeRow columns (key, row)
    → changed_row columns (changing columns (n ∷ []) (key, row)) row ≡ row
row_stays columns key row n plain is =
    becomes (n ∷ []) true columns key row row plain is.row is (meets_itself (n ∷ []) true 0 columns row.values refl is.row.long) (λ _. refl) (omega arith, tt)
