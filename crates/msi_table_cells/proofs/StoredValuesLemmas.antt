-- Values that are stored as cells, and the cells beside them.
use Rattle.std.proofs.Common.{◌≡◌, ◌≢◌, ℕ, zero, suc, ◌+◌, ◌-◌, ◌<◌, ◌≤◌, ◌==◌, Bool, true, false, List, [], ◌∷◌, length, set, refl, sym, ap, ap₂, ◌∙◌, subst, arith, Some, None, Option, option_map, ⊎_elim, if◌then◌else◌, slice_get, ℤ}
use Rattle.std.proofs.lemmas.Bool.{and_parts, cases_eq, or_cases, true≢false}
use Rattle.std.proofs.lemmas.Bool.Decides.{nat_tests}
use Rattle.std.proofs.lemmas.Int.{ints}
use Rattle.std.proofs.lemmas.List.Sums.{sum_by-cons}
use Rattle.std.proofs.lemmas.Option.{cond_some, some_pair_parts}
use Rattle.std.specs.Prelude.{nat_lt, not, int_le, neg_ℤ, pos, option_and_then, ◌||◌}
use Rattle.msi_pool.specs.Pool.{Place}
use Rattle.msi_pool.specs.FirstFit.{count_of, first_fit, lowered, most_places, taken, with_text_at}
use Rattle.msi_pool.specs.FirstFitLaws.{count_at, text_at, GivenBackTakesOne, GivesBack, OthersStay, TakenPlacesHoldTheirText, Takes}
use Rattle.msi_table_values.specs.declared.column.ColumnType.{ColumnType}
use Rattle.msi_table_values.specs.declared.column.ColumnType.TheVariants as coltype
use Rattle.msi_table_values.specs.declared.value.Value.{Value}
use Rattle.msi_table_values.specs.declared.value.Value.TheVariants.{Null, Int, Str, Binary}
use Rattle.msi_table_cells.specs.declared.cell.ValueRef.{ValueRef}
use Rattle.msi_table_cells.specs.declared.cell.ValueRef.TheVariants as cell
use Rattle.msi_table_cells.specs.CellValues.{value_of_cell, row_values}
use Rattle.msi_table_values.specs.Columns.{ColumnDef}
use Rattle.msi_table_cells.specs.Fitting.{FitsColumn, reference_bound}
use Rattle.msi_table_cells.specs.StoredValues.{CountsSuffice, RemovingKeepsValues, StoredValuesComeBack, StoringKeepsValues, ValidValuesFit, cells_naming, is_naming}
use Rattle.msi_table_values.specs.ValidValues.{fits_type}

-- the cell of a text is the place that took it
text_stored : (o : Option (ℕ × List Place)) (c : ValueRef) (after : List Place) → option_map {U = ValueRef × List Place} (λ t. (cell.Str t.0, t.1)) o ≡ Some (c, after)
    → (number : ℕ) × (o ≡ Some (number, after)) × (cell.Str number ≡ c)
text_stored None c after e = cc
text_stored (Some t) c after e = let p = some_pair_parts (cell.Str t.0) c t.1 after e in (t.0, ap (λ (ps : List Place). Some (t.0, ps)) p.1, p.0)

module _ (takes : TakenPlacesHoldTheirText) where
  pub values_back : StoredValuesComeBack
  values_back long before after Null c e = ap (value_of_cell after) (sym (some_pair_parts cell.Null c before after e).0)
  values_back long before after (Int n) c e = ap (value_of_cell after) (sym (some_pair_parts (cell.Int n) c before after e).0)
  values_back long before after Binary c e = ap (value_of_cell after) (sym (some_pair_parts cell.Binary c before after e).0)
  values_back long before after (Str text) c e =
      let s = text_stored (taken long before text) c after e in
      let t = takes long before after text s.0 s.1 in
      ap (value_of_cell after) (sym s.2) ∙ ap Str (rw t.place refl)

-- The cell of a valid value fits its column
pub fits_null : (long : Bool) (type : ColumnType) → not (fits_type type Binary) ≡ true → FitsColumn long type cell.Null
fits_null long coltype.Int16 e = tt
fits_null long coltype.Int32 e = tt
fits_null long (coltype.Str n) e = tt
fits_null long coltype.Binary e = absurd (true≢false (sym e))

pub fits_int : (long : Bool) (type : ColumnType) (n : ℤ) → fits_type type (Int n) ≡ true → FitsColumn long type (cell.Int n)
fits_int long coltype.Int16 n e = let p = and_parts (int_le (neg_ℤ (pos 32767)) n) (int_le n (pos 32767)) e in (grind (arith, ints, p), grind (arith, ints, p))
fits_int long coltype.Int32 n e = let p = and_parts (int_le (neg_ℤ (pos 2147483647)) n) (int_le n (pos 2147483647)) e in (grind (arith, ints, p), grind (arith, ints, p))
fits_int long (coltype.Str k) n e = absurd (true≢false (sym e))
fits_int long coltype.Binary n e = absurd (true≢false (sym e))

fits_text : (long : Bool) (type : ColumnType) (text : List ℕ) (number : ℕ) → fits_type type (Str text) ≡ true → 0 < number → number < reference_bound long → FitsColumn long type (cell.Str number)
fits_text long coltype.Int16 text number e some few = absurd (true≢false (sym e))
fits_text long coltype.Int32 text number e some few = absurd (true≢false (sym e))
fits_text long (coltype.Str k) text number e some few = (some, few)
fits_text long coltype.Binary text number e some few = absurd (true≢false (sym e))

pub fits_stream : (long : Bool) (type : ColumnType) → fits_type type Binary ≡ true → FitsColumn long type cell.Binary
fits_stream long coltype.Int16 e = absurd (true≢false (sym e))
fits_stream long coltype.Int32 e = absurd (true≢false (sym e))
fits_stream long (coltype.Str k) e = absurd (true≢false (sym e))
fits_stream long coltype.Binary e = tt

pub below_bound : (long : Bool) (n : ℕ) → n ≤ most_places long → n < reference_bound long
below_bound true n h = omega (arith, h)
below_bound false n h = omega (arith, h)

-- a place that is taken was there, or is within the width
pub taken_within : (long : Bool) (before after : List Place) (text : List ℕ) (number : ℕ) → taken long before text ≡ Some (number, after) → length before ≤ most_places long → number ≤ most_places long
taken_within long before after text number e h =
    let i = first_fit text before in
    let answered = cond_some (nat_lt i (length before) || nat_lt i (most_places long)) (i + 1, with_text_at before i text) (number, after) e in
    let is_number : i + 1 ≡ number = ap (λ (r : ℕ × List Place). r.0) (answered.1) in
    ⊎_elim (λ t. let k : i < length before = grind (arith, nat_tests) in omega (arith, k, h, is_number))
    (λ t. let k : i < most_places long = grind (arith, nat_tests) in omega (arith, k, is_number))
    (or_cases (nat_lt i (length before)) (nat_lt i (most_places long)) answered.0)

abbrev Fits : Bool → ColumnDef → ValueRef → List Place → Type 0
Fits long column c after = FitsColumn long column.coltype c × (length after ≤ most_places long)

-- no text was taken
plain_fits : (long : Bool) (column : ColumnDef) (before after : List Place) (d c : ValueRef) → FitsColumn long column.coltype d → length before ≤ most_places long → ◌≡◌ {A = Option (ValueRef × List Place)} (Some (d, before)) (Some (c, after)) → Fits long column c after
plain_fits long column before after d c f few e = let p = some_pair_parts d c before after e in
    (subst (FitsColumn long column.coltype) p.0 f, subst (λ (ps : List Place). length ps ≤ most_places long) p.1 few)

pub valid_fits : TakenPlacesHoldTheirText → ValidValuesFit
valid_fits takes column long before after Null c v few e = plain_fits long column before after cell.Null c (fits_null long column.coltype (and_parts column.is_nullable _ v).1) few e
valid_fits takes column long before after (Int n) c v few e = plain_fits long column before after (cell.Int n) c (fits_int long column.coltype n (and_parts (fits_type column.coltype (Int n)) _ v).0) few e
valid_fits takes column long before after Binary c v few e = plain_fits long column before after cell.Binary c (fits_stream long column.coltype v) few e
valid_fits takes column long before after (Str text) c v few e =
    let s = text_stored (taken long before text) c after e in
    let t = takes long before after text s.0 s.1 in
    let within = taken_within long before after text s.0 s.1 few in (
      subst (FitsColumn long column.coltype) s.2 (fits_text long column.coltype text s.0 (and_parts (fits_type column.coltype (Str text)) _ (and_parts _ _ v).0).0 t.from_one (below_bound long s.0 within)),
      omega (arith, t.many, few, within),
    )

-- Cells and the counts of places
abbrev once : ℕ → ℕ → ℕ
once number n = if number == n then 1 else 0

pub once_same : (n : ℕ) → once n n ≡ 1
once_same n = grind (arith, nat_tests)

pub once_other : (m n : ℕ) → n ≢ m → once m n ≡ 0
once_other m n e = grind (arith, nat_tests)

pub by_number : {P : Type 0} (n number : ℕ) → (n ≡ number → P) → (n ≢ number → P) → P
by_number n number f g = ⊎_elim f g (cases_eq n number)

cells_naming-text : (n number : ℕ) (cs : List ValueRef) → cells_naming n (cell.Str number ∷ cs) ≡ once number n + cells_naming n cs
cells_naming-text n number cs = sum_by-cons (λ (c : ValueRef). if is_naming n c then 1 else 0) (cell.Str number) cs

cells_naming-plain : (n : ℕ) (c : ValueRef) (cs : List ValueRef) → is_naming n c ≡ false → cells_naming n (c ∷ cs) ≡ cells_naming n cs
cells_naming-plain n c cs e = let added : ◌≡◌ {A = ℕ} (if is_naming n c then 1 else 0) 0 = rw e refl in omega (arith, sum_by-cons (λ (c : ValueRef). if is_naming n c then 1 else 0) c cs, added)

cells_naming-le : (n : ℕ) (c : ValueRef) (cs : List ValueRef) → cells_naming n cs ≤ cells_naming n (c ∷ cs)
cells_naming-le n c cs = omega (arith, sum_by-cons (λ (c : ValueRef). if is_naming n c then 1 else 0) c cs)

-- a cell's value goes by the text that it names
abbrev TextsStay : List ValueRef → List Place → List Place → Type 0
TextsStay cells before after = (n : ℕ) → 0 < cells_naming n cells → text_at after n ≡ text_at before n

value_stays : (c : ValueRef) (cs : List ValueRef) (before after : List Place) → TextsStay (c ∷ cs) before after → value_of_cell after c ≡ value_of_cell before c
value_stays (cell.Str number) cs before after h = ap Str (h number (omega (arith, cells_naming-text number number cs, once_same number)))
value_stays cell.Null cs before after h = refl
value_stays (cell.Int n) cs before after h = refl
value_stays cell.Binary cs before after h = refl

values_stay : (cells : List ValueRef) (before after : List Place) → TextsStay cells before after → row_values after cells ≡ row_values before cells
values_stay [] before after h = refl
values_stay (c ∷ cs) before after h = ap₂ (λ (v : Value) (vs : List Value). v ∷ vs) (value_stays c cs before after h) (values_stay cs before after (λ n k. h n (omega (arith, cells_naming-le n c cs, k))))

-- what is named is not 0
named_from_one : (cells : List ValueRef) (n : ℕ) → cells_naming 0 cells ≡ 0 → 0 < cells_naming n cells → 0 < n
named_from_one cells zero e h = absurd (omega (arith, e, h))
named_from_one cells (suc n) e h = omega arith

index_of : (n number : ℕ) → 0 < n → n ≢ number → n - 1 + 1 ≢ number
index_of zero number h e = absurd (omega arith)
index_of (suc n) number h e = λ k. e (omega (arith, k))

module _ (number : ℕ) (before after : List Place) (others : OthersStay number before after) where
  text_other : (n : ℕ) → 0 < n → n ≢ number → text_at after n ≡ text_at before n
  text_other n h e = rw (others (n - 1) (index_of n number h e)) refl

  count_other : (n : ℕ) → 0 < n → n ≢ number → count_at after n ≡ count_at before n
  count_other n h e = rw (others (n - 1) (index_of n number h e)) refl

  -- the counts of other places suffice as before
  others_suffice : (cells : List ValueRef) (n : ℕ) → cells_naming 0 cells ≡ 0 → n ≢ number → cells_naming n cells ≤ count_at before n → cells_naming n cells ≤ count_at after n
  others_suffice cells zero from_one e h = omega (arith, from_one)
  others_suffice cells (suc n) from_one e h = omega (arith, h, count_other (suc n) (omega arith) e)

-- a text that is taken beside cells
module _ (text : List ℕ) (number : ℕ) (before after : List Place) (t : Takes text number before after) (others : List ValueRef) (s : CountsSuffice before others) where
  taken_count : count_at after number ≡ count_at before number + 1
  taken_count = ap count_of t.place

  taken_suffice : CountsSuffice after (cell.Str number ∷ others)
  taken_suffice = record {
    from_one = cells_naming-text 0 number others ∙ omega (arith, once_other number 0 (λ e. absurd (omega (arith, e, t.from_one))), s.from_one);
    each = λ n. by_number n number
        (λ e. subst (λ m. cells_naming m (cell.Str number ∷ others) ≤ count_at after m) (sym e) (omega (arith, cells_naming-text number number others, once_same number, taken_count, s.each number)))
        (λ e. omega (arith, cells_naming-text n number others, once_other number n e, others_suffice number before after t.others others n s.from_one e (s.each n)));
  }

  taken_text : text_at after number ≡ text
  taken_text = rw t.place refl

  taken_texts : TextsStay others before after
  taken_texts n h = by_number n number
      (λ e. rw e (taken_text ∙ sym (t.kept (omega (arith, s.each number, subst (λ m. 0 < cells_naming m others) e h)))))
      (λ e. text_other number before after t.others n (named_from_one others n s.from_one h) e)

plain_suffice : (places : List Place) (c : ValueRef) (others : List ValueRef) → ((n : ℕ) → is_naming n c ≡ false) → CountsSuffice places others → CountsSuffice places (c ∷ others)
plain_suffice places c others plain s = record {
  from_one = cells_naming-plain 0 c others (plain 0) ∙ s.from_one;
  each = λ n. omega (arith, cells_naming-plain n c others (plain n), s.each n);
}

abbrev Keeps : List Place → List Place → ValueRef → List ValueRef → Type 0
Keeps before after c others = CountsSuffice after (c ∷ others) × (row_values after others ≡ row_values before others)

plain_keeps : (before after : List Place) (d c : ValueRef) (others : List ValueRef) → ((n : ℕ) → is_naming n d ≡ false) → CountsSuffice before others → ◌≡◌ {A = Option (ValueRef × List Place)} (Some (d, before)) (Some (c, after)) → Keeps before after c others
plain_keeps before after d c others plain s e = let p = some_pair_parts d c before after e in
    subst (λ (c : ValueRef). Keeps before after c others) p.0 (subst (λ (ps : List Place). Keeps before ps d others) p.1 (plain_suffice before d others plain s, refl))

pub storing_keeps : TakenPlacesHoldTheirText → StoringKeepsValues
storing_keeps takes long before after Null c others s e = plain_keeps before after cell.Null c others (λ n. refl) s e
storing_keeps takes long before after (Int n) c others s e = plain_keeps before after (cell.Int n) c others (λ n. refl) s e
storing_keeps takes long before after Binary c others s e = plain_keeps before after cell.Binary c others (λ n. refl) s e
storing_keeps takes long before after (Str text) c others s e =
    let p = text_stored (taken long before text) c after e in
    let t = takes long before after text p.0 p.1 in
    subst (λ (c : ValueRef). Keeps before after c others) p.2
    (taken_suffice text p.0 before after t others s, values_stay others before after (taken_texts text p.0 before after t others s))

-- a place that is given back beside cells
module _ (number : ℕ) (before after : List Place) (g : GivesBack number before after) (others : List ValueRef) (s : CountsSuffice before (cell.Str number ∷ others)) where
  others_from_one : cells_naming 0 others ≡ 0
  others_from_one = omega (arith, s.from_one, cells_naming-text 0 number others)

  left : (n : ℕ) → cells_naming n others ≤ count_at after n
  left n = by_number n number
      (λ e. subst (λ m. cells_naming m others ≤ count_at after m) (sym e) (omega (arith, g.count, s.each number, cells_naming-text number number others, once_same number)))
      (λ e. others_suffice number before after g.others others n others_from_one e (omega (arith, s.each n, cells_naming-text n number others)))

  given_texts : TextsStay others before after
  given_texts n h = by_number n number
      (λ e. rw e (g.kept (omega (arith, left number, subst (λ m. 0 < cells_naming m others) e h))))
      (λ e. text_other number before after g.others n (named_from_one others n others_from_one h) e)

  given_keeps : CountsSuffice after others × (row_values after others ≡ row_values before others)
  given_keeps = (record { from_one = others_from_one; each = left }, values_stay others before after given_texts)

-- a place with a count can be given back
pub lowers : (f : Place → List Place) (o : Option Place) → 0 < count_of o → (after : List Place) × (option_and_then (λ p. if p.count == 0 then None else Some (f p)) o ≡ Some after)
lowers f None h = absurd (omega (arith, h))
lowers f (Some p) h = let used : (p.count == 0) ≡ false = grind (arith, nat_tests) in (f p, rw used refl)

plain_removed : (before : List Place) (c : ValueRef) (others : List ValueRef) → ((n : ℕ) → is_naming n c ≡ false) → CountsSuffice before (c ∷ others) → CountsSuffice before others
plain_removed before c others plain s = record {
  from_one = sym (cells_naming-plain 0 c others (plain 0)) ∙ s.from_one;
  each = λ n. omega (arith, cells_naming-le n c others, s.each n);
}

pub removing_keeps : GivenBackTakesOne → RemovingKeepsValues
removing_keeps gives before cell.Null others s = (before, refl, plain_removed before cell.Null others (λ n. refl) s, refl)
removing_keeps gives before (cell.Int n) others s = (before, refl, plain_removed before (cell.Int n) others (λ n. refl) s, refl)
removing_keeps gives before cell.Binary others s = (before, refl, plain_removed before cell.Binary others (λ n. refl) s, refl)
removing_keeps gives before (cell.Str number) others s =
    let named = cells_naming-text number number others in
    let from_one = named_from_one (cell.Str number ∷ others) number s.from_one (omega (arith, named, once_same number)) in
    let back = lowers (λ p. set before (number - 1) (lowered p)) (slice_get before (number - 1)) (omega (arith, s.each number, named, once_same number)) in
    let keeps = given_keeps number before back.0 (gives before back.0 number from_one back.1) others s in
    (back.0, back.1, keeps.0, keeps.1)
