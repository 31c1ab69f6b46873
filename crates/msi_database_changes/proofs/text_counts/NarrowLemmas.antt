-- Texts that were taken with references of three bytes are taken alike with narrower ones, where these can name all places after it.
use Rattle.std.proofs.Common.{◌≡◌, ℕ, ◌+◌, ◌-◌, ◌≤◌, Bool, true, false, cond, ◌||◌, ◌==◌, List, [], ◌∷◌, length, length-set, set, slice_get, Option, Some, None, option_map, unwrap_or, nat_lt, refl, sym, ap, ◌∙◌, subst, arith}
use Rattle.std.specs.Prelude.{option_and_then, if◌then◌else◌}
use Rattle.std.proofs.lemmas.Bool.Decides.{nat_tests}
use Rattle.std.proofs.lemmas.Option.{none-some, same_Some, option_and_then_some}
use Rattle.msi_pool.specs.Pool.{Place}
use Rattle.msi_pool.specs.FirstFit.{first_fit, given_back, is_long_with, lowered, most_places, taken, with_text_at}
use Rattle.msi_pool.proofs.TakenLemmas.{taken_takes}
use Rattle.msi_table_values.specs.declared.value.Value.{Value}
use Rattle.msi_table_values.specs.declared.value.Value.TheVariants.{Null, Int, Str, Binary}
use Rattle.msi_table_cells.specs.declared.cell.ValueRef.{ValueRef}
use Rattle.msi_table_cells.specs.declared.cell.ValueRef.TheVariants as cell
use Rattle.msi_table_values.specs.Columns.{ColumnDef}
use Rattle.msi_table_cells.specs.Fitting.{cell_of}
use Rattle.msi_database_changes.specs.Setting.{cells_set, index_of}
use Rattle.msi_database_changes.specs.Texts.{PoolInUse, cell_put, cell_released, in_turn, rows_put}

-- PLACES

-- none is lost where a text is taken
pub taken_grows : (long : Bool) (places : List Place) (text : List ℕ) (r : ℕ × List Place) → taken long places text ≡ Some r → length places ≤ length r.1
taken_grows long places text r e = let t = taken_takes long places r.1 text r.0 e in omega (arith, t.many)

-- nor where one is given back
lowered_many : (places : List Place) (i : ℕ) (p : Place) (b : Bool) → length (unwrap_or (cond b None (Some (set places i (lowered p)))) places) ≡ length places
lowered_many places i p true = refl
lowered_many places i p false = length-set places i (lowered p)

back_by : (places : List Place) (i : ℕ) (o : Option Place) → length (unwrap_or (option_and_then (λ p. if p.count == 0 then None else Some (set places i (lowered p))) o) places) ≡ length places
back_by places i None = refl
back_by places i (Some p) = lowered_many places i p (p.count == 0)

pub back_many : (places : List Place) (number : ℕ) → length (unwrap_or (given_back places number) places) ≡ length places
back_many places number = back_by places (number - 1) (slice_get places (number - 1))

pub released_many : (pool : PoolInUse) (c : ValueRef) → length (cell_released pool c).places ≡ length pool.places
released_many pool (cell.Str number) = back_many pool.places number
released_many pool cell.Null = refl
released_many pool (cell.Int n) = refl
released_many pool cell.Binary = refl

-- A width that was once needed is needed on
pub still_long : (was : Bool) (before after : List Place) → length before ≤ length after → is_long_with (is_long_with was before) after ≡ is_long_with was after
still_long true before after h = refl
still_long false before after h = by_tests (nat_lt 65535 (length before)) (nat_lt 65535 (length after)) (λ t. grind (arith, nat_tests)) where
  by_tests : (a b : Bool) → (a ≡ true → b ≡ true) → (a || b) ≡ b
  by_tests true b k = sym (k refl)
  by_tests false b k = refl

pub same_long : (was : Bool) (before after : List Place) → length after ≡ length before → is_long_with was after ≡ is_long_with was before
same_long was before after e = ap (λ (n : ℕ). was || nat_lt (most_places false) n) e

-- ONE TEXT

by_test : (a b : Bool) (x r : ℕ × List Place) → cond (a || b) (Some x) None ≡ Some r → x ≡ r
by_test true b x r e = same_Some x r e
by_test false true x r e = same_Some x r e
by_test false false x r e = absurd (none-some r e)

below_test : (i m : ℕ) → i + 1 ≤ m → nat_lt i m ≡ true
below_test i m h = grind (arith, nat_tests)

always : (a : Bool) (x : ℕ × List Place) → cond (a || true) (Some x) None ≡ Some x
always true x = refl
always false x = refl

taken_narrow : (long : Bool) (places : List Place) (text : List ℕ) (r : ℕ × List Place) → taken true places text ≡ Some r → length r.1 ≤ most_places long → taken long places text ≡ Some r
taken_narrow long places text r e few =
    let i : ℕ = first_fit text places in
    let put : ℕ × List Place = (i + 1, with_text_at places i text) in
    let same : put ≡ r = by_test (nat_lt i (length places)) (nat_lt i (most_places true)) put r e in
    let t = taken_takes true places r.1 text r.0 e in
    let number : i + 1 ≡ r.0 = ap (λ (x : ℕ × List Place). x.0) same in
    let inside : i + 1 ≤ most_places long = omega (arith, number, t.many, few) in
    ap (λ b. cond (nat_lt i (length places) || b) (Some put) None) (below_test i (most_places long) inside)
    ∙ always (nat_lt i (length places)) put ∙ ap Some same

-- STEPS

mapped : {A B P : Type 0} (f : A → B) (o : Option A) (y : B) → option_map f o ≡ Some y → ((x : A) → o ≡ Some x → f x ≡ y → P) → P
mapped f None y e k = absurd (none-some y e)
mapped f (Some x) y e k = k x refl (same_Some (f x) y e)

abbrev put_text : ℕ × List Place → ValueRef × PoolInUse
put_text r = (cell.Str r.0, record { places = r.1; is_used = true })

pub cell_put_grows : (long : Bool) (s : PoolInUse) (v : Value) (r : ValueRef × PoolInUse) → cell_put long s v ≡ Some r → length s.places ≤ length r.1.places
cell_put_grows long s (Str text) r e = mapped put_text (taken long s.places text) r e
    (λ x x_is whole. subst (λ (r : ValueRef × PoolInUse). length s.places ≤ length r.1.places) whole (taken_grows long s.places text x x_is))
cell_put_grows long s Null r e = subst (λ (r : ValueRef × PoolInUse). length s.places ≤ length r.1.places) (same_Some _ r e) (omega arith)
cell_put_grows long s (Int n) r e = subst (λ (r : ValueRef × PoolInUse). length s.places ≤ length r.1.places) (same_Some _ r e) (omega arith)
cell_put_grows long s Binary r e = subst (λ (r : ValueRef × PoolInUse). length s.places ≤ length r.1.places) (same_Some _ r e) (omega arith)

module _ (long : Bool) where
  abbrev Few : PoolInUse → Type 0
  Few s = length s.places ≤ most_places long

  pub cell_put_narrow : (s : PoolInUse) (v : Value) (r : ValueRef × PoolInUse) → cell_put true s v ≡ Some r → Few r.1 → cell_put long s v ≡ Some r
  cell_put_narrow s (Str text) r e few = mapped put_text (taken true s.places text) r e
      (λ x x_is whole.
      let few_x : length x.1 ≤ most_places long = subst (λ (r : ValueRef × PoolInUse). Few r.1) (sym whole) few in
      ap (option_map put_text) (taken_narrow long s.places text x x_is few_x) ∙ ap Some whole)
  cell_put_narrow s Null r e few = e
  cell_put_narrow s (Int n) r e few = e
  cell_put_narrow s Binary r e few = e

module _ {X Y : Type 0} where
  -- a step that loses no place
  abbrev pub Grows : (PoolInUse → X → Option (Y × PoolInUse)) → Type 0
  Grows step = (s : PoolInUse) (x : X) (r : Y × PoolInUse) → step s x ≡ Some r → length s.places ≤ length r.1.places

  -- a step that is taken alike with the places of a width
  abbrev pub Narrows : Bool → (PoolInUse → X → Option (Y × PoolInUse)) → (PoolInUse → X → Option (Y × PoolInUse)) → Type 0
  Narrows long wide narrow = (s : PoolInUse) (x : X) (r : Y × PoolInUse) → wide s x ≡ Some r → length r.1.places ≤ most_places long → narrow s x ≡ Some r

  pub turn_grows : (step : PoolInUse → X → Option (Y × PoolInUse)) → Grows step → (s : PoolInUse) (xs : List X) (r : List Y × PoolInUse) → in_turn step s xs ≡ Some r → length s.places ≤ length r.1.places
  turn_grows step grows s [] r e = subst (λ (r : List Y × PoolInUse). length s.places ≤ length r.1.places) (same_Some ([], s) r e) (omega arith)
  turn_grows step grows s (x ∷ xs) r e = option_and_then_some _ (step s x) r e
      (λ b b_is rest. mapped _ (in_turn step b.1 xs) r rest
      (λ c c_is whole. subst (λ (r : List Y × PoolInUse). length s.places ≤ length r.1.places) whole (omega (arith, grows s x b b_is, turn_grows step grows b.1 xs c c_is))))

  pub turn_narrow : (long : Bool) (wide narrow : PoolInUse → X → Option (Y × PoolInUse)) → Grows wide → Narrows long wide narrow
      → (s : PoolInUse) (xs : List X) (r : List Y × PoolInUse) → in_turn wide s xs ≡ Some r → length r.1.places ≤ most_places long → in_turn narrow s xs ≡ Some r
  turn_narrow long wide narrow grows narrows s [] r e few = e
  turn_narrow long wide narrow grows narrows s (x ∷ xs) r e few = option_and_then_some _ (wide s x) r e
      (λ b b_is rest. mapped _ (in_turn wide b.1 xs) r rest
      (λ c c_is whole.
      let few_c : length c.1.places ≤ most_places long = subst (λ (r : List Y × PoolInUse). length r.1.places ≤ most_places long) (sym whole) few in
      let few_b : length b.1.places ≤ most_places long = omega (arith, turn_grows wide grows b.1 xs c c_is, few_c) in
      ap (option_and_then (λ (r : Y × PoolInUse). option_map (λ (rs : List Y × PoolInUse). (r.0 ∷ rs.0, rs.1)) (in_turn narrow r.1 xs))) (narrows s x b b_is few_b)
      ∙ ap (option_map (λ (rs : List Y × PoolInUse). (b.0 ∷ rs.0, rs.1))) (turn_narrow long wide narrow grows narrows b.1 xs c c_is few_c) ∙ ap Some whole))

-- ROWS

pub rows_put_grows : (long : Bool) (s : PoolInUse) (rows : List (List Value)) (r : List (List ValueRef) × PoolInUse) → rows_put long s rows ≡ Some r → length s.places ≤ length r.1.places
rows_put_grows long s rows r e = turn_grows (in_turn (cell_put long)) (turn_grows (cell_put long) (cell_put_grows long)) s rows r e

pub rows_put_narrow : (long : Bool) (s : PoolInUse) (rows : List (List Value)) (r : List (List ValueRef) × PoolInUse) → rows_put true s rows ≡ Some r → length r.1.places ≤ most_places long → rows_put long s rows ≡ Some r
rows_put_narrow long s rows r e few =
    turn_narrow long (in_turn (cell_put true)) (in_turn (cell_put long)) (turn_grows (cell_put true) (cell_put_grows true))
    (turn_narrow long (cell_put true) (cell_put long) (cell_put_grows true) (cell_put_narrow long)) s rows r e few

-- NEW VALUES OF A ROW

pub cells_set_grows : (long : Bool) (columns : List ColumnDef) (pool : PoolInUse) (row : List ValueRef) (sets : List (List ℕ × Value)) (r : List ValueRef × PoolInUse) → cells_set long columns pool row sets ≡ Some r
    → length pool.places ≤ length r.1.places
cells_set_grows long columns pool row [] r e = subst (λ (r : List ValueRef × PoolInUse). length pool.places ≤ length r.1.places) (same_Some (row, pool) r e) (omega arith)
cells_set_grows long columns pool row (s ∷ ss) r e =
    let old : ValueRef = cell_of row (index_of columns s) in
    option_and_then_some _ (cell_put long (cell_released pool old) s.1) r e
    (λ c c_is rest. omega (arith, released_many pool old, cell_put_grows long (cell_released pool old) s.1 c c_is, cells_set_grows long columns c.1 (set row (index_of columns s) c.0) ss r rest))

pub cells_set_narrow : (long : Bool) (columns : List ColumnDef) (pool : PoolInUse) (row : List ValueRef) (sets : List (List ℕ × Value)) (r : List ValueRef × PoolInUse) → cells_set true columns pool row sets ≡ Some r
    → length r.1.places ≤ most_places long → cells_set long columns pool row sets ≡ Some r
cells_set_narrow long columns pool row [] r e few = e
cells_set_narrow long columns pool row (s ∷ ss) r e few =
    let old : ValueRef = cell_of row (index_of columns s) in
    option_and_then_some _ (cell_put true (cell_released pool old) s.1) r e
    (λ c c_is rest.
    let few_c : length c.1.places ≤ most_places long = omega (arith, cells_set_grows true columns c.1 (set row (index_of columns s) c.0) ss r rest, few) in
    ap (option_and_then (λ (r : ValueRef × PoolInUse). cells_set long columns r.1 (set row (index_of columns s) r.0) ss)) (cell_put_narrow long (cell_released pool old) s.1 c c_is few_c)
    ∙ cells_set_narrow long columns c.1 (set row (index_of columns s) c.0) ss r rest few)

-- THE OTHER WAY: what a narrower width could name, three bytes can

wider_test : (i : ℕ) (long : Bool) → nat_lt i (most_places long) ≡ true → nat_lt i (most_places true) ≡ true
wider_test i true h = h
wider_test i false h = grind (arith, nat_tests)

either_test : (a b c : Bool) (x r : ℕ × List Place) → (b ≡ true → c ≡ true) → cond (a || b) (Some x) None ≡ Some r → cond (a || c) (Some x) None ≡ Some r
either_test true b c x r h e = e
either_test false true c x r h e = ap (λ b. cond b (Some x) None) (h refl) ∙ e
either_test false false c x r h e = absurd (none-some r e)

taken_extends : (long : Bool) (places : List Place) (text : List ℕ) (r : ℕ × List Place) → taken long places text ≡ Some r → taken true places text ≡ Some r
taken_extends long places text r e =
    let i : ℕ = first_fit text places in
    let put : ℕ × List Place = (i + 1, with_text_at places i text) in
    either_test (nat_lt i (length places)) (nat_lt i (most_places long)) (nat_lt i (most_places true)) put r (wider_test i long) e

cell_put_extends : (long : Bool) (s : PoolInUse) (v : Value) (r : ValueRef × PoolInUse) → cell_put long s v ≡ Some r → cell_put true s v ≡ Some r
cell_put_extends long s (Str text) r e = mapped put_text (taken long s.places text) r e
    (λ x x_is whole. ap (option_map put_text) (taken_extends long s.places text x x_is) ∙ ap Some whole)
cell_put_extends long s Null r e = e
cell_put_extends long s (Int n) r e = e
cell_put_extends long s Binary r e = e

module _ {X Y : Type 0} where
  turn_extends : (narrow wide : PoolInUse → X → Option (Y × PoolInUse)) → ((s : PoolInUse) (x : X) (r : Y × PoolInUse) → narrow s x ≡ Some r → wide s x ≡ Some r)
      → (s : PoolInUse) (xs : List X) (r : List Y × PoolInUse) → in_turn narrow s xs ≡ Some r → in_turn wide s xs ≡ Some r
  turn_extends narrow wide extends s [] r e = e
  turn_extends narrow wide extends s (x ∷ xs) r e = option_and_then_some _ (narrow s x) r e
      (λ b b_is rest. mapped _ (in_turn narrow b.1 xs) r rest
      (λ c c_is whole.
      ap (option_and_then (λ (r : Y × PoolInUse). option_map (λ (rs : List Y × PoolInUse). (r.0 ∷ rs.0, rs.1)) (in_turn wide r.1 xs))) (extends s x b b_is)
      ∙ ap (option_map (λ (rs : List Y × PoolInUse). (b.0 ∷ rs.0, rs.1))) (turn_extends narrow wide extends b.1 xs c c_is) ∙ ap Some whole))

pub rows_put_extends : (long : Bool) (s : PoolInUse) (rows : List (List Value)) (r : List (List ValueRef) × PoolInUse) → rows_put long s rows ≡ Some r → rows_put true s rows ≡ Some r
rows_put_extends long s rows r e =
    turn_extends (in_turn (cell_put long)) (in_turn (cell_put true)) (turn_extends (cell_put long) (cell_put true) (cell_put_extends long)) s rows r e
