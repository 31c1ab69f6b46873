-- Cells of a row exchanged one after the other, as a record says.
use Rattle.std.proofs.Common.{◌≡◌, ℕ, zero, suc, ◌+◌, ◌<◌, ◌≤◌, true, false, not, List, [], ◌∷◌, length, map, filter, fold, set, Option, Some, refl, sym, ap, ap₂, ◌∙◌, arith, length-set}
use Rattle.std.specs.Prelude.{option_map, option_and_then, unwrap_or}
use Rattle.std.proofs.lemmas.List.{length-map}
use Rattle.std.proofs.lemmas.Option.{slice_get_within}
use Rattle.msi_base.proofs.BoolLemmas.{by_test}
use Rattle.msi_pool.specs.Pool.{Place}
use Rattle.msi_pool.specs.FirstFitLaws.{TakenPlacesHoldTheirText, GivenBackTakesOne}
use Rattle.msi_table_cells.specs.declared.cell.ValueRef.{ValueRef}
use Rattle.msi_table_cells.specs.declared.cell.ValueRef.TheVariants as cell
use Rattle.msi_table_cells.specs.CellValues.{row_values, value_of_cell}
use Rattle.msi_table_cells.specs.Fitting.{cell_of}
use Rattle.msi_table_values.specs.declared.value.Value.{Value}
use Rattle.msi_table_values.specs.declared.column.ColumnType.{ColumnType}
use Rattle.msi_table_values.specs.declared.column.ColumnType.TheVariants as coltype
use Rattle.msi_table_values.specs.Columns.{ColumnDef, types_of}
use Rattle.msi_database_schema.proofs.AccountLemmas.{Uses, ◌⊕◌, Enough, Moved, unmoved}
use Rattle.msi_database_changes.specs.Setting.{cell_exchanged}
use Rattle.msi_database_changes.specs.Texts.{PoolInUse, cell_released}
use Rattle.msi_database_changes.proofs.steps.TurnLemmas.{TextsStay}
use Rattle.msi_database_changes.proofs.text_counts.CellLemmas.{cell_put_moves, cell_released_moves, cell_uses}
use Rattle.msi_database_changes.proofs.text_counts.RowsLemmas.{row_stays, row_uses}
use Rattle.msi_transform_records.specs.RecordCells.{changes_of}
use Rattle.msi_transform.specs.Transforms.{value_in}
use Rattle.msi_transform_rows.specs.RowChanges.{TableChange, cells_changed}
use Rattle.msi_transform_rows.specs.RowStreams.{is_of_streams, type_in}
use Rattle.msi_transform_laws.specs.CarriedOut.{is_of_key, with_value}
use Rattle.msi_transform_laws.specs.RowsApplied.{texts_in, values_held}
use Rattle.msi_transform_laws.proofs.PoolRoomLemmas.{put_there, released_long}
use Rattle.msi_transform_laws.proofs.RecordValuesLemmas.{AreColumnsOf, Column, seen_texts, set_other, set_stream, texts_in_front, with_seen}

-- A CELL OF A ROW EXCHANGED FOR ANOTHER

uses_set : (row : List ValueRef) (i : ℕ) (c : ValueRef) (n : ℕ) → i < length row → row_uses (set row i c) n + cell_uses (cell_of row i) n ≡ row_uses row n + cell_uses c n
uses_set [] i c n h = absurd (omega (arith, h))
uses_set (x ∷ row) zero c n h = omega arith
uses_set (x ∷ row) (suc i) c n h = omega (arith, uses_set row i c n (omega (arith, h)))

-- the uses of a row but for one of its cells
abbrev rest_uses : List ValueRef → ℕ → Uses
rest_uses row i = row_uses (set row i cell.Null)

map_set : {X Y : Type 0} (f : X → Y) (xs : List X) (i : ℕ) (x : X) → map f (set xs i x) ≡ set (map f xs) i (f x)
map_set f [] i x = refl
map_set f (y ∷ ys) zero x = refl
map_set {Y = Y} f (y ∷ ys) (suc i) x = ap (λ (l : List Y). f y ∷ l) (map_set f ys i x)

set_twice : {X : Type 0} (xs : List X) (i : ℕ) (x y : X) → set (set xs i x) i y ≡ set xs i y
set_twice [] i x y = refl
set_twice (z ∷ xs) zero x y = refl
set_twice {X} (z ∷ xs) (suc i) x y = ap (λ (l : List X). z ∷ l) (set_twice xs i x y)

-- the value of a cell that was exchanged, where the cells beside it stayed
value_set : (row : List ValueRef) (i : ℕ) (c : ValueRef) (v : Value) (before after : List Place) → TextsStay (rest_uses row i) before after → value_of_cell after c ≡ v
    → row_values after (set row i c) ≡ set (row_values before row) i v
value_set row i c v before after stays is =
    let apart : (places : List Place) → row_values places (set row i c) ≡ set (row_values places (set row i cell.Null)) i (value_of_cell places c) =
    λ places. ap (row_values places) (sym (set_twice row i cell.Null c)) ∙ map_set (value_of_cell places) (set row i cell.Null) i c in
    apart after ∙ ap₂ (λ (l : List Value) (x : Value). set l i x) (row_stays (set row i cell.Null) before after stays ∙ map_set (value_of_cell before) row i cell.Null) is
    ∙ set_twice (row_values before row) i (value_of_cell before cell.Null) v

module _ (takes : TakenPlacesHoldTheirText) (gives : GivenBackTakesOne) where
  -- a row after cells of it were exchanged: its values, and the pool
  pub record Exchanged (stay : Uses) (row : List ValueRef) (values : List Value) (texts : ℕ) (before : PoolInUse) (r : List ValueRef × PoolInUse) : Type 0 where
    pub moved : Moved 16777215 stay (row_uses row) (row_uses r.0) before.places r.1.places
    pub values_are : row_values r.1.places r.0 ≡ values
    pub longer : length r.1.places ≤ length before.places + texts
    pub long : length r.0 ≡ length row

  abbrev Exchange : Uses → List ValueRef → List Value → ℕ → PoolInUse → Option (List ValueRef × PoolInUse) → Type 0
  Exchange stay row values texts before o = (r : List ValueRef × PoolInUse) × (o ≡ Some r) × Exchanged stay row values texts before r

  one_exchanged : (stay : Uses) (row : List ValueRef) (i : ℕ) (v : Value) (before : PoolInUse) → i < length row → Enough before.places (stay ⊕ row_uses row)
      → length before.places + texts_in (v ∷ []) ≤ 16777215 → Exchange stay row (set (row_values before.places row) i v) (texts_in (v ∷ [])) before (cell_exchanged true before row i v)
  one_exchanged stay row i v before inside enough room =
      let released = cell_released before (cell_of row i) in
      let long = released_long before (cell_of row i) in
      let put = put_there released v (omega (arith, long, room)) in
      let r = put.0 in
      let out = uses_set row i cell.Null in
      let s = cell_released_moves takes gives true (stay ⊕ rest_uses row i) (cell_of row i) before (λ n. omega (arith, enough n, out n inside)) in
      let t = cell_put_moves takes gives true (stay ⊕ rest_uses row i) v released r (λ n. omega (arith, enough n, out n inside, s.balance n)) put.1 in
      let texts : TextsStay (stay ⊕ rest_uses row i) before.places r.1.places = λ n k. t.moved.texts n k ∙ s.texts n k in (
        (set row i r.0, r.1),
        ap (option_map (λ (q : ValueRef × PoolInUse). (set row i q.0, q.1))) put.1,
        record {
          moved = record {
            balance = λ n. omega (arith, s.balance n, t.moved.balance n, out n inside, uses_set row i r.0 n inside);
            texts = λ n k. texts n (omega (arith, k));
            width = λ k. t.moved.width (s.width k);
          };
          values_are = value_set row i r.0 v before.places r.1.places (λ n k. texts n (omega (arith, k))) t.value;
          longer = omega (arith, put.2, long);
          long = length-set row i r.0;
        },
      )

  -- THE CELLS THAT A RECORD CHANGES, EACH IN A COLUMN OF ITS OWN

  module _ (change : TableChange) where
    abbrev values_after : List Value → List (Column × ValueRef) → List Value
    values_after values es = fold with_value values (filter (λ e. not (is_of_key e)) (map (with_seen change.by) es))

    pub cells_exchanged : (stay : Uses) (es : List (Column × ValueRef)) (row : List ValueRef) (values : List Value) (before : PoolInUse) → AreColumnsOf change.columns es
        → length row ≡ length change.columns → row_values before.places row ≡ values_held change.columns values → Enough before.places (stay ⊕ row_uses row)
        → length before.places + seen_texts change.by es ≤ 16777215
        → Exchange stay row (values_held change.columns (values_after values es)) (seen_texts change.by es) before (cells_changed change before row (changes_of es))
    cells_exchanged stay [] row values before columns long is enough room =
        ((row, before), refl, record { moved = unmoved 16777215 stay (row_uses row) before.places; values_are = is; longer = omega arith; long = refl })
    cells_exchanged stay (e ∷ es) row values before columns long is enough room =
        let more = texts_in_front change.by e es in
        let i = e.0.0 in
        let v = value_in change.by e.1 in
        let type : type_in change.columns i ≡ e.0.1.coltype = ap (λ (o : Option ColumnType). unwrap_or o coltype.Int16) columns.0.0 in
        by_test e.0.1.is_key
        (λ k. let rest = cells_exchanged stay es row values before columns.1 long is enough (omega (arith, room, more)) in
        rw k (rest.0, rest.1, record { moved = rest.2.moved; values_are = rest.2.values_are; longer = omega (arith, rest.2.longer, more); long = rest.2.long }))
        (λ k. by_test (is_of_streams e.0.1.coltype)
        (λ s. let streams : is_of_streams (type_in change.columns i) ≡ true = ap is_of_streams type ∙ s in
        let rest = cells_exchanged stay es row (set values i v) before columns.1 long (is ∙ sym (set_stream change.columns values i e.0.1.coltype v columns.0.0 s)) enough (omega (arith, room, more)) in
        rw (k, streams) (rest.0, rest.1, record { moved = rest.2.moved; values_are = rest.2.values_are; longer = omega (arith, rest.2.longer, more); long = rest.2.long }))
        (λ s. let streams : is_of_streams (type_in change.columns i) ≡ false = ap is_of_streams type ∙ s in
        let within : i < length (types_of change.columns) = slice_get_within (types_of change.columns) i e.0.1.coltype columns.0.0 in
        let many : length (types_of change.columns) ≡ length change.columns = length-map change.columns (λ (c : ColumnDef). c.coltype) in
        let one = one_exchanged stay row i v before (omega (arith, within, many, long)) enough (omega (arith, room, more)) in
        let r = one.0 in
        let first = one.2 in
        let rest = cells_exchanged stay es r.0 (set values i v) r.1 columns.1 (first.long ∙ long)
        (first.values_are ∙ ap (λ (l : List Value). set l i v) is ∙ sym (set_other change.columns values i e.0.1.coltype v columns.0.0 s))
        (λ n. omega (arith, enough n, first.moved.balance n)) (omega (arith, room, more, first.longer)) in
        rw (k, streams) (
          rest.0,
          ap (option_and_then (λ (q : List ValueRef × PoolInUse). cells_changed change q.1 q.0 (changes_of es))) one.1 ∙ rest.1,
          record {
            moved = record {
              balance = λ n. omega (arith, first.moved.balance n, rest.2.moved.balance n);
              texts = λ n q. rest.2.moved.texts n q ∙ first.moved.texts n q;
              width = λ q. rest.2.moved.width (first.moved.width q);
            };
            values_are = rest.2.values_are;
            longer = omega (arith, first.longer, rest.2.longer, more);
            long = rest.2.long ∙ first.long;
          },
        )))
