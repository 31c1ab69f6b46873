-- The records that stand in front, one after the other.
use Rattle.std.proofs.Common.{◌≡◌, ℕ, zero, suc, ◌+◌, ◌<◌, ◌≤◌, true, List, [], ◌∷◌, ◌++◌, length, drop, Option, Some, None, refl, sym, ap, ◌∙◌, arith, ltb, subst, append_assoc, append-nil, length-append, length-drop}
use Rattle.std.specs.Prelude.{option_map, ◌==◌, if◌then◌else◌}
use Rattle.std.specs.Int.{w16}
use Rattle.std.proofs.lemmas.Bool.{eqb-true, ltb-false}
use Rattle.msi_base.specs.Numbers.{bytes_at, number_at}
use Rattle.msi_base.proofs.OptionLemmas.{bind_some, guard_held, guard_passed, map_some, some_is}
use Rattle.msi_base.specs.Results.{FailsAs}
use Rattle.msi_base.specs.declared.errors.ErrorKind.{ErrorKind}
use Rattle.msi_base.specs.declared.errors.ErrorKind.TheVariants as kinds
use Rattle.msi_pool.specs.Pool.{Pool}
use Rattle.msi_table.specs.Cells.{width}
use Rattle.msi_table_values.specs.declared.column.ColumnType.{ColumnType}
use Rattle.msi_table_cells.specs.declared.cell.ValueRef.{ValueRef}
use Rattle.msi_transform_records.specs.declared.action.Action.{Action}
use Rattle.msi_transform_records.specs.declared.records.Record.{Record}
use Rattle.msi_transform_records.specs.declared.shape.Shape.{Shape}
use Rattle.msi_transform_records.specs.Actions.{action_of_mask, told_columns}
use Rattle.msi_transform_records.specs.Cells.{cell_at, cell_of_bytes, cells_at}
use Rattle.msi_transform_records.specs.Records.{at_most_leading, head_at, leading, record_at, records_in}

-- ---- what is read is shorter

bytes_shorter : (n : ℕ) (bytes : List ℕ) (x : List ℕ × List ℕ) → bytes_at n bytes ≡ Some x → length x.1 ≤ length bytes
bytes_shorter n bytes x e =
    let g = guard_passed (ltb (length bytes) n) (Some (_, drop n bytes)) x e in
    let rest-is : drop n bytes ≡ x.1 = ap (λ (p : List ℕ × List ℕ). p.1) (some_is _ x g.1) in
    omega (arith, ap length rest-is, length-drop n bytes)

number_shorter : (bytes : List ℕ) (x : ℕ × List ℕ) → number_at w16 bytes ≡ Some x → length x.1 < length bytes
number_shorter bytes x e =
    let g = guard_passed (ltb (length bytes) 2) (Some (_, drop 2 bytes)) x e in
    let long : 2 ≤ length bytes = ltb-false _ _ g.0 in
    let rest-is : drop 2 bytes ≡ x.1 = ap (λ (p : ℕ × List ℕ). p.1) (some_is _ x g.1) in
    omega (arith, ap length rest-is, length-drop 2 bytes)

cell_shorter : (pool : Pool) (type : ColumnType) (bytes : List ℕ) (x : ValueRef × List ℕ) → cell_at pool type bytes ≡ Some x → length x.1 ≤ length bytes
unfolding cell_at
cell_shorter pool type bytes x e =
    let a = bind_some (bytes_at (width pool.long type) bytes) _ x e in
    let b = bind_some (cell_of_bytes pool.places type a.0.0) _ x a.2 in
    let rest-is : a.0.1 ≡ x.1 = ap (λ (p : ValueRef × List ℕ). p.1) (some_is _ x b.2) in
    omega (arith, ap length rest-is, bytes_shorter (width pool.long type) bytes a.0 a.1)

cells_shorter : (pool : Pool) (columns : List (ℕ × Shape)) (bytes : List ℕ) (x : List ValueRef × List ℕ) → cells_at pool columns bytes ≡ Some x → length x.1 ≤ length bytes
cells_shorter pool [] bytes x e = let rest-is : bytes ≡ x.1 = ap (λ (p : List ValueRef × List ℕ). p.1) (some_is _ x e) in omega (arith, ap length rest-is)
cells_shorter pool (column ∷ columns) bytes x e =
    let a = bind_some (cell_at pool column.1.coltype bytes) _ x e in
    let b = bind_some (cells_at pool columns a.0.1) _ x a.2 in
    let rest-is : b.0.1 ≡ x.1 = ap (λ (p : List ValueRef × List ℕ). p.1) (some_is _ x b.2) in
    omega (arith, ap length rest-is, cell_shorter pool column.1.coltype bytes a.0 a.1, cells_shorter pool columns a.0.1 b.0 b.1)

head_shorter : (shapes : List Shape) (bytes : List ℕ) (x : Action × List (ℕ × Shape) × List ℕ) → head_at shapes bytes ≡ Some x → length x.2 < length bytes
unfolding head_at
head_shorter shapes bytes x e =
    let a = bind_some (number_at w16 bytes) _ x e in
    let b = bind_some (action_of_mask a.0.0) _ x a.2 in
    let d = bind_some (told_columns shapes b.0) _ x b.2 in
    let rest-is : a.0.1 ≡ x.2 = ap (λ (p : Action × List (ℕ × Shape) × List ℕ). p.2) (some_is _ x d.2) in
    omega (arith, ap length rest-is, number_shorter bytes a.0 a.1)

pub record_shorter : (shapes : List Shape) (pool : Pool) (bytes : List ℕ) (x : Record × List ℕ) → record_at shapes pool bytes ≡ Some x → length x.1 < length bytes
unfolding record_at
record_shorter shapes pool bytes x e =
    let a = bind_some (head_at shapes bytes) _ x e in
    let b = bind_some (cells_at pool a.0.1 a.0.2) _ x a.2 in
    let rest-is : b.0.1 ≡ x.1 = ap (λ (p : Record × List ℕ). p.1) (some_is _ x b.2) in
    omega (arith, ap length rest-is, head_shorter shapes bytes a.0 a.1, cells_shorter pool a.0.1 a.0.2 b.0 b.1)

-- ---- any bound that is no less than the number of bytes serves

module _ (shapes : List Shape) (pool : Pool) where
  pub step : (n : ℕ) (bytes : List ℕ) (r : Record) (rest : List ℕ) → record_at shapes pool bytes ≡ Some (r, rest)
      → at_most_leading (suc n) shapes pool bytes ≡ (r ∷ (at_most_leading n shapes pool rest).0, (at_most_leading n shapes pool rest).1)
  step n bytes r rest e = rw e refl

  pub stop : (n : ℕ) (bytes : List ℕ) → record_at shapes pool bytes ≡ None → at_most_leading n shapes pool bytes ≡ ([], bytes)
  stop zero bytes e = refl
  stop (suc n) bytes e = rw e refl

  enough : (n m : ℕ) (bytes : List ℕ) (o : Option (Record × List ℕ)) → record_at shapes pool bytes ≡ o → length bytes ≤ n → length bytes ≤ m
      → at_most_leading n shapes pool bytes ≡ at_most_leading m shapes pool bytes
  enough n m bytes None e h k = stop n bytes e ∙ sym (stop m bytes e)
  enough zero m bytes (Some x) e h k = absurd (omega (arith, record_shorter shapes pool bytes x e))
  enough (suc n) zero bytes (Some x) e h k = absurd (omega (arith, record_shorter shapes pool bytes x e))
  enough (suc n) (suc m) bytes (Some x) e h k =
      let less = record_shorter shapes pool bytes x e in
      let same = enough n m x.1 (record_at shapes pool x.1) refl (omega arith) (omega arith) in
      step n bytes x.0 x.1 e ∙ ap (λ (found : List Record × List ℕ). (x.0 ∷ found.0, found.1)) same ∙ sym (step m bytes x.0 x.1 e)

  pub leading_next : (bytes : List ℕ) (r : Record) (rest : List ℕ) → record_at shapes pool bytes ≡ Some (r, rest)
      → leading shapes pool bytes ≡ (r ∷ (leading shapes pool rest).0, (leading shapes pool rest).1)
  leading_next bytes r rest e =
      let less = record_shorter shapes pool bytes (r, rest) e in
      enough (length bytes) (suc (length bytes)) bytes (Some (r, rest)) e (omega arith) (omega arith)
      ∙ step (length bytes) bytes r rest e
      ∙ ap (λ (found : List Record × List ℕ). (r ∷ found.0, found.1)) (enough (length bytes) (length rest) rest (record_at shapes pool rest) refl (omega arith) (omega arith))

  pub leading_none : (bytes : List ℕ) → record_at shapes pool bytes ≡ None → leading shapes pool bytes ≡ ([], bytes)
  leading_none bytes e = stop (length bytes) bytes e

-- ---- as a loop meets them

-- a record was passed, and these bytes are behind it
pub record Passed (shapes : List Shape) (pool : Pool) (bytes rest : List ℕ) : Type 0 where
  pub less : length rest < length bytes
  pub many : length (leading shapes pool bytes).0 ≡ suc (length (leading shapes pool rest).0)
  pub left : (leading shapes pool bytes).1 ≡ (leading shapes pool rest).1

pub passed : (shapes : List Shape) (pool : Pool) (bytes rest : List ℕ) → option_map (λ (x : Record × List ℕ). x.1) (record_at shapes pool bytes) ≡ Some rest → Passed shapes pool bytes rest
passed shapes pool bytes rest e =
    let m = map_some (record_at shapes pool bytes) (λ (x : Record × List ℕ). x.1) rest e in
    subst (Passed shapes pool bytes) m.2 (record {
      less = record_shorter shapes pool bytes m.0 m.1;
      many = ap (λ (found : List Record × List ℕ). length found.0) (leading_next shapes pool bytes m.0.0 m.0.1 m.1);
      left = ap (λ (found : List Record × List ℕ). found.1) (leading_next shapes pool bytes m.0.0 m.0.1 m.1);
    })

-- nothing is left
pub all_read : (shapes : List Shape) (pool : Pool) (bytes : List ℕ) → (leading shapes pool bytes).1 ≡ [] → records_in shapes pool bytes ≡ Some (leading shapes pool bytes).0
all_read shapes pool bytes e = ap (λ (l : List ℕ). if length l == 0 then Some (leading shapes pool bytes).0 else None) e

-- so many records were passed, and these bytes are behind them
pub record Walked (shapes : List Shape) (pool : Pool) (bytes : List ℕ) (count : ℕ) (rest : List ℕ) : Type 0 where
  pub many : count + length (leading shapes pool rest).0 ≡ length (leading shapes pool bytes).0
  pub left : (leading shapes pool rest).1 ≡ (leading shapes pool bytes).1
  pub room : count + length rest ≤ length bytes

pub walked_on : (shapes : List Shape) (pool : Pool) (bytes : List ℕ) (count : ℕ) (old rest : List ℕ) → Walked shapes pool bytes count old → Passed shapes pool old rest
    → Walked shapes pool bytes (count + 1) rest
walked_on shapes pool bytes count old rest w p = record {
  many = omega (arith, w.many, p.many);
  left = sym p.left ∙ w.left;
  room = omega (arith, w.room, p.less);
}

-- to the end
pub walked_all : (shapes : List Shape) (pool : Pool) (bytes : List ℕ) (count : ℕ) (rest : List ℕ) → Walked shapes pool bytes count rest → (length rest == 0) ≡ true
    → option_map (λ (records : List Record). length records) (records_in shapes pool bytes) ≡ Some count
walked_all shapes pool bytes count [] w e =
    let all : length (leading shapes pool bytes).0 ≡ count = omega (arith, w.many) in
    ap (option_map (λ (records : List Record). length records)) (all_read shapes pool bytes (sym w.left)) ∙ ap Some all
walked_all shapes pool bytes count (b ∷ rest) w e = let none : length (b ∷ rest) ≡ 0 = eqb-true _ _ e in absurd (omega arith)

-- ---- where it is known how many records the bytes are

pub record Counted (shapes : List Shape) (pool : Pool) (bytes : List ℕ) (count : ℕ) : Type 0 where
  pub all : records_in shapes pool bytes ≡ Some (leading shapes pool bytes).0
  pub many : length (leading shapes pool bytes).0 ≡ count

pub counted : (shapes : List Shape) (pool : Pool) (bytes : List ℕ) (count : ℕ) → option_map (λ (records : List Record). length records) (records_in shapes pool bytes) ≡ Some count → Counted shapes pool bytes count
counted shapes pool bytes count e =
    let m = map_some (records_in shapes pool bytes) (λ (records : List Record). length records) count e in
    let g = guard_held (length (leading shapes pool bytes).1 == 0) (Some (leading shapes pool bytes).0) m.0 m.1 in
    let same : (leading shapes pool bytes).0 ≡ m.0 = some_is (leading shapes pool bytes).0 m.0 g.1 in
    record { all = m.1 ∙ ap Some (sym same); many = ap length same ∙ m.2 }

-- these records were read, so many, and these bytes are behind them
pub record Gathered (shapes : List Shape) (pool : Pool) (bytes : List ℕ) (records : List Record) (i : ℕ) (rest : List ℕ) : Type 0 where
  pub found : records ++ (leading shapes pool rest).0 ≡ (leading shapes pool bytes).0
  pub many : length records ≡ i

pub gathered_on : (shapes : List Shape) (pool : Pool) (bytes : List ℕ) (records : List Record) (i : ℕ) (old : List ℕ) (r : Record) (rest : List ℕ) → Gathered shapes pool bytes records i old
    → record_at shapes pool old ≡ Some (r, rest) → Gathered shapes pool bytes (records ++ r ∷ []) (i + 1) rest
gathered_on shapes pool bytes records i old r rest w e =
    let next : (leading shapes pool old).0 ≡ r ∷ (leading shapes pool rest).0 = ap (λ (found : List Record × List ℕ). found.0) (leading_next shapes pool old r rest e) in
    record {
      found = append_assoc records (r ∷ []) (leading shapes pool rest).0 ∙ ap (λ (l : List Record). records ++ l) (sym next) ∙ w.found;
      many = omega (arith, length-append records (r ∷ []), w.many);
    }

pub gathered_all : (shapes : List Shape) (pool : Pool) (bytes : List ℕ) (records : List Record) (count : ℕ) (rest : List ℕ) → Gathered shapes pool bytes records count rest → Counted shapes pool bytes count
    → records_in shapes pool bytes ≡ Some records
gathered_all shapes pool bytes records count rest w known =
    let none : length (leading shapes pool rest).0 ≡ 0 = omega (arith, w.many, known.many, ap length w.found, length-append records (leading shapes pool rest).0) in
    known.all ∙ ap Some (sym w.found ∙ ap (λ (l : List Record). records ++ l) (no_elements (leading shapes pool rest).0 none) ∙ append-nil records)
  where
    no_elements : (l : List Record) → length l ≡ 0 → l ≡ []
    no_elements [] e = refl
    no_elements (r ∷ rs) e = absurd (omega arith)

-- a record stands there, so only memory is missing
pub gathered_stop : (kind : ErrorKind) (shapes : List Shape) (pool : Pool) (bytes : List ℕ) (records : List Record) (i count : ℕ) (rest : List ℕ) → Gathered shapes pool bytes records i rest
    → Counted shapes pool bytes count → i < count → FailsAs kind (record_at shapes pool rest) → kind ≡ kinds.OutOfMemory
gathered_stop kinds.AlreadyExists shapes pool bytes records i count rest w known less fails = absurd fails
gathered_stop kinds.InvalidData shapes pool bytes records i count rest w known less fails =
    let none : (leading shapes pool rest).0 ≡ [] = ap (λ (found : List Record × List ℕ). found.0) (leading_none shapes pool rest fails) in
    absurd (omega (arith, w.many, known.many, ap length w.found, length-append records (leading shapes pool rest).0, ap length none))
gathered_stop kinds.InvalidInput shapes pool bytes records i count rest w known less fails = absurd fails
gathered_stop kinds.NotFound shapes pool bytes records i count rest w known less fails = absurd fails
gathered_stop kinds.Io shapes pool bytes records i count rest w known less fails = absurd fails
gathered_stop kinds.OutOfMemory shapes pool bytes records i count rest w known less fails = refl
