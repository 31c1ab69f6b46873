-- What is read is spelled so, each byte of it.
use Rattle.std.proofs.Common.{◌≡◌, ℕ, zero, suc, ◌+◌, ◌/◌, ◌%◌, ◌^◌, ◌<◌, ◌≤◌, Bool, true, false, ltb, List, [], ◌∷◌, ◌++◌, length, take, drop, Option, Some, None, refl, sym, ap, ◌∙◌, arith, append_assoc, append-nil, length-take, inl, inr, subst}
use Rattle.std.specs.Prelude.{All, flat_map, ◌==◌, ◌+ℤ◌, ◌-ℤ◌, pos}
use Rattle.std.specs.Int.{w16, w32, to_le_bytes, bytes_low_first, cast_unsigned}
use Rattle.std.specs.List.{AllByRecursion}
use Rattle.std.proofs.lemmas.Bool.{cases_lt, eqb-true, ltb-false}
use Rattle.std.proofs.lemmas.Bool.Decides.{nat_tests}
use Rattle.std.proofs.lemmas.Int.{ints}
use Rattle.std.proofs.lemmas.List.{get_or_past, take-append-drop}
use Rattle.std.proofs.lemmas.Nat.{le_bytes_4}
use Rattle.msi_base.specs.Numbers.{bytes_at, number_at}
use Rattle.msi_base.proofs.BoolLemmas.{by_test}
use Rattle.msi_base.proofs.OptionLemmas.{bind_some, branch, guard_held, guard_passed, some_is}
use Rattle.msi_base.proofs.ReadFieldLemmas.{IsBytes, IsBytes-drop, IsBytes-take, Takes, Takes-then, number_takes, wide16}
use Rattle.msi_pool.specs.Pool.{Place, Pool}
use Rattle.msi_pool.specs.FirstFitLaws.{count_at}
use Rattle.msi_pool.specs.References.{number_of}
use Rattle.msi_table_values.specs.declared.column.ColumnType.{ColumnType}
use Rattle.msi_table_values.specs.declared.column.ColumnType.TheVariants as coltype
use Rattle.msi_table_cells.specs.declared.cell.ValueRef.{ValueRef}
use Rattle.msi_table_cells.specs.declared.cell.ValueRef.TheVariants as cell
use Rattle.msi_table.specs.Cells.{cell_of_number, width}
use Rattle.msi_transform_records.specs.declared.action.Action.{Action}
use Rattle.msi_transform_records.specs.declared.records.Record.{Record}
use Rattle.msi_transform_records.specs.declared.shape.Shape.{Shape}
use Rattle.msi_transform_records.specs.Actions.{action_of_mask, fits_columns, mask_of, told, told_columns}
use Rattle.msi_transform_records.specs.Cells.{FitsCell, NamesPlaceInUse, bytes_of_cell, cell_at, cell_of_bytes, cells_at, stream_cell, text_cell}
use Rattle.msi_transform_records.specs.Laws.{ReadRecordsAreSpelled}
use Rattle.msi_transform_records.specs.Records.{FitColumns, IsRecord, SpellsRecords, at_most_leading, head_at, leading, record_at, record_bytes, told_bytes}
use Rattle.msi_transform_records.proofs.LeadingLemmas.{step, stop}
use Rattle.msi_transform_records.proofs.MaskLemmas.{Says, mask_says}

-- ---- the number that few bytes are

two_back : (bs : List ℕ) → length bs ≡ 2 → IsBytes bs → (bytes_low_first 0 2 (number_of bs) ≡ bs) × (number_of bs < 65536)
two_back [] l h = absurd (omega arith)
two_back (a ∷ []) l h = absurd (omega arith)
two_back (a ∷ b ∷ []) l h =
    let x : a < 256 = h 0 in
    let y : b < 256 = h 1 in
    let low : number_of (a ∷ b ∷ []) % 256 ≡ a = omega arith in
    let high : number_of (a ∷ b ∷ []) / 256 % 256 ≡ b = omega arith in
    (λ i. low i ∷ high i ∷ [], omega arith)
two_back (a ∷ b ∷ c ∷ bs) l h = absurd (omega arith)

three_back : (bs : List ℕ) → length bs ≡ 3 → IsBytes bs → (bytes_low_first 0 3 (number_of bs) ≡ bs) × (number_of bs < 16777216)
three_back [] l h = absurd (omega arith)
three_back (a ∷ []) l h = absurd (omega arith)
three_back (a ∷ b ∷ []) l h = absurd (omega arith)
three_back (a ∷ b ∷ c ∷ []) l h =
    let x : a < 256 = h 0 in
    let y : b < 256 = h 1 in
    let z : c < 256 = h 2 in
    let low : number_of (a ∷ b ∷ c ∷ []) % 256 ≡ a = omega arith in
    let middle : number_of (a ∷ b ∷ c ∷ []) / 256 % 256 ≡ b = omega arith in
    let high : number_of (a ∷ b ∷ c ∷ []) / 65536 % 256 ≡ c = omega arith in
    (λ i. low i ∷ middle i ∷ high i ∷ [], omega arith)
three_back (a ∷ b ∷ c ∷ d ∷ bs) l h = absurd (omega arith)

four_back : (bs : List ℕ) → length bs ≡ 4 → IsBytes bs → (bytes_low_first 0 4 (number_of bs) ≡ bs) × (number_of bs < 4294967296)
four_back [] l h = absurd (omega arith)
four_back (a ∷ []) l h = absurd (omega arith)
four_back (a ∷ b ∷ []) l h = absurd (omega arith)
four_back (a ∷ b ∷ c ∷ []) l h = absurd (omega arith)
four_back (a ∷ b ∷ c ∷ d ∷ []) l h =
    let x : a < 256 = h 0 in
    let y : b < 256 = h 1 in
    let z : c < 256 = h 2 in
    let w : d < 256 = h 3 in
    (le_bytes_4 (a ∷ b ∷ c ∷ d ∷ []) (number_of (a ∷ b ∷ c ∷ d ∷ [])) l h (omega arith), omega arith)
four_back (a ∷ b ∷ c ∷ d ∷ e ∷ bs) l h = absurd (omega arith)

-- what numbers of a column's width may be
abbrev number_bound : Bool → ColumnType → ℕ
number_bound long coltype.Int16 = 65536
number_bound long coltype.Int32 = 4294967296
number_bound true (coltype.Str k) = 16777216
number_bound false (coltype.Str k) = 65536
number_bound long coltype.Binary = 65536

bytes_back : (long : Bool) (type : ColumnType) (bs : List ℕ) → length bs ≡ width long type → IsBytes bs
    → (bytes_low_first 0 (width long type) (number_of bs) ≡ bs) × (number_of bs < number_bound long type)
bytes_back long coltype.Int16 bs l h = two_back bs l h
bytes_back long coltype.Int32 bs l h = four_back bs l h
bytes_back true (coltype.Str k) bs l h = three_back bs l h
bytes_back false (coltype.Str k) bs l h = two_back bs l h
bytes_back long coltype.Binary bs l h = two_back bs l h

-- ---- a number spells the cell that is read of it

record NumberSpells (long : Bool) (places : List Place) (type : ColumnType) (n : ℕ) (c : ValueRef) : Type 0 where
  bytes : bytes_of_cell long type c ≡ bytes_low_first 0 (width long type) n
  fits : FitsCell long type c
  used : NamesPlaceInUse places c

int16_spells : (long : Bool) (places : List Place) (n : ℕ) → n < 65536 → NumberSpells long places coltype.Int16 n (cell_of_number (2 ^ 15) n)
int16_spells long places n h = by_test (n == 0)
    (λ t. let none : n ≡ 0 = eqb-true n 0 t in subst (λ m. NumberSpells long places coltype.Int16 m (cell_of_number (2 ^ 15) m)) (sym none) (record { bytes = refl; fits = tt; used = tt }))
    (λ t. let some : 0 < n = grind (arith, nat_tests) in
    let above : pos n -ℤ pos (2 ^ 15) +ℤ pos (2 ^ 15) ≡ pos n = omega (arith, ints) in
    let back : cast_unsigned w16 (pos n -ℤ pos (2 ^ 15) +ℤ pos (2 ^ 15)) ≡ n = ap (cast_unsigned w16) above in
    let is : cell_of_number (2 ^ 15) n ≡ cell.Int (pos n -ℤ pos (2 ^ 15)) = rw t refl in
    subst (NumberSpells long places coltype.Int16 n) (sym is) (record { bytes = ap (bytes_low_first 0 2) back; fits = (omega (arith, ints), omega (arith, ints)); used = tt }))

int32_spells : (long : Bool) (places : List Place) (n : ℕ) → n < 4294967296 → NumberSpells long places coltype.Int32 n (cell_of_number (2 ^ 31) n)
int32_spells long places n h = by_test (n == 0)
    (λ t. let none : n ≡ 0 = eqb-true n 0 t in subst (λ m. NumberSpells long places coltype.Int32 m (cell_of_number (2 ^ 31) m)) (sym none) (record { bytes = refl; fits = tt; used = tt }))
    (λ t. let some : 0 < n = grind (arith, nat_tests) in
    let above : pos n -ℤ pos (2 ^ 31) +ℤ pos (2 ^ 31) ≡ pos n = omega (arith, ints) in
    let back : cast_unsigned w32 (pos n -ℤ pos (2 ^ 31) +ℤ pos (2 ^ 31)) ≡ n = ap (cast_unsigned w32) above in
    let is : cell_of_number (2 ^ 31) n ≡ cell.Int (pos n -ℤ pos (2 ^ 31)) = rw t refl in
    subst (NumberSpells long places coltype.Int32 n) (sym is) (record { bytes = ap (bytes_low_first 0 4) back; fits = (omega (arith, ints), omega (arith, ints)); used = tt }))

null_text : (long : Bool) (places : List Place) (k n : ℕ) → n ≡ 0 → NumberSpells long places (coltype.Str k) n cell.Null
null_text true places k n e = record { bytes = ap (bytes_low_first 0 3) (sym e); fits = tt; used = tt }
null_text false places k n e = record { bytes = ap (bytes_low_first 0 2) (sym e); fits = tt; used = tt }

used_text : (long : Bool) (places : List Place) (k n : ℕ) → 0 < n → n < number_bound long (coltype.Str k) → 0 < count_at places n → NumberSpells long places (coltype.Str k) n (cell.Str n)
used_text true places k n some below used = record { bytes = refl; fits = (some, below); used = used }
used_text false places k n some below used = record { bytes = refl; fits = (some, below); used = used }

text_spells : (long : Bool) (places : List Place) (k n : ℕ) (c : ValueRef) → n < number_bound long (coltype.Str k) → text_cell places n ≡ Some c → NumberSpells long places (coltype.Str k) n c
text_spells long places k n c below e =
    elim (branch (n == 0) (Some cell.Null) _ c e) [
      | inl z ↦ subst (NumberSpells long places (coltype.Str k) n) (some_is cell.Null c z.1) (null_text long places k n (eqb-true n 0 z.0))
      | inr o ↦ (let g = guard_passed (count_at places n == 0) (Some (cell.Str n)) c o.1 in
          let some : 0 < n = (let t = o.0 in grind (arith, nat_tests)) in
          let used : 0 < count_at places n = (let t = g.0 in grind (arith, nat_tests)) in
          subst (NumberSpells long places (coltype.Str k) n) (some_is (cell.Str n) c g.1) (used_text long places k n some below used))
    ]

stream_spells : (long : Bool) (places : List Place) (n : ℕ) (c : ValueRef) → stream_cell n ≡ Some c → NumberSpells long places coltype.Binary n c
stream_spells long places n c e =
    elim (branch (n == 0) (Some cell.Null) _ c e) [
      | inl z ↦ (let none : n ≡ 0 = eqb-true n 0 z.0 in
          subst (NumberSpells long places coltype.Binary n) (some_is cell.Null c z.1) (record { bytes = ap (bytes_low_first 0 2) (sym none); fits = tt; used = tt }))
      | inr o ↦ (let g = guard_held (n == 1) (Some cell.Binary) c o.1 in
          let one : n ≡ 1 = eqb-true n 1 g.0 in
          subst (NumberSpells long places coltype.Binary n) (some_is cell.Binary c g.1) (record { bytes = ap (bytes_low_first 0 2) (sym one); fits = tt; used = tt }))
    ]

number_spells : (long : Bool) (places : List Place) (type : ColumnType) (bs : List ℕ) (c : ValueRef) → number_of bs < number_bound long type → cell_of_bytes places type bs ≡ Some c
    → NumberSpells long places type (number_of bs) c
number_spells long places coltype.Int16 bs c below e = subst (NumberSpells long places coltype.Int16 (number_of bs)) (some_is _ c e) (int16_spells long places (number_of bs) below)
number_spells long places coltype.Int32 bs c below e = subst (NumberSpells long places coltype.Int32 (number_of bs)) (some_is _ c e) (int32_spells long places (number_of bs) below)
number_spells long places (coltype.Str k) bs c below e = text_spells long places k (number_of bs) c below e
number_spells long places coltype.Binary bs c below e = stream_spells long places (number_of bs) c e

-- ---- cells

record CellFound (pool : Pool) (type : ColumnType) (bytes : List ℕ) (c : ValueRef) (rest : List ℕ) : Type 0 where
  takes : Takes bytes (bytes_of_cell pool.long type c) rest
  fits : FitsCell pool.long type c
  used : NamesPlaceInUse pool.places c

cell_found : (pool : Pool) (type : ColumnType) (bytes : List ℕ) (x : ValueRef × List ℕ) → IsBytes bytes → cell_at pool type bytes ≡ Some x → CellFound pool type bytes x.0 x.1
unfolding cell_at
cell_found pool type bytes x are e =
    let w = width pool.long type in
    let a = bind_some (bytes_at w bytes) _ x e in
    let b = bind_some (cell_of_bytes pool.places type a.0.0) _ x a.2 in
    let g = guard_passed (ltb (length bytes) w) (Some (take w bytes, drop w bytes)) a.0 a.1 in
    let long : w ≤ length bytes = ltb-false _ _ g.0 in
    let split : (take w bytes, drop w bytes) ≡ a.0 = some_is _ a.0 g.1 in
    let both : (b.0, a.0.1) ≡ x = some_is _ x b.2 in
    let read : cell_of_bytes pool.places type (take w bytes) ≡ Some b.0 = ap (λ (p : List ℕ × List ℕ). cell_of_bytes pool.places type p.0) split ∙ b.1 in
    let back = bytes_back pool.long type (take w bytes) (omega (arith, length-take w bytes)) (IsBytes-take w bytes are) in
    let spells = number_spells pool.long pool.places type (take w bytes) b.0 back.1 read in
    let found : CellFound pool type bytes b.0 (drop w bytes) = record {
      takes = record { parts = sym (take-append-drop w bytes) ∙ ap (λ (l : List ℕ). l ++ drop w bytes) (sym (spells.bytes ∙ back.0)); rest_fits = IsBytes-drop w bytes are };
      fits = spells.fits;
      used = spells.used;
    } in
    subst (λ (y : ValueRef × List ℕ). CellFound pool type bytes y.0 y.1) both (subst (λ (p : List ℕ × List ℕ). CellFound pool type bytes b.0 p.1) split found)

record CellsFound (pool : Pool) (columns : List (ℕ × Shape)) (bytes : List ℕ) (cells : List ValueRef) (rest : List ℕ) : Type 0 where
  takes : Takes bytes (told_bytes pool.long columns cells) rest
  fits : FitColumns pool.long columns cells
  used : AllByRecursion (NamesPlaceInUse pool.places) cells

cells_found : (pool : Pool) (columns : List (ℕ × Shape)) (bytes : List ℕ) (x : List ValueRef × List ℕ) → IsBytes bytes → cells_at pool columns bytes ≡ Some x → CellsFound pool columns bytes x.0 x.1
cells_found pool [] bytes x are e = subst (λ (y : List ValueRef × List ℕ). CellsFound pool [] bytes y.0 y.1) (some_is _ x e) (record { takes = record { parts = refl; rest_fits = are }; fits = tt; used = tt })
cells_found pool (column ∷ columns) bytes x are e =
    let a = bind_some (cell_at pool column.1.coltype bytes) _ x e in
    let b = bind_some (cells_at pool columns a.0.1) _ x a.2 in
    let first = cell_found pool column.1.coltype bytes a.0 are a.1 in
    let others = cells_found pool columns a.0.1 b.0 first.takes.rest_fits b.1 in
    subst (λ (y : List ValueRef × List ℕ). CellsFound pool (column ∷ columns) bytes y.0 y.1) (some_is _ x b.2) (record {
      takes = Takes-then bytes (bytes_of_cell pool.long column.1.coltype a.0.0) a.0.1 (told_bytes pool.long columns b.0.0) b.0.1 first.takes others.takes;
      fits = (first.fits, others.fits);
      used = (first.used, others.used);
    })

-- ---- records

record RecordFound (shapes : List Shape) (pool : Pool) (bytes : List ℕ) (r : Record) (rest : List ℕ) : Type 0 where
  takes : Takes bytes (record_bytes pool.long shapes r) rest
  is : IsRecord shapes pool r

record HeadFound (shapes : List Shape) (bytes : List ℕ) (action : Action) (columns : List (ℕ × Shape)) (rest : List ℕ) : Type 0 where
  takes : Takes bytes (to_le_bytes w16 (mask_of action)) rest
  says : Says (mask_of action) action
  fits : fits_columns shapes action ≡ true
  same : told shapes action ≡ columns

head_found : (shapes : List Shape) (bytes : List ℕ) (x : Action × List (ℕ × Shape) × List ℕ) → IsBytes bytes → head_at shapes bytes ≡ Some x → HeadFound shapes bytes x.0 x.1 x.2
unfolding head_at
head_found shapes bytes x are e =
    let a = bind_some (number_at w16 bytes) _ x e in
    let b = bind_some (action_of_mask a.0.0) _ x a.2 in
    let d = bind_some (told_columns shapes b.0) _ x b.2 in
    let t = number_takes w16 (2 ^ 16) wide16 bytes a.0.0 a.0.1 are a.1 in
    let says = mask_says a.0.0 b.0 t.1 b.1 in
    let g = guard_held (fits_columns shapes b.0) (Some (told shapes b.0)) d.0 d.1 in
    subst (λ (y : Action × List (ℕ × Shape) × List ℕ). HeadFound shapes bytes y.0 y.1 y.2) (some_is _ x d.2) (record {
      takes = subst (λ (m : ℕ). Takes bytes (to_le_bytes w16 m) a.0.1) (sym says.same) t.0;
      says = record { same = refl; is = says.is };
      fits = g.0;
      same = some_is _ d.0 g.1;
    })

record_found : (shapes : List Shape) (pool : Pool) (bytes : List ℕ) (x : Record × List ℕ) → IsBytes bytes → record_at shapes pool bytes ≡ Some x → RecordFound shapes pool bytes x.0 x.1
unfolding record_at
record_found shapes pool bytes x are e =
    let a = bind_some (head_at shapes bytes) _ x e in
    let b = bind_some (cells_at pool a.0.1 a.0.2) _ x a.2 in
    let head = head_found shapes bytes a.0 are a.1 in
    let cells = subst (λ (columns : List (ℕ × Shape)). CellsFound pool columns a.0.2 b.0.0 b.0.1) (sym head.same) (cells_found pool a.0.1 a.0.2 b.0 head.takes.rest_fits b.1) in
    subst (λ (y : Record × List ℕ). RecordFound shapes pool bytes y.0 y.1) (some_is _ x b.2) (record {
      takes = Takes-then bytes (to_le_bytes w16 (mask_of a.0.0)) a.0.2 (told_bytes pool.long (told shapes a.0.0) b.0.0) b.0.1 head.takes cells.takes;
      is = record { fits = record { action = head.says.is; columns = head.fits; cells = cells.fits }; texts = cells.used };
    })

record RecordsFound (shapes : List Shape) (pool : Pool) (bytes : List ℕ) (found : List Record × List ℕ) : Type 0 where
  whole : bytes ≡ flat_map (record_bytes pool.long shapes) found.0 ++ found.1
  each : AllByRecursion (IsRecord shapes pool) found.0

records_found : (shapes : List Shape) (pool : Pool) (n : ℕ) (bytes : List ℕ) (o : Option (Record × List ℕ)) → IsBytes bytes → record_at shapes pool bytes ≡ o
    → RecordsFound shapes pool bytes (at_most_leading n shapes pool bytes)
records_found shapes pool n bytes None are e = subst (RecordsFound shapes pool bytes) (sym (stop shapes pool n bytes e)) (record { whole = refl; each = tt })
records_found shapes pool zero bytes (Some x) are e = record { whole = refl; each = tt }
records_found shapes pool (suc n) bytes (Some x) are e =
    let first = record_found shapes pool bytes x are e in
    let others = records_found shapes pool n x.1 (record_at shapes pool x.1) first.takes.rest_fits refl in
    let front = record_bytes pool.long shapes x.0 in
    let found = at_most_leading n shapes pool x.1 in
    subst (RecordsFound shapes pool bytes) (sym (step shapes pool n bytes x.0 x.1 e)) (record {
      whole = first.takes.parts ∙ ap (λ (l : List ℕ). front ++ l) others.whole ∙ sym (append_assoc front (flat_map (record_bytes pool.long shapes) found.0) found.1);
      each = (first.is, others.each);
    })

are_bytes : (bytes : List ℕ) → All (λ b. b < 256) bytes → IsBytes bytes
are_bytes bytes all i =
    elim (cases_lt i (length bytes)) [
      | inl lt ↦ all i 0 lt
      | inr le ↦ rw (get_or_past bytes i 0 le) (omega arith)
    ]

nothing_left : (rest : List ℕ) → (length rest == 0) ≡ true → rest ≡ []
nothing_left [] e = refl
nothing_left (b ∷ bs) e = let none : length (b ∷ bs) ≡ 0 = eqb-true _ _ e in absurd (omega arith)

pub read_records_are_spelled : ReadRecordsAreSpelled
read_records_are_spelled shapes pool bytes records all e =
    let found = leading shapes pool bytes in
    let g = guard_held (length found.1 == 0) (Some found.0) records e in
    let is = records_found shapes pool (length bytes) bytes (record_at shapes pool bytes) (are_bytes bytes all) refl in
    let text = flat_map (record_bytes pool.long shapes) found.0 in
    subst (SpellsRecords shapes pool bytes) (some_is found.0 records g.1) (record {
      whole = is.whole ∙ ap (λ (l : List ℕ). text ++ l) (nothing_left found.1 g.0) ∙ append-nil text;
      each = is.each;
    })
