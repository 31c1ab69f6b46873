-- Records applied to rows: rows that aren't there, cells one after the other, and what is refused on the way.
use Rattle.std.proofs.Common.{◌≡◌, ℕ, ◌+◌, ◌<◌, Bool, true, false, cond, not, List, [], ◌∷◌, length, drop, get_or, refl, sym, ap, subst, ◌∙◌, inl, inr}
use Rattle.std.specs.Prelude.{Option, None, Some, Result, Ok, OnOk, T, is_some, option_and_then}
use Rattle.std.specs.FinMap.Entries.{find}
use Rattle.std.specs.Option.{option_map_or}
use Rattle.std.specs.Ordering.{eq_by_cmp}
use Rattle.std.proofs.lemmas.List.{drop_more}
use Rattle.msi_base.specs.declared.errors.ErrorKind.{ErrorKind}
use Rattle.msi_base.specs.declared.errors.ErrorKind.TheVariants.{InvalidInput, NotFound}
use Rattle.msi_base.specs.Refusals.{IsRefusal, or_refused, unless_refused, ◌>>=◌}
use Rattle.msi_table_cells.specs.declared.cell.ValueRef.{ValueRef}
use Rattle.msi_table_values.specs.declared.value.Value.{Value}
use Rattle.msi_database_changes.specs.Texts.{PoolInUse}
use Rattle.msi_transform_records.specs.declared.records.Record.{Record}
use Rattle.msi_transform_records.specs.declared.action.Action.TheVariants.{Change}
use Rattle.msi_transform_records.specs.RecordCells.{changes_of_record}
use Rattle.msi_transform_rows.specs.KeyOfRows.{key_cmp}
use Rattle.msi_transform.specs.Transforms.{record_key, shapes_of}
use Rattle.msi_transform_rows.specs.RowChanges.{Rows, RowsInHand, TableChange, action_applied, cell_changed, cells_changed, record_applied, row_at, row_changed, row_removed, without_row, without_row_at}
use Rattle.msi_transform_rows.specs.declared.row.RowInHand.{RowInHand}

-- ROWS THAT AREN'T THERE

not_none : (row : RowInHand) → Some row ≡ None → ⊥
not_none row e = subst T (ap is_some e) tt

-- nothing is left out where a key has no row
without_missing : (key : List Value) (rows : Rows) → row_at key rows ≡ None → without_row_at key rows ≡ rows
without_missing key [] h = refl
without_missing key (e ∷ es) h =
    elim (eq_by_cmp key_cmp key e.0) as (λ b. cond b (Some e.1) (find key_cmp key es) ≡ None → cond (not b) (e ∷ without_row_at key es) (without_row_at key es) ≡ e ∷ es) [
      | true ↦ λ found. absurd (not_none e.1 found)
      | false ↦ λ missing. ap (λ (rows : Rows). e ∷ rows) (without_missing key es missing)
    ] h

-- a row that is to be removed isn't there
pub none_removed : (change : TableChange) (s : RowsInHand) (key : List Value) (rows : Rows) (passes : Bool) (r : Result (Unit {0}) ErrorKind)
    → row_at key s.rows ≡ None → rows ≡ without_row_at key s.rows → passes ≡ change.passing.removed_row_missing
    → r ≡ unless_refused ((not passes, NotFound) ∷ []) tt
    → OnOk r (row_removed change s key ≡ Ok (record { rows = rows; pool = s.pool; streams = s.streams }))
none_removed change s key rows passes r missing are says is =
    elim passes as (λ b. b ≡ change.passing.removed_row_missing → r ≡ unless_refused ((not b, NotFound) ∷ []) tt → OnOk r (row_removed change s key ≡ Ok (record { rows = rows; pool = s.pool; streams = s.streams }))) [
      | true ↦ λ says is. subst (λ (r : Result (Unit {0}) ErrorKind). OnOk r (row_removed change s key ≡ Ok (record { rows = rows; pool = s.pool; streams = s.streams }))) (sym is)
          (ap (λ (o : Option RowInHand). option_map_or (λ row. Ok (without_row change key s row)) o (unless_refused ((not change.passing.removed_row_missing, NotFound) ∷ []) s)) missing
          ∙ ap (λ b. unless_refused ((not b, NotFound) ∷ []) s) (sym says)
          ∙ ap (λ (rs : Rows). Ok (record { rows = rs; pool = s.pool; streams = s.streams })) (sym (are ∙ without_missing key s.rows missing)))
      | false ↦ λ says is. subst (λ (r : Result (Unit {0}) ErrorKind). OnOk r (row_removed change s key ≡ Ok (record { rows = rows; pool = s.pool; streams = s.streams }))) (sym is) tt
    ] says is

-- CELLS ONE AFTER THE OTHER

stepwise : {A B : Type 0} (f : A → Option B) (o : Option A) (kind : ErrorKind) → or_refused kind (option_and_then f o) ≡ (or_refused kind o >>= λ x. or_refused kind (f x))
stepwise f None kind = refl
stepwise f (Some x) kind = refl

step_refused : {A B : Type 0} (f : A → Option B) (o : Option A) (kind k : ErrorKind) → IsRefusal (or_refused kind o) k → IsRefusal (or_refused kind (option_and_then f o)) k
step_refused f o kind k (inl memory) = inl memory
step_refused {A = A} f o kind k (inr is) = inr (stepwise f o kind ∙ ap (λ (r : Result A ErrorKind). r >>= λ x. or_refused kind (f x)) is)

-- the next cell is refused
pub cells_refused : (change : TableChange) (pool : PoolInUse) (cells : List ValueRef) (told : List (ℕ × ValueRef)) (i : ℕ) (e : ℕ × ValueRef)
    (whole : Option (List ValueRef × PoolInUse)) (k : ErrorKind)
    → i < length told → e ≡ get_or told i e → whole ≡ cells_changed change pool cells (drop i told)
    → IsRefusal (or_refused InvalidInput (cell_changed change pool cells e)) k → IsRefusal (or_refused InvalidInput whole) k
cells_refused change pool cells told i e whole k inside at is refused =
    subst (λ (o : Option (List ValueRef × PoolInUse)). IsRefusal (or_refused InvalidInput o) k)
    (sym (is ∙ ap (cells_changed change pool cells) (drop_more told i e inside ∙ ap (λ (f : ℕ × ValueRef). f ∷ drop (i + 1) told) (sym at))))
    (step_refused (λ r. cells_changed change r.1 r.0 (drop (i + 1) told)) (cell_changed change pool cells e) InvalidInput k refused)

-- A RECORD THAT CHANGES A ROW
pub changed_record : (change : TableChange) (s : RowsInHand) (r : Record) (mask : ℕ) (key : List Value) (told : List (ℕ × ValueRef))
    → r.action ≡ Change mask → key ≡ record_key change.by (shapes_of change.columns) r → told ≡ changes_of_record (shapes_of change.columns) r
    → record_applied change s r ≡ row_changed change s key told
changed_record change s r mask key told is key_is told_is =
    ap (action_applied change (shapes_of change.columns) s r) is
    ∙ λ i. row_changed change s (sym key_is i) (sym told_is i)
