-- Told records that are stored in a pool and spelled are read as they were told.
use Rattle.std.proofs.Common.{◌≡◌, ℕ, ◌+◌, ◌-◌, ◌<◌, ◌≤◌, max, Bool, true, false, cond, ◌||◌, List, [], ◌∷◌, length, map, Option, Some, None, refl, sym, ap, subst, ◌∙◌, arith, rules, inl, inr}
use Rattle.std.specs.Prelude.{⊤, option_map, option_and_then, flat_map, nat_lt, bytes_eq, slice_get}
use Rattle.std.specs.Cmp.{IsTotalOrder, nat_cmp_total, tied_itself}
use Rattle.std.specs.Cmp.Lexicographic.{bytes_decides, lists_total}
use Rattle.std.specs.FinMap.{find}
use Rattle.std.specs.FinMap.Entries.{find-put}
use Rattle.std.specs.List.{AllByRecursion, list_any}
use Rattle.std.specs.Option.{option_map_or}
use Rattle.std.specs.Ordering.{eq_by_cmp}
use Rattle.std.proofs.lemmas.Bool.{cases_eq, cases_lt, le-ltb, lt-ltb}
use Rattle.std.proofs.lemmas.Map.Text.{is_eq-slice_cmp}
use Rattle.std.proofs.lemmas.Option.{cond_some, some_pair_parts}
use Rattle.msi_base.specs.Lists.{has_pair, list_cmp}
use Rattle.msi_base.proofs.BoolLemmas.{by_test, yes_is_no}
use Rattle.msi_base.proofs.OptionLemmas.{guard_passed, map_some, none_is, some_is}
use Rattle.msi_pool.specs.Pool.{Place, Pool}
use Rattle.msi_pool.specs.FirstFit.{count_of, first_fit, is_long_with, most_places, taken, with_text_at}
use Rattle.msi_pool.specs.FirstFitLaws.{Takes, count_at, text_at}
use Rattle.msi_pool.proofs.TakenLemmas.{taken_takes}
use Rattle.msi_table_cells.specs.declared.cell.ValueRef.{ValueRef}
use Rattle.msi_table_cells.specs.declared.cell.ValueRef.TheVariants as cell
use Rattle.msi_table_cells.specs.CellValues.{value_of_cell}
use Rattle.msi_table_cells.specs.Fitting.{reference_bound}
use Rattle.msi_table_values.specs.declared.value.Value.{Value}
use Rattle.msi_table_values.specs.declared.value.Value.TheVariants.{Null, Int, Str, Binary}
use Rattle.msi_table_values.specs.declared.column.ColumnType.{ColumnType}
use Rattle.msi_table_values.specs.declared.column.ColumnType.TheVariants as coltype
use Rattle.msi_database_changes.specs.Texts.{PoolInUse, cell_put, in_turn}
use Rattle.msi_transform_records.specs.declared.action.Action.{Action}
use Rattle.msi_transform_records.specs.declared.action.Action.TheVariants.{Add, Remove, Change}
use Rattle.msi_transform_records.specs.declared.records.Record.{Record}
use Rattle.msi_transform_records.specs.declared.shape.Shape.{Shape}
use Rattle.msi_transform_records.specs.Actions.{IsAction, fits_columns, told}
use Rattle.msi_transform_records.specs.Cells.{FitsCell, NamesPlaceInUse}
use Rattle.msi_transform_records.specs.Records.{FitColumns, FitsRecord, IsRecord, record_bytes, record_with, records_in}
use Rattle.msi_transform_records.proofs.ReadBackLemmas.{spelled_records_are_read}
use Rattle.msi_transform.specs.Transforms.{TransformDef, records_for}
use Rattle.msi_transform_making.specs.Making.{ToldRecord, ToldTable, by_names, stored_action, stored_record, stored_record_with, stored_table, table_records, transform_with}
use Rattle.msi_transform_laws.specs.RecordsRead.{IsSpellable, StoredRecordsAreRead, action_and_values, as_values, cell_like, values_read}

-- EACH IN TURN

-- P holds of each two beside each other, and of no one alone
abbrev pub Each : {X Y : Type 0} → (X → Y → Type 0) → List X → List Y → Type 0
Each P [] [] = ⊤
Each P [] (y ∷ ys) = ⊥
Each P (x ∷ xs) [] = ⊥
Each P (x ∷ xs) (y ∷ ys) = P x y × Each P xs ys

each_as : {X Y : Type 0} (P Q : X → Y → Type 0) → ((x : X) (y : Y) → P x y → Q x y) → (xs : List X) (ys : List Y) → Each P xs ys → Each Q xs ys
each_as P Q f [] [] h = tt
each_as P Q f [] (y ∷ ys) h = absurd h
each_as P Q f (x ∷ xs) [] h = absurd h
each_as P Q f (x ∷ xs) (y ∷ ys) h = (f x y h.0, each_as P Q f xs ys h.1)

-- the first step and the others
abbrev joined : {S Y : Type 0} → Y × S → List Y × S → List Y × S
joined r rs = (r.0 ∷ rs.0, rs.1)

turn_parts : {S X Y : Type 0} (step : S → X → Option (Y × S)) (first : Option (Y × S)) (xs : List X) (whole : List Y × S)
    → option_and_then (λ (r : Y × S). option_map (λ (rs : List Y × S). joined r rs) (in_turn step r.1 xs)) first ≡ Some whole
    → (r : Y × S) × (first ≡ Some r) × (rs : List Y × S) × (in_turn step r.1 xs ≡ Some rs) × (joined r rs ≡ whole)
turn_parts step None xs whole e = none_is e
turn_parts {S} {X} {Y} step (Some r) xs whole e =
    let m = map_some (in_turn step r.1 xs) (λ (rs : List Y × S). joined r rs) whole e in (r, refl, m.0, m.1, m.2)

-- each step in turn, and what then holds of it and stays so
module _ {S X Y : Type 0} (step : S → X → Option (Y × S)) (Later : S → S → Type 0) (P : S → X → Y → Type 0) (now : (s : S) → Later s s)
    (further : (s t u : S) → Later s t → Later t u → Later s u) (kept : (s t : S) (x : X) (y : Y) → Later s t → P s x y → P t x y)
    (one : (s t : S) (x : X) (y : Y) → step s x ≡ Some (y, t) → Later s t × P t x y) where
  all_steps : (s t : S) (xs : List X) (ys : List Y) → in_turn step s xs ≡ Some (ys, t) → Later s t × Each (P t) xs ys
  all_steps s t [] ys h =
      let parts = some_is {A = List Y × S} ([], s) (ys, t) h in
      subst (λ (r : List Y × S). Later s r.1 × Each (P r.1) [] r.0) parts (now s, tt)
  all_steps s t (x ∷ xs) ys h =
      let parts = turn_parts step (step s x) xs (ys, t) h in
      let r = parts.0 in
      let first = one s r.1 x r.0 parts.1 in
      let rs = parts.2 in
      let rest = all_steps r.1 rs.1 xs rs.0 parts.3 in
      subst (λ (e : List Y × S). Later s e.1 × Each (P e.1) (x ∷ xs) e.0) parts.4
      (further s r.1 rs.1 first.0 rest.0, (kept r.1 rs.1 x r.0 rest.0 first.1, rest.1))

-- PLACES OF TEXTS

-- a place in use stays one, with its text, and there are no more places than references of three bytes can name
pub record Stay (before after : List Place) : Type 0 where
  used : (number : ℕ) → 0 < count_at before number → 0 < count_at after number
  text : (number : ℕ) → 0 < count_at before number → text_at after number ≡ text_at before number
  longer : length before ≤ length after
  few : length before ≤ 16777215 → length after ≤ 16777215

stay_now : (places : List Place) → Stay places places
stay_now places = record { used = λ n h. h; text = λ n h. refl; longer = omega arith; few = λ h. h }

stay_then : (a b c : List Place) → Stay a b → Stay b c → Stay a c
stay_then a b c f g = record {
  used = λ n h. g.used n (f.used n h);
  text = λ n h. g.text n (f.used n h) ∙ f.text n h;
  longer = omega (arith, f.longer, g.longer);
  few = λ h. g.few (f.few h);
}

-- the cell of a value
abbrev pub Stands : List Place → Value → ValueRef → Type 0
Stands places Null c = c ≡ cell.Null
Stands places (Int n) c = c ≡ cell.Int n
Stands places Binary c = c ≡ cell.Binary
Stands places (Str text) c = (number : ℕ) × (c ≡ cell.Str number) × (0 < number) × (number ≤ length places) × (0 < count_at places number) × (text_at places number ≡ text)

stands_later : (before after : List Place) (v : Value) (c : ValueRef) → Stay before after → Stands before v c → Stands after v c
stands_later before after Null c f h = h
stands_later before after (Int n) c f h = h
stands_later before after Binary c f h = h
stands_later before after (Str text) c f h = (h.0, h.1, h.2, omega (arith, h.3, f.longer), f.used h.0 h.4, f.text h.0 h.4 ∙ h.5)

module _ (text : List ℕ) (number : ℕ) (before after : List Place) (h : Takes text number before after) (range : number ≤ max (length before) 16777215) where
  taken_count : count_at after number ≡ count_at before number + 1
  taken_count = ap count_of h.place

  taken_text : text_at after number ≡ text
  taken_text = ap (λ (o : Option Place). option_map_or (λ p. p.text) o []) h.place

  same_place : (n : ℕ) → n - 1 + 1 ≡ number → n - 1 ≡ number - 1
  same_place n e = omega arith

  taken_used : (n : ℕ) → 0 < count_at before n → 0 < count_at after n
  taken_used n u = elim (cases_eq (n - 1 + 1) number) [
    | inl e ↦ (let at : count_at after n ≡ count_at after number = ap (λ (i : ℕ). count_of (slice_get after i)) (same_place n e) in omega (arith, taken_count))
    | inr e ↦ (let at : count_at after n ≡ count_at before n = ap count_of (h.others (n - 1) e) in omega (arith, u))
  ]

  kept_text : (n : ℕ) → 0 < count_at before n → text_at after n ≡ text_at before n
  kept_text n u = elim (cases_eq (n - 1 + 1) number) [
    | inl e ↦ (let same = same_place n e in
        let was : count_at before n ≡ count_at before number = ap (λ (i : ℕ). count_of (slice_get before i)) same in
        ap (λ (i : ℕ). option_map_or (λ (p : Place). p.text) (slice_get after i) []) same ∙ taken_text ∙ sym (h.kept (omega (arith, u)))
        ∙ sym (ap (λ (i : ℕ). option_map_or (λ (p : Place). p.text) (slice_get before i) []) same))
    | inr e ↦ ap (λ (o : Option Place). option_map_or (λ (p : Place). p.text) o []) (h.others (n - 1) e)
  ]

  taken_stay : Stay before after
  taken_stay = record {
    used = taken_used;
    text = kept_text;
    longer = omega (arith, h.many);
    few = λ few. omega (arith, h.many, range);
  }

  taken_stands : Stands after (Str text) (cell.Str number)
  taken_stands = (number, refl, h.from_one, omega (arith, h.many), omega (arith, taken_count), taken_text)

in_range : (i len most : ℕ) → (nat_lt i len || nat_lt i most) ≡ true → i + 1 ≤ max len most
in_range i len most h = grind (arith, rules)

taken_in_range : (before after : List Place) (text : List ℕ) (number : ℕ) → taken true before text ≡ Some (number, after) → number ≤ max (length before) 16777215
taken_in_range before after text number e =
    let i = first_fit text before in
    let answered = cond_some (nat_lt i (length before) || nat_lt i (most_places true)) (i + 1, with_text_at before i text) (number, after) e in
    let parts = some_pair_parts (i + 1) number (with_text_at before i text) after (ap Some answered.1) in
    let range : i + 1 ≤ max (length before) 16777215 = in_range i (length before) 16777215 answered.0 in
    subst (λ (n : ℕ). n ≤ max (length before) 16777215) parts.0 range

abbrev pub Later : PoolInUse → PoolInUse → Type 0
Later s t = Stay s.places t.places

put_stands : (s t : PoolInUse) (v : Value) (c : ValueRef) → cell_put true s v ≡ Some (c, t) → Later s t × Stands t.places v c
put_stands s t Null c h = subst (λ (r : ValueRef × PoolInUse). Later s r.1 × (r.0 ≡ cell.Null)) (some_is {A = ValueRef × PoolInUse} (cell.Null, s) (c, t) h) (stay_now s.places, refl)
put_stands s t (Int n) c h = subst (λ (r : ValueRef × PoolInUse). Later s r.1 × (r.0 ≡ cell.Int n)) (some_is {A = ValueRef × PoolInUse} (cell.Int n, s) (c, t) h) (stay_now s.places, refl)
put_stands s t Binary c h = subst (λ (r : ValueRef × PoolInUse). Later s r.1 × (r.0 ≡ cell.Binary)) (some_is {A = ValueRef × PoolInUse} (cell.Binary, s) (c, t) h) (stay_now s.places, refl)
put_stands s t (Str text) c h =
    let m = map_some {B = ValueRef × PoolInUse} (taken true s.places text) (λ (r : ℕ × List Place). (cell.Str r.0, record { places = r.1; is_used = true })) (c, t) h in
    let takes = taken_takes true s.places m.0.1 text m.0.0 m.1 in
    let range = taken_in_range s.places m.0.1 text m.0.0 m.1 in
    subst (λ (r : ValueRef × PoolInUse). Later s r.1 × Stands r.1.places (Str text) r.0) m.2
    (taken_stay text m.0.0 s.places m.0.1 takes range, taken_stands text m.0.0 s.places m.0.1 takes range)

-- WHAT A CELL OF A VALUE IS

stands_value : (places : List Place) (v : Value) (c : ValueRef) → Stands places v c → value_of_cell places c ≡ v
stands_value places Null c h = ap (value_of_cell places) h
stands_value places (Int n) c h = ap (value_of_cell places) h
stands_value places Binary c h = ap (value_of_cell places) h
stands_value places (Str text) c h = ap (value_of_cell places) h.1 ∙ ap Str h.5

stands_used : (places : List Place) (v : Value) (c : ValueRef) → Stands places v c → NamesPlaceInUse places c
stands_used places Null c h = subst (NamesPlaceInUse places) (sym h) tt
stands_used places (Int n) c h = subst (NamesPlaceInUse places) (sym h) tt
stands_used places Binary c h = subst (NamesPlaceInUse places) (sym h) tt
stands_used places (Str text) c h = subst (NamesPlaceInUse places) (sym h.1) h.4

module _ (places : List Place) (few : length places ≤ 16777215) where
  abbrev long : Bool
  long = is_long_with false places

  in_bound : (number : ℕ) → number ≤ length places → number < reference_bound long
  in_bound number h = elim (cases_lt 65535 (length places)) [
    | inl many ↦ rw (lt-ltb 65535 (length places) many) (omega arith)
    | inr enough ↦ rw (le-ltb 65535 (length places) enough) (omega arith)
  ]

  stands_fits : (type : ColumnType) (v : Value) (c : ValueRef) → FitsCell true type (cell_like v) → Stands places v c → FitsCell long type c
  stands_fits coltype.Int16 Null c f h = subst (FitsCell long coltype.Int16) (sym h) tt
  stands_fits coltype.Int16 (Int n) c f h = subst (FitsCell long coltype.Int16) (sym h) f
  stands_fits coltype.Int16 (Str text) c f h = absurd f
  stands_fits coltype.Int16 Binary c f h = absurd f
  stands_fits coltype.Int32 Null c f h = subst (FitsCell long coltype.Int32) (sym h) tt
  stands_fits coltype.Int32 (Int n) c f h = subst (FitsCell long coltype.Int32) (sym h) f
  stands_fits coltype.Int32 (Str text) c f h = absurd f
  stands_fits coltype.Int32 Binary c f h = absurd f
  stands_fits (coltype.Str k) Null c f h = subst (FitsCell long (coltype.Str k)) (sym h) tt
  stands_fits (coltype.Str k) (Int n) c f h = absurd f
  stands_fits (coltype.Str k) (Str text) c f h = subst (FitsCell long (coltype.Str k)) (sym h.1) (h.2, in_bound h.0 h.3)
  stands_fits (coltype.Str k) Binary c f h = absurd f
  stands_fits coltype.Binary Null c f h = subst (FitsCell long coltype.Binary) (sym h) tt
  stands_fits coltype.Binary (Int n) c f h = absurd f
  stands_fits coltype.Binary (Str text) c f h = absurd f
  stands_fits coltype.Binary Binary c f h = subst (FitsCell long coltype.Binary) (sym h) tt

  cells_fit : (columns : List (ℕ × Shape)) (values : List Value) (cells : List ValueRef) → FitColumns true columns (map cell_like values) → Each (Stands places) values cells → FitColumns long columns cells
  cells_fit [] [] [] f h = tt
  cells_fit [] [] (c ∷ cs) f h = absurd h
  cells_fit [] (v ∷ vs) cs f h = absurd f
  cells_fit (column ∷ columns) [] cs f h = absurd f
  cells_fit (column ∷ columns) (v ∷ vs) [] f h = absurd h
  cells_fit (column ∷ columns) (v ∷ vs) (c ∷ cs) f h = (stands_fits column.1.coltype v c f.0 h.0, cells_fit columns vs cs f.1 h.1)

module _ (places : List Place) where
  cells_used : (values : List Value) (cells : List ValueRef) → Each (Stands places) values cells → AllByRecursion (NamesPlaceInUse places) cells
  cells_used [] [] h = tt
  cells_used [] (c ∷ cs) h = absurd h
  cells_used (v ∷ vs) [] h = absurd h
  cells_used (v ∷ vs) (c ∷ cs) h = (stands_used places v c h.0, cells_used vs cs h.1)

  cells_read : (values : List Value) (cells : List ValueRef) → Each (Stands places) values cells → map (value_of_cell places) cells ≡ values
  cells_read [] [] h = refl
  cells_read [] (c ∷ cs) h = absurd h
  cells_read (v ∷ vs) [] h = absurd h
  cells_read (v ∷ vs) (c ∷ cs) h = λ i. stands_value places v c h.0 i ∷ cells_read vs cs h.1 i

  -- the record of a told one
  abbrev pub IsStored : ToldRecord → Record → Type 0
  IsStored r stored = (stored.action ≡ r.action) × Each (Stands places) r.values stored.cells

  abbrev pub AreStored : ToldTable → ToldTable × List Record → Type 0
  AreStored table e = (e.0 ≡ table) × Each IsStored table.records e.1

values_stored : (s t : PoolInUse) (values : List Value) (cells : List ValueRef) → in_turn (cell_put true) s values ≡ Some (cells, t) → Later s t × Each (Stands t.places) values cells
values_stored = all_steps (cell_put true) Later (λ s v c. Stands s.places v c) (λ s. stay_now s.places) (λ s t u. stay_then s.places t.places u.places)
    (λ s t v c. stands_later s.places t.places v c) put_stands

same_action : (a b : Action) → stored_action a ≡ Some b → b ≡ a
same_action (Add k) b h = sym (some_is (Add k) b (guard_passed (nat_lt 255 k) (Some (Add k)) b h).1)
same_action Remove b h = sym (some_is Remove b h)
same_action (Change mask) b h = sym (some_is (Change mask) b h)

record_stored : (s t : PoolInUse) (r : ToldRecord) (stored : Record) → stored_record s r ≡ Some (stored, t) → Later s t × IsStored t.places r stored
record_stored s t r stored h =
    elim (stored_action r.action) as (λ o. stored_action r.action ≡ o → option_and_then (stored_record_with s r.values) o ≡ Some (stored, t) → Later s t × IsStored t.places r stored) [
      | None ↦ λ a e. none_is e
      | Some action ↦ λ a e.
          let m = map_some {B = Record × PoolInUse} (in_turn (cell_put true) s r.values) (λ (p : List ValueRef × PoolInUse). (record_with action p.0, p.1)) (stored, t) e in
          let v = values_stored s m.0.1 r.values m.0.0 m.1 in
          subst (λ (p : Record × PoolInUse). Later s p.1 × IsStored p.1.places r p.0) m.2 (v.0, (same_action r.action action a, v.1))
    ] refl h

stored_later : (before after : List Place) (r : ToldRecord) (stored : Record) → Stay before after → IsStored before r stored → IsStored after r stored
stored_later before after r stored f h = (h.0, each_as (Stands before) (Stands after) (λ v c. stands_later before after v c f) r.values stored.cells h.1)

records_stored : (s t : PoolInUse) (records : List ToldRecord) (stored : List Record) → in_turn stored_record s records ≡ Some (stored, t) → Later s t × Each (IsStored t.places) records stored
records_stored = all_steps stored_record Later (λ s r stored. IsStored s.places r stored) (λ s. stay_now s.places) (λ s t u. stay_then s.places t.places u.places)
    (λ s t r stored. stored_later s.places t.places r stored) record_stored

table_stored : (s t : PoolInUse) (table : ToldTable) (e : ToldTable × List Record) → stored_table s table ≡ Some (e, t) → Later s t × AreStored t.places table e
table_stored s t table e h =
    let m = map_some {B = (ToldTable × List Record) × PoolInUse} (in_turn stored_record s table.records) (λ (p : List Record × PoolInUse). ((table, p.0), p.1)) (e, t) h in
    let v = records_stored s m.0.1 table.records m.0.0 m.1 in
    subst (λ (p : (ToldTable × List Record) × PoolInUse). Later s p.1 × AreStored p.1.places table p.0) m.2 (v.0, (refl, v.1))

pub all_stored : (s t : PoolInUse) (tables : List ToldTable) (es : List (ToldTable × List Record)) → in_turn stored_table s tables ≡ Some (es, t) → Later s t × Each (AreStored t.places) tables es
all_stored = all_steps stored_table Later (λ s table e. AreStored s.places table e) (λ s. stay_now s.places) (λ s t u. stay_then s.places t.places u.places)
    (λ s t table e f h. (h.0, each_as (IsStored s.places) (IsStored t.places) (λ r stored. stored_later s.places t.places r stored f) table.records e.1 h.1)) table_stored

-- WHERE A TABLE'S RECORDS ARE

pub names_total : IsTotalOrder list_cmp
names_total = lists_total nat_cmp_total

pub find_by_names : (name : List ℕ) (es : List (List ℕ × List ℕ)) → find list_cmp name (by_names es) ≡ find list_cmp name es
find_by_names name [] = refl
find_by_names name (e ∷ es) = find-put list_cmp names_total name e.0 e.1 (by_names es) ∙ ap (cond (eq_by_cmp list_cmp name e.0) (Some e.1)) (find_by_names name es)

pub other_name : (a b : List ℕ) → bytes_eq b a ≡ false → eq_by_cmp list_cmp a b ≡ false
other_name a b h = by_test (eq_by_cmp list_cmp a b)
    (λ t. let same : a ≡ b = (bytes_decides a b).0 (sym (is_eq-slice_cmp a b) ∙ t) in yes_is_no (bytes_eq b a) ((bytes_decides b a).1 (sym same)) h)
    (λ t. t)

pub neither : (a b : Bool) → (a || b) ≡ false → (a ≡ false) × (b ≡ false)
neither true b h = yes_is_no true refl h
neither false b h = (refl, h)

-- no later name is the first
found_behind : (e : List ℕ × List ℕ) (all es : List (List ℕ × List ℕ)) → list_any (bytes_eq e.0) (map (λ f. f.0) es) ≡ false
    → AllByRecursion (λ f. find list_cmp f.0 all ≡ Some f.1) es → AllByRecursion (λ f. find list_cmp f.0 (e ∷ all) ≡ Some f.1) es
found_behind e all [] apart h = tt
found_behind e all (f ∷ fs) apart h =
    let p = neither (bytes_eq e.0 f.0) (list_any (bytes_eq e.0) (map (λ f. f.0) fs)) apart in
    (rw (other_name f.0 e.0 p.0) h.0, found_behind e all fs p.1 h.1)

each_found : (es : List (List ℕ × List ℕ)) → has_pair bytes_eq (map (λ e. e.0) es) ≡ false → AllByRecursion (λ e. find list_cmp e.0 es ≡ Some e.1) es
each_found [] apart = tt
each_found (e ∷ es) apart =
    let p = neither (list_any (bytes_eq e.0) (map (λ f. f.0) es)) (has_pair bytes_eq (map (λ f. f.0) es)) apart in
    (rw (tied_itself names_total e.0) refl, found_behind e es es p.0 (each_found es p.1))

-- THE RECORDS THAT ARE READ

module _ (shapes : List Shape) (pool : Pool) (few : length pool.places ≤ 16777215) (wide : pool.long ≡ is_long_with false pool.places) where
  records_are : (records : List ToldRecord) (stored : List Record) → AllByRecursion (IsSpellable shapes) records → Each (IsStored pool.places) records stored → AllByRecursion (IsRecord shapes pool) stored
  records_are [] [] f h = tt
  records_are [] (r ∷ rs) f h = absurd h
  records_are (t ∷ ts) [] f h = absurd h
  records_are (t ∷ ts) (r ∷ rs) f h =
      let fits : FitsRecord pool.long shapes r = record {
        action = subst IsAction (sym h.0.0) f.0.action;
        columns = ap (fits_columns shapes) h.0.0 ∙ f.0.columns;
        cells = subst (λ (long : Bool). FitColumns long (told shapes r.action) r.cells) (sym wide)
            (subst (λ (a : Action). FitColumns (is_long_with false pool.places) (told shapes a) r.cells) (sym h.0.0) (cells_fit pool.places few (told shapes t.action) t.values r.cells f.0.cells h.0.1));
      } in
      (record { fits = fits; texts = cells_used pool.places t.values r.cells h.0.1 }, records_are ts rs f.1 h.1)

  read_again : (records : List ToldRecord) (stored : List Record) → AllByRecursion (IsSpellable shapes) records → Each (IsStored pool.places) records stored
      → records_in shapes pool (flat_map (record_bytes pool.long shapes) stored) ≡ Some stored
  read_again records stored f h = spelled_records_are_read shapes pool (flat_map (record_bytes pool.long shapes) stored) stored (record { whole = refl; each = records_are records stored f h })

same_values : (t : TransformDef) (records : List ToldRecord) (stored : List Record) → Each (IsStored t.pool.places) records stored → map (as_values t) stored ≡ map action_and_values records
same_values t [] [] h = refl
same_values t [] (r ∷ rs) h = absurd h
same_values t (x ∷ xs) [] h = absurd h
same_values t (x ∷ xs) (r ∷ rs) h = λ i. (h.0.0 i, cells_read t.pool.places x.values r.cells h.0.1 i) ∷ same_values t xs rs h.1 i

module _ (t : TransformDef) (few : length t.pool.places ≤ 16777215) (wide : t.pool.long ≡ is_long_with false t.pool.places) where
  tables_read : (tables : List ToldTable) (es : List (ToldTable × List Record)) → Each (AreStored t.pool.places) tables es
      → AllByRecursion (λ (table : ToldTable). AllByRecursion (IsSpellable table.shapes) table.records) tables
      → AllByRecursion (λ (e : List ℕ × List ℕ). find list_cmp e.0 t.tables ≡ Some e.1) (map (table_records t.pool.long) es)
      → AllByRecursion (λ table. values_read t table ≡ Some (map action_and_values table.records)) tables
  tables_read [] [] h f at = tt
  tables_read [] (e ∷ es) h f at = absurd h
  tables_read (table ∷ tables) [] h f at = absurd h
  tables_read (table ∷ tables) (e ∷ es) h f at =
      let found : records_for table.name t ≡ Some (flat_map (record_bytes t.pool.long table.shapes) e.1) =
      subst (λ (u : ToldTable). find list_cmp u.name t.tables ≡ Some (flat_map (record_bytes t.pool.long u.shapes) e.1)) h.0.0 at.0 in
      let again = read_again table.shapes t.pool few wide table.records e.1 f.0 h.0.1 in (
        ap (λ (o : Option (List ℕ)). option_map (map (as_values t)) (option_and_then (records_in table.shapes t.pool) o)) found
            ∙ ap (option_map (map (as_values t))) again ∙ ap Some (same_values t table.records e.1 h.0.1),
        tables_read tables es h.1 f.1 at.1,
      )

names_stored : (places : List Place) (wide : Bool) (tables : List ToldTable) (es : List (ToldTable × List Record)) → Each (AreStored places) tables es
    → map (λ (table : ToldTable). table.name) tables ≡ map (λ (e : List ℕ × List ℕ). e.0) (map (table_records wide) es)
names_stored places wide [] [] h = refl
names_stored places wide [] (e ∷ es) h = absurd h
names_stored places wide (table ∷ tables) [] h = absurd h
names_stored places wide (table ∷ tables) (e ∷ es) h = λ i. (sym h.0.0 i).name ∷ names_stored places wide tables es h.1 i

all_in_order : (es fs : List (List ℕ × List ℕ)) → AllByRecursion (λ e. find list_cmp e.0 fs ≡ Some e.1) es → AllByRecursion (λ e. find list_cmp e.0 (by_names fs) ≡ Some e.1) es
all_in_order [] fs h = tt
all_in_order (e ∷ es) fs h = (find_by_names e.0 fs ∙ h.0, all_in_order es fs h.1)

pub stored_records_are_read : StoredRecordsAreRead
stored_records_are_read page_id new tables stored is fits apart =
    let t = transform_with page_id new tables stored in
    let all = all_stored (record { places = []; is_used = false }) stored.1 tables stored.0 is in
    let few : length t.pool.places ≤ 16777215 = all.0.few (omega arith) in
    let names = names_stored t.pool.places t.pool.long tables stored.0 all.1 in
    tables_read t few refl tables stored.0 all.1 fits
    (all_in_order (map (table_records t.pool.long) stored.0) (map (table_records t.pool.long) stored.0)
    (each_found (map (table_records t.pool.long) stored.0) (ap (has_pair bytes_eq) (sym names) ∙ apart)))
