-- The records of a table applied to its rows, one after the other.
use Rattle.std.proofs.Common.{◌≡◌, ℕ, zero, suc, ◌+◌, ◌≤◌, false, List, [], ◌∷◌, ◌++◌, length, map, refl, sym, ap, ◌∙◌, arith}
use Rattle.std.specs.Prelude.{Result, Ok, Err, count_by, ◌==◌}
use Rattle.std.specs.List.{AllByRecursion, list_any}
use Rattle.msi_base.specs.declared.codepage.CodePage.TheVariants.{Utf8}
use Rattle.msi_base.specs.declared.errors.ErrorKind.{ErrorKind}
use Rattle.msi_pool.specs.Pool.{Place}
use Rattle.msi_pool.specs.FirstFitLaws.{TakenPlacesHoldTheirText, GivenBackTakesOne}
use Rattle.msi_table.specs.Census.{numbers_of_rows}
use Rattle.msi_table_cells.specs.declared.cell.ValueRef.{ValueRef}
use Rattle.msi_database_schema.proofs.AccountLemmas.{Uses, room, room_at}
use Rattle.msi_database_changes.specs.Database.{Database}
use Rattle.msi_database_changes.proofs.text_counts.RowsLemmas.{rows_uses}
use Rattle.msi_database_changes.proofs.text_counts.TablesLemmas.{naming_is}
use Rattle.msi_database_storage.specs.Streams.{Streams}
use Rattle.msi_transform_records.specs.declared.records.Record.{Record}
use Rattle.msi_transform_rows.specs.RecordRefusals.{Refusal, at_record, in_turn_from, ◌>>=◌}
use Rattle.msi_transform_rows.specs.RowChanges.{Rows, RowsInHand, TableChange, cells_of, record_applied}
use Rattle.msi_transform_making.specs.Making.{ToldRecord, ToldRows}
use Rattle.msi_transform_laws.specs.CarriedOut.{is_key_of_streams, record_done}
use Rattle.msi_transform_laws.specs.RecordsRead.{action_and_values, as_values}
use Rattle.msi_transform_laws.specs.CanFollow.{CanFollowInTurn}
use Rattle.msi_transform_laws.specs.RowsApplied.{AreApplied, CountsCells, HaveValuesOf, IsInTransform, RecordsAreApplied, SaySame, cells_naming, texts_of}
use Rattle.msi_transform_laws.proofs.OneRecordLemmas.{Accounts, one_record}

-- THE CELLS THAT NAME A PLACE

-- rows as those of a database without tables
abbrev alone : List (List ValueRef) → Database
alone rows = record { pool = record { page = Utf8; long = false; places = [] }; tables = []; unlisted_validation = rows }

pub naming_cells : (rows : List (List ValueRef)) (n : ℕ) → count_by (λ m. m == n) (numbers_of_rows rows) ≡ rows_uses rows n
naming_cells rows n = let is = naming_is (alone rows) n in omega (arith, is)

naming : (rows : Rows) (n : ℕ) → cells_naming rows n ≡ rows_uses (cells_of rows) n
naming rows n = naming_cells (cells_of rows) n

pub accounts_of : (others : Uses) (places : List Place) (rows : Rows) → CountsCells others places rows → Accounts others places rows
accounts_of others places rows counts zero = omega (arith, counts.from_one, naming rows 0)
accounts_of others places rows counts (suc i) = omega (arith, counts.counts (suc i) (omega arith), naming rows (suc i), room_at places (suc i) (omega arith))

pub counts_of : (others : Uses) (places : List Place) (rows : Rows) → Accounts others places rows → CountsCells others places rows
counts_of others places rows accounts = record {
  counts = λ n from_one. omega (arith, accounts n, naming rows n, room_at places n from_one);
  from_one = omega (arith, accounts 0, naming rows 0);
}

-- ONE AFTER THE OTHER

abbrev answer : {S : Type 0} → S → Result S Refusal
answer s = Ok s

pub same_answer : {S : Type 0} (s u : S) → answer s ≡ answer u → s ≡ u
same_answer s u is = cc

answered_first : {S : Type 0} (r : Result S Refusal) (f : S → Result S Refusal) (u : S) → (r >>= f) ≡ answer u → (x : S) × (r ≡ answer x) × (f x ≡ answer u)
answered_first (Ok x) f u is = (x, refl, is)
answered_first (Err refusal) f u is = cc

-- records of which the first ones leave one state, and the others another
pub joined_applied : {S : Type 0} (table number : ℕ) (step : S → Record → Result S ErrorKind) (s u v : S) (qs rs : List Record) → in_turn_from table step number s qs ≡ answer u
    → in_turn_from table step (number + length qs) u rs ≡ answer v → in_turn_from table step number s (qs ++ rs) ≡ answer v
joined_applied table number step s u v [] rs is rest =
    let none : number ≡ number + 0 = omega arith in
    ap (λ x. in_turn_from table step number x rs) (same_answer s u is) ∙ ap (λ (n : ℕ). in_turn_from table step n u rs) none ∙ rest
joined_applied {S} table number step s u v (q ∷ qs) rs is rest =
    let one = answered_first (at_record table number (step s q)) (λ x. in_turn_from table step (number + 1) x qs) u is in
    let next : number + suc (length qs) ≡ number + 1 + length qs = omega arith in
    ap (λ (result : Result S Refusal). result >>= λ x. in_turn_from table step (number + 1) x (qs ++ rs)) one.1
    ∙ joined_applied table (number + 1) step one.0 u v qs rs one.2 (ap (λ (n : ℕ). in_turn_from table step n u rs) (sym next) ∙ rest)

-- the first of some records, in any state
pub first_applied : {S : Type 0} (table number : ℕ) (step : S → Record → Result S ErrorKind) (s u : S) (q : Record) (qs : List Record) → step s q ≡ Ok u
    → in_turn_from table step number s (q ∷ qs) ≡ in_turn_from table step (number + 1) u qs
first_applied {S} table number step s u q qs is = ap (λ (result : Result S ErrorKind). at_record table number result >>= λ v. in_turn_from table step (number + 1) v qs) is

abbrev answered : RowsInHand → Result RowsInHand Refusal
answered s = Ok s

module _ (takes : TakenPlacesHoldTheirText) (gives : GivenBackTakesOne) (streams : Streams) (change : TableChange) (others : Uses) (plain : list_any is_key_of_streams change.columns ≡ false) where
  all_applied : (table number : ℕ) (before : RowsInHand) (valued : ToldRows) (records : List ToldRecord) (stored : List Record)
      → SaySame change.by records stored → AllByRecursion (IsInTransform change) records → HaveValuesOf streams change before.pool.places before.rows valued
      → CanFollowInTurn change.columns valued records → Accounts others before.pool.places before.rows → length before.pool.places + texts_of records ≤ 16777215
      → (after : RowsInHand) × (in_turn_from table (record_applied change) number before stored ≡ Ok after) × AreApplied streams change others before valued records after
  all_applied table number before valued [] [] same are alike follow accounts room =
      (before, refl, record { rows = alike; counted = counts_of others before.pool.places before.rows accounts; kept = λ n u. refl; longer = omega arith })
  all_applied table number before valued [] (r ∷ rs) same are alike follow accounts room = absurd cc
  all_applied table number before valued (r ∷ rs) [] same are alike follow accounts room = absurd cc
  all_applied table number before valued (r ∷ rs) (q ∷ qs) same are alike follow accounts room =
      let first : as_values change.by q ≡ action_and_values r = cc in
      let rest : map (as_values change.by) qs ≡ map action_and_values rs = cc in
      let one = one_record takes gives streams change others plain before valued alike accounts r q first are.0 follow.0 (omega (arith, room)) in
      let s = one.0 in
      let all = all_applied table (number + 1) s (record_done change.columns valued r) rs qs rest are.1 one.2.rows follow.1 one.2.accounts (omega (arith, room, one.2.longer)) in (
        all.0,
        ap (λ (result : Result RowsInHand ErrorKind). at_record table number result >>= λ s. in_turn_from table (record_applied change) (number + 1) s qs) one.1 ∙ all.1,
        record {
          rows = all.2.rows;
          counted = all.2.counted;
          kept = λ n u. all.2.kept n u ∙ one.2.kept n u;
          longer = omega (arith, all.2.longer, one.2.longer);
        },
      )

pub records_are_applied : TakenPlacesHoldTheirText → GivenBackTakesOne → RecordsAreApplied
records_are_applied takes gives streams change others before valued records stored table number same are plain alike follow counts room =
    all_applied takes gives streams change others plain table number before valued records stored same are alike follow (accounts_of others before.pool.places before.rows counts) room
