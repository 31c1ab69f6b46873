-- A call that adds a column: what it makes of what it has in hand, and what refuses it.
use Rattle.std.proofs.Common.{◌≡◌, ℕ, ◌+◌, ◌<◌, ◌≤◌, Bool, true, false, not, List, [], ◌∷◌, ◌++◌, length, Option, Some, None, Result, Ok, Err, refl, sym, ap, subst, ◌∙◌, inl, inr, arith}
use Rattle.std.proofs.lemmas.List.{length-append}
use Rattle.msi_base.specs.declared.errors.ErrorKind.{ErrorKind}
use Rattle.msi_base.specs.declared.errors.ErrorKind.TheVariants.{InvalidData, InvalidInput, NotFound}
use Rattle.msi_base.specs.Refusals.{IsRefusal, Refusals, first_refusal, unless_refused}
use Rattle.msi_pool.specs.FirstFit.{most_places}
use Rattle.msi_pool.specs.Pool.{Pool}
use Rattle.msi_table_cells.specs.declared.cell.ValueRef.{ValueRef}
use Rattle.msi_table_cells.specs.TableCells.{TableCells}
use Rattle.msi_table_values.specs.Columns.{ColumnDef}
use Rattle.msi_table.specs.Tables.{TableDef}
use Rattle.msi_database_schema.specs.Keys.{is_table_name}
use Rattle.msi_database_schema.specs.System.{is_system_table, validation_name}
use Rattle.msi_database_changes.specs.AddColumn.{ColumnRows, add_column, add_column_at_width, early_column_refusals, new_column_refusals}
use Rattle.msi_database_changes.specs.Changes.{missing_or, no_change, pool_of}
use Rattle.msi_database_changes.specs.Database.{Database, has_table, is_sound, table_at}
use Rattle.msi_database_changes.specs.Storing.{HaveOwnNames}
use Rattle.msi_database_changes.specs.Texts.{PoolInUse, UsedPool, in_use, settled}
use Rattle.msi_database_changes.specs.Widening.{widened}
use Rattle.msi_database_changes.specs.declared.storing.Stored.{Stored}
use Rattle.msi_database_changes.proofs.steps.AtWidthLemmas.{column_added, sound_widened}
use Rattle.msi_database_changes.specs.Drop.{drop_refusals, early_drop_refusals}
use Rattle.msi_database_changes.proofs.steps.RefusedLemmas.{behind_passed, first_refused, front_fails, front_holds, not_refused, refused_first, tail_holds}
use Rattle.msi_base.proofs.OptionLemmas.{map_some}
use Rattle.msi_database.specs.Listed.{IsKnown}
use Rattle.msi_database_storage.specs.Kept.{Kept, kept_widened}
use Rattle.msi_database.specs.AddingColumn.{CanHoldColumn, IsLengthened, column_streams, rows_for_column, rows_lengthened, tables_over}
use Rattle.msi_database.specs.Keeping.{IsKeptDatabase}
use Rattle.msi_database.specs.Making.{Makes, TellsUse, base_with, wide_for}
use Rattle.msi_database.proofs.calls.AcceptedCallLemmas.{found}
use Rattle.msi_database.proofs.calls.ColumnCallLemmas.{column_barred}
use Rattle.msi_database.proofs.calls.RowCallLemmas.{began_as}
use Rattle.msi_database.proofs.keeping.KeepingLemmas.{change_comes}
use Rattle.msi_database.proofs.widths.ColumnAtBothWidthsLemmas.{Adds, Described, adds_at, described, hold_column, lengthened_refused, places_long}
use Rattle.msi_database.proofs.widths.TablesAtBothWidthsLemmas.{tables_anew}
use Rattle.msi_database.proofs.widths.WideRefusalLemmas.{refused_either, refused_widening}
use Rattle.msi_database.proofs.widths.WideningLemmas.{widened_kept}

-- what refuses it at one width refuses it at the other
abbrev behind : Database → List ℕ → ColumnDef → Refusals
behind d name column = (is_system_table name, InvalidInput) ∷ (not (is_table_name name), InvalidInput) ∷ missing_or (table_at name d)
    (λ t. new_column_refusals t.columns column ++ (not (has_table validation_name d), NotFound) ∷ [])

same_early : (d : Database) (name : List ℕ) (column : ColumnDef) → is_sound d ≡ true → first_refusal (early_column_refusals (widened d) name column) ≡ first_refusal (early_column_refusals d name column)
same_early d name column sound = ap (λ b. first_refusal ((not b, InvalidData) ∷ behind d name column)) (sound_widened d sound ∙ sym sound)

module _ (k : Kept) (kept : IsKeptDatabase k) (sound : is_sound k.database ≡ true) (name : List ℕ) (t : TableCells) (column : ColumnDef) (at : table_at name k.database ≡ Some t)
    (passed : first_refusal (early_column_refusals k.database name column) ≡ None)
    (rows : ColumnRows) (used : UsedPool) (page : used.pool.page ≡ k.database.pool.page) (long : used.pool.long ≡ k.database.pool.long)
    (made : rows_for_column k.database name column (pool_of (no_change k.database)) t ≡ Ok (rows, in_use used)) where
  abbrev old : Database
  old = k.database

  abbrev all : List ColumnDef
  all = t.columns ++ column ∷ []

  wide_kept : IsKeptDatabase (kept_widened k)
  wide_kept = widened_kept k kept sound

  wide_sound : is_sound (widened old) ≡ true
  wide_sound = sound_widened old sound

  wide_passed : first_refusal (early_column_refusals (widened old) name column) ≡ None
  wide_passed = same_early old name column sound ∙ passed

  steps : Described old name t column (pool_of (no_change old)) (rows, in_use used)
  steps = described old name t column (pool_of (no_change old)) (rows, in_use used) made

  wide_steps : Described (widened old) name t column (pool_of (no_change (widened old))) (rows, in_use used)
  wide_steps = described (widened old) name t column (pool_of (no_change (widened old))) (rows, in_use used) made

  few : length used.pool.places ≤ 16777215
  few = places_long (kept_widened k) wide_kept wide_sound name t column (rows, in_use used) wide_steps refl

  wide_adds : Adds (kept_widened k) name column all (column_streams (widened old) name all rows) (in_use used)
  wide_adds = adds_at (kept_widened k) wide_kept wide_sound name t column at wide_passed (rows, in_use used) wide_steps few

  same_adds : length used.pool.places ≤ most_places old.pool.long → Adds k name column all (column_streams old name all rows) (in_use used)
  same_adds suffices = adds_at k kept sound name t column at passed (rows, in_use used) steps suffices

  abbrev tables_of : Kept → List TableDef
  tables_of base = tables_over base.database name all

  abbrev es_of : Kept → List Stored
  es_of base = column_streams base.database name all rows

  abbrev base : Kept
  base = base_with (wide_for used k) k

  abbrev Holds : Kept → Type 0
  Holds b = HaveOwnNames (es_of b) × CanHoldColumn b.database all rows

  pub record Left : Type 0 where
    pub makes : Makes k (add_column old name column) base (settled used.pool) (tables_of base) (es_of base)
    pub uses : TellsUse (add_column old name column) used.is_used
    pub holds : Holds base

  pub left : Left
  left =
      let new = tables_anew k sound (λ d. add_column_at_width d name column)
      (λ c e. (change_comes k c kept sound (inr (column_added name column e))).tracks.long)
      (λ c e. (change_comes (kept_widened k) c wide_kept wide_sound (inr (column_added name column e))).tracks.long)
      used page long few tables_of es_of (wide_adds.makes (record (widened old).pool { places = used.pool.places }) refl) wide_adds.tells
      (λ suffices. (same_adds suffices).makes (record old.pool { places = used.pool.places }) refl) (λ suffices. (same_adds suffices).tells)
      Holds (wide_adds.own, hold_column (kept_widened k) wide_kept wide_sound name t column (rows, in_use used) wide_steps at wide_passed few)
      (λ suffices. ((same_adds suffices).own, hold_column k kept sound name t column (rows, in_use used) steps at passed suffices)) in
      record { makes = new.makes; uses = new.uses; holds = new.holds }

pub record ColumnLeft (k : Kept) (name : List ℕ) (column : ColumnDef) (columns : List ColumnDef) (rows : ColumnRows) (used : UsedPool) : Type 0 where
  pub makes : let base = base_with (wide_for used k) k in
      Makes k (add_column k.database name column) base (settled used.pool) (tables_over base.database name columns) (column_streams base.database name columns rows)
  pub uses : TellsUse (add_column k.database name column) used.is_used
  pub names : HaveOwnNames (column_streams (base_with (wide_for used k) k).database name columns rows)
  pub held : CanHoldColumn (base_with (wide_for used k) k).database columns rows

-- FROM WHAT A CALL KNOWS

module _ (k : Kept) (kept : IsKeptDatabase k) (sound : is_sound k.database ≡ true) (pool : Pool) (pool_is : pool ≡ k.database.pool) (cloned : Pool) (cloned_is : cloned ≡ pool) (before : UsedPool) (before_is : before ≡ record { pool = cloned; is_used = false })
    (name named : List ℕ) (same_name : named ≡ name) (column seen : ColumnDef) (seen_is : seen ≡ column) (t : TableCells) (at : table_at name k.database ≡ Some t) (passed : first_refusal (early_column_refusals k.database name seen) ≡ None) where
  began : before ≡ record { pool = k.database.pool; is_used = false }
  began = began_as k.database.pool before cloned before_is (cloned_is ∙ pool_is)

  rows_are : rows_lengthened k.database named seen (in_use before) ≡ rows_for_column k.database name column (pool_of (no_change k.database)) t
  rows_are = (λ i. rows_lengthened k.database (same_name i) (seen_is i) (in_use (began i)))
      ∙ found NotFound (table_at name k.database) t (rows_for_column k.database name column (pool_of (no_change k.database))) at

  passed_here : first_refusal (early_column_refusals k.database name column) ≡ None
  passed_here = subst (λ (c : ColumnDef). first_refusal (early_column_refusals k.database name c) ≡ None) seen_is passed

  pub column_called : (columns : List ColumnDef) → columns ≡ t.columns ++ column ∷ [] → (rows : ColumnRows) (after : UsedPool) → after.pool.page ≡ before.pool.page → after.pool.long ≡ before.pool.long
      → rows_lengthened k.database named seen (in_use before) ≡ Ok (rows, in_use after) → ColumnLeft k name column columns rows after
  column_called columns columns_are rows after page long made =
      let h = left k kept sound name t column at passed_here rows after (page ∙ ap (λ (u : UsedPool). u.pool.page) began) (long ∙ ap (λ (u : UsedPool). u.pool.long) began) (sym rows_are ∙ made) in
      subst (λ (cs : List ColumnDef). ColumnLeft k name column cs rows after) (sym columns_are) (record { makes = h.makes; uses = h.uses; names = h.holds.0; held = h.holds.1 })

  -- rows that are refused are refused with references of three bytes too
  pub column_rows_refused : (kind : ErrorKind) → IsRefusal (rows_lengthened k.database named seen (in_use before)) kind → IsRefusal (add_column k.database name column) kind
  column_rows_refused kind h = refused_widening (λ d. add_column_at_width d name column) k.database kind sound
      (lengthened_refused k kept sound name t column kind at (same_early k.database name column sound ∙ passed_here)
      (subst (λ (r : Result (ColumnRows × PoolInUse) ErrorKind). IsRefusal r kind) rows_are h))

pub column_barred_either : (d : Database) (name : List ℕ) (column : ColumnDef) (kind : ErrorKind) → first_refusal (early_column_refusals d name column) ≡ Some kind → IsRefusal (add_column d name column) kind
column_barred_either d name column kind e =
    refused_either (λ d. add_column_at_width d name column) d kind (column_barred d name column kind (inr (first_refused (early_column_refusals d name column) tt kind e)))
    (λ sound. column_barred (widened d) name column kind (inr (first_refused (early_column_refusals (widened d) name column) tt kind (same_early d name column sound ∙ e))))

-- with what it made in hand
module _ (k : Kept) (name : List ℕ) (column : ColumnDef) (columns : List ColumnDef) (rows : ColumnRows) (used : UsedPool) (left : ColumnLeft k name column columns rows used)
    (wide : Option Kept) (es : List Stored) (tables : List TableDef) (new : Pool) (is_used : Bool) (is : IsLengthened k name columns rows used wide es tables new is_used) where
  pub column_made_with : Makes k (add_column k.database name column) (base_with wide k) new tables es
  column_made_with =
      let r = add_column k.database name column in
      subst (λ (w : Option Kept). Makes k r (base_with w k) new tables es) (sym is.base)
      (subst (λ (p : Pool). Makes k r (base_with (wide_for used k) k) p tables es) (sym is.pool)
      (subst (λ (ts : List TableDef). Makes k r (base_with (wide_for used k) k) (settled used.pool) ts es) (sym is.tables)
      (subst (λ (es : List Stored). Makes k r (base_with (wide_for used k) k) (settled used.pool) (tables_over (base_with (wide_for used k) k).database name columns) es) (sym is.stored) left.makes)))

  pub column_told_with : TellsUse (add_column k.database name column) is_used
  column_told_with = subst (TellsUse (add_column k.database name column)) (sym is.uses) left.uses

  pub column_named_with : HaveOwnNames es
  column_named_with = subst HaveOwnNames (sym is.stored) left.names

-- OVER THE OLD DATABASE, or over that with wider references

module _ (old : Kept) (name : List ℕ) (columns : List ColumnDef) (rows : ColumnRows) (used : UsedPool) (over : Option Kept) (over_is : over ≡ wide_for used old) where
  pub lengthened_held : CanHoldColumn (base_with (wide_for used old) old).database columns rows → CanHoldColumn (base_with over old).database columns rows
  lengthened_held = subst (λ (w : Option Kept). CanHoldColumn (base_with w old).database columns rows) (sym over_is)

  pub lengthened_made : (wide : Option Kept) → wide ≡ over → (streams given : List Stored) → streams ≡ given → given ≡ column_streams (base_with over old).database name columns rows
      → (after listed : List TableDef) → after ≡ listed → listed ≡ tables_over (base_with over old).database name columns → (new : Pool) → new ≡ settled used.pool → (is_pool_used : Bool) → is_pool_used ≡ used.is_used
      → IsLengthened old name columns rows used wide streams after new is_pool_used
  lengthened_made wide wide_is streams given streams_are given_are after listed after_is listed_are new new_is is_pool_used uses = record {
    base = wide_is ∙ over_is;
    stored = streams_are ∙ given_are ∙ ap (λ (w : Option Kept). column_streams (base_with w old).database name columns rows) over_is;
    tables = after_is ∙ listed_are ∙ ap (λ (w : Option Kept). tables_over (base_with w old).database name columns) over_is;
    pool = new_is;
    uses = uses;
  }

-- WHAT IS TOLD BEFORE ROWS ARE LOOKED AT

pub known_there : (d : Database) (name : List ℕ) (t : TableDef) → IsKnown d name t → (u : TableCells) × (table_at name d ≡ Some u) × (u.columns ≡ t.columns)
known_there d name t known =
    let (u, at, is) = map_some (table_at t.name d) (λ (u : TableCells). record { name = t.name; columns = u.columns; long = d.pool.long }) t known.listed in
    (u, ap (λ (n : List ℕ). table_at n d) (sym known.named) ∙ at, ap (λ (t : TableDef). t.columns) is)

abbrev of_table : Database → ColumnDef → List ColumnDef → Refusals
of_table d column columns = new_column_refusals columns column ++ (not (has_table validation_name d), NotFound) ∷ []

missing_holds : (o : Option TableCells) (f : TableCells → Refusals) (kind : ErrorKind) → first_refusal (missing_or o (λ t. [])) ≡ Some kind → first_refusal (missing_or o f) ≡ Some kind
missing_holds None f kind e = e
missing_holds (Some t) f kind e = cc

pub column_dropped_early : (d : Database) (name : List ℕ) (column : ColumnDef) (kind : ErrorKind) → first_refusal (early_drop_refusals d name) ≡ Some kind → first_refusal (early_column_refusals d name column) ≡ Some kind
column_dropped_early d name column kind e =
    tail_holds (drop_refusals d name) (missing_or (table_at name d) (λ t. [])) (missing_or (table_at name d) (λ t. of_table d column t.columns)) kind
    (missing_holds (table_at name d) (λ t. of_table d column t.columns) kind) e

module _ (d : Database) (name : List ℕ) (t : TableDef) (known : IsKnown d name t) (passed : first_refusal (early_drop_refusals d name) ≡ None) (column : ColumnDef) (seen : List ColumnDef) (seen_is : seen ≡ t.columns) where
  early_is : first_refusal (early_column_refusals d name column) ≡ first_refusal (of_table d column seen)
  early_is =
      let (u, at, same) = known_there d name t known in
      let drops = (front_fails (drop_refusals d name) (missing_or (table_at name d) (λ t. [])) passed).0 in
      behind_passed (drop_refusals d name) (missing_or (table_at name d) (λ t. of_table d column t.columns)) drops
      ∙ ap (λ (o : Option TableCells). first_refusal (missing_or o (λ t. of_table d column t.columns))) at
      ∙ ap (λ (cs : List ColumnDef). first_refusal (of_table d column cs)) (same ∙ sym seen_is)

  pub column_judged : (kind : ErrorKind) → Err kind ≡ unless_refused {A = Unit {0}} (new_column_refusals seen column) tt → first_refusal (early_column_refusals d name column) ≡ Some kind
  column_judged kind e = early_is ∙ front_holds (new_column_refusals seen column) ((not (has_table validation_name d), NotFound) ∷ []) kind (refused_first (new_column_refusals seen column) tt kind (sym e))

  module _ (x : Unit {0}) (answer : Ok x ≡ unless_refused (new_column_refusals seen column) tt) (there : Bool) (there_is : there ≡ has_table validation_name d) where
    judged : first_refusal (early_column_refusals d name column) ≡ first_refusal ((not there, NotFound) ∷ [])
    judged = early_is ∙ behind_passed (new_column_refusals seen column) ((not (has_table validation_name d), NotFound) ∷ []) (not_refused (new_column_refusals seen column) tt x (sym answer)).0
        ∙ ap (λ b. first_refusal ((not b, NotFound) ∷ [])) (sym there_is)

    pub column_unvalidated : there ≡ false → first_refusal (early_column_refusals d name column) ≡ Some NotFound
    column_unvalidated none = judged ∙ ap (λ b. first_refusal ((not b, NotFound) ∷ [])) none

    pub column_passes : there ≡ true → first_refusal (early_column_refusals d name column) ≡ None
    column_passes is = judged ∙ ap (λ b. first_refusal ((not b, NotFound) ∷ [])) is

pub few_columns : (all cs : List ColumnDef) (column : ColumnDef) → all ≡ cs ++ column ∷ [] → length cs < 32 → length all ≤ 32767
few_columns all cs column is few =
    let many : length (cs ++ column ∷ []) ≡ length cs + 1 = length-append cs (column ∷ []) in
    let same : length all ≡ length (cs ++ column ∷ []) = ap length is in
    omega (arith, many, same, few)
