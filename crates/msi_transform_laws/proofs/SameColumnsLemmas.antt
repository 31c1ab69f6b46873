-- Packages whose tables have the same columns.
use Rattle.std.proofs.Common.{◌≡◌, ℕ, Bool, true, false, not, ◌&&◌, List, [], ◌∷◌, refl, sym, ap, subst, ◌∙◌, append-nil}
use Rattle.std.specs.Prelude.{Option, Some, None, Result, Ok, ◌==◌, if◌then◌else◌}
use Rattle.std.specs.List.{AllByRecursion}
use Rattle.msi_base.specs.Refusals.{first_refusal, unless}
use Rattle.msi_base.proofs.BoolLemmas.{yes_is_no}
use Rattle.msi_base.specs.declared.errors.ErrorKind.{ErrorKind}
use Rattle.msi_base.specs.declared.errors.ErrorKind.TheVariants.{InvalidInput}
use Rattle.msi_pool.specs.Pool.{Place}
use Rattle.msi_pool.specs.FirstFitLaws.{text_at, TakenPlacesHoldTheirText, GivenBackTakesOne}
use Rattle.msi_database_schema.specs.System.{is_schema_table}
use Rattle.msi_database_changes.specs.Database.{Database, has_table}
use Rattle.msi_transform.specs.Transforms.{TransformDef, shapes_of}
use Rattle.msi_transform.specs.declared.conditions.ErrorConditions.{ErrorConditions}
use Rattle.msi_transform_rows.specs.RecordRefusals.{Refusal, nowhere, ◌>>=◌}
use Rattle.msi_transform_schema.specs.SchemaApplying.{page_refusals, schema_applied, schema_changed, schema_untouched}
use Rattle.msi_transform_schema.specs.SchemaChanges.{table_in_hand}
use Rattle.msi_transform_schema.specs.declared.schema.Standing.TheVariants as stands
use Rattle.msi_transform_applying.specs.Applying.{TablesInHand, change_with, changed_with, rows_changed, tables_begun, with_lengthened}
use Rattle.msi_transform_making.specs.Making.{Pair, columns_in_table, made, reasons, told_names, told_tables}
use Rattle.msi_transform_laws.specs.RowsBegun.{HasNewColumns, HoldsStreams, StandsAs, TextsOfTableStay}
use Rattle.msi_transform_laws.specs.SameColumns.{PassesPage, SameColumnsGiveNewTables}
use Rattle.msi_transform_laws.proofs.MadeRecordsLemmas.{made_by}
use Rattle.msi_transform_laws.proofs.TableChangedLemmas.{of_tables}
use Rattle.msi_transform_laws.proofs.TablesChangedLemmas.{all_in_transform, made_tables_are_changed_in_turn}

-- THE PAGE

page_passes : (a b c other : Bool) → ((not a && not c) ≡ true → other ≡ true) → ((not a && not b && not c) && not other) ≡ false
page_passes true b c other h = refl
page_passes false true c other h = refl
page_passes false false true other h = refl
page_passes false false false other h = rw (h refl) refl

pub page_is : (p : Pair) (t : TransformDef) → made p ≡ Ok t → t.page_id ≡ p.new_page
page_is p t is = let s = made_by p.new_page p.new (told_tables p.old p.new) t (first_refusal (reasons p)) is in ap (λ (u : TransformDef). u.page_id) (sym s.2)

pub page_unrefused : (p : Pair) (t : TransformDef) (passing : ErrorConditions) → made p ≡ Ok t → PassesPage p passing → first_refusal (page_refusals p.old_page t passing) ≡ None
page_unrefused p t passing is passes =
    ap (λ (n : ℕ). if (not (p.old_page == 0) && not (n == 0) && not (p.old_page == n)) && not passing.other_page then Some InvalidInput else None) (page_is p t is)
    ∙ ap (λ b. if b then Some InvalidInput else None) (page_passes (p.old_page == 0) (p.new_page == 0) (p.old_page == p.new_page) passing.other_page passes)

-- TABLES OF WHICH NO RECORD OF `_Tables` AND `_Columns` TELLS

module _ (p : Pair) (s : TablesInHand) (same_places : s.pool.places ≡ p.old.database.pool.places) where
  abbrev d : Database
  d = p.old.database

  pub kept_by : (name : List ℕ) (b : Bool) → b ≡ true → has_table name d ≡ b → shapes_of (columns_in_table p.old name) ≡ shapes_of (columns_in_table p.new name)
      → HasNewColumns p.old p.new name (record { standing = if b then stands.Kept else stands.Gone; added = [] })
  kept_by name true t there same = record {
    stands = subst (λ b. StandsAs b stands.Kept) (sym there) tt;
    columns = ap shapes_of (append-nil (columns_in_table p.old name)) ∙ same;
  }
  kept_by name false t there same = yes_is_no false t refl

  abbrev IsReadyNamed : List ℕ → Type 0
  IsReadyNamed name = HasNewColumns p.old p.new name (table_in_hand d [] name) × HoldsStreams p.old name × TextsOfTableStay p.old name s

  ready_names : (names : List (List ℕ)) → AllByRecursion (λ name. has_table name d ≡ true) names
      → AllByRecursion (λ name. shapes_of (columns_in_table p.old name) ≡ shapes_of (columns_in_table p.new name)) names → AllByRecursion (HoldsStreams p.old) names → AllByRecursion IsReadyNamed names
  ready_names [] there same holds = tt
  ready_names (n ∷ ns) there same holds = (
    (kept_by n (has_table n d) there.0 refl same.0, holds.0, (λ number some. ap (λ (places : List Place). text_at places number) same_places)),
    ready_names ns there.1 same.1 holds.1,
  )

pub same_columns_give_new_tables : TakenPlacesHoldTheirText → GivenBackTakesOne → SameColumnsGiveNewTables
same_columns_give_new_tables takes gives p t passing others is can same unchanged passes counts fits =
    let change = change_with p.old t passing in
    let schema = schema_untouched p.old.database in
    let begun = tables_begun change schema in
    let named = of_tables p (IsReadyNamed p begun refl) (ready_names p begun refl (told_names p.new) same.there same.columns same.streams) in
    let ready = all_in_transform p t is (λ name. is_schema_table name ≡ false → IsReadyNamed p begun refl name) named in
    let (after, done, ran, are) = made_tables_are_changed_in_turn takes gives p t [] passing others begun 0 is can ready counts fits in
    let end = with_lengthened change [] after in (
      end,
      done,
      ap (λ (o : Option ErrorKind). nowhere (unless o change) >>= schema_applied >>= rows_changed change) (page_unrefused p t passing is passes)
          ∙ ap (λ b. (if b then schema_changed change else Ok schema) >>= rows_changed change) unchanged
          ∙ ap (λ (r : Result TablesInHand Refusal). (r >>= λ s. Ok (with_lengthened change [] s)) >>= λ tables. Ok (changed_with [] tables)) ran,
      record {
        tables = append-nil after.tables ∙ are.tables;
        names = are.names;
        rows = are.rows;
        counted = are.counted;
        kept = are.kept;
        longer = are.longer;
      },
    )
