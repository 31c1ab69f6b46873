-- Two packages that meet the premises of the law on transforms that are made: one table, of one row, which differs.
use Rattle.std.proofs.Math.Utf8.{encode}
use Rattle.std.proofs.Common.{◌≡◌, ℕ, zero, suc, ◌+◌, ◌≤◌, true, false, List, [], ◌∷◌, length, refl, sym, ap, subst, arith}
use Rattle.std.specs.Prelude.{pos, Ok, Some, codes}
use Rattle.std.specs.Ordering.{eq_by_cmp}
use Rattle.std.specs.Str.{chars}
use Rattle.msi_base.specs.Lists.{list_cmp}
use Rattle.msi_base.specs.declared.codepage.CodePage.TheVariants.{Utf8}
use Rattle.msi_base.proofs.BoolLemmas.{by_test, yes_is_no}
use Rattle.msi_base.proofs.ListLemmas.{same_head}
use Rattle.msi_pool.specs.Pool.{Place, HaveUtf8Texts}
use Rattle.msi_table_cells.specs.declared.cell.ValueRef.TheVariants as cell
use Rattle.msi_table_values.specs.declared.value.Value.{Value}
use Rattle.msi_table_values.specs.declared.value.Value.TheVariants.{Null, Int, Str, Binary}
use Rattle.msi_table_values.specs.declared.column.ColumnType.TheVariants as coltype
use Rattle.msi_table_values.specs.Columns.{ColumnDef}
use Rattle.msi_database_schema.specs.Schema.{value_at}
use Rattle.msi_database_schema.specs.System.{columns_columns, columns_name, is_schema_table, key, plain_column, tables_columns, tables_name}
use Rattle.msi_database_changes.specs.Database.{CountsAreExact, Database, has_table}
use Rattle.msi_database_storage.specs.Kept.{Kept}
use Rattle.msi_transform.specs.Transforms.{TransformDef}
use Rattle.msi_transform.specs.declared.conditions.ErrorConditions.{ErrorConditions}
use Rattle.msi_transform_making.specs.Making.{Pair, ToldRows, columns_in_table, described_columns, made, told_rows}
use Rattle.msi_transform_laws.specs.DescribedPackages.{ColumnsAreDescribed}
use Rattle.msi_transform_laws.specs.ExactPackages.{IsInOrder}
use Rattle.msi_transform_laws.specs.PremisesMet.{PremisesCanBeMet}
use Rattle.msi_transform_laws.specs.SchemaMade.{AreDescribed, texts_of_schema}
use Rattle.msi_transform_laws.specs.TablesChanged.{texts_to_come}
use Rattle.msi_transform_laws.specs.TextsLeft.{CanTakeTransform}
use Rattle.msi_transform_laws.proofs.ListedTablesLemmas.{exact_names}

-- THE PACKAGES

abbrev name : List ℕ
name = 65 ∷ []

-- a place in use
abbrev place : List ℕ → ℕ → Place
place text count = record { text = text; count = count }

abbrev places_with : List ℕ → List Place
places_with text = place name 3 ∷ place (75 ∷ []) 1 ∷ place (86 ∷ []) 1 ∷ place (97 ∷ []) 1 ∷ place text 1 ∷ []

abbrev columns_of_table : List ColumnDef
columns_of_table = key (plain_column (75 ∷ []) (coltype.Str 72)) ∷ plain_column (86 ∷ []) (coltype.Str 255) ∷ []

abbrev database_with : List ℕ → Database
database_with text = record {
  pool = record { page = Utf8; long = false; places = places_with text };
  tables = (name, record { columns = columns_of_table; rows = Some ((cell.Str 4 ∷ cell.Str 5 ∷ []) ∷ []) })
      ∷ (
        columns_name,
        record {
          columns = columns_columns;
          rows = Some ((cell.Str 1 ∷ cell.Int (pos 1) ∷ cell.Str 2 ∷ cell.Int (pos 11592) ∷ []) ∷ (cell.Str 1 ∷ cell.Int (pos 2) ∷ cell.Str 3 ∷ cell.Int (pos 3583) ∷ []) ∷ []);
        },
      )
      ∷ (tables_name, record { columns = tables_columns; rows = Some ((cell.Str 1 ∷ []) ∷ []) }) ∷ [];
  unlisted_validation = [];
}

abbrev kept_with : List ℕ → Kept
kept_with text = record { database = database_with text; streams = [] }

abbrev packages : Pair
packages = record { old_page = 0; old = kept_with (120 ∷ []); new_page = 0; new = kept_with (121 ∷ []) }

abbrev all_pass : ErrorConditions
all_pass = record { added_row_exists = true; removed_row_missing = true; added_table_exists = true; removed_table_missing = true; changed_row_missing = true; other_page = true }

-- of the table's one row, the second column changes
abbrev transform : TransformDef
transform = record {
  page_id = 0;
  pool = record { page = Utf8; long = false; places = place (97 ∷ []) 1 ∷ place (121 ∷ []) 1 ∷ [] };
  tables = (name, 2 ∷ 0 ∷ 1 ∷ 0 ∷ 2 ∷ 0 ∷ []) ∷ [];
  streams = [];
}

-- THEY ARE IN ORDER

module _ (text : List ℕ) where
  only_table : (m : List ℕ) → is_schema_table m ≡ false → has_table m (database_with text) ≡ true → name ≡ m
  only_table m plain there = by_test (eq_by_cmp list_cmp m name)
      (λ u. sym (exact_names m name u))
      (λ u. by_test (eq_by_cmp list_cmp m columns_name)
      (λ v. yes_is_no (is_schema_table m) (ap is_schema_table (exact_names m columns_name v)) plain)
      (λ v. by_test (eq_by_cmp list_cmp m tables_name)
      (λ w. yes_is_no (is_schema_table m) (ap is_schema_table (exact_names m tables_name w)) plain)
      (λ w. yes_is_no false (rw (u, v, w) at there) refl)))

  described : ColumnsAreDescribed (kept_with text)
  described m plain there = subst (λ (m : List ℕ). AreDescribed m 1 (described_columns (kept_with text) m) (columns_in_table (kept_with text) m)) (only_table m plain there) (
    record {
      name = Str (75 ∷ []);
      bits = Int (pos 11592);
      column = key (plain_column (75 ∷ []) (coltype.Str 72));
      row_is = refl;
      column_is = refl;
      same_shape = refl;
      same_name = refl;
    },
    (
      record {
        name = Str (86 ∷ []);
        bits = Int (pos 3583);
        column = plain_column (86 ∷ []) (coltype.Str 255);
        row_is = refl;
        column_is = refl;
        same_shape = refl;
        same_name = refl;
      },
      tt,
    ),
  )

  in_order : HaveUtf8Texts (places_with text) → IsInOrder (kept_with text)
  unfolding chars
  in_order texts = record {
    well_formed = refl;
    sound = refl;
    has_tables = refl;
    has_columns = refl;
    tables_are = refl;
    columns_are = refl;
    own_tables = refl;
    own_columns = refl;
    tables = (record { name = name; row_is = refl; there = refl; plain = refl }, tt);
    columns = (
      record { table = name; number = 1; name = Str (75 ∷ []); bits = Int (pos 11592); row_is = refl; there = refl; plain = refl; from_one = omega arith; within = omega arith },
      (record { table = name; number = 2; name = Str (86 ∷ []); bits = Int (pos 3583); row_is = refl; there = refl; plain = refl; from_one = omega arith; within = omega arith }, tt),
    );
    listed = (refl, tt);
    described = described;
    unlisted = refl;
    streams = ((refl, tt), tt);
    texts = texts;
  }

  counted : CountsAreExact (database_with text)
  counted zero h = refl
  counted (suc zero) h = refl
  counted (suc (suc zero)) h = refl
  counted (suc (suc (suc zero))) h = refl
  counted (suc (suc (suc (suc zero)))) h = refl
  counted (suc (suc (suc (suc (suc i))))) h = absurd (omega (arith, h))

old_texts : HaveUtf8Texts (places_with (120 ∷ []))
unfolding encode
old_texts = ((name, (refl, refl)), ((75 ∷ [], (refl, refl)), ((86 ∷ [], (refl, refl)), ((97 ∷ [], (refl, refl)), ((120 ∷ [], (refl, refl)), tt)))))

new_texts : HaveUtf8Texts (places_with (121 ∷ []))
unfolding encode
new_texts = ((name, (refl, refl)), ((75 ∷ [], (refl, refl)), ((86 ∷ [], (refl, refl)), ((97 ∷ [], (refl, refl)), ((121 ∷ [], (refl, refl)), tt)))))

-- AND A TRANSFORM IS MADE OF THEM

-- the text in the second column of the first row
abbrev text_of : Value → List ℕ
text_of (Str text) = text
text_of Null = []
text_of (Int n) = []
text_of Binary = []

abbrev second_text : ToldRows → List ℕ
second_text [] = []
second_text (e ∷ es) = text_of (value_at 1 e.1.values)

made_of_them : made packages ≡ Ok transform
unfolding chars
made_of_them = refl

few_texts : length (places_with (120 ∷ [])) + texts_of_schema packages + texts_to_come packages transform.tables ≤ 16777215
few_texts = let schema : texts_of_schema packages ≡ 0 = refl in let texts : texts_to_come packages transform.tables ≡ 2 = refl in omega (arith, schema, texts)

can_take : CanTakeTransform packages transform all_pass
can_take = record {
  page = λ h. refl;
  neutral = λ h. refl;
  spellable = ((record { action = (omega arith, refl, omega arith); columns = refl; cells = ((omega arith, omega arith), ((omega arith, omega arith), tt)) }, tt), tt);
  few = (omega arith, tt);
  room = few_texts;
}

rows_differ : told_rows packages.old (codes "A") 0 ≡ told_rows packages.new (codes "A") 0 → ⊥
rows_differ same =
    let texts : 120 ∷ [] ≡ 121 ∷ [] = ap second_text same in
    let numbers : 120 ≡ 121 = same_head 120 121 [] [] texts in
    absurd (omega (arith, numbers))

pub premises_can_be_met : PremisesCanBeMet
premises_can_be_met = (
  packages,
  transform,
  all_pass,
  record {
    is_made = made_of_them;
    old = record { order = in_order (120 ∷ []) old_texts; counts = counted (120 ∷ []) };
    new = in_order (121 ∷ []) new_texts;
    can = can_take;
    differs = rows_differ;
  },
)
