-- A pool as it is shown has the texts of every place that is named, so the schema read by it is the schema read by the places as they are stored.
use Rattle.std.proofs.Common.{◌≡◌, ℕ, zero, suc, ◌+◌, ◌-◌, ◌<◌, Bool, true, false, not, ◌==◌, ◌&&◌, List, [], ◌∷◌, map, Option, Some, None, refl, ap, ◌∙◌, arith}
use Rattle.std.specs.Prelude.{slice_get, option_map, if◌then◌else◌}
use Rattle.std.specs.Option.{option_map_or}
use Rattle.std.specs.List.{AllByRecursion, enumerate_from}
use Rattle.msi_pool.specs.Pool.{Pool, Place, forgotten}
use Rattle.msi_pool.specs.FirstFitLaws.{text_at}
use Rattle.msi_table.specs.ValueRef.{ValueRef}
use Rattle.msi_table.specs.ValueRef.TheVariants as cell
use Rattle.msi_table_values.specs.declared.value.Value.TheVariants as value
use Rattle.msi_table.specs.CellValues.{value_of_cell, row_values}
use Rattle.msi_database_schema.specs.System.{tables_name, columns_name, validation_name, tables_columns, columns_columns, validation_columns}
use Rattle.msi_database_storage.specs.Streams.{Streams, stored_rows}
use Rattle.msi_database_storage.specs.Agreement.{schema_in}
use Rattle.msi.specs.Meaning.{shown_pool}
use Rattle.msi.proofs.meaning.AgreementLemmas.{schema_same}

named_stays : (p : Place) (free named : Bool) → named ≡ true → ◌≡◌ {A = Place} (record { text = if free && not named then [] else p.text; count = p.count }) p
named_stays p true named e = rw e
named_stays p false named e = refl

module _ (is_named : ℕ → Bool) where
  -- the place of a number, shown
  shown_get : (k i : ℕ) (places : List Place) → is_named (k + i) ≡ true → slice_get (map (λ e. forgotten (is_named e.0) e.1) (enumerate_from k places)) i ≡ slice_get places i
  shown_get k i [] h = refl
  shown_get k zero (p ∷ ps) h = ap Some (named_stays p (p.count == 0) (is_named k) (ap is_named (omega arith) ∙ h))
  shown_get k (suc i) (p ∷ ps) h = shown_get (k + 1) i ps (ap is_named (omega arith) ∙ h)

  shown_text : (raw : Pool) (number : ℕ) → 0 < number → is_named number ≡ true → text_at (shown_pool is_named raw).places number ≡ text_at raw.places number
  shown_text raw number some h = ap (λ (o : Option Place). option_map_or (λ p. p.text) o [])
      (shown_get 1 (number - 1) raw.places (ap is_named (omega arith) ∙ h))

  -- a cell whose number, if any, is named
  abbrev pub IsNamed : ValueRef → Type 0
  IsNamed (cell.Str number) = (0 < number) × (is_named number ≡ true)
  IsNamed _ = Unit {0}

  shown_value : (raw : Pool) (c : ValueRef) → IsNamed c → value_of_cell (shown_pool is_named raw).places c ≡ value_of_cell raw.places c
  shown_value raw cell.Null h = refl
  shown_value raw (cell.Int n) h = refl
  shown_value raw (cell.Str number) h = ap value.Str (shown_text raw number h.0 h.1)
  shown_value raw cell.Binary h = refl

  shown_row : (raw : Pool) (row : List ValueRef) → AllByRecursion IsNamed row → row_values (shown_pool is_named raw).places row ≡ row_values raw.places row
  shown_row raw [] h = refl
  shown_row raw (c ∷ cs) h = λ i. shown_value raw c h.0 i ∷ shown_row raw cs h.1 i

  abbrev pub AreNamed : List (List ValueRef) → Type 0
  AreNamed rows = AllByRecursion (λ row. AllByRecursion IsNamed row) rows

  shown_rows : (raw : Pool) (rows : List (List ValueRef)) → AreNamed rows → map (row_values (shown_pool is_named raw).places) rows ≡ map (row_values raw.places) rows
  shown_rows raw [] h = refl
  shown_rows raw (row ∷ rows) h = λ i. shown_row raw row h.0 i ∷ shown_rows raw rows h.1 i

  abbrev pub OptionNamed : Option (List (List ValueRef)) → Type 0
  OptionNamed None = Unit {0}
  OptionNamed (Some rows) = AreNamed rows

  shown_option : (raw : Pool) (o : Option (List (List ValueRef))) → OptionNamed o → option_map (map (row_values (shown_pool is_named raw).places)) o ≡ option_map (map (row_values raw.places)) o
  shown_option raw None h = refl
  shown_option raw (Some rows) h = ap Some (shown_rows raw rows h)

-- every number of the three tables that describe tables, read by their standard columns, is named
pub record CoversSchema (streams : Streams) (is_named : ℕ → Bool) (raw : Pool) : Type 0 where
  pub tables : OptionNamed is_named (stored_rows streams raw.long tables_columns tables_name)
  pub columns : OptionNamed is_named (stored_rows streams raw.long columns_columns columns_name)
  pub validation : OptionNamed is_named (stored_rows streams raw.long validation_columns validation_name)

-- then the schema is that of the stored places
pub schema_by_raw : (streams : Streams) (is_named : ℕ → Bool) (raw : Pool) → CoversSchema streams is_named raw → schema_in streams (shown_pool is_named raw) ≡ schema_in streams raw
schema_by_raw streams is_named raw covers = schema_same streams streams raw (shown_pool is_named raw) (record {
  tables = shown_option is_named raw (stored_rows streams raw.long tables_columns tables_name) covers.tables;
  columns = shown_option is_named raw (stored_rows streams raw.long columns_columns columns_name) covers.columns;
  validation = shown_option is_named raw (stored_rows streams raw.long validation_columns validation_name) covers.validation;
})
