-- A table put in among those that are kept, and one taken out.
use Rattle.std.proofs.Common.{◌≡◌, ℕ, Bool, true, false, not, List, [], ◌∷◌, Option, Some, None, refl, sym, ap, ◌∙◌, bytes_eq}
use Rattle.std.specs.Prelude.{if◌then◌else◌}
use Rattle.std.specs.FinMap.{find, put}
use Rattle.std.specs.FinMap.Entries.{by_order, find-put, find-where_key, is_sorted, is_sorted-put, is_sorted-where_key, same_entries}
use Rattle.std.specs.Prelude.{T}
use Rattle.std.specs.Ordering.{eq_by_cmp, is_lt, ordering_reverse}
use Rattle.std.specs.declared.cmp.Ordering.{Ordering}
use Rattle.std.specs.declared.cmp.Ordering.TheVariants.{Less, Equal, Greater}
use Rattle.std.proofs.lemmas.Bool.{true≢false}
use Rattle.std.proofs.lemmas.Option.{none-some}
use Rattle.std.proofs.lemmas.Slice.Eq.{bytes_eq-Decides}
use Rattle.msi_base.specs.Lists.{list_cmp}
use Rattle.msi_base.proofs.BoolLemmas.{by_test}
use Rattle.msi_table_values.specs.Columns.{ColumnDef}
use Rattle.msi_table.specs.Tables.{TableDef}
use Rattle.msi_database_schema.proofs.FaultLemmas.{texts_flip}
use Rattle.msi_database_schema.proofs.SchemaLemmas.{Described, names_tie, same_names}
use Rattle.msi_database_schema.proofs.RowOrderLemmas.{names_total}
use Rattle.msi_database_changes.proofs.table_changes.DroppedLemmas.{without}
use Rattle.msi_database_storage.specs.Kept.{table_kept_at, with_table_kept, without_table_kept, schema_listed, AreAsLong}

missing_by : (b : Bool) (u : TableDef) (o : Option TableDef) → (if b then Some u else o) ≡ None → (b ≡ false) × (o ≡ None)
missing_by true u o e = absurd (none-some u (sym e))
missing_by false u o e = (refl, e)

missing_behind : (name : List ℕ) (u : TableDef) (us : List TableDef) → table_kept_at name (u ∷ us) ≡ None → (bytes_eq name u.name ≡ false) × (table_kept_at name us ≡ None)
missing_behind name u us e = missing_by (bytes_eq name u.name) u (table_kept_at name us) e

-- A TABLE PUT IN

module _ (t : TableDef) where
  put_by : (u : TableDef) (us : List TableDef) (o : Ordering) → (o ≡ Equal → ⊥) → schema_listed (with_table_kept t us) ≡ put list_cmp t.name t.columns (schema_listed us)
      → schema_listed (if is_lt o then u ∷ with_table_kept t us else t ∷ u ∷ us)
      ≡ by_order (ordering_reverse o) ((t.name, t.columns) ∷ (u.name, u.columns) ∷ schema_listed us) ((u.name, t.columns) ∷ schema_listed us) ((u.name, u.columns) ∷ put list_cmp t.name t.columns (schema_listed us))
  put_by u us Less apart rest = ap (λ (l : Described). (u.name, u.columns) ∷ l) rest
  put_by u us Equal apart rest = absurd (apart refl)
  put_by u us Greater apart rest = refl

  -- of a name that no table has
  pub put_listed : (tables : List TableDef) → table_kept_at t.name tables ≡ None → schema_listed (with_table_kept t tables) ≡ put list_cmp t.name t.columns (schema_listed tables)
  put_listed [] missing = refl
  put_listed (u ∷ us) missing =
      let parts = missing_behind t.name u us missing in
      let turned : list_cmp t.name u.name ≡ ordering_reverse (list_cmp u.name t.name) = names_total.antisymm t.name u.name in
      put_by u us (list_cmp u.name t.name) (λ e. true≢false (sym ((bytes_eq-Decides t.name u.name).1 (sym (same_names u.name t.name e))) ∙ parts.0)) (put_listed us parts.1)
      ∙ ap (λ (o : Ordering). by_order o ((t.name, t.columns) ∷ schema_listed (u ∷ us)) ((u.name, t.columns) ∷ schema_listed us) ((u.name, u.columns) ∷ put list_cmp t.name t.columns (schema_listed us))) (sym turned)

  -- it stands behind the tables of lesser names
  abbrev IsBefore : TableDef → Bool
  IsBefore u = is_lt (list_cmp u.name t.name)

  pub put_as_long : (long : Bool) (tables : List TableDef) → t.long ≡ long → AreAsLong long tables → AreAsLong long (with_table_kept t tables)
  put_as_long long [] is h = (is, tt)
  put_as_long long (u ∷ us) is h = elim (IsBefore u) as (λ b. AreAsLong long (if b then u ∷ with_table_kept t us else t ∷ u ∷ us)) [
    | true ↦ (h.0, put_as_long long us is h.1)
    | false ↦ (is, h)
  ]

-- A TABLE TAKEN OUT

module _ (name : List ℕ) where
  one_less : (b : Bool) (u : TableDef) (us : List TableDef) (ts : Described) → schema_listed us ≡ ts → schema_listed (if not b then u ∷ us else us) ≡ (if not b then (u.name, u.columns) ∷ ts else ts)
  one_less true u us ts e = e
  one_less false u us ts e = ap (λ (l : Described). (u.name, u.columns) ∷ l) e

  pub without_listed : (tables : List TableDef) → schema_listed (without_table_kept name tables) ≡ without name (schema_listed tables)
  without_listed [] = refl
  without_listed (u ∷ us) = one_less (bytes_eq name u.name) u (without_table_kept name us) (without name (schema_listed us)) (without_listed us)
      ∙ ap (λ b. if not b then (u.name, u.columns) ∷ without name (schema_listed us) else without name (schema_listed us)) (sym (names_tie name u.name))

  pub without_as_long : (long : Bool) (tables : List TableDef) → AreAsLong long tables → AreAsLong long (without_table_kept name tables)
  without_as_long long [] h = tt
  without_as_long long (u ∷ us) h = elim (bytes_eq name u.name) as (λ b. AreAsLong long (if not b then u ∷ without_table_kept name us else without_table_kept name us)) [
    | true ↦ without_as_long long us h.1
    | false ↦ (h.0, without_as_long long us h.1)
  ]

-- A TABLE PUT IN THE PLACE OF ONE

pub none_left : (name : List ℕ) (tables : List TableDef) → table_kept_at name (without_table_kept name tables) ≡ None
none_left name [] = refl
none_left name (u ∷ us) = by_test (bytes_eq name u.name)
    (λ t. ap (λ b. table_kept_at name (if not b then u ∷ without_table_kept name us else without_table_kept name us)) t ∙ none_left name us)
    (λ t. ap (λ b. table_kept_at name (if not b then u ∷ without_table_kept name us else without_table_kept name us)) t
    ∙ ap (λ b. if b then Some u else table_kept_at name (without_table_kept name us)) t ∙ none_left name us)

module _ (name : List ℕ) (columns : List ColumnDef) (ts : Described) (up : T (is_sorted list_cmp ts)) where
  abbrev stays : List ℕ → Bool
  stays other = not (eq_by_cmp list_cmp name other)

  put_at : (q : List ℕ) (b : Bool) → eq_by_cmp list_cmp q name ≡ b → (if b then Some columns else find list_cmp q (without name ts)) ≡ (if b then Some columns else find list_cmp q ts)
  put_at q true e = refl
  put_at q false e = find-where_key list_cmp stays q (λ x is. ap stays (sym (same_names q x is))) ts
      ∙ ap (λ b. if not b then find list_cmp q ts else None) (names_tie name q ∙ texts_flip name q ∙ sym (names_tie q name) ∙ e)

  pub put_without : put list_cmp name columns (without name ts) ≡ put list_cmp name columns ts
  put_without = same_entries list_cmp names_total same_names (put list_cmp name columns (without name ts)) (put list_cmp name columns ts)
      (is_sorted-put list_cmp names_total name columns (without name ts) (is_sorted-where_key list_cmp stays ts up)) (is_sorted-put list_cmp names_total name columns ts up)
      (λ q. find-put list_cmp names_total q name columns (without name ts) ∙ put_at q (eq_by_cmp list_cmp q name) refl ∙ sym (find-put list_cmp names_total q name columns ts))
