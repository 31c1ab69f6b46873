-- The rows that describe a new table, made table by table.
use Rattle.std.proofs.Common.{◌≡◌, ◌∙◌, ℕ, List, [], ◌∷◌, Result, Ok, inl, inr, ap, subst}
use Rattle.msi_base.specs.declared.errors.ErrorKind.{ErrorKind}
use Rattle.msi_table_values.specs.declared.value.Value.{Value}
use Rattle.msi_table_cells.specs.declared.cell.ValueRef.{ValueRef}
use Rattle.msi_table_values.specs.Columns.{ColumnDef}
use Rattle.msi_base.specs.Refusals.{IsRefusal, ◌>>=◌}
use Rattle.msi_base.proofs.RefusalLemmas.{goes_on-Err}
use Rattle.msi_database_changes.specs.Texts.{PoolInUse}
use Rattle.msi_database_changes.specs.Database.{Database}
use Rattle.msi_database_schema.specs.Description.{column_rows, tables_row, validation_rows}
use Rattle.msi_database_schema.specs.System.{columns_name, tables_name, validation_name}
use Rattle.msi_database_changes.specs.Create.{SystemRows}
use Rattle.msi_database.specs.Creating.{rows_described, rows_with}

-- three steps, one after the other
all_given : {A B C D : Type 0} (r : Result A ErrorKind) (f : A → Result B ErrorKind) (g : B → Result C ErrorKind) (h : A → B → C → D) (a : A) (b : B) (c : C)
    → r ≡ Ok a → f a ≡ Ok b → g b ≡ Ok c → (r >>= λ a. f a >>= λ b. g b >>= λ c. Ok (h a b c)) ≡ Ok (h a b c)
all_given r f g h a b c p q s =
    ap (λ r. r >>= λ a. f a >>= λ b. g b >>= λ c. Ok (h a b c)) p ∙ ap (λ r. r >>= λ b. g b >>= λ c. Ok (h a b c)) q ∙ ap (λ r. r >>= λ c. Ok (h a b c)) s

second_refuses : {A B C : Type 0} (r : Result A ErrorKind) (f : A → Result B ErrorKind) (g : A → B → Result C ErrorKind) (a : A) (k : ErrorKind)
    → r ≡ Ok a → IsRefusal (f a) k → IsRefusal (r >>= λ a. f a >>= g a) k
second_refuses r f g a k p (inl m) = inl m
second_refuses r f g a k p (inr e) = inr (ap (λ r. r >>= λ a. f a >>= g a) p ∙ ap (λ r. r >>= g a) e)

third_refuses : {A B C D : Type 0} (r : Result A ErrorKind) (f : A → Result B ErrorKind) (g : B → Result C ErrorKind) (h : A → B → C → Result D ErrorKind) (a : A) (b : B) (k : ErrorKind)
    → r ≡ Ok a → f a ≡ Ok b → IsRefusal (g b) k → IsRefusal (r >>= λ a. f a >>= λ b. g b >>= h a b) k
third_refuses r f g h a b k p q (inl m) = inl m
third_refuses r f g h a b k p q (inr e) =
    inr (ap (λ r. r >>= λ a. f a >>= λ b. g b >>= h a b) p ∙ ap (λ r. r >>= λ b. g b >>= h a b) q ∙ ap (λ r. r >>= h a b) e)

module _ (d : Database) (name : List ℕ) (columns : List ColumnDef) (pool : PoolInUse) where
  abbrev of_tables : List (List ValueRef) × PoolInUse → Result (List (List ValueRef) × PoolInUse) ErrorKind
  of_tables c = rows_with d tables_name (tables_row name ∷ []) c.1

  abbrev of_validation : List (List ValueRef) × PoolInUse → Result (List (List ValueRef) × PoolInUse) ErrorKind
  of_validation t = rows_with d validation_name (validation_rows name columns) t.1

  abbrev made : List (List ValueRef) × PoolInUse → List (List ValueRef) × PoolInUse → List (List ValueRef) × PoolInUse → SystemRows × PoolInUse
  made c t v = (record { columns = c.0; tables = t.0; validation = v.0 }, v.1)

  -- each table is given its rows
  pub described_given : (cs ts vs : List (List Value)) (a b c : List (List ValueRef)) (p q s : PoolInUse) → cs ≡ column_rows name columns → ts ≡ tables_row name ∷ [] → vs ≡ validation_rows name columns
      → rows_with d columns_name cs pool ≡ Ok (a, p) → rows_with d tables_name ts p ≡ Ok (b, q) → rows_with d validation_name vs q ≡ Ok (c, s)
      → rows_described d name columns pool ≡ Ok (made (a, p) (b, q) (c, s))
  described_given cs ts vs a b c p q s ec et ev x y z =
      all_given (rows_with d columns_name (column_rows name columns) pool) of_tables of_validation made (a, p) (b, q) (c, s)
      (subst (λ (rows : List (List Value)). rows_with d columns_name rows pool ≡ Ok (a, p)) ec x)
      (subst (λ (rows : List (List Value)). rows_with d tables_name rows p ≡ Ok (b, q)) et y)
      (subst (λ (rows : List (List Value)). rows_with d validation_name rows q ≡ Ok (c, s)) ev z)

  -- or one refuses them
  pub columns_refuse : (cs : List (List Value)) (k : ErrorKind) → cs ≡ column_rows name columns → IsRefusal (rows_with d columns_name cs pool) k → IsRefusal (rows_described d name columns pool) k
  columns_refuse cs k ec h =
      goes_on-Err (rows_with d columns_name (column_rows name columns) pool) (λ c. of_tables c >>= λ t. of_validation t >>= λ v. Ok (made c t v)) k
      (subst (λ (rows : List (List Value)). IsRefusal (rows_with d columns_name rows pool) k) ec h)

  pub tables_refuse : (cs ts : List (List Value)) (a : List (List ValueRef)) (p : PoolInUse) (k : ErrorKind) → cs ≡ column_rows name columns → ts ≡ tables_row name ∷ []
      → rows_with d columns_name cs pool ≡ Ok (a, p) → IsRefusal (rows_with d tables_name ts p) k → IsRefusal (rows_described d name columns pool) k
  tables_refuse cs ts a p k ec et x h =
      second_refuses (rows_with d columns_name (column_rows name columns) pool) of_tables (λ c t. of_validation t >>= λ v. Ok (made c t v)) (a, p) k
      (subst (λ (rows : List (List Value)). rows_with d columns_name rows pool ≡ Ok (a, p)) ec x)
      (subst (λ (rows : List (List Value)). IsRefusal (rows_with d tables_name rows p) k) et h)

  pub validation_refuses : (cs ts vs : List (List Value)) (a b : List (List ValueRef)) (p q : PoolInUse) (k : ErrorKind) → cs ≡ column_rows name columns → ts ≡ tables_row name ∷ [] → vs ≡ validation_rows name columns
      → rows_with d columns_name cs pool ≡ Ok (a, p) → rows_with d tables_name ts p ≡ Ok (b, q) → IsRefusal (rows_with d validation_name vs q) k → IsRefusal (rows_described d name columns pool) k
  validation_refuses cs ts vs a b p q k ec et ev x y h =
      third_refuses (rows_with d columns_name (column_rows name columns) pool) of_tables of_validation (λ c t v. Ok (made c t v)) (a, p) (b, q) k
      (subst (λ (rows : List (List Value)). rows_with d columns_name rows pool ≡ Ok (a, p)) ec x)
      (subst (λ (rows : List (List Value)). rows_with d tables_name rows p ≡ Ok (b, q)) et y)
      (subst (λ (rows : List (List Value)). IsRefusal (rows_with d validation_name rows q) k) ev h)
