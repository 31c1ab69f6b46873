-- A table put in among others, in the order of their names.
use Rattle.std.proofs.Common.{◌≡◌, ℕ, suc, ◌+◌, Bool, true, false, List, [], ◌∷◌, ◌++◌, take, drop, refl, sym, ap, ◌∙◌, append_assoc, arith}
use Rattle.std.specs.Prelude.{if◌then◌else◌}
use Rattle.std.specs.List.{prefix_len}
use Rattle.std.specs.Ordering.{is_lt}
use Rattle.msi_base.specs.Lists.{list_cmp}
use Rattle.msi_table.specs.Tables.{TableDef}
use Rattle.msi_database_storage.specs.Kept.{with_table_kept}

module _ (t : TableDef) where
  abbrev is_less : TableDef → Bool
  is_less u = is_lt (list_cmp u.name t.name)

  put_by : (u : TableDef) (us : List TableDef) (n : ℕ) → with_table_kept t us ≡ take n us ++ t ∷ drop n us → (b : Bool)
      → (if b then u ∷ with_table_kept t us else t ∷ u ∷ us) ≡ take (if b then 1 + n else 0) (u ∷ us) ++ t ∷ drop (if b then 1 + n else 0) (u ∷ us)
  put_by u us n e true = let next : 1 + n ≡ suc n = omega arith in rw next (ap (λ (l : List TableDef). u ∷ l) e)
  put_by u us n e false = refl

  pub put_in_place : (tables : List TableDef) → with_table_kept t tables ≡ take (prefix_len is_less tables) tables ++ t ∷ drop (prefix_len is_less tables) tables
  put_in_place [] = refl
  put_in_place (u ∷ us) = put_by u us (prefix_len is_less us) (put_in_place us) (is_less u)

  -- the same of copies of both parts
  pub copied_in_place : (tables : List TableDef) (i : ℕ) (name : List ℕ) → name ≡ t.name → i ≡ prefix_len (λ u. is_lt (list_cmp u.name name)) tables → (none some more all : List TableDef)
      → none ≡ [] → some ≡ none ++ take i tables → more ≡ some ++ t ∷ [] → all ≡ more ++ drop i tables → all ≡ with_table_kept t tables
  copied_in_place tables i name named is none some more all empty before new behind =
      let place : i ≡ prefix_len is_less tables = is ∙ ap (λ (n : List ℕ). prefix_len (λ u. is_lt (list_cmp u.name n)) tables) named in
      behind ∙ ap (λ (l : List TableDef). l ++ drop i tables) (new ∙ ap (λ (l : List TableDef). l ++ t ∷ []) (before ∙ ap (λ (l : List TableDef). l ++ take i tables) empty))
      ∙ append_assoc (take i tables) (t ∷ []) (drop i tables)
      ∙ ap (λ (i : ℕ). take i tables ++ t ∷ drop i tables) place ∙ sym (put_in_place tables)
