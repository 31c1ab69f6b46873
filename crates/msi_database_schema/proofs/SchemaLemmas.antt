-- A schema by what it says of each name.
use Rattle.std.proofs.Common.{◌≡◌, ℕ, Bool, true, false, List, [], ◌∷◌, refl, sym, ap, ◌∙◌, Some, None}
use Rattle.std.specs.Prelude.{T, not, Option, map, option_map, is_some, if◌then◌else◌, bytes_eq, zip}
use Rattle.std.specs.List.{list_any}
use Rattle.std.specs.FinMap.{find}
use Rattle.std.specs.FinMap.Entries.{is_sorted, is_sorted-put, find-put, same_entries}
use Rattle.std.specs.Ordering.{eq_by_cmp, is_eq}
use Rattle.std.specs.declared.cmp.Ordering.TheVariants.{Equal}
use Rattle.std.specs.Cmp.{nat_cmp_total}
use Rattle.std.specs.Cmp.Lexicographic.{lists_total}
use Rattle.std.proofs.lemmas.Map.Text.{is_eq-slice_cmp}
use Rattle.std.proofs.lemmas.Slice.Eq.{bytes_eq-Decides}
use Rattle.std.proofs.lemmas.Bool.{or_parts, or_from, or_right}
use Rattle.msi_base.specs.Lists.{all_present, has_pair, list_cmp}
use Rattle.msi_base.proofs.BoolLemmas.{by_test}
use Rattle.msi_table_values.specs.Columns.{ColumnDef}
use Rattle.msi_database_schema.specs.Keys.{is_pool_name}
use Rattle.msi_database_schema.specs.System.{columns_columns, columns_name, tables_columns, tables_name}
use Rattle.msi_database_schema.specs.Schema.{SchemaRows, by_name, columns_of, counted, has_null, is_faulty, lacks_value, listed_names, schema_of, share_key, text_at}

abbrev pub Described : Type 0
Described = List (List ℕ × List ColumnDef)

-- no rule is broken
pub record NoFault (s : SchemaRows) : Type 0 where
  pub tables_full : has_null s.tables ≡ false
  pub columns_full : has_null s.columns ≡ false
  pub validation_full : list_any (lacks_value s) s.validation ≡ false
  pub plain_names : list_any is_pool_name (listed_names s) ≡ false
  pub tables_once : has_pair (share_key 1) (counted s.tables) ≡ false
  pub columns_once : has_pair (share_key 2) (counted s.columns) ≡ false
  pub validation_once : has_pair (share_key 2) s.validation ≡ false
  pub columns_listed : list_any (λ row. not (list_any (bytes_eq (text_at 0 row)) (listed_names s))) (counted s.columns) ≡ false

pub no_fault : (s : SchemaRows) → is_faulty s ≡ false → NoFault s
no_fault s e =
    let h = or_parts _ _ e in let g = or_parts _ _ (h.0) in let f = or_parts _ _ (g.0) in let d = or_parts _ _ (f.0) in
    let c = or_parts _ _ (d.0) in let b = or_parts _ _ (c.0) in let a = or_parts _ _ (b.0) in
    record { tables_full = a.0; columns_full = a.1; validation_full = b.1; plain_names = c.1; tables_once = d.1; columns_once = f.1; validation_once = g.1; columns_listed = h.1 }

pub not_faulty : (s : SchemaRows) → NoFault s → is_faulty s ≡ false
not_faulty s n = or_from _ _ (or_from _ _ (or_from _ _ (or_from _ _ (or_from _ _ (or_from _ _ (or_from _ _ n.tables_full n.columns_full) n.validation_full) n.plain_names)
    n.tables_once) n.columns_once) n.validation_once) n.columns_listed

-- whether a name is listed, and the table of a name
abbrev pub is_listed : SchemaRows → List ℕ → Bool
is_listed s name = list_any (bytes_eq name) (listed_names s)

abbrev pub table_of : SchemaRows → List ℕ → Option (List ColumnDef)
table_of s name = if bytes_eq name tables_name then Some tables_columns
    else if bytes_eq name columns_name then Some columns_columns
    else if is_listed s name then columns_of s name else None

-- the tables that rows describe, by name
pub record Describes (s : SchemaRows) (ts : Described) : Type 0 where
  pub sound : NoFault s
  pub readable : (name : List ℕ) → is_listed s name ≡ true → is_some (columns_of s name) ≡ true
  pub in_order : T (is_sorted list_cmp ts)
  pub found : (name : List ℕ) → find list_cmp name ts ≡ table_of s name

pub names_tie : (a b : List ℕ) → eq_by_cmp list_cmp a b ≡ bytes_eq a b
names_tie a b = is_eq-slice_cmp a b

pub same_names : (a b : List ℕ) → list_cmp a b ≡ Equal → a ≡ b
same_names a b e = (bytes_eq-Decides a b).0 (sym (is_eq-slice_cmp a b) ∙ ap is_eq e)

-- ---- tables by their names

pub by_name-sorted : (ts : Described) → T (is_sorted list_cmp (by_name ts))
by_name-sorted [] = tt
by_name-sorted (t ∷ ts) = is_sorted-put list_cmp (lists_total nat_cmp_total) (t.0) (t.1) (by_name ts) (by_name-sorted ts)

pub find-by_name : (q : List ℕ) (ts : Described) → find list_cmp q (by_name ts) ≡ find list_cmp q ts
find-by_name q [] = refl
find-by_name q (t ∷ ts) = find-put list_cmp (lists_total nat_cmp_total) q (t.0) (t.1) (by_name ts) ∙ ap (λ (o : Option (List ColumnDef)). if eq_by_cmp list_cmp q t.0 then Some t.1 else o) (find-by_name q ts)

-- names beside what f gives of each
module _ (f : List ℕ → Option (List ColumnDef)) where
  present_cons : (o : Option (List ColumnDef)) (os : List (Option (List ColumnDef))) (cols : List (List ColumnDef)) → all_present (o ∷ os) ≡ Some cols
      → (x : List ColumnDef) × (xs : List (List ColumnDef)) × (o ≡ Some x) × (all_present os ≡ Some xs) × (cols ≡ x ∷ xs)
  present_cons None os cols e = cc
  present_cons (Some x) os cols e = go (all_present os) refl e
    where
      go : (r : Option (List (List ColumnDef))) → all_present os ≡ r → option_map (λ xs. x ∷ xs) r ≡ Some cols
          → (y : List ColumnDef) × (xs : List (List ColumnDef)) × (Some x ≡ Some y) × (all_present os ≡ Some xs) × (cols ≡ y ∷ xs)
      go None u e = cc
      go (Some xs) u e = (x, xs, refl, u, cc)

  find_zip : (q : List ℕ) (names : List (List ℕ)) (cols : List (List ColumnDef)) → all_present (map f names) ≡ Some cols
      → find list_cmp q (zip names cols) ≡ (if list_any (bytes_eq q) names then f q else None)
  find_zip q [] cols e = refl
  find_zip q (n ∷ ns) cols e =
      let (x, xs, is, rest, all) = present_cons (f n) (map f ns) cols e in
      rw (all, names_tie q n) (by_test (bytes_eq q n)
      (λ t. let same : q ≡ n = (bytes_eq-Decides q n).0 t in rw t (sym is ∙ ap f (sym same)))
      (λ t. rw t (find_zip q ns xs rest)))

  present : (names : List (List ℕ)) → ((q : List ℕ) → list_any (bytes_eq q) names ≡ true → is_some (f q) ≡ true)
      → (cols : List (List ColumnDef)) × (all_present (map f names) ≡ Some cols)
  present [] h = ([], refl)
  present (n ∷ ns) h = go (f n) refl (h n (rw ((bytes_eq-Decides n n).1 refl) refl)) (present ns (λ q t. h q (or_right (bytes_eq q n) (list_any (bytes_eq q) ns) t)))
    where
      go : (o : Option (List ColumnDef)) → f n ≡ o → is_some o ≡ true → (xs : List (List ColumnDef)) × (all_present (map f ns) ≡ Some xs) → (cols : List (List ColumnDef)) × (all_present (map f (n ∷ ns)) ≡ Some cols)
      go None e some rest = cc
      go (Some x) e some rest = (x ∷ rest.0, rw (e, rest.1) refl)

  all_some : (names : List (List ℕ)) (cols : List (List ColumnDef)) → all_present (map f names) ≡ Some cols
      → (q : List ℕ) → list_any (bytes_eq q) names ≡ true → is_some (f q) ≡ true
  all_some [] cols e q h = cc
  all_some (n ∷ ns) cols e q h =
      let (x, xs, is, rest, all) = present_cons (f n) (map f ns) cols e in
      by_test (bytes_eq q n)
      (λ t. let same : q ≡ n = (bytes_eq-Decides q n).0 t in ap is_some (ap f same ∙ is))
      (λ t. all_some ns xs rest q (rw t at h))

-- ---- a schema is what it says of each name

abbrev pub both_first : SchemaRows → List (List ColumnDef) → Described
both_first s cols = (tables_name, tables_columns) ∷ (columns_name, columns_columns) ∷ zip (listed_names s) cols

found_first : (s : SchemaRows) (cols : List (List ColumnDef)) (q : List ℕ) → all_present (map (columns_of s) (listed_names s)) ≡ Some cols
    → find list_cmp q (by_name (both_first s cols)) ≡ table_of s q
found_first s cols q e = find-by_name q (both_first s cols) ∙ rw (names_tie q tables_name, names_tie q columns_name, find_zip (columns_of s) q (listed_names s) cols e) refl

pub schema_from : (s : SchemaRows) (ts : Described) → Describes s ts → schema_of s ≡ Some ts
schema_from s ts d =
    let (cols, e) = present (columns_of s) (listed_names s) d.readable in
    rw (not_faulty s d.sound, e) (ap Some (same_entries list_cmp (lists_total nat_cmp_total) same_names (by_name (both_first s cols)) ts (by_name-sorted (both_first s cols)) d.in_order
    (λ q. found_first s cols q e ∙ sym (d.found q))))

pub describes_from : (s : SchemaRows) (ts : Described) → schema_of s ≡ Some ts → Describes s ts
describes_from s ts e = by_test (is_faulty s) (λ t. let g = rw t at e in cc) (λ t. go (all_present (map (columns_of s) (listed_names s))) refl t (rw t at e))
  where
    go : (o : Option (List (List ColumnDef))) → all_present (map (columns_of s) (listed_names s)) ≡ o → is_faulty s ≡ false → option_map (λ cols. by_name (both_first s cols)) o ≡ Some ts → Describes s ts
    go None u t g = cc
    go (Some cols) u t g =
        let is : by_name (both_first s cols) ≡ ts = cc in
        record {
          sound = no_fault s t;
          readable = all_some (columns_of s) (listed_names s) cols u;
          in_order = rw (← is) (by_name-sorted (both_first s cols));
          found = λ q. rw (← is) (found_first s cols q u);
        }
