-- The keys of a table's rows of `_Columns`, one after another.
use Rattle.std.proofs.Common.{◌≡◌, ℕ, zero, suc, ◌+◌, List, [], ◌∷◌, ◌++◌, map, refl, ap, ◌∙◌, sym, arith}
use Rattle.std.specs.Prelude.{length}
use Rattle.std.specs.List.{range_with_len}
use Rattle.msi_table_values.specs.declared.value.Value.{Value}
use Rattle.msi_transform_schema.specs.SchemaChanges.{column_key}

range_pushed : (a n : ℕ) → range_with_len a (suc n) ≡ range_with_len a n ++ (a + n) ∷ []
range_pushed a zero = let same : a ≡ a + 0 = omega arith in ap (λ (k : ℕ). k ∷ []) same
range_pushed a (suc n) = let same : (a + 1) + n ≡ a + suc n = omega arith in
    ap (λ (ks : List ℕ). a ∷ ks) (range_pushed (a + 1) n ∙ ap (λ (k : ℕ). range_with_len (a + 1) n ++ k ∷ []) same)

mapped_pushed : {A B : Type 0} (f : A → B) (xs : List A) (x : A) → map f (xs ++ x ∷ []) ≡ map f xs ++ f x ∷ []
mapped_pushed f [] x = refl
mapped_pushed f (y ∷ ys) x = ap (λ zs. f y ∷ zs) (mapped_pushed f ys x)

-- the next key
pub keys_pushed : (name : List ℕ) (n : ℕ) (keys more : List (List Value)) (key : List Value) → keys ≡ map (column_key name) (range_with_len 1 n)
    → more ≡ keys ++ key ∷ [] → key ≡ column_key name (1 + n) → more ≡ map (column_key name) (range_with_len 1 (n + 1))
keys_pushed name n keys more key so_far pushed is =
    let next : suc n ≡ n + 1 = omega arith in
    pushed ∙ ap (λ (ks : List (List Value)). ks ++ key ∷ []) so_far ∙ ap (λ (k : List Value). map (column_key name) (range_with_len 1 n) ++ k ∷ []) is
    ∙ sym (mapped_pushed (column_key name) (range_with_len 1 n) (1 + n)) ∙ ap (map (column_key name)) (sym (range_pushed 1 n)) ∙ ap (λ (k : ℕ). map (column_key name) (range_with_len 1 k)) next
