-- The place of the last row of a key, with one more row.
use Rattle.std.proofs.Common.{◌≡◌, ℕ, ◌+◌, ◌<◌, Bool, true, false, cond, List, [], ◌∷◌, ◌++◌, length, take, get_or, Option, Some, None, refl, sym, ap, ◌∙◌, subst, arith}
use Rattle.std.specs.BTreeMap.{BTreeMap, Updates}
use Rattle.std.specs.Cmp.Lexicographic.{slice_cmp}
use Rattle.std.proofs.lemmas.List.{take_more, length-take}
use Rattle.msi_table_values.specs.declared.value.Value.{Value}
use Rattle.msi_table_values.specs.Columns.{ColumnDef}
use Rattle.msi_table_values.specs.Values.{value_cmp}
use Rattle.msi_table_cells.specs.KeyOrder.{key_of, same_key}
use Rattle.msi_table.specs.Differences.{IsIndex, either, place_from, place_of}

either_cond : (b : Bool) (x : ℕ) (p t : Option ℕ) → either (cond b (Some x) p) t ≡ cond b (Some x) (either p t)
either_cond true x p t = refl
either_cond false x p t = refl

pub place_pushed : (columns : List ColumnDef) (key : List Value) (n : ℕ) (rows : List (List Value)) (row : List Value)
    → place_from columns key n (rows ++ row ∷ []) ≡ cond (same_key (key_of columns row) key) (Some (n + length rows)) (place_from columns key n rows)
place_pushed columns key n [] row =
    let e : n + 0 ≡ n = omega arith in
    ap (λ (m : ℕ). cond (same_key (key_of columns row) key) (Some m) None) (sym e)
place_pushed columns key n (r ∷ rs) row =
    let e : (n + 1) + length rs ≡ n + length (r ∷ rs) = omega arith in
    let t : Option ℕ = cond (same_key (key_of columns r) key) (Some n) None in
    ap (λ (o : Option ℕ). either o t) (place_pushed columns key (n + 1) rs row)
    ∙ either_cond (same_key (key_of columns row) key) ((n + 1) + length rs) (place_from columns key (n + 1) rs) t
    ∙ ap (λ (m : ℕ). cond (same_key (key_of columns row) key) (Some m) (either (place_from columns key (n + 1) rs) t)) e

-- an index with one more row
pub index_more : (columns : List ColumnDef) (rows : List (List Value)) (i : ℕ) (row key : List Value) (old new : BTreeMap (List Value) ℕ)
    → i < length rows → get_or rows i row ≡ row → key ≡ key_of columns row
    → IsIndex columns (take i rows) old → Updates (slice_cmp value_cmp) old new key (Some i) → IsIndex columns (take (i + 1) rows) new
index_more columns rows i row key old new inside at is known updated = λ q.
    let split : take (i + 1) rows ≡ take i rows ++ row ∷ [] = take_more rows i row inside ∙ ap (λ (r : List Value). take i rows ++ r ∷ []) at in
    let many : 0 + length (take i rows) ≡ i = omega (arith, length-take {A = List Value}) in
    updated.0 q
    ∙ ap (λ (o : Option ℕ). cond (same_key key q) (Some i) o) (known q)
    ∙ ap (λ (k : List Value). cond (same_key k q) (Some i) (place_of columns (take i rows) q)) is
    ∙ sym (ap (λ (rs : List (List Value)). place_of columns rs q) split
    ∙ place_pushed columns q 0 (take i rows) row
    ∙ ap (λ (m : ℕ). cond (same_key (key_of columns row) q) (Some m) (place_of columns (take i rows) q)) many)
