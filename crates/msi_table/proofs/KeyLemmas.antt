-- The key of a row, value by value.
use Rattle.std.proofs.Common.{◌≡◌, ℕ, ◌+◌, ◌<◌, ◌≤◌, ◌⊎◌, Bool, true, false, List, [], ◌∷◌, ◌++◌, length, drop, get_or, refl, sym, ap, ◌∙◌, ⊎_elim}
use Rattle.std.proofs.lemmas.List.{append_assoc, drop_all, drop_more}
use Rattle.msi_table_values.specs.declared.value.Value.{Value}
use Rattle.msi_table_values.specs.declared.value.Value.TheVariants.{Null}
use Rattle.msi_table_values.specs.Columns.{ColumnDef}
use Rattle.msi_table_cells.specs.StoredOrder.{parts_where}

abbrev pub is_key : ColumnDef → Bool
is_key c = c.is_primary_key

-- the key's values from a place on
abbrev pub key_from : List ColumnDef → List Value → ℕ → List Value
key_from columns row i = parts_where is_key (drop i columns) (drop i row)

pub no_part : (columns : List ColumnDef) (row : List Value) (i : ℕ) (c : ColumnDef) → i < length columns → i < length row → c ≡ get_or columns i c → is_key c ≡ false
    → key_from columns row i ≡ key_from columns row (i + 1)
no_part columns row i c h l e t =
    let same : is_key (get_or columns i c) ≡ false = ap is_key (sym e) ∙ t in
    rw (drop_more columns i c h, drop_more row i Null l, same) refl

pub one_part : (columns : List ColumnDef) (row values new : List Value) (i : ℕ) (c : ColumnDef) (v : Value) (whole : List Value) → i < length columns → i < length row → c ≡ get_or columns i c → is_key c ≡ true
    → new ≡ values ++ get_or row i v ∷ [] → values ++ key_from columns row i ≡ whole → new ++ key_from columns row (i + 1) ≡ whole
one_part columns row values new i c v whole h l e t n g =
    let same : is_key (get_or columns i c) ≡ true = ap is_key (sym e) ∙ t in
    let taken : key_from columns row i ≡ get_or row i v ∷ key_from columns row (i + 1) = rw (drop_more columns i c h, drop_more row i v l, same) refl in
    ap (λ (vs : List Value). vs ++ key_from columns row (i + 1)) n
    ∙ append_assoc values (get_or row i v ∷ []) (key_from columns row (i + 1))
    ∙ ap (λ (vs : List Value). values ++ vs) (sym taken) ∙ g

nothing_left : (columns : List ColumnDef) → parts_where {X = Value} is_key columns [] ≡ []
nothing_left [] = refl
nothing_left (c ∷ cs) = refl

pub no_parts : (columns : List ColumnDef) (row : List Value) (i : ℕ) → (length columns ≤ i) ⊎ (length row ≤ i) → key_from columns row i ≡ []
no_parts columns row i = ⊎_elim
    (λ past. ap (λ (cs : List ColumnDef). parts_where is_key cs (drop i row)) (drop_all i columns past))
    (λ past. ap (λ (vs : List Value). parts_where is_key (drop i columns) vs) (drop_all i row past) ∙ nothing_left (drop i columns))
