-- Lists that are gone through side by side, and values that are seen where they lie.
use Rattle.std.proofs.Common.{◌≡◌, ℕ, ◌+◌, ◌<◌, ◌≤◌, ◌⊎◌, Bool, List, [], ◌∷◌, ◌++◌, length, map, drop, get_or, zip, refl, sym, ap, ◌∙◌, inl, inr}
use Rattle.std.proofs.lemmas.List.{append-nil, append_assoc, drop_all, drop_more, map_push}
use Rattle.msi_table_values.specs.declared.value.Value.{Value}
use Rattle.msi_table_values.specs.declared.views.ValueView.{ValueView}
use Rattle.msi_table_values.specs.declared.views.ValueView.TheVariants as view
use Rattle.msi_table_values.specs.Views.{seen_value}
use Rattle.msi_table_values.specs.Columns.{ColumnDef}
use Rattle.msi_database_changes.specs.Views.{seen_row}
use Rattle.msi_transform_pair.specs.Pair.{told_value}

-- the view at a place
abbrev pub view_at : List ValueView → ℕ → ValueView
view_at row i = get_or row i view.Null

abbrev none_of_values : List Value
none_of_values = []

pub no_pairs : {A : Type 0} (xs : List A) → zip xs none_of_values ≡ []
no_pairs [] = refl
no_pairs (x ∷ xs) = refl

pub seen_rest : (values : List ValueView) (i : ℕ) → i < length values → seen_row (drop i values) ≡ seen_value (view_at values i) ∷ seen_row (drop (i + 1) values)
seen_rest values i h = ap seen_row (drop_more values i view.Null h)

pub seen_pushed : (before after : List ValueView) (v : ValueView) → after ≡ before ++ v ∷ [] → seen_row after ≡ seen_row before ++ seen_value v ∷ []
seen_pushed before after v p = ap seen_row p ∙ map_push seen_value before v

-- one more value
pub one_more : (before after : List ValueView) (v : ValueView) (w : Value) (rest left whole : List Value) → after ≡ before ++ v ∷ [] → seen_value v ≡ w → left ≡ w ∷ rest
    → seen_row before ++ left ≡ whole → seen_row after ++ rest ≡ whole
one_more before after v w rest left whole p is opened all =
    ap (λ (vs : List Value). vs ++ rest) (seen_pushed before after v p)
    ∙ append_assoc (seen_row before) (seen_value v ∷ []) rest
    ∙ ap (λ (x : Value). seen_row before ++ x ∷ rest) is
    ∙ ap (λ (vs : List Value). seen_row before ++ vs) (sym opened)
    ∙ all

pub whole_list : {X : Type 0} (done rest whole : List X) → rest ≡ [] → done ++ rest ≡ whole → done ≡ whole
whole_list {X = X} done rest whole none all = sym (ap (λ (xs : List X). done ++ xs) none ∙ append-nil done) ∙ all

-- COLUMNS BESIDE VALUES

abbrev pub beside : List ColumnDef → List ValueView → ℕ → List (ColumnDef × Value)
beside columns values i = zip (drop i columns) (seen_row (drop i values))

pub beside_more : (columns : List ColumnDef) (values : List ValueView) (i : ℕ) (c : ColumnDef) → i < length columns → i < length values → c ≡ get_or columns i c
    → beside columns values i ≡ (c, seen_value (view_at values i)) ∷ beside columns values (i + 1)
beside_more columns values i c h l at =
    ap (λ (cs : List ColumnDef). zip cs (seen_row (drop i values))) (drop_more columns i c h ∙ ap (λ (x : ColumnDef). x ∷ drop (i + 1) columns) (sym at))
    ∙ ap (λ (vs : List Value). zip (c ∷ drop (i + 1) columns) vs) (seen_rest values i l)

pub beside_end : (columns : List ColumnDef) (values : List ValueView) (i : ℕ) → (length columns ≤ i) ⊎ (length values ≤ i) → beside columns values i ≡ []
beside_end columns values i (inl past) = ap (λ (cs : List ColumnDef). zip cs (seen_row (drop i values))) (drop_all i columns past)
beside_end columns values i (inr past) = ap (λ (vs : List ValueView). zip (drop i columns) (seen_row vs)) (drop_all i values past) ∙ no_pairs (drop i columns)

-- the values that are told
abbrev pub told_from : Bool → List ColumnDef → List ValueView → ℕ → List Value
told_from there columns values i = map (told_value there) (beside columns values i)

pub told_more : (there : Bool) (columns : List ColumnDef) (values : List ValueView) (i : ℕ) (c : ColumnDef) (v : ValueView) (before after : List ValueView) (whole : List Value)
    → i < length columns → i < length values → c ≡ get_or columns i c → seen_value v ≡ told_value there (c, seen_value (view_at values i)) → after ≡ before ++ v ∷ []
    → seen_row before ++ told_from there columns values i ≡ whole → seen_row after ++ told_from there columns values (i + 1) ≡ whole
told_more there columns values i c v before after whole h l at is p all =
    one_more before after v (told_value there (c, seen_value (view_at values i))) (told_from there columns values (i + 1)) (told_from there columns values i) whole p is
    (ap (map (told_value there)) (beside_more columns values i c h l at)) all
