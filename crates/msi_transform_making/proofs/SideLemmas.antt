-- Lists that are gone through side by side, and values that are seen where they lie.
use Rattle.std.proofs.Common.{◌≡◌, ℕ, ◌+◌, ◌<◌, ◌≤◌, ◌⊎◌, Bool, true, false, List, [], ◌∷◌, ◌++◌, length, map, drop, get_or, zip, not, refl, sym, ap, ◌∙◌, inl, inr}
use Rattle.std.specs.Prelude.{◌&&◌, ◌||◌, filter}
use Rattle.std.specs.List.{enumerate_from}
use Rattle.std.proofs.lemmas.List.{append_assoc, drop_all}
use Rattle.msi_table_values.specs.declared.value.Value.{Value}
use Rattle.msi_table_values.specs.declared.views.ValueView.{ValueView}
use Rattle.msi_table_values.specs.declared.views.ValueView.TheVariants as view
use Rattle.msi_table_values.specs.Views.{seen_value}
use Rattle.msi_table_values.specs.Columns.{ColumnDef}
use Rattle.msi_database_changes.specs.Views.{seen_row}
use Rattle.msi_base.proofs.BoolLemmas.{by_test}
use Rattle.msi_transform_making.specs.Making.{is_marked, is_marked_in, is_stream, same_value, tells_stream}
pub use Rattle.msi_transform_pair.proofs.BesideLemmas.{beside_end, beside_more, beside, no_pairs, one_more, seen_rest, view_at, whole_list}

-- MARKED COLUMNS
abbrev pub marked_from : List ColumnDef → List ℕ → List ValueView → ℕ → List (ColumnDef × Value)
marked_from columns marked values i = map (λ e. e.1) (filter (is_marked_in marked) (enumerate_from i (beside columns values i)))

abbrev marked_of : List ℕ → ℕ → List (ColumnDef × Value) → List (ColumnDef × Value)
marked_of marked i pairs = map (λ e. e.1) (filter (is_marked_in marked) (enumerate_from i pairs))

pub marked_yes : (columns : List ColumnDef) (marked : List ℕ) (values : List ValueView) (i : ℕ) (c : ColumnDef) → i < length columns → i < length values → c ≡ get_or columns i c
    → is_marked_in marked (i, (c, seen_value (view_at values i))) ≡ true
    → marked_from columns marked values i ≡ (c, seen_value (view_at values i)) ∷ marked_from columns marked values (i + 1)
marked_yes columns marked values i c h l at t = ap (marked_of marked i) (beside_more columns values i c h l at) ∙ rw t refl

pub marked_no : (columns : List ColumnDef) (marked : List ℕ) (values : List ValueView) (i : ℕ) (c : ColumnDef) → i < length columns → i < length values → c ≡ get_or columns i c
    → is_marked_in marked (i, (c, seen_value (view_at values i))) ≡ false
    → marked_from columns marked values i ≡ marked_from columns marked values (i + 1)
marked_no columns marked values i c h l at t = ap (marked_of marked i) (beside_more columns values i c h l at) ∙ rw t refl

pub stream_more : (columns : List ColumnDef) (marked : List ℕ) (values : List ValueView) (i : ℕ) (c : ColumnDef) (b : Bool) → i < length columns → i < length values → c ≡ get_or columns i c
    → b ≡ (is_marked marked i c && is_stream (c, seen_value (view_at values i)))
    → tells_stream (marked_from columns marked values i) ≡ (b || tells_stream (marked_from columns marked values (i + 1)))
stream_more columns marked values i c b h l at is =
    let rest = tells_stream (marked_from columns marked values (i + 1)) in
    let stream = is_stream (c, seen_value (view_at values i)) in
    by_test (is_marked marked i c)
    (λ t. ap tells_stream (marked_yes columns marked values i c h l at t) ∙ ap (λ (x : Bool). (x && stream) || rest) (sym t) ∙ ap (λ (x : Bool). x || rest) (sym is))
    (λ t. ap tells_stream (marked_no columns marked values i c h l at t) ∙ ap (λ (x : Bool). (x && stream) || rest) (sym t) ∙ ap (λ (x : Bool). x || rest) (sym is))

pub marked_end : (columns : List ColumnDef) (marked : List ℕ) (values : List ValueView) (i : ℕ) → (length columns ≤ i) ⊎ (length values ≤ i) → marked_from columns marked values i ≡ []
marked_end columns marked values i past = ap (marked_of marked i) (beside_end columns values i past)

-- VALUES BESIDE VALUES

abbrev pub both_from : List ValueView → List ValueView → ℕ → List (Value × Value)
both_from old new i = zip (seen_row (drop i old)) (seen_row (drop i new))

both_more : (old new : List ValueView) (i : ℕ) → i < length old → i < length new
    → both_from old new i ≡ (seen_value (view_at old i), seen_value (view_at new i)) ∷ both_from old new (i + 1)
both_more old new i h l =
    ap (λ (vs : List Value). zip vs (seen_row (drop i new))) (seen_rest old i h)
    ∙ ap (λ (vs : List Value). zip (seen_value (view_at old i) ∷ seen_row (drop (i + 1) old)) vs) (seen_rest new i l)

both_end : (old new : List ValueView) (i : ℕ) → (length old ≤ i) ⊎ (length new ≤ i) → both_from old new i ≡ []
both_end old new i (inl past) = ap (λ (vs : List ValueView). zip (seen_row vs) (seen_row (drop i new))) (drop_all i old past)
both_end old new i (inr past) = ap (λ (vs : List ValueView). zip (seen_row (drop i old)) (seen_row vs)) (drop_all i new past) ∙ no_pairs (seen_row (drop i old))

abbrev differing_of : Bool → ℕ → List (Value × Value) → List ℕ
differing_of same i pairs = map (λ e. e.0) (filter (λ e. not (same_value same e.1)) (enumerate_from i pairs))

abbrev pub differing_from : Bool → List ValueView → List ValueView → ℕ → List ℕ
differing_from same old new i = map (λ e. e.0) (filter (λ e. not (same_value same e.1)) (enumerate_from i (both_from old new i)))

differs_yes : (same : Bool) (old new : List ValueView) (i : ℕ) → i < length old → i < length new
    → not (same_value same (seen_value (view_at old i), seen_value (view_at new i))) ≡ true
    → differing_from same old new i ≡ i ∷ differing_from same old new (i + 1)
differs_yes same old new i h l t = ap (differing_of same i) (both_more old new i h l) ∙ rw t refl

pub differs_no : (same : Bool) (old new : List ValueView) (i : ℕ) (columns whole : List ℕ) → i < length old → i < length new
    → not (same_value same (seen_value (view_at old i), seen_value (view_at new i))) ≡ false
    → columns ++ differing_from same old new i ≡ whole → columns ++ differing_from same old new (i + 1) ≡ whole
differs_no same old new i columns whole h l t all =
    ap (λ (is : List ℕ). columns ++ is) (sym (ap (differing_of same i) (both_more old new i h l) ∙ rw t refl)) ∙ all

pub differs_more : (same : Bool) (old new : List ValueView) (i : ℕ) (columns after whole : List ℕ) → i < length old → i < length new
    → not (same_value same (seen_value (view_at old i), seen_value (view_at new i))) ≡ true → after ≡ columns ++ i ∷ []
    → columns ++ differing_from same old new i ≡ whole → after ++ differing_from same old new (i + 1) ≡ whole
differs_more same old new i columns after whole h l t p all =
    ap (λ (is : List ℕ). is ++ differing_from same old new (i + 1)) p
    ∙ append_assoc columns (i ∷ []) (differing_from same old new (i + 1))
    ∙ ap (λ (is : List ℕ). columns ++ is) (sym (differs_yes same old new i h l t)) ∙ all

pub differs_end : (same : Bool) (old new : List ValueView) (i : ℕ) → (length old ≤ i) ⊎ (length new ≤ i) → differing_from same old new i ≡ []
differs_end same old new i past = ap (differing_of same i) (both_end old new i past)
