-- Where a transform is made of two packages, no reason against it holds.
use Rattle.std.proofs.Common.{◌≡◌, ℕ, Bool, true, false, not, ◌&&◌, List, [], ◌∷◌, Option, Some, None, refl}
use Rattle.std.specs.Prelude.{Result, Ok, Err, if◌then◌else◌}
use Rattle.std.specs.List.{AllByRecursion, flat_map}
use Rattle.msi_base.specs.declared.errors.ErrorKind.{ErrorKind}
use Rattle.msi_base.specs.Refusals.{first_refusal, unless, ◌>>=◌}
use Rattle.msi_database_changes.specs.Database.{has_table}
use Rattle.msi_transform.specs.Transforms.{TransformDef}
use Rattle.msi_transform_making.specs.Making.{Pair, columns_in_table, gains_columns, has_odd_columns, is_unfit, keeps_columns, lacks_text, loses_page, made, reasons, shares_stream, table_reasons, told_names, told_tables, transform_of}

module _ (p : Pair) (t : TransformDef) where
  not_ok : {P : Type 0} (kind : ErrorKind) → ◌≡◌ {A = Result TransformDef ErrorKind} (Err kind) (Ok t) → P
  not_ok kind e = cc

  none_by : (o : Option ErrorKind) → (unless o (told_tables p.old p.new) >>= transform_of p.new_page p.new) ≡ Ok t → o ≡ None
  none_by None h = refl
  none_by (Some kind) h = not_ok kind h

  pub no_reason : made p ≡ Ok t → first_refusal (reasons p) ≡ None
  no_reason h = none_by (first_refusal (reasons p)) h

some_not : {P : Type 0} (kind : ErrorKind) → ◌≡◌ {A = Option ErrorKind} (Some kind) None → P
some_not kind e = cc

not_first : (b : Bool) (kind : ErrorKind) (o : Option ErrorKind) → (if b then Some kind else o) ≡ None → (b ≡ false) × (o ≡ None)
not_first true kind o h = some_not kind h
not_first false kind o h = (refl, h)

pub both_fit : (p : Pair) (t : TransformDef) → made p ≡ Ok t → (is_unfit p.old ≡ false) × (is_unfit p.new ≡ false)
both_fit p t h =
    let one = not_first (is_unfit p.old) _ _ (no_reason p t h) in
    let two = not_first (is_unfit p.new) _ _ one.1 in
    (one.0, two.0)

-- and none against a table
no_reason_of : (p : Pair) (ns : List (List ℕ)) → first_refusal (flat_map (table_reasons p) ns) ≡ None
    → AllByRecursion (λ name. (gains_columns p.old p.new name && has_odd_columns (columns_in_table p.new name)) ≡ false) ns
no_reason_of p [] h = tt
no_reason_of p (n ∷ ns) h =
    let one = not_first (has_table n p.old.database && not (keeps_columns p.old p.new n)) _ _ h in
    let two = not_first (gains_columns p.old p.new n && has_odd_columns (columns_in_table p.new n)) _ _ one.1 in
    (two.0, no_reason_of p ns two.1)

-- those against the packages come first
no_other_reason : (p : Pair) (t : TransformDef) → made p ≡ Ok t → first_refusal (flat_map (table_reasons p) (told_names p.new)) ≡ None
no_other_reason p t h =
    let one = not_first (is_unfit p.old) _ _ (no_reason p t h) in
    let two = not_first (is_unfit p.new) _ _ one.1 in
    let three = not_first (loses_page p) _ _ two.1 in
    let four = not_first (lacks_text p.new) _ _ three.1 in
    (not_first (shares_stream p) _ _ four.1).1

-- it loses no page, and lacks no text
pub no_lack : (p : Pair) (t : TransformDef) → made p ≡ Ok t → (loses_page p ≡ false) × (lacks_text p.new ≡ false)
no_lack p t h =
    let one = not_first (is_unfit p.old) _ _ (no_reason p t h) in
    let two = not_first (is_unfit p.new) _ _ one.1 in
    let three = not_first (loses_page p) _ _ two.1 in
    (three.0, (not_first (lacks_text p.new) _ _ three.1).0)

-- no two texts name the stream of one row or another
pub no_shared_stream : (p : Pair) (t : TransformDef) → made p ≡ Ok t → shares_stream p ≡ false
no_shared_stream p t h =
    let one = not_first (is_unfit p.old) _ _ (no_reason p t h) in
    let two = not_first (is_unfit p.new) _ _ one.1 in
    let three = not_first (loses_page p) _ _ two.1 in
    let four = not_first (lacks_text p.new) _ _ three.1 in
    (not_first (shares_stream p) _ _ four.1).0

no_change_of : (p : Pair) (ns : List (List ℕ)) → first_refusal (flat_map (table_reasons p) ns) ≡ None
    → AllByRecursion (λ name. (has_table name p.old.database && not (keeps_columns p.old p.new name)) ≡ false) ns
no_change_of p [] h = tt
no_change_of p (n ∷ ns) h =
    let one = not_first (has_table n p.old.database && not (keeps_columns p.old p.new n)) _ _ h in
    let two = not_first (gains_columns p.old p.new n && has_odd_columns (columns_in_table p.new n)) _ _ one.1 in
    (one.0, no_change_of p ns two.1)

pub no_changed_columns : (p : Pair) (t : TransformDef) → made p ≡ Ok t → AllByRecursion (λ name. (has_table name p.old.database && not (keeps_columns p.old p.new name)) ≡ false) (told_names p.new)
no_changed_columns p t h = no_change_of p (told_names p.new) (no_other_reason p t h)

pub no_table_reason : (p : Pair) (t : TransformDef) → made p ≡ Ok t
    → AllByRecursion (λ name. (gains_columns p.old p.new name && has_odd_columns (columns_in_table p.new name)) ≡ false) (told_names p.new)
no_table_reason p t h = no_reason_of p (told_names p.new) (no_other_reason p t h)
