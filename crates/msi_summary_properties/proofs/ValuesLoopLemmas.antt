-- Putting values one after the other, as a loop does.
use Rattle.std.proofs.Common.{◌≡◌, ℕ, suc, ◌+◌, ◌≤◌, ◌<◌, true, false, List, [], ◌∷◌, length, get_or, drop, Option, Some, None, refl, sym, ap, ◌∙◌, arith}
use Rattle.std.specs.Prelude.{is_some}
use Rattle.std.specs.Ordering.{nat_cmp}
use Rattle.std.specs.Map.{lookup}
use Rattle.std.specs.BTreeMap.{is_at, insert_entry}
use Rattle.std.proofs.Math.Seq.{drop-cons}
use Rattle.std.proofs.lemmas.List.{drop_all}
use Rattle.msi_base.specs.declared.codepage.CodePage.{CodePage}
use Rattle.msi_base.specs.declared.errors.ErrorKind.{ErrorKind}
use Rattle.msi_base.specs.declared.errors.ErrorKind.TheVariants as kind
use Rattle.msi_summary_properties.specs.declared.propset.PropertyValue.{PropertyValue}
use Rattle.msi_base.specs.Results.{FailsAs}
use Rattle.msi_summary_properties.specs.Reading.{value_at, put_values}

-- the pairs from place i on begin with that pair
abbrev from : ℕ → List (ℕ × ℕ) → List (ℕ × ℕ)
from i pairs = get_or pairs i (0, 0) ∷ drop (suc i) pairs

pub puts_next : (version : ℕ) (q : CodePage) (bytes : List ℕ) (section : ℕ) (pairs : List (ℕ × ℕ)) (i : ℕ) (entries : List (ℕ × PropertyValue)) (rest : List ℕ) (v : PropertyValue) (before : Option PropertyValue) (total : Option (List (ℕ × PropertyValue)))
    → i < length pairs → rest ≡ drop (section + (get_or pairs i (0, 0)).1) bytes → value_at version q rest ≡ Some v → before ≡ lookup (is_at (nat_cmp (get_or pairs i (0, 0)).0)) entries → is_some before ≡ false
    → put_values version q bytes section (drop i pairs) entries ≡ total → put_values version q bytes section (drop (i + 1) pairs) (insert_entry nat_cmp entries (get_or pairs i (0, 0)).0 v) ≡ total
unfolding put_values
puts_next version q bytes section pairs i entries rest v before total lt here read was new so_far =
    let p = get_or pairs i (0, 0) in
    let begins : drop i pairs ≡ from i pairs = drop-cons pairs i (0, 0) lt in
    let value : value_at version q (drop (section + p.1) bytes) ≡ Some v = ap (value_at version q) (sym here) ∙ read in
    let absent : is_some (lookup (is_at (nat_cmp p.0)) entries) ≡ false = ap is_some (sym was) ∙ new in
    let one : put_values version q bytes section (from i pairs) entries ≡ put_values version q bytes section (drop (suc i) pairs) (insert_entry nat_cmp entries p.0 v) = rw (value, absent) refl in
    let k : i + 1 ≡ suc i = omega arith in
    rw k (sym one ∙ ap (λ (x : List (ℕ × ℕ)). put_values version q bytes section x entries) (sym begins) ∙ so_far)

pub puts_again : (version : ℕ) (q : CodePage) (bytes : List ℕ) (section : ℕ) (pairs : List (ℕ × ℕ)) (i : ℕ) (entries : List (ℕ × PropertyValue)) (rest : List ℕ) (v : PropertyValue) (before : Option PropertyValue) (total : Option (List (ℕ × PropertyValue)))
    → i < length pairs → rest ≡ drop (section + (get_or pairs i (0, 0)).1) bytes → value_at version q rest ≡ Some v → before ≡ lookup (is_at (nat_cmp (get_or pairs i (0, 0)).0)) entries → is_some before ≡ true
    → put_values version q bytes section (drop i pairs) entries ≡ total → total ≡ None
unfolding put_values
puts_again version q bytes section pairs i entries rest v before total lt here read was new so_far =
    let p = get_or pairs i (0, 0) in
    let begins : drop i pairs ≡ from i pairs = drop-cons pairs i (0, 0) lt in
    let value : value_at version q (drop (section + p.1) bytes) ≡ Some v = ap (value_at version q) (sym here) ∙ read in
    let present : is_some (lookup (is_at (nat_cmp p.0)) entries) ≡ true = ap is_some (sym was) ∙ new in
    let one : put_values version q bytes section (from i pairs) entries ≡ None = rw (value, present) refl in
    sym so_far ∙ ap (λ (x : List (ℕ × ℕ)). put_values version q bytes section x entries) begins ∙ one

pub no_value : (version : ℕ) (q : CodePage) (bytes : List ℕ) (section : ℕ) (pairs : List (ℕ × ℕ)) (i : ℕ) (entries : List (ℕ × PropertyValue)) (rest : List ℕ) (e : ErrorKind) (total : Option (List (ℕ × PropertyValue)))
    → i < length pairs → rest ≡ drop (section + (get_or pairs i (0, 0)).1) bytes → FailsAs e (value_at version q rest)
    → put_values version q bytes section (drop i pairs) entries ≡ total → FailsAs e total
unfolding put_values
no_value version q bytes section pairs i entries rest kind.AlreadyExists total lt here fails so_far = absurd fails
no_value version q bytes section pairs i entries rest kind.InvalidData total lt here fails so_far =
    let p = get_or pairs i (0, 0) in
    let begins : drop i pairs ≡ from i pairs = drop-cons pairs i (0, 0) lt in
    let value : value_at version q (drop (section + p.1) bytes) ≡ None = ap (value_at version q) (sym here) ∙ fails in
    let one : put_values version q bytes section (from i pairs) entries ≡ None = rw value refl in
    sym so_far ∙ ap (λ (x : List (ℕ × ℕ)). put_values version q bytes section x entries) begins ∙ one
no_value version q bytes section pairs i entries rest kind.InvalidInput total lt here fails so_far = absurd fails
no_value version q bytes section pairs i entries rest kind.NotFound total lt here fails so_far = absurd fails
no_value version q bytes section pairs i entries rest kind.Io total lt here fails so_far = absurd fails
no_value version q bytes section pairs i entries rest kind.OutOfMemory total lt here fails so_far = tt

pub puts_done : (version : ℕ) (q : CodePage) (bytes : List ℕ) (section : ℕ) (pairs : List (ℕ × ℕ)) (i : ℕ) (entries : List (ℕ × PropertyValue)) (total : Option (List (ℕ × PropertyValue)))
    → length pairs ≤ i → put_values version q bytes section (drop i pairs) entries ≡ total → total ≡ Some entries
unfolding put_values
puts_done version q bytes section pairs i entries total le so_far =
    let one : put_values version q bytes section [] entries ≡ Some entries = refl in
    sym so_far ∙ ap (λ (x : List (ℕ × ℕ)). put_values version q bytes section x entries) (drop_all i pairs le) ∙ one
