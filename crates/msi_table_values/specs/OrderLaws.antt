-- Values are ordered, and only equal ones tie.
use Rattle.std.specs.Prelude.{◌≡◌, ℕ, ℤ, List, [], pos}
use Rattle.std.specs.declared.cmp.Ordering.{Ordering}
use mathlib.Core.Path.{refl, sym, ap, subst, ◌∙◌}
use mathlib.Core.Bool.{true≢false}
use Rattle.std.specs.Bool.{Decides}
use Rattle.std.specs.declared.cmp.Ordering.TheVariants.{Less, Equal, Greater}
use Rattle.std.specs.Cmp.{IsTotalOrder, Equal-is, ranked_equal, int_ranked, nat_cmp_total, int_cmp_total, on_total}
use Rattle.std.specs.Cmp.{then_total, tied_itself, unsigned_Decides, unsigned_ties}
use Rattle.std.specs.Cmp.Lexicographic.{slice_cmp, lists_total}
use Rattle.std.specs.Ordering.{nat_cmp, int_cmp, is_eq, is_lt, is_gt, on, then_cmp, ordering_then, eq_by_cmp}
use Rattle.std.proofs.lemmas.Map.Text.{is_eq-slice_cmp}
use Rattle.std.proofs.lemmas.Slice.Eq.{bytes_eq-Decides}
use Rattle.msi_table_values.specs.declared.value.Value.{Value}
use Rattle.msi_table_values.specs.declared.value.Value.TheVariants as value
use Rattle.msi_table_values.specs.Values.{value_cmp}

pub then_Equal : (o : Ordering) → ordering_then o Equal ≡ o
then_Equal Less = refl
then_Equal Equal = refl
then_Equal Greater = refl

pub less_no_tie : {P : Type 0} → Less ≡ Equal → P
less_no_tie e = absurd (true≢false (ap is_lt e))

pub greater_no_tie : {P : Type 0} → Greater ≡ Equal → P
greater_no_tie e = absurd (true≢false (ap is_gt e))

-- what ties is equal: numbers, places and texts
pub ints_tie : (m n : ℤ) → int_cmp m n ≡ Equal → m ≡ n
ints_tie m n e = (ranked_equal m n (int_cmp m n) (int_ranked m n (int_cmp m n) refl)).0 (ap is_eq e)

pub nats_tie : (m n : ℕ) → nat_cmp m n ≡ Equal → m ≡ n
nats_tie m n e = (unsigned_Decides m n).0 (unsigned_ties m n ∙ ap is_eq e)

texts_tie : (s t : List ℕ) → slice_cmp nat_cmp s t ≡ Equal → s ≡ t
texts_tie s t e = (bytes_eq-Decides s t).0 (sym (is_eq-slice_cmp s t) ∙ ap is_eq e)

-- a value by its kind, its number and its text
abbrev kind_of : Value → ℕ
kind_of value.Null = 0
kind_of (value.Int n) = 1
kind_of (value.Str s) = 2
kind_of value.Binary = 3

abbrev number_of : Value → ℤ
number_of (value.Int n) = n
number_of _ = pos 0

abbrev bytes_of : Value → List ℕ
bytes_of (value.Str s) = s
bytes_of _ = []

abbrev by_parts : Value → Value → Ordering
by_parts = then_cmp (on kind_of nat_cmp) (then_cmp (on number_of int_cmp) (on bytes_of (slice_cmp nat_cmp)))

same_order : (v w : Value) → by_parts v w ≡ value_cmp v w
same_order value.Null value.Null = refl
same_order value.Null (value.Int n) = refl
same_order value.Null (value.Str t) = refl
same_order value.Null value.Binary = refl
same_order (value.Int m) value.Null = refl
same_order (value.Int m) (value.Int n) = then_Equal (int_cmp m n)
same_order (value.Int m) (value.Str t) = refl
same_order (value.Int m) value.Binary = refl
same_order (value.Str s) value.Null = refl
same_order (value.Str s) (value.Int n) = refl
same_order (value.Str s) (value.Str t) = refl
same_order (value.Str s) value.Binary = refl
same_order value.Binary value.Null = refl
same_order value.Binary (value.Int n) = refl
same_order value.Binary (value.Str t) = refl
same_order value.Binary value.Binary = refl

pub value_cmp-total : IsTotalOrder value_cmp
value_cmp-total = subst IsTotalOrder (λ i v w. same_order v w i) (then_total (on_total kind_of nat_cmp_total)
    (then_total (on_total number_of int_cmp_total) (on_total bytes_of (lists_total nat_cmp_total))))

pub values_tie : (v w : Value) → value_cmp v w ≡ Equal → v ≡ w
values_tie value.Null value.Null e = refl
values_tie (value.Int m) (value.Int n) e = ap value.Int (ints_tie m n e)
values_tie (value.Str s) (value.Str t) e = ap value.Str (texts_tie s t e)
values_tie value.Binary value.Binary e = refl
values_tie value.Null (value.Int n) e = less_no_tie e
values_tie value.Null (value.Str t) e = less_no_tie e
values_tie value.Null value.Binary e = less_no_tie e
values_tie (value.Int m) value.Null e = greater_no_tie e
values_tie (value.Int m) (value.Str t) e = less_no_tie e
values_tie (value.Int m) value.Binary e = less_no_tie e
values_tie (value.Str s) value.Null e = greater_no_tie e
values_tie (value.Str s) (value.Int n) e = greater_no_tie e
values_tie (value.Str s) value.Binary e = less_no_tie e
values_tie value.Binary value.Null e = greater_no_tie e
values_tie value.Binary (value.Int n) e = greater_no_tie e
values_tie value.Binary (value.Str t) e = greater_no_tie e

-- `==` says whether two values are equal
pub value_eq-Decides : (v w : Value) → Decides (eq_by_cmp value_cmp v w) (v ≡ w)
value_eq-Decides v w = (
  λ e. values_tie v w ((Equal-is (value_cmp v w)).0 e),
  λ e. ap is_eq (ap (value_cmp v) (sym e) ∙ tied_itself value_cmp-total v),
)
