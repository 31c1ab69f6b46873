-- Streams that are lent for changing, put and put back.
use Rattle.std.proofs.Common.{◌≡◌, ℕ, Bool, List, Option, Some, None, cond, is_some, true, false, refl, sym, ap, ◌∙◌, OnSome, rules}
use Rattle.std.specs.BTreeMap.{BTreeMap, WritesThrough, get_by}
use Rattle.std.specs.Borrow.{MutBor}
use Rattle.std.specs.Cmp.{eq_by_cmp_equiv}
use Rattle.std.specs.declared.cmp.Ordering.{Ordering}
use Rattle.std.specs.declared.cmp.Ordering.TheVariants.{Equal}
use Rattle.std.specs.FinMap.{contains_key, from_entries, get, get-insert, get-remove, insert, same_map}
use Rattle.std.specs.Option.{option_copied_mut}
use Rattle.std.specs.Ordering.{eq_by_cmp, is_eq}
use Rattle.msi_base.proofs.BoolLemmas.{cond_twice}
use Rattle.msi_container_format.specs.Names.{name_cmp}
use Rattle.msi_container_format.specs.Streams.{Streams, with_or_without}
use Rattle.msi_container_format.proofs.NamesLemmas.{exact_names, from_entries_updated, names_total}

on_some : {A : Type 0} (r : Option A) (P : Type 0) → (is_some r ≡ true → P) → OnSome r P
on_some None P f = tt
on_some (Some x) P f = f refl

some_copied : {A : Type 0} (r : Option (MutBor A)) → is_some (option_copied_mut r) ≡ is_some r
some_copied None = refl
some_copied (Some x) = refl

-- a stream that is there, with other bytes written into it
pub written : (m n : BTreeMap (List ℕ) (List ℕ)) (name w : List ℕ)
    → is_some (get_by (name_cmp name) m) ≡ true → WritesThrough name_cmp (name_cmp name) m w n
    → from_entries {R = name_cmp} n.entries ≡ insert (from_entries m.entries) name w
written m n name w there writes = from_entries_updated m.entries n.entries name w (writes.3 there).0

-- the same, by what was lent
pub written_if_lent : (streams : Streams) (m n : BTreeMap (List ℕ) (List ℕ)) (name w : List ℕ) (r : Option (MutBor (List ℕ)))
    → from_entries m.entries ≡ streams → option_copied_mut r ≡ get_by (name_cmp name) m → WritesThrough name_cmp (name_cmp name) m w n
    → OnSome r (from_entries {R = name_cmp} n.entries ≡ insert streams name w)
written_if_lent streams m n name w r view lent writes =
    on_some r _ (λ some. written m n name w (ap is_some (sym lent) ∙ some_copied r ∙ some) writes ∙ ap (λ s. insert s name w) view)

-- a stream that is put is there
pub there_once_put : (streams : Streams) (name bytes : List ℕ) → contains_key (insert streams name bytes) name ≡ true
there_once_put streams name bytes =
    ap is_some (get-insert names_total streams name bytes name ∙ ap (λ same. cond same (Some bytes) (get streams name)) ((eq_by_cmp_equiv names_total).refl name))

-- what stands at a name is a value where it is that name, and else what stood there
get_put_back : (streams : Streams) (name : List ℕ) (value : Option (List ℕ)) (q : List ℕ) → get (with_or_without streams name value) q ≡ cond (eq_by_cmp name_cmp q name) value (get streams q)
get_put_back streams name None q = get-remove names_total streams name q
get_put_back streams name (Some bytes) q = get-insert names_total streams name bytes q

pub is_equal : (o : Ordering) → is_eq o ≡ true → o ≡ Equal
is_equal o h = search rules

held_there : (streams : Streams) (name q : List ℕ) (same : Bool) → eq_by_cmp name_cmp q name ≡ same → cond same (get streams name) (get streams q) ≡ get streams q
held_there streams name q true e = ap (get streams) (sym (exact_names q name (is_equal _ e)))
held_there streams name q false e = refl

-- what was there, put back, leaves the streams as they were
pub put_back_same : (streams : Streams) (name bytes : List ℕ) → with_or_without (insert streams name bytes) name (get streams name) ≡ streams
put_back_same streams name bytes = same_map names_total exact_names _ _ (λ q.
    get_put_back (insert streams name bytes) name (get streams name) q
    ∙ ap (cond (eq_by_cmp name_cmp q name) (get streams name)) (get-insert names_total streams name bytes q)
    ∙ cond_twice (eq_by_cmp name_cmp q name) (Some bytes) (get streams name) (get streams q)
    ∙ held_there streams name q (eq_by_cmp name_cmp q name) refl)
