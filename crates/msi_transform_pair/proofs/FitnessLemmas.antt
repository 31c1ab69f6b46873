-- Why no transform is made, as loops find it.
use Rattle.std.proofs.Common.{◌≡◌, ℕ, ◌+◌, ◌-◌, ◌<◌, ◌≤◌, Bool, false, List, [], ◌∷◌, ◌++◌, drop, get_or, length, inl, inr, refl, sym, ap, arith, ◌∙◌}
use Rattle.std.specs.Prelude.{◌||◌, Option, Some, None, slice_get}
use Rattle.std.specs.Borrow.{Bor}
use Rattle.std.specs.Prelude.{◌≢◌, IfSome}
use Rattle.std.specs.List.{flat_map, list_any}
use Rattle.std.specs.Option.{option_map_or}
use Rattle.std.proofs.lemmas.List.{drop_all, drop_more, get_or-map}
use Rattle.std.proofs.lemmas.Option.{slice_get-get_or}
use Rattle.msi_base.specs.Refusals.{Refusals, earlier, first_refusal}
use Rattle.msi_base.specs.declared.codepage.CodePage.{CodePage}
use Rattle.msi_base.specs.declared.errors.ErrorKind.{ErrorKind}
use Rattle.msi_base.specs.declared.errors.ErrorKind.TheVariants.{OutOfMemory}
use Rattle.msi_base.proofs.BoolLemmas.{by_test}
use Rattle.msi_pool.specs.Pool.{Place}
use Rattle.msi_pool.specs.FirstFit.{count_of}
use Rattle.msi_pool.specs.FirstFitLaws.{count_at, text_at}
use Rattle.msi_table_values.specs.declared.value.Value.{Value}
use Rattle.msi_transform_pair.specs.Pair.{StopsBy, begin_alike, is_lacking}
use Rattle.msi_transform_pair.specs.MakingRefusals.{IsAtFault}
use Rattle.msi_transform_pair.specs.Names.{names_in}

-- A TEXT THAT THE PAGE LACKS

abbrev pub is_lacked : CodePage → List Place → Bool
is_lacked page places = list_any (is_lacking page) places

abbrev nowhere : Place
nowhere = record { text = []; count = 0 }

pub lacked_more : (page : CodePage) (places : List Place) (at count : ℕ) (text : List ℕ) (b : Bool) → at < length places → count ≡ count_at places (at + 1) → text ≡ text_at places (at + 1)
    → b ≡ is_lacking page (record { text = text; count = count }) → is_lacked page (drop at places) ≡ (b || is_lacked page (drop (at + 1) places))
lacked_more page places at count text b h c t is =
    let p = get_or places at nowhere in
    let same : at + 1 - 1 ≡ at = omega arith in
    let there : slice_get places at ≡ Some p = slice_get-get_or places at nowhere h in
    let count_is : count ≡ p.count = c ∙ ap (λ (n : ℕ). count_of (slice_get places n)) same ∙ ap count_of there in
    let text_is : text ≡ p.text = t ∙ ap (λ (n : ℕ). option_map_or (λ (p : Place). p.text) (slice_get places n) []) same ∙ ap (λ (o : Option Place). option_map_or (λ (p : Place). p.text) o []) there in
    ap (is_lacked page) (drop_more places at nowhere h)
    ∙ ap (λ (n : ℕ). is_lacking page (record { text = p.text; count = n }) || is_lacked page (drop (at + 1) places)) (sym count_is)
    ∙ ap (λ (bs : List ℕ). is_lacking page (record { text = bs; count = count }) || is_lacked page (drop (at + 1) places)) (sym text_is)
    ∙ ap (λ (x : Bool). x || is_lacked page (drop (at + 1) places)) (sym is)

-- ROWS THAT BEGIN ALIKE

pub ends_early : (rows others : List (List Value)) (i : ℕ) → i < length rows → length others ≤ i → begin_alike (drop i rows) (drop i others) ≡ false
ends_early rows others i inside past =
    ap (begin_alike (drop i rows)) (drop_all i others past) ∙ ap (λ (rs : List (List Value)). begin_alike rs []) (drop_more rows i [] inside)

-- REASONS IN ORDER

pub joined : (rs others : Refusals) → first_refusal (rs ++ others) ≡ earlier (first_refusal rs) (first_refusal others)
joined [] others = refl
joined (r ∷ rs) others = by_test r.0 (λ t. rw t refl) (λ t. rw t (joined rs others))

pub after_passed : (rs others : Refusals) → first_refusal rs ≡ None → first_refusal (rs ++ others) ≡ first_refusal others
after_passed rs others e = joined rs others ∙ ap (λ (o : Option ErrorKind). earlier o (first_refusal others)) e

pub stopped : (rs others : Refusals) (k : ErrorKind) → first_refusal rs ≡ Some k → first_refusal (rs ++ others) ≡ Some k
stopped rs others k e = joined rs others ∙ ap (λ (o : Option ErrorKind). earlier o (first_refusal others)) e

-- table by table, each by its name
module _ (f : List ℕ → Refusals) (all : List (Bor (List ℕ))) (i : ℕ) (d : Bor (List ℕ)) (inside : i < length all)
    (same : first_refusal (flat_map f (names_in (drop i all))) ≡ first_refusal (flat_map f (names_in all))) where
  opened : first_refusal (flat_map f (names_in (drop i all))) ≡ first_refusal (f (get_or all i d).now ++ flat_map f (names_in (drop (i + 1) all)))
  opened = ap (λ (ns : List (Bor (List ℕ))). first_refusal (flat_map f (names_in ns))) (drop_more all i d inside)

  pub tables_stop : (k : ErrorKind) → StopsBy (f (get_or all i d).now) k → StopsBy (flat_map f (names_in all)) k
  tables_stop k (inl m) = inl m
  tables_stop k (inr e) = inr (sym same ∙ opened ∙ stopped (f (get_or all i d).now) (flat_map f (names_in (drop (i + 1) all))) k e)

  pub tables_pass : first_refusal (f (get_or all i d).now) ≡ None → first_refusal (flat_map f (names_in (drop (i + 1) all))) ≡ first_refusal (flat_map f (names_in all))
  tables_pass e = sym (opened ∙ after_passed (f (get_or all i d).now) (flat_map f (names_in (drop (i + 1) all))) e) ∙ same

-- the table that is at fault
pub fault_found : (f : List ℕ → Refusals) (all : List (Bor (List ℕ))) (i : ℕ) (d : Bor (List ℕ)) (kind error : ErrorKind) (table : Option ℕ) → i < length all → kind ≡ error
    → IfSome table (λ place. (place ≡ i) × (error ≢ OutOfMemory)) → StopsBy (f (get_or all i d).now) error → IsAtFault f (names_in all) (record { kind = kind; table = table })
fault_found f all i d kind error None inside same at stops = tt
fault_found f all i d kind error (Some place) inside same at (inl m) = absurd (at.1 m)
fault_found f all i d kind error (Some place) inside same at (inr e) =
    ap (λ (n : ℕ). first_refusal (f (get_or (names_in all) n []))) at.0
    ∙ ap (λ (name : List ℕ). first_refusal (f name)) (get_or-map (λ (n : Bor (List ℕ)). n.now) all i d [] inside)
    ∙ e ∙ ap Some (sym same)
