-- What holds of entries holds of the streams among them.
use Rattle.std.proofs.Common.{◌≡◌, ◌≢◌, refl, ℕ, zero, suc, ◌*◌, ◌/◌, ◌<◌, Bool, true, false, cond, eqb, List, [], ◌∷◌, length, get_or, filter, ◌∙◌, ap, arith, Result, Ok, Err, IfOk}
use Rattle.msi_base.specs.declared.errors.ErrorKind.{ErrorKind}
use Rattle.msi_base.specs.declared.errors.ErrorKind.TheVariants.{InvalidData}
use Rattle.msi_container_tables.specs.Outcomes.{ViewIsUnlessMemory}
use Rattle.std.specs.List.{AllZip}
use Rattle.std.proofs.lemmas.Grind.{div_ceil_times}
use Rattle.std.specs.Int.{div_ceil}
use Rattle.msi_container_format.specs.Container.{size, sector_size, start_sector, successor, child, entry_count, version, is_mini, IsDirectoryTree, IsMembers, mini_sectors_in, all_mini_sectors}
use Rattle.msi_container_format.specs.Chains.{AreBelow, AreDistinct, IsChain}
use Rattle.msi_container_format.specs.Trees.{Tree, members}
use Rattle.msi_container_format.proofs.PlanOnceLemmas.{Each}
use Rattle.msi_container_tables.specs.Reading.{AreOfKinds, IsNamelessListing, IsCovered, mini_limit}
use Rattle.msi_container_tables.proofs.chains.ClaimedLemmas.{below_front, below_back}

pub each_rest : (P : ℕ → Type 0) (x : ℕ) (xs : List ℕ) → Each P (x ∷ xs) → Each P xs
each_rest P x xs h i l = h (suc i) (omega arith)

pub each_more : (P : ℕ → Type 0) (x : ℕ) (xs : List ℕ) → P x → Each P xs → Each P (x ∷ xs)
each_more P x xs here h zero l = here
each_more P x xs here h (suc i) l = h i (omega arith)

pub filter_each : (P : ℕ → Type 0) (p : ℕ → Bool) (xs : List ℕ) → Each P xs → Each P (filter p xs)
filter_each P p [] h = λ i l. absurd (omega arith)
filter_each P p (x ∷ xs) h =
    let rest = filter_each P p xs (each_rest P x xs h) in
    kept (p x) rest
  where
    kept : (b : Bool) → Each P (filter p xs) → Each P (cond b (x ∷ filter p xs) (filter p xs))
    kept true rest = each_more P x (filter p xs) (h 0 (omega arith)) rest
    kept false rest = rest

-- no two have one name
abbrev pub Apart : (ℕ → List ℕ) → List ℕ → Type 0
Apart f xs = (i j : ℕ) → i < j → j < length xs → f (get_or xs i 0) ≢ f (get_or xs j 0)

pub apart_more : (f : ℕ → List ℕ) (x : ℕ) (xs : List ℕ) → Each (λ y. f x ≢ f y) xs → Apart f xs → Apart f (x ∷ xs)
apart_more f x xs here h i zero l b = absurd (omega arith)
apart_more f x xs here h zero (suc j) l b = here j (omega arith)
apart_more f x xs here h (suc i) (suc j) l b = h i j (omega arith) (omega arith)

pub filter_apart : (f : ℕ → List ℕ) (p : ℕ → Bool) (xs : List ℕ) → Apart f xs → Apart f (filter p xs)
filter_apart f p [] h = λ i j l b. absurd (omega arith)
filter_apart f p (x ∷ xs) h =
    let rest = filter_apart f p xs (λ i j l b. h (suc i) (suc j) (omega arith) (omega arith)) in
    let here = filter_each (λ y. f x ≢ f y) p xs (λ j b. h 0 (suc j) (omega arith) (omega arith)) in
    kept (p x) here rest
  where
    kept : (b : Bool) → Each (λ y. f x ≢ f y) (filter p xs) → Apart f (filter p xs) → Apart f (cond b (x ∷ filter p xs) (filter p xs))
    kept true here rest = apart_more f x (filter p xs) here rest
    kept false here rest = rest

pub some_size : (bytes : List ℕ) → 0 < sector_size bytes
some_size bytes = sized (eqb (version bytes) 4)
  where
    sized : (b : Bool) → 0 < cond b 4096 512
    sized true = omega arith
    sized false = omega arith

-- a sector of the directory has entries
pub some_entries : (bytes directory : List ℕ) → 0 < length directory → 0 < entry_count bytes directory
some_entries bytes directory l = sized (eqb (version bytes) 4)
  where
    sized : (b : Bool) → 0 < length directory * (cond b 4096 512 / 128)
    sized true = omega arith
    sized false = omega arith

-- a stream's members cover it
covered_one : (bytes fat mini_fat mini_stream directory : List ℕ) (k : ℕ) (c : List ℕ) (b : Bool) → 0 < sector_size bytes → is_mini (size bytes directory k) ≡ b
    → IsChain (successor bytes (cond b mini_fat fat)) (start_sector bytes directory k) (div_ceil (size bytes directory k) (cond b 64 (sector_size bytes))) c
    → AreBelow (mini_limit bytes mini_stream) (cond b c []) → IsCovered bytes mini_stream directory k c
covered_one bytes fat mini_fat mini_stream directory k c true z e h below = record {
  large = λ f. absurd cc;
  small = λ _. let t = div_ceil_times (size bytes directory k) 64 (omega arith) in omega (arith, t.0, h.long);
  within = λ _. below;
}
covered_one bytes fat mini_fat mini_stream directory k c false z e h below = record {
  large = λ _. rw h.long (div_ceil_times (size bytes directory k) (sector_size bytes) z).0;
  small = λ f. absurd cc;
  within = λ f. absurd cc;
}

pub covered : (bytes fat mini_fat mini_stream directory ks : List ℕ) (cs : List (List ℕ)) → 0 < sector_size bytes
    → AllZip (IsMembers bytes fat mini_fat directory) ks cs → AreBelow (mini_limit bytes mini_stream) (all_mini_sectors bytes directory ks cs)
    → AllZip (IsCovered bytes mini_stream directory) ks cs
covered bytes fat mini_fat mini_stream directory [] [] z h b = tt
covered bytes fat mini_fat mini_stream directory [] (c ∷ cs) z h b = absurd h
covered bytes fat mini_fat mini_stream directory (k ∷ ks) [] z h b = absurd h
covered bytes fat mini_fat mini_stream directory (k ∷ ks) (c ∷ cs) z h b = (
  covered_one bytes fat mini_fat mini_stream directory k c (is_mini (size bytes directory k)) z refl h.0
      (below_front (mini_limit bytes mini_stream) (mini_sectors_in bytes directory (k, c)) (all_mini_sectors bytes directory ks cs) b),
  covered bytes fat mini_fat mini_stream directory ks cs z h.1
      (below_back (mini_limit bytes mini_stream) (mini_sectors_in bytes directory (k, c)) (all_mini_sectors bytes directory ks cs) b),
)

pub if_ok_map3 : {X : Type 0} (r : Result X ErrorKind) (P Q R S : X → Type 0) → ((x : X) → P x → Q x → R x → S x) → IfOk r P → IfOk r Q → IfOk r R → IfOk r S
if_ok_map3 (Ok x) P Q R S f p q r = f x p q r
if_ok_map3 (Err e) P Q R S f p q r = tt

-- what lacks nothing but memory isn't refused for its bytes
pub gives_not_invalid : {X Y : Type 0} (view : X → Y) (r : Result X ErrorKind) (y : Y) → ViewIsUnlessMemory view r y → ◌≡◌ {A = Result X ErrorKind} r (Err InvalidData) → ⊥
gives_not_invalid view (Ok x) y g e = absurd cc
gives_not_invalid view (Err f) y g e = absurd cc

-- the entries that are reached, where each of them is a storage or a stream
pub listing_found : (bytes directory : List ℕ) (storage top : ℕ) (tree : Tree) (entries seen : List ℕ)
    → top ≡ child bytes directory storage
    → IsDirectoryTree bytes directory top tree
    → members tree ≡ entries
    → AreDistinct entries
    → seen ≡ entries
    → AreOfKinds bytes directory seen
    → IsNamelessListing bytes directory storage tree
listing_found bytes directory storage top tree entries seen t spelled same distinct s kinds = record {
  spelled = rw t at spelled;
  once = rw same distinct;
  kinds = rw same (rw s at kinds);
}

-- what was made of the entries, behind a slice, is made of the tree's members
pub made_of : {X : Type 0} (f : List ℕ → X) (found : X) (seen entries all : List ℕ) → found ≡ f seen → seen ≡ entries → entries ≡ all → found ≡ f all
made_of f found seen entries all e s m = e ∙ ap f (s ∙ m)

pub both_are : {X Y : Type 0} (a b : X) (d e : Y) → a ≡ b → d ≡ e → ◌≡◌ {A = X × Y} (a, d) (b, e)
both_are a b d e p q = rw (p, q) refl
