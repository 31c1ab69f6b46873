-- The place that is wrong first, and errors at it.
use Rattle.std.proofs.Common.{◌≡◌, ◌≢◌, ◌<◌, ◌≤◌, ◌+◌, ℕ, zero, suc, List, [], ◌∷◌, drop, get_or, map, Option, Some, None, Result, Ok, Err, refl, sym, ap, subst, ◌∙◌, length, arith, ne_eqb}
use Rattle.std.specs.Prelude.{IfErr, IsErrAnd, min}
use Rattle.std.specs.Option.{option_or}
use Rattle.std.proofs.lemmas.Bool.Decides.{Decides-eqb}
use Rattle.std.proofs.lemmas.List.{drop_all, length-map}
use Rattle.msi_base.specs.declared.errors.ErrorKind.{ErrorKind}
use Rattle.msi_base.specs.declared.errors.ErrorKind.TheVariants as kind
use Rattle.msi_base.specs.Results as results
use Rattle.msi_base.specs.Results.{FailsAs}
use Rattle.msi_base.proofs.ListLemmas.{drop_next}
use Rattle.msi_exchange.specs.declared.errors.Place.{Place}
use Rattle.msi_exchange.specs.Places.{Fault, GetsPlace, Gives, IsAt, Placed, at, first_wrong, first_wrong_pair, no_memory, uneven, unless, unless_read}

-- ---- errors

input_no_memory : kind.InvalidInput ≢ kind.OutOfMemory
input_no_memory e = cc

-- an error that a call passed on, or that comes of memory
pub passed_on : {X Y : Type 0} (view : X → Y) (r : Result X Fault) (e : Fault) (whole : Option Y) → IsErrAnd r (λ k. k ≡ e) → FailsAs e.kind whole → Gives view r whole
passed_on view (Ok x) e whole is fails = absurd is
passed_on view (Err k) e whole is fails = subst (λ (k : Fault). FailsAs k.kind whole) (sym is) fails

pub placed_on : {X : Type 0} (r : Result X Fault) (e : Fault) (wrong : Option Place) → IsErrAnd r (λ k. k ≡ e) → IsAt e.place e.kind wrong → Placed r wrong
placed_on (Ok x) e wrong is fails = absurd is
placed_on (Err k) e wrong is fails = subst (λ (k : Fault). IsAt k.place k.kind wrong) (sym is) fails

pub no_place : {X : Type 0} (r : Result X Fault) (wrong : Option Place) → IsErrAnd r (λ k. k ≡ no_memory) → Placed r wrong
no_place r wrong is = placed_on r no_memory wrong is refl

pub placed_err : {X : Type 0} (r : Result X Fault) (wrong : Option Place) → Placed r wrong → IfErr r (λ e. IsAt e.place e.kind wrong)
placed_err (Ok x) wrong h = tt
placed_err (Err e) wrong h = h

pub kind_is : {X : Type 0} (r : Result X Fault) (e : Fault) (k : ErrorKind) → IsErrAnd r (λ f. f ≡ e) → e.kind ≡ k → IfErr r (λ f. f.kind ≡ k)
kind_is (Ok x) e k is h = tt
kind_is (Err f) e k is h = ap (λ (g : Fault). g.kind) is ∙ h

-- an error of data at a place
pub refused_at : {Y : Type 0} (e : Fault) (place : Place) (read : Option Y) → e ≡ record { kind = kind.InvalidData; place = Some place } → read ≡ None → FailsAs e.kind read
refused_at e place read is none = subst (λ (k : Fault). FailsAs k.kind read) (sym is) none

data_no_memory : kind.InvalidData ≢ kind.OutOfMemory
data_no_memory e = cc

pub placed_at : (e : Fault) (place : Place) (wrong : Option Place) → e ≡ record { kind = kind.InvalidData; place = Some place } → wrong ≡ Some place → IsAt e.place e.kind wrong
placed_at e place wrong is found = subst (λ (k : Fault). IsAt k.place k.kind wrong) (sym is) (data_no_memory, found)

pub input_at : (e : Fault) (place : Place) (wrong : Option Place) → e ≡ record { kind = kind.InvalidInput; place = Some place } → wrong ≡ Some place → IsAt e.place e.kind wrong
input_at e place wrong is found = subst (λ (k : Fault). IsAt k.place k.kind wrong) (sym is) (input_no_memory, found)

-- a place that is wrong before others
pub at_first : (place : Option Place) (k : ErrorKind) (wrong later : Option Place) → IsAt place k wrong → IsAt place k (option_or wrong later)
at_first None k wrong later h = h
at_first (Some p) k wrong later h = (h.0, ap (λ o. option_or o later) h.1)

-- what is wrong later, where nothing is before
pub at_later : (place : Option Place) (k : ErrorKind) (before wrong : Option Place) → before ≡ None → IsAt place k wrong → IsAt place k (option_or before wrong)
at_later place k before wrong none h = subst (IsAt place k) (sym (ap (λ o. option_or o wrong) none)) h

pub placed_later : {X : Type 0} (r : Result X Fault) (before wrong : Option Place) → before ≡ None → Placed r wrong → Placed r (option_or before wrong)
placed_later r before wrong none h = subst (Placed r) (sym (ap (λ o. option_or o wrong) none)) h

pub none_wrong : (a b : Option Place) → a ≡ None → b ≡ None → option_or a b ≡ None
none_wrong a b e f = ap (λ o. option_or o b) e ∙ f

-- ---- a field that is read at a place

pub value_at : {X Y : Type 0} (view : X → Y) (place : Place) (read : Result X ErrorKind) (r : Result X Fault) (o : Option Y) → GetsPlace place read r → results.Gives view read o → Gives view r o
value_at view place read (Ok x) o h g = subst (λ s. results.Gives view s o) h g
value_at view place read (Err e) o h g = subst (λ s. results.Gives view s o) h.0 g

nothing_read : {Y : Type 0} (k : ErrorKind) (o : Option Y) → k ≢ kind.OutOfMemory → FailsAs k o → o ≡ None
nothing_read kind.OutOfMemory o n h = absurd (n refl)
nothing_read kind.InvalidData o n h = h
nothing_read k o n h = absurd h

by_place : {Y : Type 0} (p : Option Place) (k : ErrorKind) (place : Place) (o : Option Y) → FailsAs k o → IsAt p k (Some place) → IsAt p k (unless_read o place)
by_place None k place o h at = at
by_place (Some p) k place o h at = (at.0, ap (λ s. unless_read s place) (nothing_read k o at.0 h) ∙ at.1)

pub place_at : {X Y : Type 0} (view : X → Y) (place : Place) (read : Result X ErrorKind) (r : Result X Fault) (o : Option Y) → GetsPlace place read r → results.Gives view read o → Placed r (unless_read o place)
place_at view place read (Ok x) o h g = let e : o ≡ Some (view x) = subst (λ s. results.Gives view s o) h g in ap (λ s. unless_read s place) e
place_at view place read (Err e) o h g =
    let f : FailsAs e.kind o = subst (λ s. results.Gives view s o) h.0 g in
    by_place e.place e.kind place o f h.1

-- ---- lines of as many fields as there are columns

pub is_even : (line m n : ℕ) → m ≡ n → uneven line m n ≡ None
is_even line m n e = ap (λ b. unless b (at line (min m n + 1))) ((Decides-eqb m n).1 e)

pub uneven_is : (line m n : ℕ) → m ≢ n → uneven line m n ≡ Some (at line (min m n + 1))
uneven_is line m n h = ap (λ b. unless b (at line (min m n + 1))) (ne_eqb m n h)

-- ---- loops: what is wrong first of the elements from i on

-- elements that are seen by view
pub viewed_at : {F X : Type 0} (view : F → X) (xs : List F) (i : ℕ) (d : F) → view (get_or xs i d) ≡ get_or (map view xs) i (view (get_or xs i d))
viewed_at view [] i d = refl
viewed_at view (x ∷ xs) zero d = refl
viewed_at view (x ∷ xs) (suc i) d = viewed_at view xs i d

module _ {X : Type 0} (wrong : ℕ → X → Option Place) (xs : List X) (whole : Option Place) (start i : ℕ) (so_far : first_wrong wrong (start + i) (drop i xs) ≡ whole) where
  next : (n : ℕ) (x : X) → n ≡ start + i → i < length xs → x ≡ get_or xs i x → option_or (wrong n x) (first_wrong wrong (start + (i + 1)) (drop (i + 1) xs)) ≡ whole
  next n x here within is =
      let number : start + i + 1 ≡ start + (i + 1) = omega arith in
      ap (λ (m : ℕ). option_or (wrong m x) (first_wrong wrong (start + (i + 1)) (drop (i + 1) xs))) here
      ∙ ap (λ (m : ℕ). option_or (wrong (start + i) x) (first_wrong wrong m (drop (i + 1) xs))) (sym number)
      ∙ ap (first_wrong wrong (start + i)) (sym (drop_next xs i x within is)) ∙ so_far

  pub wrong_more : (n : ℕ) (x : X) → n ≡ start + i → i < length xs → x ≡ get_or xs i x → wrong n x ≡ None → first_wrong wrong (start + (i + 1)) (drop (i + 1) xs) ≡ whole
  wrong_more n x here within is e = sym (ap (λ o. option_or o (first_wrong wrong (start + (i + 1)) (drop (i + 1) xs))) e) ∙ next n x here within is

  pub wrong_stopped : (n : ℕ) (x : X) (e : Fault) → n ≡ start + i → i < length xs → x ≡ get_or xs i x → IsAt e.place e.kind (wrong n x) → IsAt e.place e.kind whole
  wrong_stopped n x e here within is h =
      subst (IsAt e.place e.kind) (next n x here within is) (at_first e.place e.kind (wrong n x) (first_wrong wrong (start + (i + 1)) (drop (i + 1) xs)) h)

  pub wrong_ended : length xs ≤ i → whole ≡ None
  wrong_ended past = sym so_far ∙ ap (first_wrong wrong (start + i)) (drop_all i xs past)

module _ {X Y : Type 0} (wrong : ℕ → X → Y → Option Place) (xs : List X) (ys : List Y) (whole : Option Place) (i : ℕ) (same : length xs ≡ length ys)
    (so_far : first_wrong_pair wrong (1 + i) (drop i xs) (drop i ys) ≡ whole) where
  abbrev later : Option Place
  later = first_wrong_pair wrong (1 + (i + 1)) (drop (i + 1) xs) (drop (i + 1) ys)

  next_pair : (n : ℕ) (x : X) (y : Y) → n ≡ i + 1 → i < length xs → x ≡ get_or xs i x → y ≡ get_or ys i y → option_or (wrong n x y) later ≡ whole
  next_pair n x y here within is also =
      let first : n ≡ 1 + i = omega arith in
      let number : 1 + i + 1 ≡ 1 + (i + 1) = omega arith in
      ap (λ (m : ℕ). option_or (wrong m x y) later) first
      ∙ ap (λ (m : ℕ). option_or (wrong (1 + i) x y) (first_wrong_pair wrong m (drop (i + 1) xs) (drop (i + 1) ys))) (sym number)
      ∙ ap (λ (us : List X). first_wrong_pair wrong (1 + i) us (y ∷ drop (i + 1) ys)) (sym (drop_next xs i x within is))
      ∙ ap (first_wrong_pair wrong (1 + i) (drop i xs)) (sym (drop_next ys i y (omega arith) also)) ∙ so_far

  pub pair_more : (n : ℕ) (x : X) (y : Y) → n ≡ i + 1 → i < length xs → x ≡ get_or xs i x → y ≡ get_or ys i y → wrong n x y ≡ None → later ≡ whole
  pair_more n x y here within is also e = sym (ap (λ o. option_or o later) e) ∙ next_pair n x y here within is also

  pub pair_stopped : (n : ℕ) (x : X) (y : Y) (e : Fault) → n ≡ i + 1 → i < length xs → x ≡ get_or xs i x → y ≡ get_or ys i y → IsAt e.place e.kind (wrong n x y) → IsAt e.place e.kind whole
  pair_stopped n x y e here within is also h =
      subst (IsAt e.place e.kind) (next_pair n x y here within is also) (at_first e.place e.kind (wrong n x y) later h)

  pub pair_ended : length xs ≤ i → whole ≡ None
  pair_ended past = sym so_far ∙ ap (λ (us : List X). first_wrong_pair wrong (1 + i) us (drop i ys)) (drop_all i xs past)

-- the same where the elements are seen by view
module _ {F X : Type 0} (view : F → X) (wrong : ℕ → X → Option Place) (xs : List F) (whole : Option Place) (start i : ℕ) (so_far : first_wrong wrong (start + i) (drop i (map view xs)) ≡ whole) where
  pub viewed_more : (n : ℕ) (d : F) → n ≡ start + i → i < length xs → wrong n (view (get_or xs i d)) ≡ None → first_wrong wrong (start + (i + 1)) (drop (i + 1) (map view xs)) ≡ whole
  viewed_more n d here within e = wrong_more wrong (map view xs) whole start i so_far n (view (get_or xs i d)) here (omega (arith, length-map xs view)) (viewed_at view xs i d) e

  pub viewed_stopped : (n : ℕ) (d : F) (e : Fault) → n ≡ start + i → i < length xs → IsAt e.place e.kind (wrong n (view (get_or xs i d))) → IsAt e.place e.kind whole
  viewed_stopped n d e here within h = wrong_stopped wrong (map view xs) whole start i so_far n (view (get_or xs i d)) e here (omega (arith, length-map xs view)) (viewed_at view xs i d) h

  pub viewed_ended : length xs ≤ i → whole ≡ None
  viewed_ended past = wrong_ended wrong (map view xs) whole start i so_far (omega (arith, length-map xs view))

module _ {C F X : Type 0} (view : F → X) (wrong : ℕ → C → X → Option Place) (cs : List C) (xs : List F) (whole : Option Place) (i : ℕ) (same : length cs ≡ length xs)
    (so_far : first_wrong_pair wrong (1 + i) (drop i cs) (drop i (map view xs)) ≡ whole) where
  pub beside_more : (n : ℕ) (c : C) (d : F) → n ≡ i + 1 → i < length cs → c ≡ get_or cs i c → wrong n c (view (get_or xs i d)) ≡ None
      → first_wrong_pair wrong (1 + (i + 1)) (drop (i + 1) cs) (drop (i + 1) (map view xs)) ≡ whole
  beside_more n c d here within is e = pair_more wrong cs (map view xs) whole i (same ∙ sym (length-map xs view)) so_far n c (view (get_or xs i d)) here within is (viewed_at view xs i d) e

  pub beside_stopped : (n : ℕ) (c : C) (d : F) (e : Fault) → n ≡ i + 1 → i < length cs → c ≡ get_or cs i c → IsAt e.place e.kind (wrong n c (view (get_or xs i d))) → IsAt e.place e.kind whole
  beside_stopped n c d e here within is h = pair_stopped wrong cs (map view xs) whole i (same ∙ sym (length-map xs view)) so_far n c (view (get_or xs i d)) e here within is (viewed_at view xs i d) h

  pub beside_ended : length cs ≤ i → whole ≡ None
  beside_ended past = pair_ended wrong cs (map view xs) whole i (same ∙ sym (length-map xs view)) so_far past

module _ {E F C X : Type 0} (left : E → C) (view : F → X) (wrong : ℕ → C → X → Option Place) (es : List E) (xs : List F) (whole : Option Place) (i : ℕ) (same : length es ≡ length xs)
    (so_far : first_wrong_pair wrong (1 + i) (drop i (map left es)) (drop i (map view xs)) ≡ whole) where
  pub viewed_pair_more : (n : ℕ) (c : E) (d : F) → n ≡ i + 1 → i < length es → wrong n (left (get_or es i c)) (view (get_or xs i d)) ≡ None
      → first_wrong_pair wrong (1 + (i + 1)) (drop (i + 1) (map left es)) (drop (i + 1) (map view xs)) ≡ whole
  viewed_pair_more n c d here within e =
      beside_more view wrong (map left es) xs whole i (length-map es left ∙ same) so_far n (left (get_or es i c)) d here (omega (arith, length-map es left)) (viewed_at left es i c) e

  pub viewed_pair_stopped : (n : ℕ) (c : E) (d : F) (e : Fault) → n ≡ i + 1 → i < length es → IsAt e.place e.kind (wrong n (left (get_or es i c)) (view (get_or xs i d))) → IsAt e.place e.kind whole
  viewed_pair_stopped n c d e here within h =
      beside_stopped view wrong (map left es) xs whole i (length-map es left ∙ same) so_far n (left (get_or es i c)) d e here (omega (arith, length-map es left)) (viewed_at left es i c) h

  pub viewed_pair_ended : length es ≤ i → whole ≡ None
  viewed_pair_ended past = beside_ended view wrong (map left es) xs whole i (length-map es left ∙ same) so_far (omega (arith, length-map es left))
