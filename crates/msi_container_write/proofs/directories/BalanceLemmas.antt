-- The balanced tree of the directory: its links spell a tree whose members are each entry once.
use Rattle.std.proofs.Common.{◌≡◌, ◌≢◌, ℕ, zero, suc, ◌+◌, ◌-◌, ◌<◌, ◌≤◌, List, [], ◌∷◌, ◌++◌, length, get_or, ◌⊎◌, inl, inr, sym, ◌∙◌, subst, arith, refl}
use Rattle.std.proofs.lemmas.Bool.{cases_eq, cases_lt, lt-ltb, le-ltb, eq-eqb, ne_eqb}
use Rattle.std.proofs.lemmas.List.{get_or_append_left, get_or-append_right, get_or-append-add, length-append}
use Rattle.msi_container_format.specs.Chains.{AreDistinct}
use Rattle.msi_container_format.specs.Trees.{Tree, Leaf, Node, members, IsSpelled}
use Rattle.msi_container_format.specs.Format.{NO_ENTRY}
use Rattle.msi_container_write.specs.Balance.{half, middle, left_link, right_link}

-- a place in a joined list is in the one or in the other
pub append_cases : (xs ys : List ℕ) (i : ℕ) → i < length (xs ++ ys) → ((i < length xs) × (get_or (xs ++ ys) i 0 ≡ get_or xs i 0)) ⊎ ((length xs ≤ i) × (i - length xs < length ys) × (get_or (xs ++ ys) i 0 ≡ get_or ys (i - length xs) 0))
append_cases xs ys i l =
    elim (cases_lt i (length xs)) [
      | inl h ↦ inl (h, get_or_append_left xs ys 0 i h)
      | inr h ↦ inr (h, omega (arith, length-append xs ys), get_or-append_right xs ys (length xs) i 0 refl h)
    ]

-- lists with nothing in common
abbrev pub AreApart : List ℕ → List ℕ → Type 0
AreApart xs ys = (i j : ℕ) → i < length xs → j < length ys → get_or xs i 0 ≢ get_or ys j 0

pub distinct_append : (xs ys : List ℕ) → AreDistinct xs → AreDistinct ys → AreApart xs ys → AreDistinct (xs ++ ys)
distinct_append xs ys d e a i j l h q =
    elim (append_cases xs ys i (omega arith)) [
      | inl p ↦ elim (append_cases xs ys j h) [
        | inl r ↦ d i j l r.0 (sym p.1 ∙ q ∙ r.1)
        | inr r ↦ a i (j - length xs) p.0 r.1 (sym p.1 ∙ q ∙ r.2)
      ]
      | inr p ↦ elim (append_cases xs ys j h) [
        | inl r ↦ absurd (omega arith)
        | inr r ↦ e (i - length xs) (j - length xs) (omega arith) r.1 (sym p.2 ∙ q ∙ r.2)
      ]
    ]

-- the members of a tree are the numbers of a range, each once
pub record Covers (lo count : ℕ) (xs : List ℕ) : Type 0 where
  pub long : length xs ≡ count
  pub within : (i : ℕ) → i < length xs → (lo ≤ get_or xs i 0) × (get_or xs i 0 < lo + count)
  pub each : (k : ℕ) → lo ≤ k → k < lo + count → (i : ℕ) × (i < length xs) × (get_or xs i 0 ≡ k)
  pub distinct : AreDistinct xs

covers_none : (lo : ℕ) → Covers lo 0 []
covers_none lo = record { long = refl; within = λ i l. absurd (omega arith); each = λ k l h. absurd (omega arith); distinct = λ i j l h. absurd (omega arith) }

-- what holds of each number of two lists holds of each of them joined
pub each_append : (P : ℕ → Type 0) (xs ys : List ℕ) → ((i : ℕ) → i < length xs → P (get_or xs i 0)) → ((i : ℕ) → i < length ys → P (get_or ys i 0)) → (i : ℕ) → i < length (xs ++ ys) → P (get_or (xs ++ ys) i 0)
each_append P xs ys h k i l =
    elim (append_cases xs ys i l) [ inl p ↦ subst P (sym p.1) (h i p.0) | inr p ↦ subst P (sym p.2) (k (i - length xs) p.1) ]

-- a middle, what is below it, and what is above it
covers_node : (lo m n : ℕ) (xs ys : List ℕ) → Covers lo m xs → Covers (lo + m + 1) n ys → Covers lo (m + 1 + n) ((lo + m) ∷ (xs ++ ys))
covers_node lo m n xs ys h k =
    let one = (lo + m) ∷ [] in
    let both = length-append xs ys in
    record {
      long = omega (arith, both, h.long, k.long);
      within = each_append (λ x. (lo ≤ x) × (x < lo + (m + 1 + n))) one (xs ++ ys)
          (λ i l. let z : i ≡ 0 = omega arith in rw z (omega arith, omega arith))
          (each_append (λ x. (lo ≤ x) × (x < lo + (m + 1 + n))) xs ys
          (λ i l. let w = h.within i l in (w.0, omega (arith, w.1)))
          (λ i l. let w = k.within i l in (omega (arith, w.0), omega (arith, w.1))));
      each = λ x l u. elim (cases_lt x (lo + m)) [
        | inl b ↦ let e = h.each x l b in (suc e.0, omega (arith, both, e.1), get_or_append_left xs ys 0 e.0 e.1 ∙ e.2)
        | inr b ↦ elim (cases_eq x (lo + m)) [
          | inl q ↦ (0, omega arith, sym q)
          | inr q ↦ let e = k.each x (omega arith) (omega arith) in (suc (length xs + e.0), omega (arith, both, e.1), get_or-append-add xs ys e.0 0 ∙ e.2)
        ]
      ];
      distinct = distinct_append one (xs ++ ys) (λ i j l b. absurd (omega arith))
          (distinct_append xs ys h.distinct k.distinct (λ i j l b e. absurd (omega (arith, e, (h.within i l).1, (k.within j b).0))))
          (λ i j l b. let z : i ≡ 0 = omega arith in rw z (each_append (λ x. lo + m ≢ x) xs ys
          (λ v w e. absurd (omega (arith, e, (h.within v w).1)))
          (λ v w e. absurd (omega (arith, e, (k.within v w).0))) j b));
    }

-- links of a range spell a tree of it
pub spelled : (left right : ℕ → ℕ) (limit depth lo count : ℕ) → count ≤ depth → lo + count ≤ limit → limit ≤ NO_ENTRY → ((k : ℕ) → lo ≤ k → k < lo + count → (left k ≡ left_link depth lo count k) × (right k ≡ right_link depth lo count k)) → (t : Tree) × IsSpelled left right limit (middle lo count) t × Covers lo count (members t)
spelled left right limit zero lo count d n b h =
    let none : count ≡ 0 = omega arith in
    (Leaf, rw none refl, rw none (covers_none lo))
spelled left right limit (suc depth) lo count d n b h =
    elim (cases_eq count 0) [
      | inl none ↦ (Leaf, rw none refl, rw none (covers_none lo))
      | inr some ↦
          let m = half count in
          let k = lo + m in
          let r = count - 1 - m in
          let sum : m + 1 + r ≡ count = omega arith in
          let l = spelled left right limit depth lo m (omega arith) (omega arith) b
          (λ j a b. let hj = h j a (omega arith) in let t = lt-ltb j k b in (rw t at hj.0, rw t at hj.1)) in
          let u = spelled left right limit depth (k + 1) r (omega arith) (omega arith) b
          (λ j a b. let hj = h j (omega arith) (omega arith) in let t = le-ltb j k (omega arith) in let q = ne_eqb j k (λ e. absurd (omega arith)) in (rw (t, q) at hj.0, rw (t, q) at hj.1)) in
          let hk = h k (omega arith) (omega arith) in
          let t = le-ltb k k (omega arith) in
          let q = eq-eqb k k refl in
          let lk : left k ≡ middle lo m = rw (t, q) at hk.0 in
          let rk : right k ≡ middle (k + 1) r = rw (t, q) at hk.1 in
          let here : middle lo count ≡ k = rw (ne_eqb count 0 some) refl in
          (Node l.0 k u.0, (here, (λ e. absurd (omega arith)), omega arith, rw lk l.1, rw rk u.1), (let P : ℕ → Type 0 = λ x. Covers lo x (k ∷ (members l.0 ++ members u.0)) in subst P sum (covers_node lo m r (members l.0) (members u.0) l.2 u.2)))
    ]

-- the links of an entry below the middle, above it, and of the middle
pub step_below : (depth lo count k : ℕ) → count ≤ depth → 0 < count → k < lo + half count → (d : ℕ) × (half count ≤ d) × (left_link depth lo count k ≡ left_link d lo (half count) k) × (right_link depth lo count k ≡ right_link d lo (half count) k)
step_below zero lo count k h z l = absurd (omega arith)
step_below (suc d) lo count k h z l =
    let t = lt-ltb k (lo + half count) l in
    (d, omega arith, rw t refl, rw t refl)

pub step_above : (depth lo count k : ℕ) → count ≤ depth → 0 < count → lo + half count < k → (d : ℕ) × (count - 1 - half count ≤ d) × (left_link depth lo count k ≡ left_link d (lo + half count + 1) (count - 1 - half count) k) × (right_link depth lo count k ≡ right_link d (lo + half count + 1) (count - 1 - half count) k)
step_above zero lo count k h z l = absurd (omega arith)
step_above (suc d) lo count k h z l =
    let t = le-ltb k (lo + half count) (omega arith) in
    let q = ne_eqb k (lo + half count) (λ e. absurd (omega arith)) in
    (d, omega arith, rw (t, q) refl, rw (t, q) refl)

pub step_here : (depth lo count k : ℕ) → count ≤ depth → 0 < count → k ≡ lo + half count → (left_link depth lo count k ≡ middle lo (half count)) × (right_link depth lo count k ≡ middle (lo + half count + 1) (count - 1 - half count))
step_here zero lo count k h z l = absurd (omega arith)
step_here (suc d) lo count k h z l =
    let t = le-ltb k (lo + half count) (omega arith) in
    let q = eq-eqb k (lo + half count) l in
    (rw (t, q) refl, rw (t, q) refl)
