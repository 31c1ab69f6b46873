-- How a stack of links spells what is left of a tree.
use Rattle.std.proofs.Common.{◌≡◌, ◌≢◌, ℕ, zero, suc, ◌<◌, List, [], ◌∷◌, ◌++◌, length, get_or, sym, ◌∙◌, ap, subst, arith, refl}
use Rattle.std.specs.List.{AllZip}
use Rattle.std.proofs.lemmas.List.{append_assoc, append-nil, get_or_at, get_or_append_left, length-append}
use Rattle.msi_container_format.specs.Chains.{AreBelow, AreDistinct}
use Rattle.msi_container_tables.specs.Claims.{IsFree}
use Rattle.msi_container_format.specs.Trees.{Tree, Leaf, Node, members, IsSpelled}
use Rattle.msi_container_format.specs.Format.{NO_ENTRY}
use Rattle.msi_container_tables.proofs.chains.ClaimedLemmas.{below_both}

-- the members of a stack's trees, those of the last tree first
abbrev pub unwound : List Tree → List ℕ
unwound [] = []
unwound (t ∷ ts) = unwound ts ++ members t

unwound_push : (ts : List Tree) (t : Tree) → unwound (ts ++ t ∷ []) ≡ members t ++ unwound ts
unwound_push [] t = sym (append-nil (members t))
unwound_push (u ∷ ts) t = ap (λ xs. xs ++ members u) (unwound_push ts t) ∙ append_assoc (members t) (unwound ts) (members u)

-- a node on top stands for its number and then its two trees
unwound_node : (all list : List ℕ) (ts : List Tree) (l r : Tree) (k : ℕ)
    → all ≡ list ++ unwound (ts ++ Node l k r ∷ [])
    → all ≡ (list ++ k ∷ []) ++ unwound ((ts ++ r ∷ []) ++ l ∷ [])
unwound_node all list ts l r k e =
    let whole = unwound_push ts (Node l k r) ∙ ap (λ xs. k ∷ xs) (append_assoc (members l) (members r) (unwound ts)) in
    let parts = unwound_push (ts ++ r ∷ []) l ∙ ap (λ xs. members l ++ xs) (unwound_push ts r) in
    e ∙ ap (λ xs. list ++ xs) (whole ∙ ap (λ xs. k ∷ xs) (sym parts)) ∙ sym (append_assoc list (k ∷ []) (unwound ((ts ++ r ∷ []) ++ l ∷ [])))

module _ (left right : ℕ → ℕ) (count : ℕ) where
  -- trees of the links of a stack
  abbrev pub AreSpelled : List ℕ → List Tree → Type 0
  AreSpelled = AllZip (IsSpelled left right count)

  spelled_push : (links : List ℕ) (ts : List Tree) (link : ℕ) (t : Tree)
      → AreSpelled links ts
      → IsSpelled left right count link t
      → AreSpelled (links ++ link ∷ []) (ts ++ t ∷ [])
  spelled_push [] [] link t a s = (s, tt)
  spelled_push [] (u ∷ ts) link t a s = absurd a
  spelled_push (x ∷ links) [] link t a s = absurd a
  spelled_push (x ∷ links) (u ∷ ts) link t a s = (a.0, spelled_push links ts link t a.1 s)

  spelled_pop : (links : List ℕ) (link : ℕ) (ts : List Tree)
      → AreSpelled (links ++ link ∷ []) ts
      → (us : List Tree) × (t : Tree) × (ts ≡ us ++ t ∷ []) × AreSpelled links us × IsSpelled left right count link t
  spelled_pop [] link [] a = absurd a
  spelled_pop [] link (t ∷ []) a = ([], t, refl, tt, a.0)
  spelled_pop [] link (t ∷ u ∷ ts) a = absurd a.1
  spelled_pop (x ∷ links) link [] a = absurd a
  spelled_pop (x ∷ links) link (t ∷ ts) a =
      let p = spelled_pop links link ts a.1 in
      (t ∷ p.0, p.1, ap (λ vs. t ∷ vs) p.2, (a.0, p.3), p.4)

  -- a link that leads nowhere spells a leaf, and one to an entry a node of it
  leaf_of : (t : Tree) → IsSpelled left right count NO_ENTRY t → t ≡ Leaf
  leaf_of Leaf s = refl
  leaf_of (Node l k r) s = absurd (s.1 (sym s.0))

  node_of : (link : ℕ) (t : Tree)
      → link ≢ NO_ENTRY
      → IsSpelled left right count link t
      → (l r : Tree) × (t ≡ Node l link r) × (link < count) × IsSpelled left right count (left link) l × IsSpelled left right count (right link) r
  node_of link Leaf n s = absurd (n s)
  node_of link (Node l k r) n s =
      let here : k ≡ link = sym s.0 in
      let P : ℕ → Type 0 = λ x. (x < count) × IsSpelled left right count (left x) l × IsSpelled left right count (right x) r in
      let at : P link = subst P here (s.2, s.3, s.4) in
      (l, r, ap (λ x. Node l x r) here, at.0, at.1, at.2)

  -- whatever trees the stack has, they are the rest of a tree of child
  abbrev pub Completes : ℕ → List ℕ → List ℕ → Type 0
  Completes child list pending =
      (ts : List Tree) → AreSpelled pending ts → (t : Tree) × IsSpelled left right count child t × (members t ≡ list ++ unwound ts)

  -- each tree of child has trees of the stack for its rest
  abbrev pub Remains : ℕ → List ℕ → List ℕ → Type 0
  Remains child list pending =
      (t : Tree) → IsSpelled left right count child t → (ts : List Tree) × AreSpelled pending ts × (members t ≡ list ++ unwound ts)

  pub completes_start : (child : ℕ) → Completes child [] (child ∷ [])
  completes_start child [] a = absurd a
  completes_start child (t ∷ []) a = (t, a.0, refl)
  completes_start child (t ∷ u ∷ ts) a = absurd a.1

  pub remains_start : (child : ℕ) → Remains child [] (child ∷ [])
  remains_start child t s = (t ∷ [], (s, tt), refl)

  -- a link that leads nowhere adds nothing
  pub completes_skip : (child : ℕ) (list pending : List ℕ) → Completes child list (pending ++ NO_ENTRY ∷ []) → Completes child list pending
  completes_skip child list pending h ts a =
      let p = h (ts ++ Leaf ∷ []) (spelled_push pending ts NO_ENTRY Leaf a refl) in
      (p.0, p.1, p.2 ∙ ap (λ xs. list ++ xs) (unwound_push ts Leaf))

  pub remains_skip : (child : ℕ) (list pending : List ℕ) → Remains child list (pending ++ NO_ENTRY ∷ []) → Remains child list pending
  remains_skip child list pending h t s =
      let p = h t s in
      let q = spelled_pop pending NO_ENTRY p.0 p.1 in
      let leaf : p.0 ≡ q.0 ++ Leaf ∷ [] = q.2 ∙ ap (λ u. q.0 ++ u ∷ []) (leaf_of q.1 q.4) in
      (q.0, q.3, p.2 ∙ ap (λ us. list ++ unwound us) leaf ∙ ap (λ xs. list ++ xs) (unwound_push q.0 Leaf))

  -- an entry joins the list, and its two links take its place on the stack
  pub completes_step : (child link : ℕ) (list pending : List ℕ)
      → link ≢ NO_ENTRY
      → link < count
      → Completes child list (pending ++ link ∷ [])
      → Completes child (list ++ link ∷ []) ((pending ++ right link ∷ []) ++ left link ∷ [])
  completes_step child link list pending n b h ts a =
      let q = spelled_pop (pending ++ right link ∷ []) (left link) ts a in
      let r = spelled_pop pending (right link) q.0 q.3 in
      let node = Node q.1 link r.1 in
      let p = h (r.0 ++ node ∷ []) (spelled_push pending r.0 link node r.3 (refl, n, b, q.4, r.4)) in
      let parts : ts ≡ (r.0 ++ r.1 ∷ []) ++ q.1 ∷ [] = q.2 ∙ ap (λ us. us ++ q.1 ∷ []) r.2 in
      let P : List Tree → Type 0 = λ us. members p.0 ≡ (list ++ link ∷ []) ++ unwound us in
      (p.0, p.1, subst P (sym parts) (unwound_node (members p.0) list r.0 q.1 r.1 link p.2))

  pub remains_step : (child link : ℕ) (list pending : List ℕ)
      → link ≢ NO_ENTRY
      → Remains child list (pending ++ link ∷ [])
      → Remains child (list ++ link ∷ []) ((pending ++ right link ∷ []) ++ left link ∷ [])
  remains_step child link list pending n h t s =
      let p = h t s in
      let q = spelled_pop pending link p.0 p.1 in
      let d = node_of link q.1 n q.4 in
      let node : p.0 ≡ q.0 ++ Node d.0 link d.1 ∷ [] = q.2 ∙ ap (λ u. q.0 ++ u ∷ []) d.2 in (
        (q.0 ++ d.1 ∷ []) ++ d.0 ∷ [],
        spelled_push (pending ++ right link ∷ []) (q.0 ++ d.1 ∷ []) (left link) d.0 (spelled_push pending q.0 (right link) d.1 q.3 d.5) d.4,
        unwound_node (members t) list q.0 d.0 d.1 link (p.2 ∙ ap (λ us. list ++ unwound us) node),
      )

  -- with nothing left on the stack, the list is the members of a tree
  pub completes_end : (child : ℕ) (list pending reached : List ℕ)
      → length pending ≡ 0
      → reached ≡ list
      → Completes child list pending
      → (t : Tree) × IsSpelled left right count child t × (members t ≡ reached)
  completes_end child list [] reached e same h = let p = h [] tt in (p.0, p.1, p.2 ∙ append-nil list ∙ sym same)
  completes_end child list (x ∷ pending) reached e same h = absurd (omega arith)

  -- the members of a tree are entries
  pub members_below : (link : ℕ) (t : Tree) → IsSpelled left right count link t → AreBelow count (members t)
  members_below link Leaf s i b = absurd (omega arith)
  members_below link (Node l k r) s zero b = s.2
  members_below link (Node l k r) s (suc i) b = below_both count (members l) (members r) (members_below (left k) l s.3) (members_below (right k) r s.4) i (omega arith)

  -- the entry of a link that is to be followed is there, and is none of those that were
  pub free_link : (child link : ℕ) (used list pending : List ℕ) (t : Tree)
      → link ≢ NO_ENTRY
      → Remains child list (pending ++ link ∷ [])
      → IsSpelled left right count child t
      → AreDistinct (used ++ members t)
      → IsFree count (used ++ list) link
  free_link child link used list pending t n h s d =
      let p = h t s in
      let q = spelled_pop pending link p.0 p.1 in
      let next = remains_step child link list pending n h t s in
      let rest = unwound next.0 in
      let before = used ++ list in
      let whole : used ++ members t ≡ before ++ link ∷ rest = ap (λ xs. used ++ xs) (next.2 ∙ append_assoc list (link ∷ []) rest) ∙ sym (append_assoc used list (link ∷ rest)) in
      record {
        below = (node_of link q.1 n q.4).3;
        unused = λ k l e. d k (length before) l (omega (arith, ap (λ (xs : List ℕ). length xs) whole, length-append before (link ∷ rest)))
            (ap (λ xs. get_or xs k 0) whole ∙ get_or_append_left before (link ∷ rest) 0 k l ∙ e
            ∙ sym (ap (λ xs. get_or xs (length before) 0) whole ∙ get_or_at before link rest 0 (length before) refl));
      }
