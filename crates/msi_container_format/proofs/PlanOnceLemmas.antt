-- Why bytes hold at most one contents: each part of a plan follows from the bytes and the parts before it.
use Rattle.std.proofs.Common.{◌≡◌, ℕ, zero, suc, ◌+◌, ◌-◌, ◌<◌, ◌≤◌, List, [], ◌∷◌, ◌++◌, length, get_or, Option, Some, inl, inr, sym, ◌∙◌, ap, subst, arith, refl}
use Rattle.std.specs.List.{AllZip}
use Rattle.std.proofs.lemmas.List.{ext_get_or, get_or_append_left, get_or-append-add, length-append}
use Rattle.std.proofs.lemmas.Bool.{cases_order}
use Rattle.std.proofs.lemmas.Option.{same_Some}
use Rattle.msi_container_format.specs.Chains.{IsChain}
use Rattle.msi_container_format.specs.Trees.{Tree, Leaf, Node, IsSpelled}
use Rattle.msi_container_format.specs.declared.contents.Contents.{Contents}
use Rattle.msi_container_format.specs.Container.{Plan, IsPlan, Holds, contents_of, IsWholeChain, IsSector, IsMembers, stream_entries, sectors_of_streams, left, right, entry_count}
use Rattle.msi_container_format.specs.Format.{MAX_REGULAR_SECTOR, END_OF_CHAIN}

-- two chains from one start agree as far as both go
pub same_at : (next : ℕ → Option ℕ) (start m n : ℕ) (c d : List ℕ) → IsChain next start m c → IsChain next start n d → (i : ℕ) → i < length c → i < length d → get_or c i 0 ≡ get_or d i 0
same_at next start m n c d h k zero l r = h.first l ∙ sym (k.first r)
same_at next start m n c d h k (suc i) l r =
    let before = same_at next start m n c d h k i (omega arith) (omega arith) in
    let c1 = h.linked i (omega arith) in
    let d1 = k.linked i (omega arith) in
    let e : Some (get_or c (i + 1) 0) ≡ Some (get_or d (i + 1) 0) = sym c1 ∙ ap next before ∙ d1 in
    let step : i + 1 ≡ suc i = omega arith in
    rw step at (same_Some _ _ e)

pub chain_once : (next : ℕ → Option ℕ) (start n : ℕ) (c d : List ℕ) → IsChain next start n c → IsChain next start n d → c ≡ d
chain_once next start n c d h k =
    ext_get_or 0 c d (h.long ∙ sym k.long) (λ i l. same_at next start n n c d h k i l (omega (arith, h.long, k.long)))

-- a whole chain whose members are regular can't be longer than another
not_longer : (next : ℕ → Option ℕ) (start : ℕ) (c d : List ℕ) → IsWholeChain next start c → IsWholeChain next start d → ((i : ℕ) → i < length d → get_or d i 0 ≤ MAX_REGULAR_SECTOR) → length c < length d → ⊥
not_longer next start c d h k r l =
    let last = length c - 1 in
    let same = same_at next start (length c) (length d) c d h.chain k.chain last (omega (arith, h.filled)) (omega arith) in
    let e : Some (get_or d (last + 1) 0) ≡ Some END_OF_CHAIN = sym (k.chain.linked last (omega (arith, h.filled))) ∙ sym (ap next same) ∙ h.ended in
    omega (arith, same_Some _ _ e, r (last + 1) (omega (arith, h.filled)))

pub whole_once : (next : ℕ → Option ℕ) (start : ℕ) (c d : List ℕ) → IsWholeChain next start c → IsWholeChain next start d → ((i : ℕ) → i < length c → get_or c i 0 ≤ MAX_REGULAR_SECTOR) → ((i : ℕ) → i < length d → get_or d i 0 ≤ MAX_REGULAR_SECTOR) → c ≡ d
whole_once next start c d h k r s =
    elim (cases_order (length c) (length d)) [
      | inl e ↦ let k' = rw (← e) at k.chain in chain_once next start (length c) c d h.chain k'
      | inr w ↦ elim w [ inl l ↦ absurd (not_longer next start c d h k s l) | inr l ↦ absurd (not_longer next start d c k h r l) ]
    ]

pub tree_once : (left right : ℕ → ℕ) (count link : ℕ) (t u : Tree) → IsSpelled left right count link t → IsSpelled left right count link u → t ≡ u
tree_once left right count link Leaf Leaf h k = refl
tree_once left right count link Leaf (Node l n r) h k = absurd (k.1 (sym k.0 ∙ h))
tree_once left right count link (Node l n r) Leaf h k = absurd (h.1 (sym h.0 ∙ k))
tree_once left right count link (Node l n r) (Node x m y) h k =
    let e : m ≡ n = sym k.0 ∙ h.0 in
    let on_left = tree_once left right count (left n) l x h.3 (rw e at k.3) in
    let on_right = tree_once left right count (right n) r y h.4 (rw e at k.4) in
    cc

pub chains_once : (bytes fat mini_fat directory ks : List ℕ) (cs ds : List (List ℕ)) → AllZip (IsMembers bytes fat mini_fat directory) ks cs → AllZip (IsMembers bytes fat mini_fat directory) ks ds → cs ≡ ds
chains_once bytes fat mini_fat directory [] [] [] h k = refl
chains_once bytes fat mini_fat directory [] [] (d ∷ ds) h k = absurd k
chains_once bytes fat mini_fat directory [] (c ∷ cs) ds h k = absurd h
chains_once bytes fat mini_fat directory (x ∷ ks) [] ds h k = absurd h
chains_once bytes fat mini_fat directory (x ∷ ks) (c ∷ cs) [] h k = absurd k
chains_once bytes fat mini_fat directory (x ∷ ks) (c ∷ cs) (d ∷ ds) h k =
    let e = chain_once _ _ _ c d h.0 k.0 in
    let rest = chains_once bytes fat mini_fat directory ks cs ds h.1 k.1 in
    cc

-- what holds of each number of a joined list holds of each of its parts
abbrev pub Each : (ℕ → Type 0) → List ℕ → Type 0
Each P xs = (i : ℕ) → i < length xs → P (get_or xs i 0)

each_front : (P : ℕ → Type 0) (xs ys : List ℕ) → Each P (xs ++ ys) → Each P xs
each_front P xs ys h i l = subst P (get_or_append_left xs ys 0 i l) (h i (omega (arith, length-append xs ys)))

each_back : (P : ℕ → Type 0) (xs ys : List ℕ) → Each P (xs ++ ys) → Each P ys
each_back P xs ys h i l = subst P (get_or-append-add xs ys i 0) (h (length xs + i) (omega (arith, length-append xs ys)))

regular : (bytes : List ℕ) (xs : List ℕ) → Each (IsSector bytes) xs → Each (λ n. n ≤ MAX_REGULAR_SECTOR) xs
regular bytes xs h i l = (h i l).0

pub directory_regular : (bytes : List ℕ) (p : Plan) → IsPlan bytes p → Each (λ n. n ≤ MAX_REGULAR_SECTOR) p.directory
directory_regular bytes p h =
    regular bytes p.directory (each_back (IsSector bytes) (p.difat ++ p.fat) p.directory
    (each_front (IsSector bytes) (p.difat ++ p.fat ++ p.directory) p.mini_fat
    (each_front (IsSector bytes) (p.difat ++ p.fat ++ p.directory ++ p.mini_fat) p.mini_stream
    (each_front (IsSector bytes) (p.difat ++ p.fat ++ p.directory ++ p.mini_fat ++ p.mini_stream) (sectors_of_streams bytes p) h.sectors))))

pub mini_fat_regular : (bytes : List ℕ) (p : Plan) → IsPlan bytes p → Each (λ n. n ≤ MAX_REGULAR_SECTOR) p.mini_fat
mini_fat_regular bytes p h =
    regular bytes p.mini_fat (each_back (IsSector bytes) (p.difat ++ p.fat ++ p.directory) p.mini_fat
    (each_front (IsSector bytes) (p.difat ++ p.fat ++ p.directory ++ p.mini_fat) p.mini_stream
    (each_front (IsSector bytes) (p.difat ++ p.fat ++ p.directory ++ p.mini_fat ++ p.mini_stream) (sectors_of_streams bytes p) h.sectors)))

pub mini_fat_once : (bytes : List ℕ) (p q : Plan) → IsPlan bytes p → IsPlan bytes q → p.fat ≡ q.fat → p.mini_fat ≡ q.mini_fat
mini_fat_once bytes p q h k fat =
    elim h.mini_fat [
      | inl a ↦ elim k.mini_fat [
        | inl b ↦ whole_once _ _ _ _ a.1 (rw (← fat) at b.1) (mini_fat_regular bytes p h) (mini_fat_regular bytes q k)
        | inr b ↦ absurd (omega (arith, a.0, b.0))
      ]
      | inr a ↦ elim k.mini_fat [ inl b ↦ absurd (omega (arith, a.0, b.0)) | inr b ↦ a.1 ∙ sym b.1 ]
    ]

-- plans with the same parts are the same
pub same_plan : (p q : Plan) → p.difat ≡ q.difat → p.fat ≡ q.fat → p.directory ≡ q.directory → p.mini_fat ≡ q.mini_fat → p.mini_stream ≡ q.mini_stream → p.tree ≡ q.tree → p.chains ≡ q.chains → p ≡ q
same_plan p q a b c d e f g =
    let P : Plan = record { difat = p.difat; fat = p.fat; directory = p.directory; mini_fat = p.mini_fat; mini_stream = p.mini_stream; tree = p.tree; chains = p.chains } in
    let Q : Plan = record { difat = q.difat; fat = q.fat; directory = q.directory; mini_fat = q.mini_fat; mini_stream = q.mini_stream; tree = q.tree; chains = q.chains } in
    let same : P ≡ Q = cc in
    same

pub plan_once : (bytes : List ℕ) (p q : Plan) → IsPlan bytes p → IsPlan bytes q → p ≡ q
plan_once bytes p q h k =
    let difat = chain_once _ _ _ p.difat q.difat h.difat k.difat in
    let fat : p.fat ≡ q.fat = h.fat ∙ sym (rw (← difat) at k.fat) in
    let directory : p.directory ≡ q.directory = whole_once _ _ _ _ h.directory (rw (← fat) at k.directory) (directory_regular bytes p h) (directory_regular bytes q k) in
    let mini_fat = mini_fat_once bytes p q h k fat in
    let mini_stream : p.mini_stream ≡ q.mini_stream = chain_once _ _ _ p.mini_stream q.mini_stream h.mini_stream (rw (← fat, ← directory) at k.mini_stream) in
    let tree : p.tree ≡ q.tree = tree_once (left bytes p.directory) (right bytes p.directory) (entry_count bytes p.directory) _ p.tree q.tree h.listing.spelled (rw (← directory) at k.listing.spelled) in
    let chains : p.chains ≡ q.chains = chains_once bytes p.fat p.mini_fat p.directory (stream_entries bytes p) p.chains q.chains h.streams (rw (← fat, ← directory, ← mini_fat, ← tree) at k.streams) in
    same_plan p q difat fat directory mini_fat mini_stream tree chains

pub held_once : (bytes : List ℕ) (a b : Contents) → Holds bytes a → Holds bytes b → a ≡ b
held_once bytes a b (p, h, e) (q, k, f) = e ∙ ap (contents_of bytes) (plan_once bytes p q h k) ∙ sym f
