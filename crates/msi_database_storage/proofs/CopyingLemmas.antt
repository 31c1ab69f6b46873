-- Copies of streams, made in their order.
use Rattle.std.proofs.Common.{◌≡◌, ℕ, Bool, true, false, List, [], ◌∷◌, ◌++◌, refl, sym, ap, subst, ◌∙◌, append_assoc}
use Rattle.std.specs.Prelude.{T, ◌&&◌}
use Rattle.std.specs.FinMap.{entries, entries_sorted, entries-insert, empty, insert, is_sorted, len-empty, len-entries, put, same_entries_map}
use Rattle.std.specs.FinMap.Entries.{below_all, by_order}
use Rattle.std.specs.Ordering.{is_lt, ordering_reverse}
use Rattle.std.specs.declared.cmp.Ordering.{Ordering}
use Rattle.std.specs.declared.cmp.Ordering.TheVariants.{Less, Equal, Greater}
use Rattle.std.proofs.lemmas.List.{append-nil, nil_from_length}
use Rattle.msi_base.proofs.BoolLemmas.{T_second}
use Rattle.msi_container_format.specs.Names.{name_cmp}
use Rattle.msi_container_format.specs.Streams as maps
use Rattle.msi_container_format.proofs.NamesLemmas.{names_total}
use Rattle.msi_database_storage.specs.Streams.{Streams}

-- STREAMS IN ORDER

front : (a b : Bool) → T (a && b) → T a
front true b h = tt
front false b h = h

turned : (o : Ordering) → T (is_lt o) → ordering_reverse o ≡ Greater
turned Less h = refl
turned Equal h = absurd h
turned Greater h = absurd h

below_one : (name key bytes : List ℕ) (before behind : Streams) → T (below_all name_cmp name (before ++ (key, bytes) ∷ behind)) → T (is_lt (name_cmp name key))
below_one name key bytes [] behind h = front (is_lt (name_cmp name key)) (below_all name_cmp name behind) h
below_one name key bytes (s ∷ ss) behind h =
    below_one name key bytes ss behind (T_second (is_lt (name_cmp name s.0)) (below_all name_cmp name (ss ++ (key, bytes) ∷ behind)) h)

-- what comes behind all others is put behind them
put_last : (key bytes : List ℕ) (before behind : Streams) → T (is_sorted name_cmp (before ++ (key, bytes) ∷ behind)) → put name_cmp key bytes before ≡ before ++ (key, bytes) ∷ []
put_last key bytes [] behind h = refl
put_last key bytes (s ∷ ss) behind h =
    let others : Streams = ss ++ (key, bytes) ∷ behind in
    let below : T (is_lt (name_cmp s.0 key)) = below_one s.0 key bytes ss behind (front (below_all name_cmp s.0 others) (is_sorted name_cmp others) h) in
    ap (λ (o : Ordering). by_order o ((key, bytes) ∷ s ∷ ss) ((s.0, bytes) ∷ ss) (s ∷ put name_cmp key bytes ss)) (names_total.antisymm key s.0 ∙ turned (name_cmp s.0 key) below)
    ∙ ap (λ (all : Streams). s ∷ all) (put_last key bytes ss behind (T_second (below_all name_cmp s.0 others) (is_sorted name_cmp others) h))

pub copied_more : (copy new streams : maps.Streams) (key held name bytes : List ℕ) (left behind : Streams) → entries copy ++ left ≡ entries streams → left ≡ (name, bytes) ∷ behind
    → new ≡ insert copy key held → key ≡ name → held ≡ bytes → entries new ++ behind ≡ entries streams
copied_more copy new streams key held name bytes left behind so_far is new_is key_is held_is =
    let whole : entries copy ++ (name, bytes) ∷ behind ≡ entries streams = ap (λ (l : Streams). entries copy ++ l) (sym is) ∙ so_far in
    let sorted : T (is_sorted name_cmp (entries copy ++ (name, bytes) ∷ behind)) = subst (λ (es : Streams). T (is_sorted name_cmp es)) (sym whole) (entries_sorted streams) in
    let put_is : entries new ≡ entries copy ++ (name, bytes) ∷ [] =
    ap entries (new_is ∙ (λ i. insert copy (key_is i) (held_is i))) ∙ entries-insert names_total copy name bytes ∙ put_last name bytes (entries copy) behind sorted in
    ap (λ (es : Streams). es ++ behind) put_is ∙ append_assoc (entries copy) ((name, bytes) ∷ []) behind ∙ whole

pub copied_all : (copy streams : maps.Streams) (left : Streams) → entries copy ++ left ≡ entries streams → left ≡ [] → copy ≡ streams
copied_all copy streams left so_far none =
    same_entries_map copy streams (sym (append-nil (entries copy)) ∙ ap (λ (l : Streams). entries copy ++ l) (sym none) ∙ so_far)

no_entries : entries (empty {X = List ℕ} {R = name_cmp}) ≡ []
no_entries = nil_from_length (entries empty) (sym (len-entries empty) ∙ len-empty name_cmp (List ℕ))

pub nothing_copied : (copy streams : maps.Streams) (left : Streams) → copy ≡ empty → left ≡ entries streams → entries copy ++ left ≡ entries streams
nothing_copied copy streams left none is = ap (λ (m : maps.Streams). entries m ++ left) none ∙ ap (λ (es : Streams). es ++ left) no_entries ∙ is
