-- Maps under names, as they grow name by name: each new name is none of the storages', and none of those before it.
use Rattle.std.proofs.Common.{◌≡◌, ◌≢◌, ℕ, ◌+◌, ◌<◌, ◌≤◌, Bool, true, false, cond, List, length, slice_index, is_some, Option, Some, sym, ◌∙◌, ap, arith, refl, below_more}
use Rattle.std.specs.BTreeMap.{is_at}
use Rattle.std.specs.FinMap.{FinMap, empty, contains_key, insert, get, get-empty, get-insert, len, len-insert}
use Rattle.std.specs.Ordering.{eq_by_cmp}
use Rattle.std.specs.Cmp.{eq_by_cmp_equiv}
use Rattle.std.proofs.lemmas.Bool.{false≢true}
use Rattle.msi_container_format.specs.Names.{name_cmp}
use Rattle.msi_container_format.specs.Container.{name, HasName}
use Rattle.msi_container_format.proofs.NamesLemmas.{names_total}
use Rattle.msi_container_tables.specs.Reading.{AreNamed, HaveNamesApart, has_name}
use Rattle.msi_container_tables.proofs.entry_names.OwnNameLemmas.{is_known, AreOwn, known_more, known_has_place, known_at, known_all, own_more}

-- a map that has as many names as before had the name
had : (b : Bool) (n k : ℕ) → k ≡ cond b n (n + 1) → k ≡ n → b ≡ true
had true n k e f = refl
had false n k e f = absurd (omega arith)

-- and one that has more hadn't
had_not : (b : Bool) (n k : ℕ) → k ≡ cond b n (n + 1) → k ≢ n → b ≡ false
had_not true n k e f = absurd (f e)
had_not false n k e f = refl

some_cond : {X : Type 0} (b : Bool) (v : X) (o : Option X) → is_some (cond b (Some v) o) ≡ cond b true (is_some o)
some_cond true v o = refl
some_cond false v o = refl

module _ {X : Type 0} where
  pub was_there : (m n : FinMap name_cmp X) (key : List ℕ) (v : X) (before : ℕ) → n ≡ insert m key v → before ≡ len m → len n ≡ before → contains_key m key ≡ true
  was_there m n key v before e f same = had (contains_key m key) (len m) (len n) (ap len e ∙ len-insert names_total m key v) (same ∙ f)

  pub was_absent : (m n : FinMap name_cmp X) (key : List ℕ) (v : X) (before : ℕ) → n ≡ insert m key v → before ≡ len m → len n ≢ before → contains_key m key ≡ false
  was_absent m n key v before e f other = had_not (contains_key m key) (len m) (len n) (ap len e ∙ len-insert names_total m key v) (λ s. other (s ∙ sym f))

  inserted : (m : FinMap name_cmp X) (key q : List ℕ) (v : X) → contains_key (insert m key v) q ≡ cond (is_at (name_cmp key) q) true (contains_key m q)
  inserted m key q v =
      ap is_some (get-insert names_total m key v q)
      ∙ some_cond (eq_by_cmp name_cmp q key) v (get m q)
      ∙ ap (λ b. cond b true (contains_key m q)) (sym ((eq_by_cmp_equiv names_total).symm key q))

-- what is known of the names of the first n streams, where taken tells the storages' names, and held those of the n streams
pub record Begun (bytes directory streams : List ℕ) (taken held : List ℕ → Bool) (n : ℕ) : Type 0 where
  pub named : (i : ℕ) → i < n → HasName bytes directory (slice_index streams i)
  pub own : AreOwn (name bytes directory) streams n
  pub known : (q : List ℕ) → held q ≡ is_known (name bytes directory) streams n q
  pub apart : (i : ℕ) → i < n → taken (name bytes directory (slice_index streams i)) ≡ false

module _ (bytes directory storages streams : List ℕ) (taken : List ℕ → Bool) where
  pub begun_none : (X : Type 0) → Begun bytes directory streams taken (contains_key (empty {X = X} {R = name_cmp})) 0
  begun_none X = record {
    named = λ i l. absurd (omega arith);
    own = λ a b l h. absurd (omega arith);
    known = λ q. ap is_some (get-empty name_cmp q);
    apart = λ i l. absurd (omega arith);
  }

  -- one more name
  pub begun_more : {X : Type 0} (m : FinMap name_cmp X) (key : List ℕ) (v : X) (n : ℕ)
      → n < length streams
      → key ≡ name bytes directory (slice_index streams n)
      → HasName bytes directory (slice_index streams n)
      → taken (name bytes directory (slice_index streams n)) ≡ false
      → contains_key m key ≡ false
      → Begun bytes directory streams taken (contains_key m) n
      → Begun bytes directory streams taken (contains_key (insert m key v)) (n + 1)
  begun_more m key v n l named has free absent h =
      let names = name bytes directory in
      record {
        named = below_more _ n h.named has;
        own = own_more names streams n key l named (sym (h.known key) ∙ absent) h.own;
        known = λ q. known_more names streams n key q (contains_key m q) (contains_key (insert m key v) q) l named (h.known q) (inserted m key q v);
        apart = below_more _ n h.apart free;
      }

  -- with all streams, each storage and stream has a name of its own
  pub begun_all : (held : List ℕ → Bool) (n : ℕ)
      → length streams ≤ n
      → AreNamed bytes directory storages
      → ((q : List ℕ) → taken q ≡ has_name bytes directory storages q)
      → Begun bytes directory streams taken held n
      → HaveNamesApart bytes directory storages streams
  begun_all held n l s told h =
      let names = name bytes directory in
      record {
        storages_named = s;
        streams_named = record { named = λ i m. h.named i (omega arith); own = λ i j m k. h.own i j m (omega arith) };
        apart = λ i j m k e.
            let q = names (slice_index streams j) in
            let there : has_name bytes directory storages (names (slice_index storages i)) ≡ true =
            sym (known_all names storages (length storages) (names (slice_index storages i)) (omega arith)) ∙ known_at names storages (length storages) i m (omega arith) in
            false≢true (sym (h.apart j (omega arith)) ∙ told q ∙ ap (has_name bytes directory storages) (sym e) ∙ there);
      }

  -- a stream's name that a storage has isn't its own
  pub taken_clash : (key : List ℕ) (n : ℕ)
      → n < length streams
      → key ≡ name bytes directory (slice_index streams n)
      → ((q : List ℕ) → taken q ≡ has_name bytes directory storages q)
      → taken key ≡ true
      → HaveNamesApart bytes directory storages streams
      → ⊥
  taken_clash key n l named told there h =
      let names = name bytes directory in
      let known = known_all names storages (length storages) key (omega arith) ∙ sym (told key) ∙ there in
      let place = known_has_place names storages (length storages) key (omega arith) known in
      h.apart place.0 n place.1 l (place.2 ∙ named)

  -- nor is one that an earlier stream has
  pub held_clash : (held : List ℕ → Bool) (key : List ℕ) (n : ℕ)
      → n < length streams
      → key ≡ name bytes directory (slice_index streams n)
      → held key ≡ true
      → Begun bytes directory streams taken held n
      → HaveNamesApart bytes directory storages streams
      → ⊥
  held_clash held key n l named there b h =
      let place = known_has_place (name bytes directory) streams n key (omega arith) (sym (b.known key) ∙ there) in
      h.streams_named.own place.0 n place.1 l (place.2 ∙ named)
