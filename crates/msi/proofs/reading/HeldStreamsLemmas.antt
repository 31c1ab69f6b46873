-- The streams that bytes hold: their names are names, and each holds bytes.
use Rattle.std.proofs.Common.{◌≡◌, ℕ, zero, suc, ◌+◌, ◌-◌, ◌*◌, ◌/◌, ◌<◌, ◌^◌, Bool, true, false, cond, List, [], ◌∷◌, map, length, slice_index, Some, unwrap_or, sym, ◌∙◌, subst, lit<, arith}
use Rattle.std.specs.Prelude.{if◌then◌else◌}
use Rattle.std.specs.List.{AllByRecursion, range_with_len, zip}
use Rattle.std.specs.Ordering.{eq_by_cmp}
use Rattle.std.specs.declared.cmp.Ordering.TheVariants.{Less, Equal, Greater}
use Rattle.std.specs.FinMap.{put, empty, entries, from_entries, entries-insert, len-entries, len-empty}
use Rattle.std.specs.FinMap.Entries.{by_order}
use Rattle.std.proofs.lemmas.List.FromFn.{length-map-range_with_len}
use Rattle.std.proofs.lemmas.List.{nil_from_length}
use Rattle.msi_base.proofs.ListLemmas.{all_mapped, all_kept}
use Rattle.msi_container_format.specs.declared.contents.Contents.{Contents}
use Rattle.msi_container_format.specs.Bytes.{number16}
use Rattle.msi_container_format.specs.Chains.{AreBelow}
use Rattle.msi_container_format.specs.Names.{name_cmp}
use Rattle.msi_container_format.specs.Trees.{members}
use Rattle.msi_container_format.specs.Container.{Plan, IsPlan, HasName, Holds, name, name_size, size, field, is_mini, sector_byte, mini_sector_byte, stream_byte, stream_bytes, stream_entries}
use Rattle.msi_container_format.proofs.NamesLemmas.{names_total}
use Rattle.msi_container_write.specs.LayoutLaw.{IsName, HaveNames}
use Rattle.msi_database_storage.specs.Streams.{Streams, stream_at}
use Rattle.msi_database_storage.proofs.MapLemmas as maps
use Rattle.msi.specs.Laws.{AreBytes}

-- WHAT HOLDS OF EACH ELEMENT

by_index : (P : ℕ → Type 0) (xs : List ℕ) → ((i : ℕ) → i < length xs → P (slice_index xs i)) → AllByRecursion P xs
by_index P [] h = tt
by_index P (x ∷ xs) h = (h 0 (omega arith), by_index P xs (λ i l. h (suc i) (omega (arith, l))))

each_zipped : {X Y : Type 0} (P : X → Type 0) (xs : List X) (ys : List Y) → AllByRecursion P xs → AllByRecursion (λ e. P e.0) (zip xs ys)
each_zipped P [] ys h = tt
each_zipped P (x ∷ xs) [] h = tt
each_zipped P (x ∷ xs) (y ∷ ys) h = (h.0, each_zipped P xs ys h.1)

each_mapped : {X Y : Type 0} (P : Y → Type 0) (f : X → Y) (xs : List X) → AllByRecursion (λ x. P (f x)) xs → AllByRecursion P (map f xs)
each_mapped P f [] h = tt
each_mapped P f (x ∷ xs) h = (h.0, each_mapped P f xs h.1)

every : {X : Type 0} (P : X → Type 0) → ((x : X) → P x) → (xs : List X) → AllByRecursion P xs
every P h [] = tt
every P h (x ∷ xs) = (h x, every P h xs)

values_put : (P : List ℕ → Type 0) (k v : List ℕ) (es : Streams) → P v → AllByRecursion (λ e. P e.1) es → AllByRecursion (λ e. P e.1) (put name_cmp k v es)
values_put P k v [] here h = (here, tt)
values_put P k v (e ∷ es) here h = elim (name_cmp k e.0) as (λ o. AllByRecursion (λ f. P f.1) (by_order o ((k, v) ∷ e ∷ es) ((e.0, v) ∷ es) (e ∷ put name_cmp k v es))) [
  | Less ↦ (here, h)
  | Equal ↦ (here, h.1)
  | Greater ↦ (h.0, values_put P k v es here h.1)
]

no_entries : entries (from_entries {X = List ℕ} {R = name_cmp} []) ≡ []
no_entries = nil_from_length (entries (empty {X = List ℕ} {R = name_cmp})) (sym (len-entries (empty {X = List ℕ} {R = name_cmp})) ∙ len-empty name_cmp (List ℕ))

keys_from : (P : List ℕ → Type 0) (es : Streams) → AllByRecursion (λ e. P e.0) es → AllByRecursion (λ e. P e.0) (entries (from_entries {R = name_cmp} es))
keys_from P [] h = subst (λ (x : Streams). AllByRecursion (λ f. P f.0) x) (sym no_entries) tt
keys_from P (e ∷ es) h = subst (λ (x : Streams). AllByRecursion (λ f. P f.0) x) (sym (entries-insert names_total (from_entries es) e.0 e.1)) (maps.keys_put P name_cmp e.0 e.1 (entries (from_entries es)) h.0 (keys_from P es h.1))

values_from : (P : List ℕ → Type 0) (es : Streams) → AllByRecursion (λ e. P e.1) es → AllByRecursion (λ e. P e.1) (entries (from_entries {R = name_cmp} es))
values_from P [] h = subst (λ (x : Streams). AllByRecursion (λ f. P f.1) x) (sym no_entries) tt
values_from P (e ∷ es) h = subst (λ (x : Streams). AllByRecursion (λ f. P f.1) x) (sym (entries-insert names_total (from_entries es) e.0 e.1)) (values_put P e.0 e.1 (entries (from_entries es)) h.0 (values_from P es h.1))

index_small : (bytes : List ℕ) → AreBytes bytes → (i : ℕ) → slice_index bytes i < 2 ^ 8
index_small [] h i = lit< tt
index_small (b ∷ bs) h zero = h.0
index_small (b ∷ bs) h (suc i) = index_small bs h.1 i

mapped_below : (n : ℕ) (f : ℕ → ℕ) → ((k : ℕ) → f k < n) → (xs : List ℕ) → AreBelow n (map f xs)
mapped_below n f h [] i l = absurd (omega (arith, l))
mapped_below n f h (x ∷ xs) zero l = h x
mapped_below n f h (x ∷ xs) (suc i) l = mapped_below n f h xs i (omega (arith, l))

either_below : (b : Bool) (x y n : ℕ) → x < n → y < n → (if b then x else y) < n
either_below true x y n h k = h
either_below false x y n h k = k

-- THE STREAMS OF A PLAN

module _ (bytes : List ℕ) (small : AreBytes bytes) where
  number_small : (p : ℕ) → number16 bytes p < 65536
  number_small p = let low = index_small bytes small p in let high = index_small bytes small (p + 1) in omega (arith, low, high)

  name_is : (directory : List ℕ) (k : ℕ) → HasName bytes directory k → IsName (name bytes directory k)
  name_is directory k h =
      let long : length (name bytes directory k) ≡ name_size bytes directory k / 2 - 1 = length-map-range_with_len _ 0 (name_size bytes directory k / 2 - 1) in
      record {
        some = omega (arith, long, h.least);
        most = omega (arith, long, h.most);
        units = mapped_below 65536 (λ i. number16 bytes (field bytes directory k (2 * i))) (λ i. number_small (field bytes directory k (2 * i))) (range_with_len 0 (name_size bytes directory k / 2 - 1));
        text = h.text;
      }

  bytes_small : (plan : Plan) (k : ℕ) (c : List ℕ) → AreBytes (stream_bytes bytes plan.mini_stream plan.directory k c)
  bytes_small plan k c = all_mapped (λ b. b < 2 ^ 8) (stream_byte bytes plan.mini_stream plan.directory k c)
      (λ i. either_below (is_mini (size bytes plan.directory k)) (mini_sector_byte bytes plan.mini_stream c i) (sector_byte bytes c i) (2 ^ 8) (index_small bytes small _) (index_small bytes small _)) _

  abbrev held_stream : Plan → ℕ × List ℕ → List ℕ × List ℕ
  held_stream plan x = (name bytes plan.directory x.0, stream_bytes bytes plan.mini_stream plan.directory x.0 x.1)

  abbrev members_of : Plan → List (ℕ × List ℕ)
  members_of plan = zip (stream_entries bytes plan) plan.chains

  plan_names : (plan : Plan) → IsPlan bytes plan → AllByRecursion (λ e. IsName e.0) (map (held_stream plan) (members_of plan))
  plan_names plan is =
      let all : AllByRecursion (λ k. IsName (name bytes plan.directory k)) (members plan.tree) =
      by_index (λ k. IsName (name bytes plan.directory k)) (members plan.tree) (λ i l. name_is plan.directory (slice_index (members plan.tree) i) (is.listing.entries i l).named) in
      each_mapped (λ e. IsName e.0) (held_stream plan) (members_of plan)
      (each_zipped (λ k. IsName (name bytes plan.directory k)) (stream_entries bytes plan) plan.chains (all_kept (λ k. IsName (name bytes plan.directory k)) _ (members plan.tree) all))

  pub held_names : (c : Contents) → Holds bytes c → HaveNames (entries c.streams)
  held_names c (plan, is, e) = subst (λ (x : Contents). HaveNames (entries x.streams)) (sym e) (keys_from IsName (map (held_stream plan) (members_of plan)) (plan_names plan is))

  pub held_bytes : (c : Contents) → Holds bytes c → AllByRecursion (λ s. AreBytes s.1) (entries c.streams)
  held_bytes c (plan, is, e) = subst (λ (x : Contents). AllByRecursion (λ s. AreBytes s.1) (entries x.streams)) (sym e)
      (values_from AreBytes (map (held_stream plan) (members_of plan))
      (each_mapped (λ s. AreBytes s.1) (held_stream plan) (members_of plan) (every _ (λ x. bytes_small plan x.0 x.1) (members_of plan))))

-- a stream that is found is one of them
found_small : (key : List ℕ) (streams : Streams) → AllByRecursion (λ s. AreBytes s.1) streams → AreBytes (unwrap_or (stream_at key streams) [])
found_small key [] h = tt
found_small key (s ∷ ss) h = elim (eq_by_cmp name_cmp key s.0) as (λ b. AreBytes (unwrap_or (cond b (Some s.1) (stream_at key ss)) [])) [ true ↦ h.0 | false ↦ found_small key ss h.1 ]

pub held_small : (bytes : List ℕ) → AreBytes bytes → (c : Contents) → Holds bytes c → (key : List ℕ) → AreBytes (unwrap_or (stream_at key (entries c.streams)) [])
held_small bytes small c holds key = found_small key (entries c.streams) (held_bytes bytes small c holds)
