-- The names of the streams that a file holds: none is too long for one.
use Rattle.std.proofs.Common.{◌≡◌, ℕ, suc, ◌-◌, ◌/◌, ◌<◌, Bool, true, false, List, [], ◌∷◌, length, slice_index, Some, None, refl, ap, sym, ◌∙◌, arith}
use Rattle.std.specs.List.{AllByRecursion}
use Rattle.std.specs.FinMap.{entries, from_entries, get-entries, get-from_entries}
use Rattle.std.specs.Prelude.{if◌then◌else◌}
use Rattle.std.proofs.lemmas.Bool.{and_from, lt-ltb, le-leb}
use Rattle.std.proofs.lemmas.List.FromFn.{length-map-range_with_len}
use Rattle.msi_base.proofs.ListLemmas.{all_kept}
use Rattle.msi_container_format.specs.declared.contents.Contents.{Contents}
use Rattle.msi_container_format.specs.Names.{is_name_length, named}
use Rattle.msi_container_format.specs.Trees.{members}
use Rattle.msi_container_format.specs.Container.{Plan, IsPlan, HasName, Holds, name, name_size, named_bytes, stream_entries}
use Rattle.msi_container_format.proofs.NamesLemmas.{names_total}
use Rattle.msi_database_storage.specs.StreamNames.{HaveShortNames}
use Rattle.msi_database_storage.specs.Streams.{stream_at}
use Rattle.msi_database_storage.proofs.StreamAtLemmas.{none_too_long}

by_index : (P : ℕ → Type 0) (xs : List ℕ) → ((i : ℕ) → i < length xs → P (slice_index xs i)) → AllByRecursion P xs
by_index P [] h = tt
by_index P (x ∷ xs) h = (h 0 (omega arith), by_index P xs (λ i l. h (suc i) (omega (arith, l))))

name_short : (bytes directory : List ℕ) (k : ℕ) → HasName bytes directory k → is_name_length (length (name bytes directory k)) ≡ true
name_short bytes directory k h =
    let long : length (name bytes directory k) ≡ name_size bytes directory k / 2 - 1 = length-map-range_with_len _ 0 (name_size bytes directory k / 2 - 1) in
    and_from _ _ (lt-ltb 0 (length (name bytes directory k)) (omega (arith, long, h.least))) (le-leb (length (name bytes directory k)) 31 (omega (arith, long, h.most)))

names_short : (bytes mini_stream directory ks : List ℕ) (chains : List (List ℕ))
    → AllByRecursion (λ k. is_name_length (length (name bytes directory k)) ≡ true) ks → HaveShortNames (named_bytes bytes mini_stream directory ks chains)
names_short bytes mini_stream directory [] chains h = tt
names_short bytes mini_stream directory (k ∷ ks) [] h = tt
names_short bytes mini_stream directory (k ∷ ks) (chain ∷ chains) h = (h.0, names_short bytes mini_stream directory ks chains h.1)

plan_short : (bytes : List ℕ) (plan : Plan) → IsPlan bytes plan → HaveShortNames (named_bytes bytes plan.mini_stream plan.directory (stream_entries bytes plan) plan.chains)
plan_short bytes plan is =
    names_short bytes plan.mini_stream plan.directory (stream_entries bytes plan) plan.chains
    (all_kept (λ k. is_name_length (length (name bytes plan.directory k)) ≡ true) _ (members plan.tree)
    (by_index (λ k. is_name_length (length (name bytes plan.directory k)) ≡ true) (members plan.tree)
    (λ i l. name_short bytes plan.directory (slice_index (members plan.tree) i) (is.listing.entries i l).named)))

-- there is no stream whose name is too long for one
none_named : (bytes : List ℕ) (c : Contents) (q : List ℕ) → Holds bytes c → is_name_length (length q) ≡ false → stream_at q (entries c.streams) ≡ None
none_named bytes c q (plan, is, same) long =
    ap (λ (x : Contents). stream_at q (entries x.streams)) same
    ∙ sym (get-entries (from_entries (named_bytes bytes plan.mini_stream plan.directory (stream_entries bytes plan) plan.chains)) q)
    ∙ get-from_entries names_total (named_bytes bytes plan.mini_stream plan.directory (stream_entries bytes plan) plan.chains) q
    ∙ none_too_long q (named_bytes bytes plan.mini_stream plan.directory (stream_entries bytes plan) plan.chains) (plan_short bytes plan is) long

unnamed_by : (b : Bool) (q : List ℕ) → None ≡ (if b then Some q else None) → b ≡ false
unnamed_by true q e = cc
unnamed_by false q e = refl

name_by : (b : Bool) (name q : List ℕ) → Some name ≡ (if b then Some q else None) → name ≡ q
name_by true name q e = cc
name_by false name q e = cc

pub none_held : (bytes : List ℕ) (c : Contents) (q : List ℕ) → Holds bytes c → None ≡ named q → stream_at q (entries c.streams) ≡ None
none_held bytes c q holds none = none_named bytes c q holds (unnamed_by (is_name_length (length q)) q none)

-- the name of these units is these units
pub name_given : (name q : List ℕ) → Some name ≡ named q → name ≡ q
name_given name q is = name_by (is_name_length (length q)) name q is
