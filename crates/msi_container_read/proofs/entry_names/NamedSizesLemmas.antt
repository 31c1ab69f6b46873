-- The sizes of streams by their names.
use Rattle.std.proofs.Common.{◌≡◌, ℕ, ◌+◌, ◌<◌, true, false, cond, List, [], ◌∷◌, ◌++◌, length, get_or, map, take, Some, sym, ◌∙◌, ap, arith, refl}
use Rattle.std.specs.List.{AllZip}
use Rattle.std.specs.FinMap.{entries, from_entries, insert, find, get-entries, get-from_entries, same_map}
use Rattle.std.specs.Option.{option_map}
use Rattle.std.specs.Ordering.{eq_by_cmp}
use Rattle.std.proofs.lemmas.List.{get_or-map, get_or-take, length-map, length-take-le, take_more}
use Rattle.std.proofs.lemmas.List.FromFn.{length-map-range_with_len}
use Rattle.msi_container_format.specs.Names.{name_cmp}
use Rattle.msi_container_format.specs.Container.{name, size, IsMembers, stream_bytes, named_bytes, stream_entries, Plan, IsPlan, contents_of}
use Rattle.msi_container_format.proofs.NamesLemmas.{names_total, exact_names, from_entries_push_new}
use Rattle.msi_container_tables.proofs.entry_names.OwnNameLemmas.{AreOwn}
use Rattle.msi_container_read.specs.Listings.{named_sizes, sizes_of}

pub length-named_sizes : (bytes directory ks : List ℕ) → length (named_sizes bytes directory ks) ≡ length ks
length-named_sizes bytes directory ks = length-map ks (λ k. (name bytes directory k, size bytes directory k))

named_sizes_at : (bytes directory ks : List ℕ) (i : ℕ) (d : List ℕ × ℕ)
    → i < length ks
    → get_or (named_sizes bytes directory ks) i d ≡ (name bytes directory (get_or ks i 0), size bytes directory (get_or ks i 0))
named_sizes_at bytes directory ks i d l = get_or-map (λ k. (name bytes directory k, size bytes directory k)) ks i 0 d l

-- the next size is inserted at a name that none before it has
pub from_named_sizes_more : (bytes directory ks : List ℕ) (i : ℕ)
    → AreOwn (name bytes directory) ks (i + 1)
    → i < length ks
    → from_entries {R = name_cmp} (take (i + 1) (named_sizes bytes directory ks))
    ≡ insert (from_entries (take i (named_sizes bytes directory ks))) (name bytes directory (get_or ks i 0)) (size bytes directory (get_or ks i 0))
from_named_sizes_more bytes directory ks i apart l =
    let named = named_sizes bytes directory ks in
    let long : i < length named = omega (arith, length-named_sizes bytes directory ks) in
    let front = length-take-le i named (omega arith) in
    let k = name bytes directory (get_or ks i 0) in
    let v = size bytes directory (get_or ks i 0) in
    let next : take (i + 1) named ≡ take i named ++ (k, v) ∷ [] =
    take_more named i (k, v) long ∙ ap (λ e. take i named ++ e ∷ []) (named_sizes_at bytes directory ks i (k, v) l) in
    ap (λ es. from_entries {R = name_cmp} es) next
    ∙ from_entries_push_new (take i named) k v (λ j d b same. apart j i (omega arith) (omega arith)
    (ap (λ (e : List ℕ × ℕ). e.0) (sym (get_or-take i named j d (omega arith) ∙ named_sizes_at bytes directory ks j d (omega arith))) ∙ same))

-- a stream's size in the place of its bytes
abbrev sized : List ℕ × List ℕ → List ℕ × ℕ
sized e = (e.0, length e.1)

abbrev long : List ℕ → ℕ
long bytes = length bytes

find_sized : (q : List ℕ) (es : List (List ℕ × List ℕ)) → find name_cmp q (map sized es) ≡ option_map long (find name_cmp q es)
find_sized q [] = refl
find_sized q (e ∷ es) =
    elim (eq_by_cmp name_cmp q e.0) as (λ b. cond b (Some (length e.1)) (find name_cmp q (map sized es)) ≡ option_map long (cond b (Some e.1) (find name_cmp q es))) [
      | true ↦ refl
      | false ↦ find_sized q es
    ]

-- the sizes of a map's streams are those of the entries that it was made from
sizes-from_entries : (es : List (List ℕ × List ℕ)) → from_entries {R = name_cmp} (map sized es) ≡ sizes_of (from_entries es)
sizes-from_entries es =
    let m = from_entries {R = name_cmp} es in
    same_map names_total exact_names _ _ (λ q.
    get-from_entries names_total (map sized es) q
    ∙ find_sized q es
    ∙ ap (option_map long) (sym (sym (get-entries m q) ∙ get-from_entries names_total es q))
    ∙ sym (get-from_entries names_total (map sized (entries m)) q ∙ find_sized q (entries m)))

sized_bytes : (bytes fat mini_fat mini_stream directory ks : List ℕ) (cs : List (List ℕ))
    → AllZip (IsMembers bytes fat mini_fat directory) ks cs
    → map sized (named_bytes bytes mini_stream directory ks cs) ≡ named_sizes bytes directory ks
sized_bytes bytes fat mini_fat mini_stream directory [] cs h = refl
sized_bytes bytes fat mini_fat mini_stream directory (k ∷ ks) [] h = absurd h
sized_bytes bytes fat mini_fat mini_stream directory (k ∷ ks) (c ∷ cs) h =
    let same : length (stream_bytes bytes mini_stream directory k c) ≡ size bytes directory k = length-map-range_with_len _ 0 _ in
    let rest = sized_bytes bytes fat mini_fat mini_stream directory ks cs h.1 in
    rw (same, rest) refl

-- the names and sizes of a plan's entries are those of its contents
pub plan_sizes : (bytes : List ℕ) (p : Plan) → IsPlan bytes p
    → from_entries {R = name_cmp} (named_sizes bytes p.directory (stream_entries bytes p)) ≡ sizes_of (contents_of bytes p).streams
plan_sizes bytes p h =
    let ks = stream_entries bytes p in
    ap (λ es. from_entries {R = name_cmp} es) (sym (sized_bytes bytes p.fat p.mini_fat p.mini_stream p.directory ks p.chains h.streams))
    ∙ sizes-from_entries (named_bytes bytes p.mini_stream p.directory ks p.chains)
