-- The bytes of streams by their names.
use Rattle.std.proofs.Common.{◌≡◌, ℕ, ◌+◌, ◌<◌, min, List, [], ◌∷◌, ◌++◌, length, get_or, take, sym, ◌∙◌, ap, arith}
use Rattle.std.specs.List.{zip}
use Rattle.std.specs.FinMap.{from_entries, insert}
use Rattle.std.proofs.lemmas.List.{get_or-map, get_or-take, length-map, length-take-le, take_more}
use Rattle.std.proofs.lemmas.Slice.Zip.{length-zip, get_or-zip}
use Rattle.msi_container_format.specs.Names.{name_cmp}
use Rattle.msi_container_format.specs.Container.{name, stream_bytes, named_bytes}
use Rattle.msi_container_format.proofs.NamesLemmas.{from_entries_push_new}
use Rattle.msi_container_tables.proofs.entry_names.OwnNameLemmas.{AreOwn}

pub length-named_bytes : (bytes mini_stream directory ks : List ℕ) (chains : List (List ℕ)) → length (named_bytes bytes mini_stream directory ks chains) ≡ min (length ks) (length chains)
length-named_bytes bytes mini_stream directory ks chains =
    length-map (zip ks chains) (λ (x : ℕ × List ℕ). (name bytes directory x.0, stream_bytes bytes mini_stream directory x.0 x.1)) ∙ length-zip ks chains

named_bytes_at : (bytes mini_stream directory ks : List ℕ) (chains : List (List ℕ)) (i : ℕ) (d : List ℕ × List ℕ)
    → i < length ks
    → i < length chains
    → get_or (named_bytes bytes mini_stream directory ks chains) i d
    ≡ (name bytes directory (get_or ks i 0), stream_bytes bytes mini_stream directory (get_or ks i 0) (get_or chains i []))
named_bytes_at bytes mini_stream directory ks chains i d l h =
    let f : ℕ × List ℕ → List ℕ × List ℕ = λ x. (name bytes directory x.0, stream_bytes bytes mini_stream directory x.0 x.1) in
    get_or-map f (zip ks chains) i (0, []) d (omega (arith, length-zip ks chains)) ∙ ap f (get_or-zip ks chains i (0, []) l h)

-- the next stream is inserted at a name that none before it has
pub from_named_bytes_more : (bytes mini_stream directory ks : List ℕ) (chains : List (List ℕ)) (i : ℕ)
    → AreOwn (name bytes directory) ks (i + 1)
    → i < length ks
    → i < length chains
    → from_entries {R = name_cmp} (take (i + 1) (named_bytes bytes mini_stream directory ks chains))
    ≡ insert (from_entries (take i (named_bytes bytes mini_stream directory ks chains))) (name bytes directory (get_or ks i 0)) (stream_bytes bytes mini_stream directory (get_or ks i 0) (get_or chains i []))
from_named_bytes_more bytes mini_stream directory ks chains i apart l h =
    let named = named_bytes bytes mini_stream directory ks chains in
    let long : i < length named = omega (arith, length-named_bytes bytes mini_stream directory ks chains) in
    let front = length-take-le i named (omega arith) in
    let k = name bytes directory (get_or ks i 0) in
    let v = stream_bytes bytes mini_stream directory (get_or ks i 0) (get_or chains i []) in
    let next : take (i + 1) named ≡ take i named ++ (k, v) ∷ [] =
    take_more named i (k, v) long ∙ ap (λ e. take i named ++ e ∷ []) (named_bytes_at bytes mini_stream directory ks chains i (k, v) l h) in
    ap (λ es. from_entries {R = name_cmp} es) next
    ∙ from_entries_push_new (take i named) k v (λ j d b same. apart j i (omega arith) (omega arith)
    (ap (λ (e : List ℕ × List ℕ). e.0) (sym (get_or-take i named j d (omega arith) ∙ named_bytes_at bytes mini_stream directory ks chains j d (omega arith) (omega arith))) ∙ same))
