-- Streams that are put to those that were read are the root's, and those that are loaded stay so.
use Rattle.std.proofs.Common.{◌≡◌, ℕ, Bool, true, false, cond, List, ◌++◌, map, Option, Some, Result, Ok, Err, None, ◌+◌, ◌<◌, take, length, get_or, is_some, refl, ap, sym, subst, ◌∙◌}
use Rattle.std.specs.Cmp.{eq_by_cmp_equiv}
use Rattle.std.specs.FinMap.{contains_key, entries, get, get-entries, get-insert, insert}
use Rattle.std.specs.Ordering.{eq_by_cmp}
use Rattle.std.specs.Prelude.{All, OnOk}
use Rattle.std.proofs.lemmas.List.Elements.{All-append, All-map, All-more, All-weaker}
use Rattle.msi_base.proofs.OptionLemmas.{none_there}
use Rattle.msi_container_format.specs.Names.{name_cmp}
use Rattle.msi_container_format.specs.Streams as maps
use Rattle.msi_container_format.proofs.NamesLemmas.{exact_names, names_total}
use Rattle.msi_container_format.proofs.StreamsLemmas.{is_equal}
use Rattle.msi_container_device.specs.Held.{bytes_told}
use Rattle.msi_container_view.specs.Reading.{Tells}
use Rattle.msi_container_view.specs.Views.{View, streams_at}
use Rattle.msi_database_storage.specs.Streams.{Streams, stream_at}
use Rattle.msi_view.specs.Looking.{AreStreamsOf, IsLoaded, root_in}

-- a stream that was read before
pub loaded_before : (root : Streams) (loaded : maps.Streams) (name : List ℕ) → contains_key loaded name ≡ true → AreStreamsOf root (entries loaded) → IsLoaded root (entries loaded) name
loaded_before root loaded name there are = are name (ap is_some (sym (get-entries loaded name)) ∙ there)

-- none was read, and there is none
pub loaded_without : (root loaded : maps.Streams) (name : List ℕ) → contains_key loaded name ≡ false → None ≡ get root name → IsLoaded (entries root) (entries loaded) name
loaded_without root loaded name gone none =
    sym (get-entries loaded name) ∙ none_there (get loaded name) gone ∙ none ∙ get-entries root name

given_none : (o p : Option (List ℕ)) → (is_some o ≡ true → o ≡ p) → p ≡ None → o ≡ p
given_none None p is none = sym none
given_none (Some x) p is none = is refl

-- the root has none
pub loaded_nothing : (root loaded : Streams) (name : List ℕ) → stream_at name root ≡ None → AreStreamsOf root loaded → IsLoaded root loaded name
loaded_nothing root loaded name none are = given_none (stream_at name loaded) (stream_at name root) (are name) none

-- a stream of the root is put to them
module _ (root loaded : maps.Streams) (name bytes : List ℕ) (read : Some bytes ≡ get root name) where
  put_at : (q : List ℕ) → stream_at q (entries (insert loaded name bytes)) ≡ cond (eq_by_cmp name_cmp q name) (Some bytes) (stream_at q (entries loaded))
  put_at q =
      sym (get-entries (insert loaded name bytes) q) ∙ get-insert names_total loaded name bytes q
      ∙ ap (cond (eq_by_cmp name_cmp q name) (Some bytes)) (get-entries loaded q)

  found_by : (q : List ℕ) (same : Bool) → eq_by_cmp name_cmp q name ≡ same → (eq_by_cmp name_cmp q name ≡ false → stream_at q (entries loaded) ≡ stream_at q (entries root))
      → cond same (Some bytes) (stream_at q (entries loaded)) ≡ stream_at q (entries root)
  found_by q true tied other = read ∙ ap (get root) (sym (exact_names q name (is_equal _ tied))) ∙ get-entries root q
  found_by q false untied other = other untied

  pub loaded_now : IsLoaded (entries root) (entries (insert loaded name bytes)) name
  loaded_now =
      put_at name ∙ ap (λ same. cond same (Some bytes) (stream_at name (entries loaded))) ((eq_by_cmp_equiv names_total).refl name)
      ∙ read ∙ get-entries root name

  pub loaded_still : (other : List ℕ) → IsLoaded (entries root) (entries loaded) other → IsLoaded (entries root) (entries (insert loaded name bytes)) other
  loaded_still other is = put_at other ∙ found_by other (eq_by_cmp name_cmp other name) refl (λ _. is)

  pub streams_with : AreStreamsOf (entries root) (entries loaded) → AreStreamsOf (entries root) (entries (insert loaded name bytes))
  streams_with are q there =
      put_at q ∙ found_by q (eq_by_cmp name_cmp q name) refl
      (λ untied. are q (sym (ap is_some (put_at q ∙ ap (λ same. cond same (Some bytes) (stream_at q (entries loaded))) untied)) ∙ there))

-- reading on tells of the same root
pub root_on : (old mid : View) → bytes_told mid.held ≡ bytes_told old.held → mid.streams ≡ old.streams → (P : Streams → Type 0)
    → ((file : List ℕ) → Tells mid.held file → P (root_in file mid)) → (file : List ℕ) → Tells old.held file → P (root_in file old)
root_on old mid tells same P holds file told = subst P (ap (λ located. entries (streams_at file located)) same) (holds file (tells ∙ told))

-- one more of several is loaded, and those before still are
pub all_loaded : {X : Type 0} (P Q : X → Type 0) (xs : List X) (i : ℕ) (x : X) → i < length xs → x ≡ get_or xs i x
    → ((y : X) → P y → Q y) → All P (take i xs) → Q x → All Q (take (i + 1) xs)
all_loaded P Q xs i x lt is still before here = All-more Q xs i x lt (All-weaker P Q still (take i xs) before) (subst Q is here)

-- so are those of some tables and those of others
both_loaded : {X : Type 0} (P Q : X → Type 0) (xs ys zs : List X) → zs ≡ xs ++ ys → ((y : X) → P y → Q y) → All P xs → All Q ys → All Q zs
both_loaded P Q xs ys zs are still before here = subst (All Q) (sym are) (All-append Q xs ys (All-weaker P Q still xs before) here)

module _ (key : List ℕ → List ℕ) (old mid : View) (start before after : Streams) (tables ts us : List (List ℕ)) where
  abbrev AreLoaded : View → Streams → List (List ℕ) → List ℕ → Type 0
  AreLoaded v loaded names file = All (λ table. IsLoaded (root_in file v) loaded (key table)) names

  pub joined_loaded : {A E : Type 0} (r : Result A E) → bytes_told mid.held ≡ bytes_told old.held → mid.streams ≡ old.streams → tables ≡ ts ++ us
      → ((file : List ℕ) → Tells old.held file → AreStreamsOf (root_in file old) start → AreStreamsOf (root_in file old) before)
      → ((file : List ℕ) → Tells old.held file → AreStreamsOf (root_in file old) start → AreLoaded old before ts file)
      → OnOk r ((file : List ℕ) → Tells mid.held file → AreStreamsOf (root_in file mid) before → AreLoaded mid after us file)
      → ((file : List ℕ) → Tells mid.held file → (other : List ℕ) → IsLoaded (root_in file mid) before other → IsLoaded (root_in file mid) after other)
      → OnOk r ((file : List ℕ) → Tells old.held file → AreStreamsOf (root_in file old) start → AreLoaded old after tables file)
  joined_loaded (Err e) tells same are streams first second others = tt
  joined_loaded (Ok x) tells same are streams first second others = λ file told known.
      both_loaded (λ table. IsLoaded (root_in file old) before (key table)) (λ table. IsLoaded (root_in file old) after (key table)) ts us tables are
      (λ table is. root_on old mid tells same (λ root. IsLoaded root before (key table) → IsLoaded root after (key table)) (λ file told. others file told (key table)) file told is)
      (first file told known)
      (root_on old mid tells same (λ root. AreStreamsOf root before → All (λ table. IsLoaded root after (key table)) us) second file told (streams file told known))

-- the tables of several sides
pub sides_loaded : {X A E : Type 0} (r : Result A E) (key : List ℕ → List ℕ) (table : X → List ℕ) (v : View) (start after : Streams) (tables : List (List ℕ)) (xs : List X) → tables ≡ map table xs
    → OnOk r ((file : List ℕ) → Tells v.held file → AreStreamsOf (root_in file v) start → All (λ x. IsLoaded (root_in file v) after (key (table x))) xs)
    → OnOk r ((file : List ℕ) → Tells v.held file → AreStreamsOf (root_in file v) start → All (λ table. IsLoaded (root_in file v) after (key table)) tables)
sides_loaded (Err e) key table v start after tables xs are loaded = tt
sides_loaded (Ok x) key table v start after tables xs are loaded = λ file told known.
    subst (All (λ t. IsLoaded (root_in file v) after (key t))) (sym are) (All-map (λ t. IsLoaded (root_in file v) after (key t)) table xs (loaded file told known))
