-- Look-ups among streams whose names a container can have.
use Rattle.std.proofs.Common.{◌≡◌, ℕ, Bool, true, false, cond, List, [], ◌∷◌, length, Option, Some, None, refl, sym, ap, ◌∙◌}
use Rattle.std.specs.Prelude.{unwrap_or, if◌then◌else◌}
use Rattle.std.specs.FinMap.{find, get, entries, get-entries}
use Rattle.std.specs.Ordering.{eq_by_cmp}
use Rattle.std.proofs.lemmas.Bool.{true≢false}
use Rattle.msi_container_format.specs.Names.{name_cmp, is_name_length, named}
use Rattle.msi_container_format.proofs.NamesLemmas.{exact_names}
use Rattle.msi_container_format.specs.Streams as maps
use Rattle.msi_container_format.proofs.StreamsLemmas.{is_equal}
use Rattle.msi_database_storage.specs.StreamNames.{HaveShortNames}
use Rattle.msi_database_storage.specs.Streams.{Streams, stream_at}

-- no stream has a name that is too long for one
pub none_too_long : (name : List ℕ) (streams : Streams) → HaveShortNames streams → is_name_length (length name) ≡ false → stream_at name streams ≡ None
none_too_long name [] names long = refl
none_too_long name (s ∷ ss) names long =
    elim (eq_by_cmp name_cmp name s.0) as (λ b. eq_by_cmp name_cmp name s.0 ≡ b → cond b (Some s.1) (find name_cmp name ss) ≡ None) [
      | true ↦ λ e. absurd (true≢false (sym names.0 ∙ ap (λ k. is_name_length (length k)) (sym (exact_names name s.0 (is_equal _ e))) ∙ long))
      | false ↦ λ _. none_too_long name ss names.1 long
    ] refl

-- whether a name has the length of one
unnamed_by : (b : Bool) (name : List ℕ) → (if b then Some name else None) ≡ None → b ≡ false
unnamed_by true name e = cc
unnamed_by false name e = refl

named_by : (b : Bool) (name k : List ℕ) → (if b then Some name else None) ≡ Some k → k ≡ name
named_by true name k e = cc
named_by false name k e = cc

-- where the name is too long there are no bytes
pub nothing_held : (key : Option (List ℕ)) (name : List ℕ) (streams : Streams) → HaveShortNames streams → key ≡ named name → key ≡ None → [] ≡ unwrap_or (stream_at name streams) []
nothing_held key name streams names is none =
    ap (λ (o : Option (List ℕ)). unwrap_or o []) (sym (none_too_long name streams names (unnamed_by (is_name_length (length name)) name (sym is ∙ none))))

-- else those that the map has
pub held_at : (key : Option (List ℕ)) (name k : List ℕ) (m : maps.Streams) (o : Option (List ℕ))
    → key ≡ named name → key ≡ Some k → o ≡ get m k → unwrap_or o [] ≡ unwrap_or (stream_at name (entries m)) []
held_at key name k m o is some held =
    ap (λ (o : Option (List ℕ)). unwrap_or o []) (held ∙ get-entries m k ∙ ap (λ q. stream_at q (entries m)) (named_by (is_name_length (length name)) name k (sym is ∙ some)))
