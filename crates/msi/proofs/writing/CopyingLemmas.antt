-- Copies of streams with one more, and streams that are put among others.
use Rattle.std.proofs.Common.{◌≡◌, ℕ, List, ◌∷◌, Option, Some, None, sym, ap, ◌∙◌}
use Rattle.std.specs.FinMap.{entries, entries-insert, insert}
use Rattle.msi_container_format.specs.Streams as maps
use Rattle.msi_container_format.proofs.NamesLemmas.{names_total}
use Rattle.msi_database_storage.specs.Streams.{Streams}
use Rattle.msi.specs.Renewing.{opened, with_renewed}

pub put_more : (streams new : maps.Streams) (name bytes : List ℕ) (items behind whole : Streams) → with_renewed items (entries streams) ≡ whole → items ≡ (name, bytes) ∷ behind
    → new ≡ insert streams name bytes → with_renewed behind (entries new) ≡ whole
put_more streams new name bytes items behind whole so_far is new_is =
    ap (λ (m : maps.Streams). with_renewed behind (entries m)) new_is
    ∙ ap (with_renewed behind) (entries-insert names_total streams name bytes)
    ∙ ap (λ rs. with_renewed rs (entries streams)) (sym is)
    ∙ so_far

pub settled_some : (copy new streams : maps.Streams) (key held name bytes : List ℕ) (o : Option (List ℕ)) → copy ≡ streams → new ≡ insert copy key held → key ≡ name → held ≡ bytes → o ≡ Some name
    → entries new ≡ opened o bytes (entries streams)
settled_some copy new streams key held name bytes o copy_is new_is key_is held_is o_is =
    ap entries (new_is ∙ (λ i. insert (copy_is i) (key_is i) (held_is i))) ∙ entries-insert names_total streams name bytes
    ∙ ap (λ (p : Option (List ℕ)). opened p bytes (entries streams)) (sym o_is)

pub settled_none : (copy streams : maps.Streams) (bytes : List ℕ) (o : Option (List ℕ)) → copy ≡ streams → o ≡ None → entries copy ≡ opened o bytes (entries streams)
settled_none copy streams bytes o copy_is o_is = ap entries copy_is ∙ ap (λ (p : Option (List ℕ)). opened p bytes (entries streams)) (sym o_is)
