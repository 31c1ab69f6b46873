-- Copies that were made of places are of their texts.
use Rattle.std.proofs.Common.{◌≡◌, ℕ, List, map, All, refl, subst, sym}
use Rattle.std.proofs.lemmas.List.Elements.{All-map}
use Rattle.msi_pool.specs.Pool.{Place}
use Rattle.msi_database_schema.specs.Copies.{IsListCopy, IsTextCopy, list_copy, text_copy}

pub texts_are : (places : List Place) (numbers : List ℕ) (copies : List (ℕ × List ℕ)) → copies ≡ map (text_copy places) numbers → All (IsTextCopy places) copies
texts_are places numbers copies made = subst (All (IsTextCopy places)) (sym made) (All-map (IsTextCopy places) (text_copy places) numbers (λ k d h. refl))

pub lists_are : (places : List Place) (numbers : List ℕ) (copies : List (ℕ × List (List ℕ))) → copies ≡ map (list_copy places) numbers → All (IsListCopy places) copies
lists_are places numbers copies made = subst (All (IsListCopy places)) (sym made) (All-map (IsListCopy places) (list_copy places) numbers (λ k d h. refl))
