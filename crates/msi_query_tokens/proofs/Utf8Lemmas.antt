-- Bytes of which a text can be made, and others.
use Rattle.std.proofs.Common.{◌≡◌, ℕ, true, false, Bool, List, refl}
use Rattle.std.specs.Str.{IsUtf8, is_utf8}
use Rattle.std.proofs.lemmas.Str.{IsUtf8-from_is_utf8, is_utf8-from_IsUtf8}

pub utf8 : (bytes : List ℕ) → IsUtf8 bytes → is_utf8 bytes ≡ true
utf8 bytes h = is_utf8-from_IsUtf8 bytes h

pub not_utf8 : (bytes : List ℕ) → (IsUtf8 bytes → ⊥) → is_utf8 bytes ≡ false
not_utf8 bytes h = go (is_utf8 bytes) refl
  where
    go : (b : Bool) → is_utf8 bytes ≡ b → is_utf8 bytes ≡ false
    go true e = absurd (h (IsUtf8-from_is_utf8 bytes e))
    go false e = e
