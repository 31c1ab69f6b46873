-- The number that bytes are, the lowest first.
use Rattle.std.proofs.Common.{◌≡◌, ℕ, List, [], ◌∷◌, length, refl, arith}
use Rattle.byteorder.specs.Endian.{little_from}
use Rattle.byteorder.specs.Numbers.{little_from-cons}
use Rattle.msi_base.specs.Numbers.{number_of}

-- all the bytes of a list
pub little_from-all : (bytes : List ℕ) → little_from 0 (length bytes) bytes ≡ number_of bytes
little_from-all [] = refl
little_from-all (b ∷ bs) = omega (arith, little_from-cons 0 (length bs) b bs, little_from-all bs)
