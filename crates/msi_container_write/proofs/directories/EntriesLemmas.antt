-- The bytes of the directory's entries.
use Rattle.std.proofs.Common.{◌≡◌, ℕ, ◌+◌, ◌*◌, List, [], ◌∷◌, length, sym, subst, ◌∙◌, ap, arith, refl}
use Rattle.std.specs.List.{flat_map}
use Rattle.std.specs.Int.{div_ceil, to_le_bytes, w16}
use Rattle.msi_container_write.specs.Layout.{mini_sectors, mini_stream_first, directory_sectors, large_first}
use Rattle.msi_container_write.specs.LayoutLaw.{IsName, HaveNames}

-- two bytes for each unit
pub length-units : (name : List ℕ) → length (flat_map (to_le_bytes w16) name) ≡ 2 * length name
length-units [] = refl
length-units (unit ∷ name) = let e = length-units name in omega arith

-- one name more is known
pub name_known : {A : Type 0} (stream : List ℕ × List ℕ) (streams rest : List (List ℕ × List ℕ))
    → streams ≡ stream ∷ rest
    → IsName stream.0
    → (HaveNames streams → A)
    → HaveNames rest → A
name_known stream streams rest is named h others = h (subst HaveNames (sym is) (named, others))

-- where the mini stream begins, and the large streams
pub mini_stream_place : (streams : List (List ℕ × List ℕ)) (n count s t : ℕ)
    → n ≡ length streams
    → count ≡ mini_sectors streams
    → s ≡ directory_sectors n
    → t ≡ div_ceil count 128
    → s + t ≡ mini_stream_first streams
mini_stream_place streams n count s t n_is count_is s_is t_is =
    ap (λ m. m + t) (s_is ∙ ap directory_sectors n_is) ∙ ap (λ m. directory_sectors (length streams) + m) (t_is ∙ ap (λ m. div_ceil m 128) count_is)

pub large_place : (streams : List (List ℕ × List ℕ)) (n count s t u : ℕ)
    → n ≡ length streams
    → count ≡ mini_sectors streams
    → s ≡ directory_sectors n
    → t ≡ div_ceil count 128
    → u ≡ div_ceil count 8
    → s + t + u ≡ large_first streams
large_place streams n count s t u n_is count_is s_is t_is u_is =
    ap (λ m. m + u) (mini_stream_place streams n count s t n_is count_is s_is t_is) ∙ ap (λ m. mini_stream_first streams + m) (u_is ∙ ap (λ m. div_ceil m 8) count_is)
