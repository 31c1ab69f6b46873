-- Mini sectors that follow one another lie in the mini stream in one piece.
use Rattle.std.proofs.Common.{◌≡◌, ℕ, ◌+◌, ◌-◌, ◌*◌, ◌/◌, ◌%◌, ◌<◌, ◌≤◌, ◌⊎◌, inl, inr, List, ◌++◌, length, get_or, map, ◌∙◌, ap, sym, refl, arith}
use Rattle.std.specs.List.{range_with_len}
use Rattle.msi_container_format.specs.Bytes.{bytes_at, place}
use Rattle.msi_container_format.specs.Chains.{AreBelow}
use Rattle.msi_container_format.specs.Container.{sector_size, mini_sector_byte}
use Rattle.msi_container_tables.proofs.parts.ListLemmas.{from_fn_append}
use Rattle.msi_container_view.proofs.extent_lemmas.SectorRunLemmas.{Follow}

-- a run ends within the mini stream
pub mini_run_within : (size sectors : ℕ) (mini_sectors : List ℕ) (first at run wanted : ℕ)
    → (size ≡ 512) ⊎ (size ≡ 4096)
    → AreBelow (sectors * (size / 64)) mini_sectors
    → Follow mini_sectors first at run
    → 0 < run
    → at + run ≤ length mini_sectors
    → wanted ≤ run * 64
    → first * 64 + wanted ≤ sectors * size
mini_run_within size sectors mini_sectors first at run wanted sized below follow some within enough =
    let whole : size / 64 * 64 ≡ size = elim sized [
      | inl e ↦ omega arith
      | inr e ↦ omega arith
    ] in
    let all : sectors * (size / 64 * 64) ≡ sectors * size = ap (λ s. sectors * s) whole in
    let last : get_or mini_sectors (at + (run - 1)) 0 ≡ first + (run - 1) = follow (run - 1) (omega arith) in
    let inside : get_or mini_sectors (at + (run - 1)) 0 < sectors * (size / 64) = below (at + (run - 1)) (omega arith) in
    omega arith

-- the bytes so far, and those of a piece of one more run
pub mini_run_bytes_more : (file mini_stream mini_sectors : List ℕ) (size first at run start count before : ℕ)
    → sector_size file ≡ size
    → Follow mini_sectors first at run
    → ((j : ℕ) → j < count → place size mini_stream (64 * first + j) ≡ start + j)
    → count ≤ run * 64
    → at * 64 ≡ before
    → map (mini_sector_byte file mini_stream mini_sectors) (range_with_len 0 before) ++ bytes_at file start count
    ≡ map (mini_sector_byte file mini_stream mini_sectors) (range_with_len 0 (before + count))
mini_run_bytes_more file mini_stream mini_sectors size first at run start count before sized follow piece enough whole =
    from_fn_append (mini_sector_byte file mini_stream mini_sectors) (λ j. get_or file (start + j) 0) before count (before + count)
    refl
    (λ j l.
    let member : get_or mini_sectors (at + j / 64) 0 ≡ first + j / 64 = follow (j / 64) (omega arith) in
    let index : (before + j) / 64 ≡ at + j / 64 = omega arith in
    let rest : (before + j) % 64 ≡ j % 64 = omega arith in
    let at_place : 64 * first + j ≡ 64 * (first + j / 64) + j % 64 = omega arith in
    let stands : start + j ≡ place size mini_stream (64 * (first + j / 64) + j % 64) = sym (piece j l) ∙ ap (place size mini_stream) at_place in
    ap (λ p. get_or file p 0) (rw (sized, index, rest, member) stands))
