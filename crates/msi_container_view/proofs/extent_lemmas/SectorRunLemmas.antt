-- Sectors that follow one another lie in one piece, wherever their run begins in a list.
use Rattle.std.proofs.Common.{◌≡◌, ℕ, ◌+◌, ◌-◌, ◌*◌, ◌/◌, ◌%◌, ◌<◌, ◌≤◌, List, ◌++◌, length, get_or, take, drop, map, ◌∙◌, ap, sym, refl, arith}
use Rattle.std.specs.List.{range_with_len}
use Rattle.std.proofs.lemmas.List.{get_or-take, get_or-drop, length-take, length-drop}
use Rattle.std.proofs.lemmas.Nat.{div_below, mod_below, div-add-mod'}
use Rattle.msi_container_format.specs.Bytes.{bytes_at, place}
use Rattle.msi_container_format.specs.Container.{sector_size, sector_byte}
use Rattle.msi_container_read.specs.Runs.{IsRun}
use Rattle.msi_container_read.proofs.chains.SectorBytesLemmas.{place_within}
use Rattle.msi_container_tables.proofs.parts.ListLemmas.{from_fn_append}

-- so many members, from one on, follow the number first
abbrev pub Follow : (sectors : List ℕ) → (first at run : ℕ) → Type 0
Follow sectors first at run = (k : ℕ) → k < run → get_or sectors (at + k) 0 ≡ first + k

-- a run that was found in the rest of the list ends within the list
pub run_within : (sectors : List ℕ) (at run : ℕ)
    → at ≤ length sectors
    → run ≤ length (take (length sectors - at) (drop at sectors))
    → at + run ≤ length sectors
run_within sectors at run begins within =
    omega (arith, length-take (length sectors - at) (drop at sectors), length-drop at sectors)

-- what is known of a run that was found in a part of the list
pub run_of_part : (sectors : List ℕ) (first at count run : ℕ)
    → first ≡ get_or sectors at 0
    → run ≤ length (take count (drop at sectors))
    → IsRun (get_or (take count (drop at sectors)) 0 0) (take run (take count (drop at sectors)))
    → Follow sectors first at run
run_of_part sectors first at count run is_first within follow k l =
    let part = take count (drop at sectors) in
    let cut : run ≤ count = omega (arith, length-take count (drop at sectors)) in
    let member = get_or-take run part k 0 l ∙ get_or-take count (drop at sectors) k 0 (omega arith) ∙ get_or-drop at sectors k 0 in
    let head = get_or-take count (drop at sectors) 0 0 (omega arith) ∙ get_or-drop at sectors 0 0 in
    let start : get_or sectors (at + 0) 0 ≡ first = ap (λ i. get_or sectors i 0) (omega arith) ∙ sym is_first in
    sym member ∙ follow k (omega (arith, length-take run part)) ∙ ap (λ n. n + k) (head ∙ start)

-- byte j of a run stands j behind the beginning of its first sector
pub run_place : (size : ℕ) (sectors : List ℕ) (first at run j : ℕ)
    → 0 < size
    → Follow sectors first at run
    → j < run * size
    → place size sectors (at * size + j) ≡ (first + 1) * size + j
run_place size sectors first at run j some follow l =
    let member : get_or sectors (at + j / size) 0 ≡ first + j / size = follow (j / size) (div_below j size run some l) in
    let parts = div-add-mod' j size in
    let at_place : at * size + j ≡ (at + j / size) * size + j % size = omega arith in
    ap (place size sectors) at_place
    ∙ place_within size sectors (at + j / size) (j % size) (mod_below j size some)
    ∙ rw member (omega arith)

-- the bytes so far, and those of one more run, cut at a count
pub run_bytes_more : (file sectors : List ℕ) (size first at run count before : ℕ)
    → sector_size file ≡ size
    → 0 < size
    → Follow sectors first at run
    → count ≤ run * size
    → at * size ≡ before
    → map (sector_byte file sectors) (range_with_len 0 before) ++ bytes_at file ((first + 1) * size) count
    ≡ map (sector_byte file sectors) (range_with_len 0 (before + count))
run_bytes_more file sectors size first at run count before sized some follow enough whole =
    from_fn_append (sector_byte file sectors) (λ j. get_or file ((first + 1) * size + j) 0) before count (before + count)
    refl
    (λ j l.
    let stands : (first + 1) * size + j ≡ place size sectors (before + j) = rw (← whole) (sym (run_place size sectors first at run j some follow (omega arith))) in
    ap (λ p. get_or file p 0) (rw sized stands))
