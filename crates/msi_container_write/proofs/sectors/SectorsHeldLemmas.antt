-- What a device holds while the file is written to it sector by sector.
use Rattle.std.specs.Prelude.{Option}
use Rattle.std.proofs.Common.{◌≡◌, ℕ, ◌+◌, ◌-◌, ◌*◌, ◌<◌, List, ◌++◌, map, option_map, sym, ◌∙◌, ap, subst, arith}
use Rattle.std.specs.List.{range_with_len}
use Rattle.msi_container_device.specs.Held.{Held, with_piece, StandsInPart}
use Rattle.msi_container_device.proofs.HeldLemmas.{pieces_join, part_behind, part_in_front}
use Rattle.msi_container_write.proofs.sectors.SectorLemmas.{ranges_join}

-- n sectors, and one more behind them
one_more : (f : ℕ → ℕ) (n : ℕ) (sector : List ℕ) → sector ≡ map f (range_with_len (512 * n) 512)
    → map f (range_with_len 0 (512 * n)) ++ sector ≡ map f (range_with_len 0 (512 * (n + 1)))
one_more f n sector is =
    ap (λ bs. map f (range_with_len 0 (512 * n)) ++ bs) is
    ∙ sym (ranges_join f (512 * n) 512 (512 * (n + 1)) (omega arith))

-- a vector that grew by a sector
pub sector_pushed : (f : ℕ → ℕ) (n : ℕ) (before now sector : List ℕ)
    → before ≡ map f (range_with_len 0 (512 * n))
    → sector ≡ map f (range_with_len (512 * n) 512)
    → now ≡ before ++ sector
    → now ≡ map f (range_with_len 0 (512 * (n + 1)))
sector_pushed f n before now sector was is pushed = pushed ∙ ap (λ bs. bs ++ sector) was ∙ one_more f n sector is

-- a device that took a sector
pub sector_written : (f : ℕ → ℕ) (n : ℕ) (sector : List ℕ) (old mid new : Option Held)
    → mid ≡ option_map (with_piece (map f (range_with_len 0 (512 * n)))) old
    → sector ≡ map f (range_with_len (512 * n) 512)
    → new ≡ option_map (with_piece sector) mid
    → new ≡ option_map (with_piece (map f (range_with_len 0 (512 * (n + 1))))) old
sector_written f n sector old mid new was is put =
    put
    ∙ ap (option_map (with_piece sector)) was
    ∙ pieces_join (map f (range_with_len 0 (512 * n))) sector old
    ∙ ap (λ bs. option_map (with_piece bs) old) (one_more f n sector is)

-- a device that took a beginning of a sector has a beginning of the file
pub sector_in_part : (f : ℕ → ℕ) (n count : ℕ) (sector : List ℕ) (old mid new : Option Held)
    → n < count
    → mid ≡ option_map (with_piece (map f (range_with_len 0 (512 * n)))) old
    → sector ≡ map f (range_with_len (512 * n) 512)
    → StandsInPart sector mid new
    → StandsInPart (map f (range_with_len 0 (512 * count))) old new
sector_in_part f n count sector old mid new l was is part =
    let front = map f (range_with_len 0 (512 * n)) in
    let rest = map f (range_with_len (512 * (n + 1)) (512 * (count - (n + 1)))) in
    let whole : (front ++ sector) ++ rest ≡ map f (range_with_len 0 (512 * count)) =
    ap (λ bs. bs ++ rest) (one_more f n sector is)
    ∙ sym (ranges_join f (512 * (n + 1)) (512 * (count - (n + 1))) (512 * count) (omega arith)) in
    subst (λ bs. StandsInPart bs old new) whole
    (part_in_front (front ++ sector) rest old new
    (part_behind front sector old new (subst (λ m. StandsInPart sector m new) was part)))

-- a device that took a file, or a beginning of it, by other names of the file and of what it held
pub put_as : (file layout : List ℕ) (old mid new : Option Held) → file ≡ layout → mid ≡ old
    → new ≡ option_map (with_piece file) mid → new ≡ option_map (with_piece layout) old
put_as file layout old mid new same held put = put ∙ ap (λ bs. option_map (with_piece bs) mid) same ∙ ap (option_map (with_piece layout)) held

pub part_as : (file layout : List ℕ) (old mid new : Option Held) → file ≡ layout → mid ≡ old
    → StandsInPart file mid new → StandsInPart layout old new
part_as file layout old mid new same held part =
    subst (λ bs. StandsInPart bs old new) same (subst (λ m. StandsInPart file m new) held part)
