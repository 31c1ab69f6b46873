-- The header as the first sector of the copy.
use Rattle.std.proofs.Common.{◌≡◌, ℕ, ◌+◌, ◌-◌, ◌≤◌, List, [], ◌++◌, length, take, get_or, Option, arith, length-append, length-take, take_all, sym, ap, ◌∙◌}
use Rattle.std.specs.Prelude.{replicate}
use Rattle.std.proofs.lemmas.List.{get_or_append_left, length-replicate}
use Rattle.std.proofs.lemmas.List.FromFn.{get_or-map-range_with_len}
use Rattle.msi_container_device.specs.Held.{Held, bytes_told}
use Rattle.msi_container_format.specs.Container.{sector_size}
use Rattle.msi_container_view.specs.Copied.{HasHeaderOf}
use Rattle.msi_container_view.specs.Reading.{Tells, IsAppended}
use Rattle.msi_container_view.specs.Tables.{TablesRead, IsCopy}
use Rattle.msi_container_view.proofs.copies.HeaderCopyLemmas.{same_size}

same_place : (i : ℕ) → 0 + i ≡ i
same_place i = omega arith

-- the first bytes of the source are its header
pub header_read : (held : Option Held) (old copy : List ℕ) → old ≡ [] → IsAppended held 0 512 old copy → (file : List ℕ) → Tells held file → HasHeaderOf file copy
header_read held old copy none read file told i less =
    let first : copy ≡ read.piece = rw none at read.behind in
    ap (λ (b : List ℕ). get_or b i 0) (first ∙ read.told file told)
    ∙ get_or-map-range_with_len (λ k. get_or file (0 + k) 0) 0 512 i i 0 less (same_place i)
    ∙ ap (λ k. get_or file k 0) (same_place i)

pub length_read : (held : Option Held) (old copy : List ℕ) → old ≡ [] → IsAppended held 0 512 old copy → length copy ≡ 512
length_read held old copy none read =
    let first : copy ≡ read.piece = rw none at read.behind in
    ap (λ (b : List ℕ). length b) first ∙ read.long

-- behind it the first sector is filled up with zeros
pub header_padded : (copy whole : List ℕ) (size : ℕ) → length copy ≡ 512 → 512 ≤ size → whole ≡ take size copy ++ replicate (size - length copy) 0 → HasHeaderOf copy whole
header_padded copy whole size long most is i less =
    ap (λ (b : List ℕ). get_or b i 0) (is ∙ ap (λ (b : List ℕ). b ++ replicate (size - length copy) 0) (take_all size copy (omega arith)))
    ∙ get_or_append_left copy (replicate (size - length copy) 0) 0 i (omega arith)

pub length_padded : (copy whole : List ℕ) (size : ℕ) → length copy ≡ 512 → 512 ≤ size → whole ≡ take size copy ++ replicate (size - length copy) 0 → length whole ≡ size
length_padded copy whole size long most is =
    omega (arith, ap (λ (b : List ℕ). length b) is, length-append (take size copy) (replicate (size - length copy) 0), length-take size copy, length-replicate {A = ℕ} (size - length copy) 0)

pub header_along : (file copy whole : List ℕ) → HasHeaderOf file copy → HasHeaderOf copy whole → HasHeaderOf file whole
header_along file copy whole a b i less = b i less ∙ a i less

-- the first sector is a copy
pub first_sector : (first : Option Held) (t : TablesRead) (copy : List ℕ) (size : ℕ) → length copy ≡ 512 → size ≡ sector_size copy → 512 ≤ size
    → t.copy ≡ take size copy ++ replicate (size - length copy) 0 → bytes_told t.held ≡ bytes_told first → t.bytes_read ≤ 512
    → ((file : List ℕ) → Tells first file → HasHeaderOf file copy) → IsCopy t
first_sector first t copy size long is most whole told read headed =
    let padded = header_padded copy t.copy size long most whole in
    let same : sector_size t.copy ≡ size = same_size copy t.copy padded ∙ sym is in
    let wide : length t.copy ≡ size = length_padded copy t.copy size long most whole in
    record {
      sectors = 0;
      long = rw (same, wide) (omega arith);
      read = omega arith;
      headed = λ file tells. header_along file copy t.copy (headed file (sym told ∙ tells)) padded;
    }
