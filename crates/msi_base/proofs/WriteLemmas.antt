-- Writes of the rest of some bytes, one after the other.
use Rattle.std.proofs.Common.{◌≡◌, ◌⊎◌, inl, inr, ℕ, ◌+◌, ◌-◌, ◌≤◌, List, ◌++◌, length, take, drop, take_all, Option, arith, length-drop, length-take, ap, sym, subst, ◌∙◌}
use Rattle.std.specs.Io.KnownBytes.{Appends, Keeps}
use Rattle.std.specs.declared.io.ErrorKind.{ErrorKind as FaultKind}
use Rattle.std.specs.declared.io.ErrorKind.TheVariants as faults
use Rattle.std.proofs.KnownBytes.{Appends-kept, Appends-trans}
use Rattle.std.proofs.Math.Seq.{take-add}
use Rattle.msi_base.specs.Faults.{AppendsPart, kind_of_fault}
use Rattle.msi_base.specs.declared.errors.ErrorKind.{ErrorKind}
use Rattle.msi_base.specs.declared.errors.ErrorKind.TheVariants.{InvalidData, Io, OutOfMemory}

-- a write took n bytes more
pub appended-more : (first old new : Option (List ℕ)) (bytes : List ℕ) (at n : ℕ) → Appends first old (take at bytes)
    → Appends old new (take n (take (length bytes - at) (drop at bytes))) → Appends first new (take (at + n) bytes)
appended-more first old new bytes at n given more =
    let rest : take (length bytes - at) (drop at bytes) ≡ drop at bytes =
    take_all (length bytes - at) (drop at bytes) (omega (arith, length-drop at bytes)) in
    let whole = ap (λ (l : List ℕ). take at bytes ++ take n l) rest ∙ sym (take-add at n bytes) in
    subst (Appends first new) whole (Appends-trans first old new _ _ given more)

-- a writer that then failed took what was written before, and what its last write took
pub part-kept : (first old new : Option (List ℕ)) (bytes : List ℕ) (at : ℕ) → at ≤ length bytes → Appends first old (take at bytes) → Keeps old new → AppendsPart first new bytes
part-kept first old new bytes at within given kept = (at, within, Appends-kept first old new (take at bytes) given kept)

pub part-more : (first old new : Option (List ℕ)) (bytes : List ℕ) (at n : ℕ) → at ≤ length bytes → n ≤ length (take (length bytes - at) (drop at bytes))
    → Appends first old (take at bytes) → Appends old new (take n (take (length bytes - at) (drop at bytes))) → AppendsPart first new bytes
part-more first old new bytes at n within bound given more =
    (at + n, omega (arith, within, bound, length-drop at bytes, length-take (length bytes - at) (drop at bytes)), appended-more first old new bytes at n given more)

-- which kind a writer's or a reader's own error becomes
pub fault_kinds : (fault : FaultKind) (kind : ErrorKind) → kind ≡ kind_of_fault fault → (kind ≡ Io) ⊎ (kind ≡ OutOfMemory)
fault_kinds faults.OutOfMemory kind is = inr is
fault_kinds fault kind is = inl is

pub fault_no_data : {P : Type 0} (fault : FaultKind) (kind : ErrorKind) → kind ≡ kind_of_fault fault → kind ≡ InvalidData → P
fault_no_data faults.OutOfMemory kind is data_is = cc
fault_no_data fault kind is data_is = cc
