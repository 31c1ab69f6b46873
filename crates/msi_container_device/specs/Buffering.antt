-- A device behind a buffer: what it has collected, and what has been written to it.
use Rattle.std.specs.Prelude.{Bool, ℕ, List, Option}
use Rattle.std.specs.Io.KnownBytes.{append_known}

-- a writer, the bytes that are collected for it and not yet handed on, whether a call failed, and whether something was
-- written that was not yet passed on
pub record Buffering (F : Type 0) : Type 0 where
  pub inner : F
  pub collected : List ℕ
  pub failed : Bool
  pub pending : Bool

-- all that was written: the writer's bytes, where they are known, and then those that are collected
abbrev pub written : {F : Type 0} → (F → Option (List ℕ)) → Buffering F → Option (List ℕ)
written contents b = append_known (contents b.inner) b.collected
