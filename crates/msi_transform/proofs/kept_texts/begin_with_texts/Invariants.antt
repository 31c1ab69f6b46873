use Rattle.std.proofs.Common.{◌≡◌, drop}
use Rattle.msi_transform.specs.TransformFiles.{begin_with_texts}
use Rattle.msi_transform.proofs.kept_texts.begin_with_texts.Given as goal

-- the texts that are left are what is left begins with
abbrev pub invariant-loop-at : goal.invariant-loop-at
invariant-loop-at l = begin_with_texts l.pool.places l.fn.bytes ≡ begin_with_texts (drop l.at l.pool.places) l.rest
