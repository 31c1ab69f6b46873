use Rattle.std.proofs.Common.{◌∙◌, List, ℕ, Ok, subst}
use Rattle.msi_transform.specs.TransformFiles.{ReadsTo}
use Rattle.msipkg_transforms.proofs.transform_bytes.TransformBytes.read_again.Goals as goal

pub returns-clause-read : goal.returns-clause-read
returns-clause-read c = (c.in_ok-_read._read, subst (λ (bytes : List ℕ). ReadsTo bytes (Ok c.in_ok-_read._read)) (c.in_ok-copy.ensures.items ∙ c.as_slice.ensures.value) c.in_ok-_read.ensures.ok)
