use Rattle.std.proofs.Common.{◌≡◌, drop}
use Rattle.std.specs.FinMap.{entries}
use Rattle.msi_transform_schema.specs.SchemaChanges.{without_keys}
use Rattle.msi_transform_schema.proofs.dropping.remove_keys.Given as goal

-- what is left without the keys to come is what is left without all
abbrev pub invariant-loop-key : goal.invariant-loop-key
invariant-loop-key l = without_keys (entries l.rows) (drop l.key-index l.keys) ≡ without_keys (entries l.fn.rows) l.keys
