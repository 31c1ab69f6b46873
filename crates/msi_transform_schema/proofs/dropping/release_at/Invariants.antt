use Rattle.std.proofs.Common.{◌≡◌, drop}
use Rattle.std.specs.FinMap.{entries}
use Rattle.msi_database_changes.specs.Texts.{in_use}
use Rattle.msi_transform_schema.specs.SchemaChanges.{released_at}
use Rattle.msi_transform_schema.proofs.dropping.release_at.Given as goal

abbrev pub invariant-loop-key : goal.invariant-loop-key
invariant-loop-key l = record {
  pool : released_at (entries l.rows) (in_use l.pool) (drop l.key-index l.keys) ≡ released_at (entries l.rows) (in_use l.fn.pool) l.keys;
  page : l.pool.pool.page ≡ l.fn.pool.pool.page;
  long : l.pool.pool.long ≡ l.fn.pool.pool.long;
}
