use Rattle.msi_pool.proofs.stringpool.pool.StringPool.from_parts.Goals as goal

pub invariant_of-result : goal.invariant_of-result
invariant_of-result c = record {
  most = c.requires.most;
  counts = c.requires.joined.fit;
  indexed = c.requires.joined;
}
