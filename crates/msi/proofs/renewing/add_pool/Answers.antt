use Rattle.std.proofs.Common.{rules}
use Rattle.msi_container_write.proofs.placing.LayoutLemmas.{not_true}
use Rattle.msi_pool.specs.PoolWriting.{is_refused}
use Rattle.msi.proofs.writing.RenewingLemmas.{pool_added, pool_keys_added}
use Rattle.msi.proofs.renewing.add_pool.Goals as goal

pub returns-clause-ok : goal.returns-clause-ok
returns-clause-ok c = pool_added c.args.pool.now c.args.renewed.now.items c.push-2.new.self.items c.from_vec-entries.result c.from_vec-texts.result c.string_data_key.result c.string_pool_key.result
    (not_true (is_refused c.args.pool.now) (λ h. let e = c.in_ok-data_stream_of.ensures.refused.1 h in absurd cc))
    (search rules) (search rules) c.string_data_key.ensures c.string_pool_key.ensures (search rules)

pub returns-clause-names : goal.returns-clause-names
returns-clause-names c = pool_keys_added c.args.renewed.now.items c.push-2.new.self.items c.from_vec-entries.result c.from_vec-texts.result c.string_data_key.result c.string_pool_key.result
    c.string_data_key.ensures c.string_pool_key.ensures (search rules)
