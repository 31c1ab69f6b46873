use Rattle.std.proofs.Common.{◌≡◌, false, is_some, sym, ap, ◌∙◌}
use Rattle.msi_pool.specs.PoolWriting.{is_refused}
use Rattle.msi_pool.proofs.PoolReadBackLemmas.{pools_read_back}
use Rattle.msi_pool.proofs.PoolWritingLemmas.{data_written}
use Rattle.msi_pool.proofs.stringpool.writing.data_stream_of.Goals as goal

pub returns-clause-ok : goal.returns-clause-ok
returns-clause-ok c =
    let told : is_refused c.args.pool.now ≡ false = sym c.refusal.ensures.refused ∙ ap is_some c.in_default.is in
    data_written c.args.pool.now c.new-held.result.items c.push_texts.new.held.items told c.new-held.ensures.items c.in_ok-push_texts.ensures.ok

pub returns-clause-spelled : goal.returns-clause-spelled
returns-clause-spelled c =
    pools_read_back c.args.pool.now c.refusal.ensures.many c.refusal.ensures.counts (sym c.refusal.ensures.refused ∙ ap is_some c.in_default.is)
