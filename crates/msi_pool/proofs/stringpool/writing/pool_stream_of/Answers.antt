use Rattle.std.proofs.Common.{◌≡◌, ◌++◌, List, ℕ, false, is_some, sym, ap, ◌∙◌}
use Rattle.std.specs.Int.{to_le_bytes, w32}
use Rattle.msi_base.specs.Pages.{page_id}
use Rattle.msi_pool_places.specs.Pool.{header_of}
use Rattle.msi_pool.specs.PoolWriting.{is_refused}
use Rattle.msi_pool.proofs.PoolReadBackLemmas.{pools_read_back}
use Rattle.msi_pool.proofs.PoolWritingLemmas.{pool_written}
use Rattle.msi_pool.proofs.stringpool.writing.pool_stream_of.Goals as goal

pub returns-clause-ok : goal.returns-clause-ok
returns-clause-ok c =
    let told : is_refused c.args.pool.now ≡ false = sym c.refusal.ensures.refused ∙ ap is_some c.in_default.is in
    let header : to_le_bytes w32 c.header.result ≡ header_of (page_id c.args.pool.now.page) c.args.pool.now.long =
    ap (to_le_bytes w32) c.header.ensures
    ∙ ap (λ p. header_of (page_id p) c.long_string_refs.result) c.codepage.ensures
    ∙ ap (header_of (page_id c.args.pool.now.page)) c.long_string_refs.ensures in
    pool_written c.args.pool.now c.push_u32.new.held.items c.push_entries.new.held.items told
    (c.in_ok-push_u32.ensures.ok ∙ ap (λ (bytes : List ℕ). bytes ++ to_le_bytes w32 c.header.result) c.new-held.ensures.items ∙ header)
    c.in_ok-push_entries.ensures

pub returns-clause-spelled : goal.returns-clause-spelled
returns-clause-spelled c =
    pools_read_back c.args.pool.now c.refusal.ensures.many c.refusal.ensures.counts (sym c.refusal.ensures.refused ∙ ap is_some c.in_default.is)
