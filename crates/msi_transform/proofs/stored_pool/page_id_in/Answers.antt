use Rattle.std.proofs.Common.{◌∙◌, ap, sym, Some, None}
use Rattle.std.specs.FinMap.{entries}
use Rattle.std.specs.Prelude.{◌%◌, ◌^◌}
use Rattle.msi_container_format.specs.Bytes.{number32}
use Rattle.msi_database_storage.specs.Streams.{stream_at}
use Rattle.msi_transform.proofs.StoredPoolLemmas.{no_page_id, page_id_of, stream_got}
use Rattle.msi_transform.proofs.stored_pool.page_id_in.Goals as goal

pub returns-in-Some : goal.returns-in-Some
returns-in-Some c =
    let streams = entries c.args.streams.now in
    let held = ap (λ name. stream_at name streams) (sym c.string_pool_key.ensures)
    ∙ stream_got c.args.streams.now c.string_pool_key.result (Some c.in-Some.bytes.now) c.in-Some.ensures in
    ap (λ n. n % 2 ^ 31) (c.number32.ensures ∙ ap (λ bytes. number32 bytes 0) c.as_slice.ensures)
    ∙ page_id_of streams c.in-Some.bytes.now held

pub returns-in-None : goal.returns-in-None
returns-in-None c =
    let streams = entries c.args.streams.now in
    no_page_id streams (ap (λ name. stream_at name streams) (sym c.string_pool_key.ensures)
    ∙ stream_got c.args.streams.now c.string_pool_key.result None c.in-None.ensures)
