use Rattle.std.proofs.Common.{◌∙◌, List, ap, ℕ}
use Rattle.std.specs.FinMap.{entries}
use Rattle.msi_database_storage.specs.Streams.{with_stream}
use Rattle.msi_transform.specs.StoredPools.{data_key, pool_key}
use Rattle.msi_transform.specs.WrittenTransforms.{with_page_id}
use Rattle.msi_transform.proofs.WrittenLemmas.{inserted, pool_put}
use Rattle.msi_transform.proofs.written.put_pool.Goals as goal

pub returns-clause-ok : goal.returns-clause-ok
returns-clause-ok c =
    let streams = entries c.args.streams.now in
    let first = entries c.insert.new.self in
    let paged = c.in_ok-listed-2.listed.items in
    pool_put c.args.page_id c.args.pool.now streams first (entries c.insert-2.new.self) c.in_ok-listed.listed.items paged c.in_ok-texts.texts.items
    c.in_ok-listed.ensures.ok c.in_ok-texts.ensures.ok
    (c.in_ok-listed-2.ensures ∙ ap (λ long. with_page_id c.args.page_id long c.as_slice.result.now) c.long_string_refs.ensures
    ∙ ap (with_page_id c.args.page_id c.args.pool.now.long) c.as_slice.ensures.value)
    (inserted c.args.streams.now c.insert.new.self c.string_pool_key.result c.from_vec.result c.in_ok-insert.ensures.ok
    ∙ ap (λ key. with_stream key c.from_vec.result streams) c.string_pool_key.ensures ∙ ap (λ (bytes : List ℕ). with_stream pool_key bytes streams) c.from_vec.ensures)
    (inserted c.insert.new.self c.insert-2.new.self c.string_data_key.result c.from_vec-2.result c.in_ok-insert-2.ensures.ok
    ∙ ap (λ key. with_stream key c.from_vec-2.result first) c.string_data_key.ensures ∙ ap (λ (bytes : List ℕ). with_stream data_key bytes first) c.from_vec-2.ensures)
