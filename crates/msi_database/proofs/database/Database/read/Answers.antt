use Rattle.std.proofs.Common.{◌≡◌, ◌∙◌, [], ap, sym, subst, is_some, map, List, Some}
use Rattle.std.specs.Prelude.{if◌then◌else◌}
use Rattle.std.specs.FinMap.{entries}
use Rattle.msi_pool.specs.Pool.{Pool}
use Rattle.msi_table_cells.specs.declared.cell.ValueRef.{ValueRef}
use Rattle.msi_table.specs.Tables.{TableDef}
use Rattle.msi_base.proofs.RefusalLemmas.{err_passed}
use Rattle.msi_table.specs.Census.{IsCensus}
use Rattle.msi_database_schema.specs.System.{validation_name}
use Rattle.msi_database_storage.specs.Kept.{AreAsLong, kept_of, table_kept, table_kept_at}
use Rattle.msi_database_storage.specs.Naming.{numbers_named, numbers_of_tables, pool_shown}
use Rattle.msi_database.specs.Keeping.{AreKept}
use Rattle.msi_database_storage.specs.Reading.{IsDatabaseOf}
use Rattle.msi_database.specs.Transforming.{database_read}
use Rattle.msi_database.proofs.opening.ReadDatabaseLemmas.{Reads, read_census, read_database, read_is, read_kept, read_once, reads_by}
use Rattle.msi_database_storage.proofs.PassedLemmas.{memory_refused, no_value}
use Rattle.msi_database.proofs.database.Database.read.Goals as goal

pub are_sound-is_sound-requires-clause-long : goal.are_sound-is_sound-requires-clause-long
are_sound-is_sound-requires-clause-long c = let raw : Pool = c.args.pool in let streams = entries c.args.streams in let listed : List TableDef = c.as_slice-listed.result.now in let rows : List (List ValueRef) = c.in_ok-standard.field-0.validation.items in
    let reads : Reads raw listed streams rows = reads_by raw c.args.streams c.in_ok-standard.field-0.tables listed rows c.look_at.ensures.names c.look_at.ensures.bytes c.in_ok-pool.ensures.few c.in_ok-pool.ensures.counts
    c.in_ok-standard.ensures.validation c.as_slice-listed.ensures c.in_ok-standard.ensures.long c.in_ok-standard.ensures.ok in
    let shown : c.in_ok-pool.pool ≡ pool_shown (numbers_named streams raw.long listed rows) raw =
    c.in_ok-pool.ensures.ok (numbers_of_tables (map (table_kept streams raw.long) listed))
    (subst (λ many. IsCensus many (numbers_of_tables (map (table_kept streams raw.long) listed)) c.in_ok-census.census) c.num_strings.ensures.many (c.in_ok-census.ensures.ok raw.long reads.as_long))
    ∙ ap (λ (rows : List (List ValueRef)). pool_shown (numbers_named streams raw.long listed rows) raw) c.as_slice.ensures.value in
    subst (λ long. AreAsLong long listed) (sym (ap (λ (p : Pool). p.long) shown)) reads.as_long

pub with_named_texts-requires : goal.with_named_texts-requires
with_named_texts-requires c = (c.in_ok-census.ensures.ok c.args.pool.long (subst (AreAsLong c.args.pool.long) (sym c.as_slice-listed.ensures) c.in_ok-standard.ensures.long)).many_counts ∙ c.num_strings.ensures.many

pub are_sound-is_sound-requires-clause-census : goal.are_sound-is_sound-requires-clause-census
are_sound-is_sound-requires-clause-census c = let raw : Pool = c.args.pool in let streams = entries c.args.streams in let listed : List TableDef = c.as_slice-listed.result.now in let rows : List (List ValueRef) = c.in_ok-standard.field-0.validation.items in
    let reads : Reads raw listed streams rows = reads_by raw c.args.streams c.in_ok-standard.field-0.tables listed rows c.look_at.ensures.names c.look_at.ensures.bytes c.in_ok-pool.ensures.few c.in_ok-pool.ensures.counts
    c.in_ok-standard.ensures.validation c.as_slice-listed.ensures c.in_ok-standard.ensures.long c.in_ok-standard.ensures.ok in
    let shown : c.in_ok-pool.pool ≡ pool_shown (numbers_named streams raw.long listed rows) raw =
    c.in_ok-pool.ensures.ok (numbers_of_tables (map (table_kept streams raw.long) listed))
    (subst (λ many. IsCensus many (numbers_of_tables (map (table_kept streams raw.long) listed)) c.in_ok-census.census) c.num_strings.ensures.many (c.in_ok-census.ensures.ok raw.long reads.as_long))
    ∙ ap (λ (rows : List (List ValueRef)). pool_shown (numbers_named streams raw.long listed rows) raw) c.as_slice.ensures.value in
    let beside : c.as_slice-2.result.now ≡ (if is_some (table_kept_at validation_name listed) then [] else rows) = c.as_slice-2.ensures.value ∙ c.unlisted_rows-unlisted.ensures in
    read_census raw listed streams rows reads c.in_ok-pool.pool shown c.num_strings.result c.as_slice-2.result.now c.count_rows.new.self c.num_strings.ensures.many beside
    (c.count_rows.ensures c.num_strings.result (numbers_of_tables (map (table_kept streams raw.long) listed)) (c.in_ok-census.ensures.ok raw.long reads.as_long))

pub invariant_of-result : goal.invariant_of-result
invariant_of-result c = let raw : Pool = c.args.pool in let streams = entries c.args.streams in let listed : List TableDef = c.as_slice-listed.result.now in let rows : List (List ValueRef) = c.in_ok-standard.field-0.validation.items in
    let reads : Reads raw listed streams rows = reads_by raw c.args.streams c.in_ok-standard.field-0.tables listed rows c.look_at.ensures.names c.look_at.ensures.bytes c.in_ok-pool.ensures.few c.in_ok-pool.ensures.counts
    c.in_ok-standard.ensures.validation c.as_slice-listed.ensures c.in_ok-standard.ensures.long c.in_ok-standard.ensures.ok in
    let shown : c.in_ok-pool.pool ≡ pool_shown (numbers_named streams raw.long listed rows) raw =
    c.in_ok-pool.ensures.ok (numbers_of_tables (map (table_kept streams raw.long) listed))
    (subst (λ many. IsCensus many (numbers_of_tables (map (table_kept streams raw.long) listed)) c.in_ok-census.census) c.num_strings.ensures.many (c.in_ok-census.ensures.ok raw.long reads.as_long))
    ∙ ap (λ (rows : List (List ValueRef)). pool_shown (numbers_named streams raw.long listed rows) raw) c.as_slice.ensures.value in
    subst (λ (ts : List TableDef). AreKept c.in_ok-pool.pool ts streams c.are_sound-is_sound.result) c.as_slice-listed.ensures
    (read_kept raw listed streams rows reads c.in_ok-pool.pool shown c.are_sound-is_sound.result c.are_sound-is_sound.ensures)

pub returns-clause-ok : goal.returns-clause-ok
returns-clause-ok c = let raw : Pool = c.args.pool in let streams = entries c.args.streams in let listed : List TableDef = c.as_slice-listed.result.now in let rows : List (List ValueRef) = c.in_ok-standard.field-0.validation.items in
    let reads : Reads raw listed streams rows = reads_by raw c.args.streams c.in_ok-standard.field-0.tables listed rows c.look_at.ensures.names c.look_at.ensures.bytes c.in_ok-pool.ensures.few c.in_ok-pool.ensures.counts
    c.in_ok-standard.ensures.validation c.as_slice-listed.ensures c.in_ok-standard.ensures.long c.in_ok-standard.ensures.ok in
    let shown : c.in_ok-pool.pool ≡ pool_shown (numbers_named streams raw.long listed rows) raw =
    c.in_ok-pool.ensures.ok (numbers_of_tables (map (table_kept streams raw.long) listed))
    (subst (λ many. IsCensus many (numbers_of_tables (map (table_kept streams raw.long) listed)) c.in_ok-census.census) c.num_strings.ensures.many (c.in_ok-census.ensures.ok raw.long reads.as_long))
    ∙ ap (λ (rows : List (List ValueRef)). pool_shown (numbers_named streams raw.long listed rows) raw) c.as_slice.ensures.value in
    subst (λ (ts : List TableDef). IsDatabaseOf raw streams (kept_of c.in_ok-pool.pool ts streams)) c.as_slice-listed.ensures
    (read_database raw listed streams rows reads c.in_ok-pool.pool shown)

pub returns-clause-read : goal.returns-clause-read
returns-clause-read c = let raw : Pool = c.args.pool in let streams = entries c.args.streams in let listed : List TableDef = c.as_slice-listed.result.now in let rows : List (List ValueRef) = c.in_ok-standard.field-0.validation.items in
    let reads : Reads raw listed streams rows = reads_by raw c.args.streams c.in_ok-standard.field-0.tables listed rows c.look_at.ensures.names c.look_at.ensures.bytes c.in_ok-pool.ensures.few c.in_ok-pool.ensures.counts
    c.in_ok-standard.ensures.validation c.as_slice-listed.ensures c.in_ok-standard.ensures.long c.in_ok-standard.ensures.ok in
    let shown : c.in_ok-pool.pool ≡ pool_shown (numbers_named streams raw.long listed rows) raw =
    c.in_ok-pool.ensures.ok (numbers_of_tables (map (table_kept streams raw.long) listed))
    (subst (λ many. IsCensus many (numbers_of_tables (map (table_kept streams raw.long) listed)) c.in_ok-census.census) c.num_strings.ensures.many (c.in_ok-census.ensures.ok raw.long reads.as_long))
    ∙ ap (λ (rows : List (List ValueRef)). pool_shown (numbers_named streams raw.long listed rows) raw) c.as_slice.ensures.value in
    subst (λ (ts : List TableDef). database_read raw streams ≡ Some (kept_of c.in_ok-pool.pool ts streams)) c.as_slice-listed.ensures
    (read_is raw listed streams rows reads c.in_ok-pool.pool shown)

pub returns-clause-only : goal.returns-clause-only
returns-clause-only c = let raw : Pool = c.args.pool in let streams = entries c.args.streams in let listed : List TableDef = c.as_slice-listed.result.now in let rows : List (List ValueRef) = c.in_ok-standard.field-0.validation.items in
    let reads : Reads raw listed streams rows = reads_by raw c.args.streams c.in_ok-standard.field-0.tables listed rows c.look_at.ensures.names c.look_at.ensures.bytes c.in_ok-pool.ensures.few c.in_ok-pool.ensures.counts
    c.in_ok-standard.ensures.validation c.as_slice-listed.ensures c.in_ok-standard.ensures.long c.in_ok-standard.ensures.ok in
    let shown : c.in_ok-pool.pool ≡ pool_shown (numbers_named streams raw.long listed rows) raw =
    c.in_ok-pool.ensures.ok (numbers_of_tables (map (table_kept streams raw.long) listed))
    (subst (λ many. IsCensus many (numbers_of_tables (map (table_kept streams raw.long) listed)) c.in_ok-census.census) c.num_strings.ensures.many (c.in_ok-census.ensures.ok raw.long reads.as_long))
    ∙ ap (λ (rows : List (List ValueRef)). pool_shown (numbers_named streams raw.long listed rows) raw) c.as_slice.ensures.value in
    λ k is. read_once raw listed streams rows reads k is c.in_ok-pool.pool shown ∙ ap (λ (ts : List TableDef). kept_of c.in_ok-pool.pool ts streams) c.as_slice-listed.ensures

pub returns-in_err-standard-clause-ok : goal.returns-in_err-standard-clause-ok
returns-in_err-standard-clause-ok c = no_value _ c.from_residual.result c.in_err-standard.field-0.0 c.from_residual.ensures.1

pub returns-in_err-standard-clause-only : goal.returns-in_err-standard-clause-only
returns-in_err-standard-clause-only c = no_value _ c.from_residual.result c.in_err-standard.field-0.0 c.from_residual.ensures.1

pub returns-in_err-standard-clause-read : goal.returns-in_err-standard-clause-read
returns-in_err-standard-clause-read c = no_value _ c.from_residual.result c.in_err-standard.field-0.0 c.from_residual.ensures.1

pub returns-in_err-standard-clause-kind : goal.returns-in_err-standard-clause-kind
returns-in_err-standard-clause-kind c = err_passed c.from_residual.result c.in_err-standard.field-0.0 _ c.from_residual.ensures.1 c.in_err-standard.ensures.kind

pub returns-in_err-census-clause-ok : goal.returns-in_err-census-clause-ok
returns-in_err-census-clause-ok c = no_value _ c.from_residual-in_err-census.result c.in_err-census.field-0.0 c.from_residual-in_err-census.ensures.1

pub returns-in_err-census-clause-only : goal.returns-in_err-census-clause-only
returns-in_err-census-clause-only c = no_value _ c.from_residual-in_err-census.result c.in_err-census.field-0.0 c.from_residual-in_err-census.ensures.1

pub returns-in_err-census-clause-read : goal.returns-in_err-census-clause-read
returns-in_err-census-clause-read c = no_value _ c.from_residual-in_err-census.result c.in_err-census.field-0.0 c.from_residual-in_err-census.ensures.1

pub returns-in_err-census-clause-kind : goal.returns-in_err-census-clause-kind
returns-in_err-census-clause-kind c = memory_refused c.from_residual-in_err-census.result c.in_err-census.field-0.0 _ c.from_residual-in_err-census.ensures.1 c.in_err-census.ensures.kind

pub returns-in_err-pool-clause-ok : goal.returns-in_err-pool-clause-ok
returns-in_err-pool-clause-ok c = no_value _ c.from_residual-in_err-pool.result c.in_err-pool.field-0.0 c.from_residual-in_err-pool.ensures.1

pub returns-in_err-pool-clause-only : goal.returns-in_err-pool-clause-only
returns-in_err-pool-clause-only c = no_value _ c.from_residual-in_err-pool.result c.in_err-pool.field-0.0 c.from_residual-in_err-pool.ensures.1

pub returns-in_err-pool-clause-read : goal.returns-in_err-pool-clause-read
returns-in_err-pool-clause-read c = no_value _ c.from_residual-in_err-pool.result c.in_err-pool.field-0.0 c.from_residual-in_err-pool.ensures.1

pub returns-in_err-pool-clause-kind : goal.returns-in_err-pool-clause-kind
returns-in_err-pool-clause-kind c = memory_refused c.from_residual-in_err-pool.result c.in_err-pool.field-0.0 _ c.from_residual-in_err-pool.ensures.1 c.in_err-pool.ensures.kind

pub returns-clause-kind : goal.returns-clause-kind
returns-clause-kind c = tt
