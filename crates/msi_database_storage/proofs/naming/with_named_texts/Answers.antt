use Rattle.std.proofs.Common.{◌∙◌, ◌++◌, [], ap, sym, subst, length}
use Rattle.std.specs.Prelude.{◌==◌}
use Rattle.std.specs.List.{list_any}
use Rattle.msi_pool.specs.Pool.{PlacesWritten}
use Rattle.msi_pool.proofs.ForgottenLemmas.{none_lost}
use Rattle.msi_table.specs.Census.{IsCensus, numbers_of_rows}
use Rattle.msi_database_storage.proofs.NamingLemmas.{marks_many, shown_by}
use Rattle.msi_database_storage.proofs.naming.with_named_texts.Goals as goal

pub returns-then-free_places_are_empty-clause-ok : goal.returns-then-free_places_are_empty-clause-ok
returns-then-free_places_are_empty-clause-ok c =
    let written : PlacesWritten c.args.pool.places = c.free_places_are_empty.ensures.exact.0 c.if-free_places_are_empty.true in
    λ numbers is. sym (λ i. record c.args.pool { places = none_lost (λ number. list_any (λ n. n == number) (numbers ++ numbers_of_rows c.args.rows.now)) 1 c.args.pool.places written i })

pub named_places-requires : goal.named_places-requires
named_places-requires c =
    let beside : IsCensus (length c.args.pool.places) (numbers_of_rows c.args.rows.now) c.count_rows.new.self =
    subst (λ many. IsCensus many (numbers_of_rows c.args.rows.now) c.count_rows.new.self) c.num_strings.ensures.many (c.count_rows.ensures c.num_strings.result [] c.in_ok-beside.ensures.ok) in
    c.requires ∙ sym beside.many_counts

pub forget_texts-requires : goal.forget_texts-requires
forget_texts-requires c = marks_many (length c.args.pool.places) c.args.census.now c.count_rows.new.self c.as_slice.result.now c.requires (c.as_slice.ensures.value ∙ c.in_ok-named.ensures.ok)

pub returns-clause-ok : goal.returns-clause-ok
returns-clause-ok c = λ numbers is.
    let beside : IsCensus (length c.args.pool.places) (numbers_of_rows c.args.rows.now) c.count_rows.new.self =
    subst (λ many. IsCensus many (numbers_of_rows c.args.rows.now) c.count_rows.new.self) c.num_strings.ensures.many (c.count_rows.ensures c.num_strings.result [] c.in_ok-beside.ensures.ok) in
    shown_by c.args.pool c.forget_texts.new.pool numbers (numbers_of_rows c.args.rows.now) c.args.census.now c.count_rows.new.self c.as_slice.result.now is beside
    (c.as_slice.ensures.value ∙ c.in_ok-named.ensures.ok) (c.forget_texts.ensures)
