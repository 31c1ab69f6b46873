use Rattle.std.proofs.Common.{◌++◌, ap, ◌∙◌, List}
use Rattle.msi_table.specs.Tables.{TableDef}
use Rattle.msi_database_storage.proofs.ListingLemmas.{copied_in_place}
use Rattle.msi_database_storage.proofs.listing.copies_with.Goals as goal

pub returns-clause-ok : goal.returns-clause-ok
returns-clause-ok c =
    copied_in_place c.args.new c.args.tables.now c.place_of.result c.name.result.now c.name.ensures c.place_of.ensures.value c.new-copies.result.items c.push_copies.new.copies.items c.push.new.self.items c.from_vec.result
    c.new-copies.ensures.items
    (c.in_ok-push_copies.ensures.ok ∙ ap (λ (ts : List TableDef). c.new-copies.result.items ++ ts) c.split_at.ensures.front)
    c.in_ok-push.ensures.items
    (c.from_vec.ensures ∙ c.in_ok-push_copies-2.ensures.ok ∙ ap (λ (ts : List TableDef). c.push.new.self.items ++ ts) c.split_at.ensures.back)
