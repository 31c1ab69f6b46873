use Rattle.std.proofs.Common.{ℕ, List, [], ◌∷◌}
use Rattle.msi_container_view.specs.Views.{View}
use Rattle.msi_database_schema.specs.Keys.{table_key as key_of}
use Rattle.msi_database_schema.specs.System.{columns_name, tables_name, validation_name}
use Rattle.msi_view.proofs.loading_lemmas.CountedLemmas.{reads_both, reads_fewer}
use Rattle.msi_view.proofs.loading.load_schema.Goals as goal

pub returns-in_err-load_table-2-clause-reads : goal.returns-in_err-load_table-2-clause-reads
returns-in_err-load_table-2-clause-reads g c =
    let old : View = c.args.container.now in
    let new : View = c.load_table-2.new.container in
    let first : List ℕ = key_of validation_name in
    let second : List ℕ = key_of tables_name in
    reads_fewer old new (first ∷ second ∷ []) (key_of columns_name ∷ [])
    (reads_both old c.load_table.new.container new (first ∷ []) (second ∷ []) c.load_table.ensures.reads c.load_table-2.ensures.reads)

pub returns-clause-reads : goal.returns-clause-reads
returns-clause-reads g c =
    let old : View = c.args.container.now in
    let mid : View = c.load_table.new.container in
    let new : View = c.load_table-3.new.container in
    let first : List ℕ = key_of validation_name in
    let others : List (List ℕ) = key_of tables_name ∷ key_of columns_name ∷ [] in
    reads_both old mid new (first ∷ []) others c.load_table.ensures.reads
    (reads_both mid c.load_table-2.new.container new (key_of tables_name ∷ []) (key_of columns_name ∷ []) c.load_table-2.ensures.reads c.load_table-3.ensures.reads)
