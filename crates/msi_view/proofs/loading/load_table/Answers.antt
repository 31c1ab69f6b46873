use Rattle.std.proofs.Common.{◌∙◌, sym}
use Rattle.std.specs.FinMap.{entries}
use Rattle.msi_container_view.specs.Views.{contents_in}
use Rattle.msi_database_schema.specs.Keys.{table_key as key_of}
use Rattle.msi_view.specs.Looking.{root_in}
use Rattle.msi_view.proofs.loading_lemmas.HeldNamesLemmas.{none_held}
use Rattle.msi_view.proofs.loading_lemmas.LoadedLemmas.{loaded_nothing}
use Rattle.msi_view.proofs.loading.load_table.Goals as goal

pub returns-in-None-clause-loaded : goal.returns-in-None-clause-loaded
returns-in-None-clause-loaded g c = λ file told are.
    loaded_nothing (root_in file c.args.container.now) (entries c.args.streams.now) (key_of c.args.table.now)
    (none_held file (contents_in file c.args.container.now) (key_of c.args.table.now) (c.kept.ensures file told) (sym c.in-None.is ∙ c.table_key.ensures.value)) are
