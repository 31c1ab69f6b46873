use Rattle.std.proofs.Common.{◌∙◌, ap, sym}
use Rattle.msi_base.specs.Lists.{has_pair}
use Rattle.msi_table_cells.specs.KeyOrder.{same_key}
use Rattle.msi_transform_pair.proofs.StreamNamesLemmas.{not_same, pairs_are}
use Rattle.msi_transform_pair.proofs.stream_names.has_text_twice.Goals as goal

pub returns-clause-ok : goal.returns-clause-ok
returns-clause-ok c =
    not_same c.is_none.result (has_pair same_key c.in_ok-keys.keys.items) (sym c.is_none.ensures ∙ c.in_ok-distinct_keys.ensures.distinct)
    ∙ ap (has_pair same_key) c.in_ok-keys.ensures.ok ∙ pairs_are c.args.texts.now
