use Rattle.std.proofs.Common.{◌∙◌, ap, sym}
use Rattle.std.specs.FinMap as finite
use Rattle.msi_container_format.proofs.NamesLemmas.{from_entries_updated, len-from_entries}
use Rattle.msi_container_tables.proofs.entry_names.MapNamesLemmas.{was_there, was_absent}
use Rattle.msi_container_view.proofs.located.Located.insert.Goals as goal

pub returns-clause-ok : goal.returns-clause-ok
returns-clause-ok c =
    from_entries_updated c.self.inside.map.entries _ c.args.name c.args.extents c.in_ok-insert.ensures.updates.0
    ∙ ap (λ m. finite.insert m c.args.name c.args.extents) c.self.view_is

pub returns-then-len-before-clause-invalid : goal.returns-then-len-before-clause-invalid
returns-then-len-before-clause-invalid c = λ _.
    let inserted = from_entries_updated c.self.inside.map.entries c.insert.new.self.entries c.args.name c.args.extents c.in_ok-insert.ensures.updates.0
    ∙ ap (λ m. finite.insert m c.args.name c.args.extents) c.self.view_is in
    let before = c.len-before.ensures.len ∙ sym (len-from_entries c.self.inside.map.entries c.len-before.ensures.ordered) ∙ ap finite.len c.self.view_is in
    let after = len-from_entries c.insert.new.self.entries c.len.ensures.ordered ∙ sym c.len.ensures.len in
    was_there c.args.self.now _ c.args.name c.args.extents _ inserted before (after ∙ c.if-len-before.true)

pub returns-clause-free : goal.returns-clause-free
returns-clause-free c =
    let inserted = from_entries_updated c.self.inside.map.entries c.insert.new.self.entries c.args.name c.args.extents c.in_ok-insert.ensures.updates.0
    ∙ ap (λ m. finite.insert m c.args.name c.args.extents) c.self.view_is in
    let before = c.len-before.ensures.len ∙ sym (len-from_entries c.self.inside.map.entries c.len-before.ensures.ordered) ∙ ap finite.len c.self.view_is in
    let after = len-from_entries c.insert.new.self.entries c.len.ensures.ordered ∙ sym c.len.ensures.len in
    was_absent c.args.self.now _ c.args.name c.args.extents _ inserted before (λ same. c.if-len-before.false (sym after ∙ same))
