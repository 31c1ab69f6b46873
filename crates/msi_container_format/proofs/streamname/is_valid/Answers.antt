use Rattle.std.proofs.Common.{chars, sym, ◌∙◌}
use Rattle.msi_container_format.proofs.AcceptedNamesLemmas.{fails, passes, refused_empty, refused_forbidden, refused_marked, accepted_by_units, answer_fits}
use Rattle.msi_container_format.proofs.streamname.is_valid.Goals as goal
use Rattle.msi_container_format.proofs.streamname.is_valid.Goals.{then-not-is_empty, else-not-is_empty, then-not-has_forbidden, else-not-has_forbidden}

pub returns-then-not-is_marked-clause-value : goal.returns-then-not-is_marked-clause-value
returns-then-not-is_marked-clause-value c =
    elim c.if-not-has_forbidden.branch [
      | then-not-has_forbidden w ↦ elim c.if-not-is_empty.branch [
        | then-not-is_empty u ↦
            c.is_some.ensures ∙ c.packed_units.ensures.few
            ∙ sym (accepted_by_units c.args.is_table c.args.name.now c.utf8.name (sym u.if-not-is_empty.ensures)
            (fails u.value-is w.if-not-has_forbidden.true u.has_forbidden.ensures) (fails w.value-is c.if-not-is_marked.true w.is_marked.ensures))
        | else-not-is_empty u ↦ cc
      ]
      | else-not-has_forbidden w ↦ cc
    ]

pub returns-else-not-is_marked-clause-value : goal.returns-else-not-is_marked-clause-value
returns-else-not-is_marked-clause-value c =
    elim c.if-not-has_forbidden.branch [
      | then-not-has_forbidden w ↦
          c.if-not-is_marked.false ∙ sym (refused_marked c.args.is_table c.args.name.now c.utf8.name (passes w.value-is c.if-not-is_marked.false w.is_marked.ensures))
      | else-not-has_forbidden w ↦ elim c.if-not-is_empty.branch [
        | then-not-is_empty u ↦
            c.if-not-is_marked.false ∙ sym (refused_forbidden c.args.is_table c.args.name.now c.utf8.name (passes u.value-is w.if-not-has_forbidden.false u.has_forbidden.ensures))
        | else-not-is_empty u ↦ c.if-not-is_marked.false ∙ sym (refused_empty c.args.is_table c.args.name.now c.utf8.name (sym u.if-not-is_empty.ensures))
      ]
    ]

pub returns-then-not-is_marked-clause-fits : goal.returns-then-not-is_marked-clause-fits
returns-then-not-is_marked-clause-fits c = answer_fits c.args.is_table (chars c.args.name.now) _ (returns-then-not-is_marked-clause-value c)

pub returns-else-not-is_marked-clause-fits : goal.returns-else-not-is_marked-clause-fits
returns-else-not-is_marked-clause-fits c = answer_fits c.args.is_table (chars c.args.name.now) _ (returns-else-not-is_marked-clause-value c)
