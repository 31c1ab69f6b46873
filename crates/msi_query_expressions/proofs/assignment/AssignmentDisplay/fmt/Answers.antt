use Rattle.std.proofs.Common.{ℕ, List, Option, Some, codes, refl, rules, sym}
use Rattle.std.specs.Fmt.{◌++?◌}
use Rattle.std.proofs.Output.{displays_on_IsOk_append, displays_on_ok_of_all, displays_on_ok_of_eq, then_text_assoc}
use Rattle.msi_table_values.specs.Values.{value_text}
use Rattle.msi_query_tokens.specs.Names.{name_text}
use Rattle.msi_query_expressions.proofs.assignment.AssignmentDisplay.fmt.Goals as goal

pub returns-in_err-write_name : goal.returns-in_err-write_name
returns-in_err-write_name g c = record { writes = displays_on_ok_of_all g.W.Write.write_str_gives _ _ _ _ (λ bs. search rules); styled = tt }

pub returns : goal.returns
returns g c =
    let name : List ℕ = name_text c.as_str.result.now in
    let rest : Option (List ℕ) = Some (codes " = ") ++? value_text c.self.inside.value in
    record {
      writes = displays_on_ok_of_eq g.W.Write.write_str_gives c.args.f.now c.write.new.self c.write.result (Some name ++? rest) _
          (rw (← c.self.view_is, c.as_str.ensures) (sym (then_text_assoc (Some (name_text c.self.inside.column)) (Some (codes " = ")) (value_text c.self.inside.value))))
          (displays_on_IsOk_append g.W.Write.write_str_gives c.args.f.now c.write_name.new.f c.write.new.self c.write_name.result c.write.result (Some name) rest
          (λ _. rw c.in_ok-write_name.was refl) c.write_name.ensures c.write.ensures.writes);
      styled = tt;
    }
