use Rattle.std.proofs.Common.{not, true, ap, sym, ◌∙◌, map, string_bytes}
use Rattle.std.specs.Char.{to_ascii_lowercase}
use Rattle.msipkg_safe_names.proofs.TakenLemmas.{taken_is, takes_again, takes_more}
use Rattle.msipkg_safe_names.proofs.safe_names.SafeNames.take.Goals as goal

pub returns-then-contains-clause-fresh : goal.returns-then-contains-clause-fresh
returns-then-contains-clause-fresh c =
    let small = c.as_str.ensures.value ∙ (c.make_ascii_lowercase.ensures.bytes ∙ ap (map to_ascii_lowercase) c.in_ok-small.ensures.ok) in
    let same = taken_is c.self.inside.taken c.args.self.now c.args.name.now c.as_str.result.now (sym c.self.view_is) small in
    sym (ap not (sym same ∙ (sym c.contains.ensures ∙ c.if-contains.true)))

pub returns-then-contains-clause-taken : goal.returns-then-contains-clause-taken
returns-then-contains-clause-taken c =
    let small = c.as_str.ensures.value ∙ (c.make_ascii_lowercase.ensures.bytes ∙ ap (map to_ascii_lowercase) c.in_ok-small.ensures.ok) in
    let same = taken_is c.self.inside.taken c.args.self.now c.args.name.now c.as_str.result.now (sym c.self.view_is) small in
    takes_again c.args.self.now c.args.name.now (sym same ∙ (sym c.contains.ensures ∙ c.if-contains.true))

pub returns-clause-fresh : goal.returns-clause-fresh
returns-clause-fresh c =
    let small = c.as_str.ensures.value ∙ (c.make_ascii_lowercase.ensures.bytes ∙ ap (map to_ascii_lowercase) c.in_ok-small.ensures.ok) in
    let same = taken_is c.self.inside.taken c.args.self.now c.args.name.now c.as_str.result.now (sym c.self.view_is) small in
    sym (ap not (sym same ∙ (sym c.contains.ensures ∙ c.if-contains.false)))

pub returns-clause-taken : goal.returns-clause-taken
returns-clause-taken c =
    let small = c.make_ascii_lowercase.ensures.bytes ∙ ap (map to_ascii_lowercase) c.in_ok-small.ensures.ok in
    takes_more c.self.inside.taken c.insert.new.self c.args.self.now c.args.name.now (string_bytes c.make_ascii_lowercase.new.self) (sym c.self.view_is) small c.in_ok-insert.ensures.updates
