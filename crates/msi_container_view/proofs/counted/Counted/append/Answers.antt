use Rattle.std.proofs.Common.{rules, ◌≡◌, ◌+◌, ◌-◌, arith, take, drop, take_all, length-drop, ◌++◌, length, option_map}
use Rattle.std.specs.Prelude.{replicate}
use Rattle.std.proofs.lemmas.List.{take_at}
use Rattle.msi_container_device.specs.Held.{at_place}
use Rattle.msi_container_view.proofs.FillLemmas.{appended_held, written_last}
use Rattle.msi_container_view.proofs.counted.Counted.append.Goals as goal

pub returns-clause-ok : goal.returns-clause-ok
returns-clause-ok g c =
    let start = c.len-start.result in
    let d = c.deref_mut.result.now in
    let old = c.args.into.now.items in
    let post = drop (length d - start) (drop start d) in
    let long : length c.fill.new.buf ≡ c.args.count = search rules in
    let first : length old ≡ start = search rules in
    let items : d ≡ take (start + c.args.count) old ++ replicate (start + c.args.count - length old) 0 = search rules in
    let front : take start d ≡ old = rw (items, take_all (start + c.args.count) old (omega arith)) (take_at old _ start first) in
    let sought : g.S.Source.held c.seek_to.new.self ≡ option_map (at_place c.args.place) c.args.self.now.held = search rules in
    let none : length post ≡ 0 = omega (arith, length-drop (length d - start) (drop start d), length-drop start d) in
    let all : c.resize.new.self.len ≡ start + length c.fill.new.buf = search rules in
    appended_held c.fill.result c.args.self.now.held _ c.args.place c.args.count _ old _ c.fill.new.buf sought c.fill.ensures.ok (search rules)
    (written_last d old c.fill.new.buf post _ start c.resize.new.self.len front first none all) long
