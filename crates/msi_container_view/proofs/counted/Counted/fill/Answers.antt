use Rattle.std.proofs.Common.{rules, ◌≡◌, ◌-◌, ◌≤◌, ◌<◌, arith, drop, get_or, length-drop, ℕ, length}
use Rattle.msi_container_view.proofs.FillLemmas.{padded_held}
use Rattle.msi_container_view.proofs.counted.Counted.fill.Goals as goal

pub returns-clause-ok : goal.returns-clause-ok
returns-clause-ok g c =
    let n = c.in_ok-filled.filled in
    let buf = c.read_ahead.new.buf in
    let rest = drop (length buf - n) (drop n buf) in
    let within : n ≤ length buf = search rules in
    let whole : length c.args.buf.now ≡ length buf = search rules in
    let long : length c.fill.new.self ≡ length c.args.buf.now - n = search rules in
    let none : length rest ≡ 0 = omega (arith, length-drop (length buf - n) (drop n buf), length-drop n buf) in
    let null : (i : ℕ) → i < length c.fill.new.self → get_or c.fill.new.self i 0 ≡ 0 = search rules in
    padded_held c.args.self.now.held n buf c.fill.new.self rest (length c.args.buf.now) within whole long none null (search rules) (search rules)
