use Rattle.std.proofs.Common.{◌≡◌, ℕ, List, Option, Some, Result, IsOk, arith, rules, codes, nat_lt, refl, sym}
use Rattle.std.proofs.lemmas.Bool.{cond-true, lt-ltb}
use Rattle.std.specs.Fmt.{DisplaysOnOk, ◌++?◌}
use Rattle.std.specs.declared.fmt.Error.{Error}
use Rattle.std.specs.declared.fmt.Formatter.{Formatter}
use Rattle.std.proofs.Output.{displays_on_IsOk_append, displays_on_ok_of_eq, displays_on_ok_of_all}
use Rattle.msi_query_expressions.specs.Expressions.{Expression}
use Rattle.msi_query_expressions.specs.Printing.{bracketed, expression_text, level}
use Rattle.msi_query_expressions.specs.Trees.{expression_of}
use Rattle.msi_query_expressions.proofs.expr.printing.+writing.Goals as goal

-- three writes in turn, each of which succeeds
three_writes : {W : Type 0} (took : W → List ℕ → W → Type 0) (f g h k : Formatter W) (r s t : Result (Unit {0}) Error) (o p q whole : Option (List ℕ))
    → (o ++? p ++? q) ≡ whole → IsOk r → IsOk s → DisplaysOnOk took f r o g → DisplaysOnOk took g s p h → DisplaysOnOk took h t q k → DisplaysOnOk took f t whole k
three_writes took f g h k r s t o p q whole e a b x y z = displays_on_ok_of_eq took f k t _ _ e
    (displays_on_IsOk_append took f g k r t o (p ++? q) (λ _. a) x (displays_on_IsOk_append took g h k s t p q (λ _. b) y z))

-- what is written of an operand
abbrev operand_text : ℕ → Expression → Option (List ℕ)
operand_text needed e = bracketed needed (level e) (expression_text e)

pub write_operand-returns-in_err-write_str : goal.write_operand-returns-in_err-write_str
write_operand-returns-in_err-write_str g t c = displays_on_ok_of_all g.W.Write.write_str_gives _ _ _ _ (λ bs. search rules)

pub write_operand-returns-in_err-write_tree : goal.write_operand-returns-in_err-write_tree
write_operand-returns-in_err-write_tree g t c = displays_on_ok_of_all g.W.Write.write_str_gives _ _ _ _ (λ bs. search rules)

pub write_operand-returns-in_ok-write_tree : goal.write_operand-returns-in_ok-write_tree
write_operand-returns-in_ok-write_tree g t c =
    let e = expression_of c.args.operand.now in
    three_writes g.W.Write.write_str_gives c.args.f.now c.write_str.new.self c.write_tree.new.f c.write_str-then-level-needed.new.self
    c.write_str.result c.write_tree.result c.write_str-then-level-needed.result
    (Some (codes "(")) (expression_text e) (Some (codes ")")) (operand_text c.args.needed e)
    (sym (cond-true (nat_lt (level e) c.args.needed) _ _ (lt-ltb _ _ (omega (arith, c.level.ensures, c.if-level-needed.true)))))
    (rw c.in_ok-write_str.was refl) (rw c.in_ok-write_tree.was refl)
    c.write_str.ensures.writes c.write_tree.ensures c.write_str-then-level-needed.ensures.writes

pub write_tree-returns-in_ok-write_str-in-Unary : goal.write_tree-returns-in_ok-write_str-in-Unary
write_tree-returns-in_ok-write_str-in-Unary g t c =
    let took = g.W.Write.write_str_gives in
    let o : Option (List ℕ) = Some c.prefix_text.result.now in
    let p : Option (List ℕ) = operand_text 10 (expression_of c.deref.result.now) in
    displays_on_ok_of_eq took c.args.f.now c.write_operand.new.f c.write_operand.result (o ++? p) _ (rw (c.in-Unary.is, c.prefix_text.ensures, c.deref.ensures) refl)
    (displays_on_IsOk_append took c.args.f.now c.write_str.new.self c.write_operand.new.f c.write_str.result c.write_operand.result o p
    (λ _. rw c.in_ok-write_str-in-Unary.was refl) c.write_str.ensures.writes c.write_operand.ensures)

pub write_tree-returns-in_ok-write_str-in-Binary : goal.write_tree-returns-in_ok-write_str-in-Binary
write_tree-returns-in_ok-write_str-in-Binary g t c =
    three_writes g.W.Write.write_str_gives c.args.f.now c.write_operand-in-Binary.new.f c.write_str-in-Binary.new.self c.write_operand-in-Binary-2.new.f
    c.write_operand-in-Binary.result c.write_str-in-Binary.result c.write_operand-in-Binary-2.result
    (operand_text c.operator_level.result (expression_of c.deref-in-Binary.result.now)) (Some c.operator_text.result.now)
    (operand_text c.right_operand_level.result (expression_of c.deref-in-Binary-2.result.now)) _
    (rw (c.in-Binary.is, c.operator_level.ensures.level, c.right_operand_level.ensures, c.operator_text.ensures, c.deref-in-Binary.ensures, c.deref-in-Binary-2.ensures) refl)
    (rw c.in_ok-write_operand-in-Binary.was refl) (rw c.in_ok-write_str-in-Binary.was refl)
    c.write_operand-in-Binary.ensures c.write_str-in-Binary.ensures.writes c.write_operand-in-Binary-2.ensures

pub write_tree-returns-in_ok-write_str-in-And : goal.write_tree-returns-in_ok-write_str-in-And
write_tree-returns-in_ok-write_str-in-And g t c =
    three_writes g.W.Write.write_str_gives c.args.f.now c.write_operand-in-And.new.f c.write_str-in-And.new.self c.write_operand-in-And-2.new.f
    c.write_operand-in-And.result c.write_str-in-And.result c.write_operand-in-And-2.result
    (operand_text 2 (expression_of c.deref-in-And.result.now)) (Some (codes " AND ")) (operand_text 3 (expression_of c.deref-in-And-2.result.now)) _
    (rw (c.in-And.is, c.deref-in-And.ensures, c.deref-in-And-2.ensures) refl)
    (rw c.in_ok-write_operand-in-And.was refl) (rw c.in_ok-write_str-in-And.was refl)
    c.write_operand-in-And.ensures c.write_str-in-And.ensures.writes c.write_operand-in-And-2.ensures

pub write_tree-returns-in_ok-write_str-in-Or : goal.write_tree-returns-in_ok-write_str-in-Or
write_tree-returns-in_ok-write_str-in-Or g t c =
    three_writes g.W.Write.write_str_gives c.args.f.now c.write_operand-in-Or.new.f c.write_str-in-Or.new.self c.write_operand-in-Or-2.new.f
    c.write_operand-in-Or.result c.write_str-in-Or.result c.write_operand-in-Or-2.result
    (operand_text 1 (expression_of c.deref-in-Or.result.now)) (Some (codes " OR ")) (operand_text 2 (expression_of c.deref-in-Or-2.result.now)) _
    (rw (c.in-Or.is, c.deref-in-Or.ensures, c.deref-in-Or-2.ensures) refl)
    (rw c.in_ok-write_operand-in-Or.was refl) (rw c.in_ok-write_str-in-Or.was refl)
    c.write_operand-in-Or.ensures c.write_str-in-Or.ensures.writes c.write_operand-in-Or-2.ensures
