use Rattle.std.proofs.Common.{◌≡◌, ◌≤◌, ◌<◌, ◌+◌, ◌∷◌, [], ◌∙◌, ℤ, ap, arith, length}
use Rattle.std.proofs.lemmas.Int.{ints}
use Rattle.msi_table_values.specs.declared.value.Value.TheVariants.{Int, Str}
use Rattle.msi_transform_schema.proofs.ColumnKeysLemmas.{keys_pushed}
use Rattle.msi_transform_schema.proofs.schema_change.SchemaChange.column_keys.Goals as goal

pub loop-i-preserved : goal.loop-i-preserved
loop-i-preserved c =
    let many : length c.columns_of.result.now ≤ 32767 = c.columns_of.ensures.few in
    let few : length c.added.result.now ≤ 32 = rw c.added.ensures.value c.added.ensures.few in
    let small : c.loop-i.i + 1 < 2147483648 = omega arith in
    keys_pushed c.args.name.now c.loop-i.i c.loop-i.keys.items c.push.new.self.items c.in_ok-describing_key.field-0 c.loop-i.invariant c.in_ok-push.ensures.items
    (c.in_ok-describing_key.ensures.ok ∙ ap (λ (n : ℤ). Str c.args.name.now ∷ Int n ∷ []) (omega (arith, ints)))
