use Rattle.std.proofs.Common.{◌<◌, length, sym, ◌∙◌, arith, refl}
use Rattle.std.proofs.lemmas.Bool.{eqb-true, eqb-false}
use Rattle.msi_container_write.specs.Index.{streams_of}
use Rattle.msi_container_write.specs.Layout.{mini_parts}
use Rattle.msi_container_write.proofs.sectors.TableLemmas.{mini_free, mini_chained}
use Rattle.msi_container_write.proofs.tables.mini_fat_entry.Goals as goal

pub returns-then-is_empty : goal.returns-then-is_empty
returns-then-is_empty c =
    mini_free (mini_parts (streams_of c.args.places.now)) c.args.n _ c.from_mini_sector-rest.result.now c.from_mini_sector-rest.ensures
    (eqb-true _ _ (sym c.is_empty.ensures ∙ c.if-is_empty.true)) refl

pub returns-else-is_empty : goal.returns-else-is_empty
returns-else-is_empty c =
    let some : 0 < length c.from_mini_sector-rest.result.now = omega (arith, eqb-false _ _ (sym c.is_empty.ensures ∙ c.if-is_empty.false)) in
    mini_chained (mini_parts (streams_of c.args.places.now)) c.args.n c.unit_entry.result c.from_mini_sector-rest.result.now c.from_mini_sector-rest.ensures some c.unit_entry.ensures
