use Rattle.std.proofs.Common.{arith, subst, sym}
use Rattle.msi_transform_pair.specs.Pair.{StopsBy, pair_of, table_reasons}
use Rattle.std.specs.List.{flat_map}
use Rattle.msi_transform_pair.specs.Names.{names_in}
use Rattle.msi_transform_pair.proofs.FitnessLemmas.{fault_found, tables_pass, tables_stop}
use Rattle.msi_transform_pair.proofs.fitness.check_tables.Goals as goal

pub returns-in-Err-clause-kind : goal.returns-in-Err-clause-kind
returns-in-Err-clause-kind c =
    let rules = table_reasons (pair_of c.args.old.now c.args.new.now) in
    subst (StopsBy (flat_map rules (names_in c.args.names.now))) (sym c.refusal_at.ensures.kind)
    (tables_stop rules c.args.names.now c.loop-i.i _ (omega arith) c.loop-i.invariant.same _ c.in-Err.ensures.kind)

pub returns-in-Err-clause-table : goal.returns-in-Err-clause-table
returns-in-Err-clause-table c =
    fault_found (table_reasons (pair_of c.args.old.now c.args.new.now)) c.args.names.now c.loop-i.i _ c.refusal_at.result.kind c.in-Err.error c.refusal_at.result.table
    (omega arith) c.refusal_at.ensures.kind c.refusal_at.ensures.table c.in-Err.ensures.kind

pub loop-i-preserved : goal.loop-i-preserved
loop-i-preserved c = record {
  same = tables_pass (table_reasons (pair_of c.args.old.now c.args.new.now)) c.args.names.now c.loop-i.i _ (omega arith) c.loop-i.invariant.same c.in_default.ensures.ok;
}
