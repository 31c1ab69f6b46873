use Rattle.std.proofs.Common.{sym, subst}
use Rattle.std.specs.Prelude.{IfErr}
use Rattle.std.proofs.lemmas.Result.{IfErr-weaker}
use Rattle.msi_base.specs.Refusals.{IsRefusal}
use Rattle.msi_transform_rows.specs.RowChanges.{TableChange}
use Rattle.msi_transform_rows.specs.RowStreams.{row_stream_stored}
use Rattle.msi_transform_rows.proofs.table_change.TableChange.stored_stream.Goals as goal

pub returns-clause-kind : goal.returns-clause-kind
returns-clause-kind c =
    subst (λ (change : TableChange). IfErr c.stored_row_stream.result (IsRefusal (row_stream_stored change.by change.name c.args.key.now c.args.stream)))
    c.self.view_is
    (IfErr-weaker c.stored_row_stream.result _ _ (λ kind h. h c.self.inside.transform.now (sym c.streams.ensures)) c.stored_row_stream.ensures.kind)
