-- What a package ends as, once a borrow of its parts is over.
use Rattle.std.specs.Prelude.{ℕ, List, Result}
use Rattle.std.specs.Borrow.{Fml, LendsIfOk, MutBor, RattleType}
use Rattle.msi_base.specs.declared.errors.ErrorKind.{ErrorKind}
use Rattle.msi_container_device.specs.declared.source.Source.{Ghosts}
use Rattle.msi_database_schema.specs.Keys.{stream_key}
use Rattle.msi_summary.specs.Properties.{Properties}
use Rattle.msi_summary.specs.contracts.summary.SummaryInfo as summary
use Rattle.msi_database_storage.specs.Streams.{with_stream}
use Rattle.msi_streams.specs.Cursor.{Cursor}
use Rattle.msi_streams.specs.contracts.writer.OpenStream as stream
use Rattle.msi.specs.Steps.{with_lent_summary, with_streams, with_summary_calls}
use Rattle.msi.specs.Whole.{Whole, with_state}
use Rattle.msi.specs.contracts.package.Package as whole

-- it ends with the summary that was left, which is to be written; where it is refused it is as it was
abbrev pub LendsSummary : (F : RattleType) → Ghosts F.Denot → MutBor Whole → Result (MutBor Properties) ErrorKind → Fml
LendsSummary F g p r = LendsIfOk (whole.the_row F g) summary.the_row p r
    (λ (left : Properties). with_state (with_summary_calls left (with_lent_summary p.now.state)) p.now) p.now

-- it ends with what was left in the stream of this name
abbrev pub LendsStream : (F : RattleType) → Ghosts F.Denot → List ℕ
    → MutBor Whole → Result (MutBor Cursor) ErrorKind → Fml
LendsStream F g name p r = LendsIfOk (whole.the_row F g) stream.the_row p r
    (λ (left : Cursor). with_state (with_streams (with_stream (stream_key name) left.bytes) p.now.state) p.now) p.now
