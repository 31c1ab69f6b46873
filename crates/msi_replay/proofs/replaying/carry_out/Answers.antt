use Rattle.std.proofs.Common.{Ok, Bool, ap, map, refl}
use Rattle.msi.specs.Calls.{Answer}
use Rattle.msi.specs.Calls as calls
use Rattle.msi_replay.specs.Sent.{change_sent, look_up_sent, reader_call_sent, summary_call_sent, writer_call_sent}
use Rattle.msi_replay.specs.Told.{answer_told}
use Rattle.msi_replay.proofs.RunLemmas.{IsQuiet, call_fits, quiet_step, quiet_tells}
use Rattle.msi_replay.proofs.SentLemmas.{change_fits, change_quiet, look_up_fits, look_up_quiet}
use Rattle.msi_replay.proofs.replaying.carry_out.Goals as goal

pub returns-in-LookUp : goal.returns-in-LookUp
returns-in-LookUp c =
    let quiet : IsQuiet (look_up_sent c.in-LookUp.question) = look_up_quiet c.in-LookUp.question in
    rw c.in-LookUp.is (record {
      step = quiet_step answer_told c.args.target.now c.args.target.now (look_up_sent c.in-LookUp.question) quiet c.requires c.look_up.result c.look_up.ensures.ok;
      fits = call_fits (look_up_sent c.in-LookUp.question) (look_up_fits c.in-LookUp.question) c.look_up.result;
      tells = quiet_tells answer_told c.args.target.now c.args.target.now (look_up_sent c.in-LookUp.question) quiet c.requires c.look_up.result c.look_up.ensures.ok;
      kind = c.look_up.ensures.kind;
    })

pub returns-in-SelectRows : goal.returns-in-SelectRows
returns-in-SelectRows c =
    let quiet : IsQuiet (calls.select_rows c.in-SelectRows.query) = record { unflushed = refl; alone = refl } in
    rw c.in-SelectRows.is (record {
      step = quiet_step answer_told c.args.target.now c.args.target.now (calls.select_rows c.in-SelectRows.query) quiet c.requires c.select.result c.select.ensures.ok;
      fits = call_fits (calls.select_rows c.in-SelectRows.query) tt c.select.result;
      tells = quiet_tells answer_told c.args.target.now c.args.target.now (calls.select_rows c.in-SelectRows.query) quiet c.requires c.select.result c.select.ensures.ok;
      kind = c.select.ensures.kind;
    })

pub returns-in-Change : goal.returns-in-Change
returns-in-Change c =
    let quiet : IsQuiet (change_sent c.in-Change.step) = change_quiet c.in-Change.step in
    rw c.in-Change.is (record {
      step = quiet_step answer_told c.args.target.now c.change.new.target (change_sent c.in-Change.step) quiet c.requires (Ok c.change.result) c.change.ensures;
      fits = call_fits (change_sent c.in-Change.step) (change_fits c.in-Change.step) (Ok c.change.result);
      tells = quiet_tells answer_told c.args.target.now c.change.new.target (change_sent c.in-Change.step) quiet c.requires (Ok c.change.result) c.change.ensures;
      kind = tt;
    })

pub returns-in-Recount : goal.returns-in-Recount
returns-in-Recount c =
    let quiet : IsQuiet calls.recount = record { unflushed = refl; alone = refl } in
    rw c.in-Recount.is (record {
      step = quiet_step answer_told c.args.target.now c.recount.new.target calls.recount quiet c.requires (Ok c.recount.result) c.recount.ensures;
      fits = call_fits calls.recount tt (Ok c.recount.result);
      tells = quiet_tells answer_told c.args.target.now c.recount.new.target calls.recount quiet c.requires (Ok c.recount.result) c.recount.ensures;
      kind = tt;
    })

pub returns-in-SummaryInfo : goal.returns-in-SummaryInfo
returns-in-SummaryInfo c =
    let quiet : IsQuiet (calls.summary_info c.in-SummaryInfo.questions) = record { unflushed = refl; alone = refl } in
    rw c.in-SummaryInfo.is (record {
      step = quiet_step answer_told c.args.target.now c.args.target.now (calls.summary_info c.in-SummaryInfo.questions) quiet c.requires c.ask_summary.result c.ask_summary.ensures.ok;
      fits = call_fits (calls.summary_info c.in-SummaryInfo.questions) tt c.ask_summary.result;
      tells = quiet_tells answer_told c.args.target.now c.args.target.now (calls.summary_info c.in-SummaryInfo.questions) quiet c.requires c.ask_summary.result c.ask_summary.ensures.ok;
      kind = c.ask_summary.ensures.kind;
    })

pub returns-in-SummaryInfoMut : goal.returns-in-SummaryInfoMut
returns-in-SummaryInfoMut c =
    let quiet : IsQuiet (calls.summary_info_mut (map summary_call_sent c.in-SummaryInfoMut.steps)) = record { unflushed = refl; alone = refl } in
    rw c.in-SummaryInfoMut.is (record {
      step = quiet_step answer_told c.args.target.now c.change_summary.new.target (calls.summary_info_mut (map summary_call_sent c.in-SummaryInfoMut.steps)) quiet c.requires c.change_summary.result c.change_summary.ensures.ok;
      fits = c.change_summary.ensures.fits;
      tells = quiet_tells answer_told c.args.target.now c.change_summary.new.target (calls.summary_info_mut (map summary_call_sent c.in-SummaryInfoMut.steps)) quiet c.requires c.change_summary.result c.change_summary.ensures.ok;
      kind = c.change_summary.ensures.kind;
    })

pub returns-in-WriteStream : goal.returns-in-WriteStream
returns-in-WriteStream c =
    let quiet : IsQuiet (calls.write_stream c.in-WriteStream.name (map writer_call_sent c.in-WriteStream.steps)) = record { unflushed = refl; alone = refl } in
    rw c.in-WriteStream.is (record {
      step = quiet_step answer_told c.args.target.now c.write_stream.new.target (calls.write_stream c.in-WriteStream.name (map writer_call_sent c.in-WriteStream.steps)) quiet c.requires c.write_stream.result c.write_stream.ensures.ok;
      fits = c.write_stream.ensures.fits;
      tells = quiet_tells answer_told c.args.target.now c.write_stream.new.target (calls.write_stream c.in-WriteStream.name (map writer_call_sent c.in-WriteStream.steps)) quiet c.requires c.write_stream.result c.write_stream.ensures.ok;
      kind = c.write_stream.ensures.kind;
    })

pub returns-in-ReadStream : goal.returns-in-ReadStream
returns-in-ReadStream c =
    let quiet : IsQuiet (calls.read_stream c.in-ReadStream.name (map reader_call_sent c.in-ReadStream.steps)) = record { unflushed = refl; alone = refl } in
    rw c.in-ReadStream.is (record {
      step = quiet_step answer_told c.args.target.now c.args.target.now (calls.read_stream c.in-ReadStream.name (map reader_call_sent c.in-ReadStream.steps)) quiet c.requires c.read_stream.result c.read_stream.ensures.ok;
      fits = call_fits (calls.read_stream c.in-ReadStream.name (map reader_call_sent c.in-ReadStream.steps)) tt c.read_stream.result;
      tells = quiet_tells answer_told c.args.target.now c.args.target.now (calls.read_stream c.in-ReadStream.name (map reader_call_sent c.in-ReadStream.steps)) quiet c.requires c.read_stream.result c.read_stream.ensures.ok;
      kind = c.read_stream.ensures.kind;
    })

pub returns-in-Image : goal.returns-in-Image
returns-in-Image c =
    let quiet : IsQuiet (calls.image c.in-Image.earlier_len) = record { unflushed = refl; alone = refl } in
    rw c.in-Image.is (record {
      step = quiet_step answer_told c.args.target.now c.args.target.now (calls.image c.in-Image.earlier_len) quiet c.requires (Ok c.image.result) c.image.ensures;
      fits = call_fits (calls.image c.in-Image.earlier_len) tt (Ok c.image.result);
      tells = quiet_tells answer_told c.args.target.now c.args.target.now (calls.image c.in-Image.earlier_len) quiet c.requires (Ok c.image.result) c.image.ensures;
      kind = tt;
    })

pub returns-in-Flush : goal.returns-in-Flush
returns-in-Flush c = rw c.in-Flush.is (record { step = c.flush.ensures.step; fits = tt; tells = c.flush.ensures.tells; kind = tt })

pub returns-in-DeviceFailed : goal.returns-in-DeviceFailed
returns-in-DeviceFailed c = rw c.in-DeviceFailed.is (record {
  step = (ap (λ (b : Bool). Ok (calls.flag_is b)) c.device_failed.ensures, refl);
  fits = tt;
  tells = c.requires;
  kind = tt;
})
