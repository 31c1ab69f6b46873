use Rattle.std.proofs.Common.{◌∙◌, ap, refl}
use Rattle.std.specs.Prelude.{Err, Result}
use Rattle.msi_base.specs.declared.errors.ErrorKind.{ErrorKind}
use Rattle.msi.proofs.named_streams.StreamRefusalLemmas.{key_accepted, key_is, removal_missing, removal_passes}
use Rattle.msi.proofs.named_streams.StreamWriteLemmas.{stream_is_other}
use Rattle.std.proofs.lemmas.Result.{err_from_is_err_and}
use Rattle.msi.proofs.package.Package.remove_stream.Goals as goal

pub returns-then-not-contains-clause-kind : goal.returns-then-not-contains-clause-kind
returns-then-not-contains-clause-kind g c =
    let error : ErrorKind → Result (Unit {0}) ErrorKind = λ kind. Err kind in
    ap error c.new.ensures
    ∙ removal_missing c.args.self.now.state c.args.name.now c.in_ok-key.key c.in_ok-key.ensures c.in_ok-check_storages.ensures _ c.if-not-contains.ensures refl

pub remove_stream-requires : goal.remove_stream-requires
remove_stream-requires g c =
    let s = c.args.self.now.state in
    stream_is_other c.settle.new.database.database c.args.name.now c.in_ok-key.key
    (key_accepted s c.args.name.now c.in_ok-key.key c.in_ok-key.ensures) (key_is s c.args.name.now c.in_ok-key.key c.in_ok-key.ensures)

pub returns-clause-kind : goal.returns-clause-kind
returns-clause-kind g c =
    removal_passes c.args.self.now.state c.args.name.now c.in_ok-key.key c.in_ok-key.ensures c.in_ok-check_storages.ensures _ c.if-not-contains.ensures refl

pub returns-in_err-check_storages-clause-ok : goal.returns-in_err-check_storages-clause-ok
returns-in_err-check_storages-clause-ok g c = let p = err_from_is_err_and c.from_residual.result c.from_residual.ensures.1 in rw p.1 tt

pub returns-in_err-key-clause-ok : goal.returns-in_err-key-clause-ok
returns-in_err-key-clause-ok g c = let p = err_from_is_err_and c.from_residual-in_err-key.result c.from_residual-in_err-key.ensures.1 in rw p.1 tt
