use Rattle.std.proofs.Common.{◌≡◌, ◌⊎◌, IfErr, Ok, rules, subst}
use Rattle.msi.specs.Container.Container.{Holds}
use Rattle.msi.specs.Container.Contents.{Contents}
use Rattle.msi.specs.Text.ErrorKind.TheVariants.{InvalidInput, OutOfMemory}
use Rattle.msi_transform.specs.TransformFiles.{ReadsTo}
use Rattle.msi_transform.specs.Transforms.{TransformDef}
use Rattle.msi_transform.specs.WrittenTransforms.{AreWritten, HasNoFile}
use Rattle.msipkg_transforms.proofs.transform_bytes.TransformBytes.of.Goals as goal

pub returns-in_err-bytes-clause-kind : goal.returns-in_err-bytes-clause-kind
returns-in_err-bytes-clause-kind c =
    let kind : IfErr c.from_residual-in_err-bytes.result (λ kind. (kind ≡ OutOfMemory) ⊎ (kind ≡ InvalidInput) × HasNoFile c.in_ok-with_summary_set.field-0) = search rules in
    subst (λ (t : TransformDef). IfErr c.from_residual-in_err-bytes.result (λ kind. (kind ≡ OutOfMemory) ⊎ (kind ≡ InvalidInput) × HasNoFile t))
    c.in_ok-with_summary_set.ensures.ok kind

pub returns-clause-ok : goal.returns-clause-ok
returns-clause-ok c = subst (λ (t : TransformDef). (x : Contents) × AreWritten t x × Holds c.in_ok-bytes.bytes.items x) c.in_ok-with_summary_set.ensures.ok c.in_ok-bytes.ensures.ok

pub returns-clause-reads : goal.returns-clause-reads
returns-clause-reads c = λ is_made. subst (λ (t : TransformDef). ReadsTo c.in_ok-bytes.bytes.items (Ok t)) c.in_ok-with_summary_set.ensures.ok (c.in_ok-bytes.ensures.reads (c.in_ok-with_summary_set.ensures.made is_made))
