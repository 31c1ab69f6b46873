use Rattle.std.proofs.Common.{◌≡◌, ◌∙◌, List, ℕ, ap, false}
use Rattle.std.specs.FinMap.{FinMap, empty, insert}
use Rattle.msi.specs.Container.Contents.{Contents}
use Rattle.msi.specs.Container.Names.{name_cmp}
use Rattle.msidb_commands.specs.Wrapped.{installer_clsid}
use Rattle.msidb_commands.proofs.wrap.contents_of.Goals as goal

-- an installer's container with these streams
abbrev installer : FinMap name_cmp (List ℕ) → Contents
installer streams = record { clsid = installer_clsid; streams = streams; has_storages = false }

pub returns-clause-ok : goal.returns-clause-ok
returns-clause-ok c =
    let name = c.args.name in
    let held : c.insert.new.self ≡ insert empty name c.args.bytes.items =
    c.in_ok-insert.ensures.ok ∙ ap (λ m. insert m name c.from_vec.result) c.new-streams.ensures ∙ ap (λ bytes. insert empty name bytes) c.from_vec.ensures in
    ap installer held
