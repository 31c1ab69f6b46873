use Rattle.std.proofs.Common.{◌∙◌, ap, refl, rules}
use Rattle.msi_container_write.specs.Layout.{Entry, entry_bytes}
use Rattle.msi_container_write.proofs.directories.PutPiecesLemmas.{entry_put}
use Rattle.msi_container_write.proofs.entries.entry_bytes.Goals as goal

pub returns : goal.returns
returns c =
    let inside = c.entry.inside in
    let e : Entry = record { name = inside.name.now; kind = inside.kind; left = inside.left; right = inside.right; child = inside.child; clsid = inside.clsid; start = inside.start; size = inside.size } in
    entry_put e _ _ _ _ _ _ _ _ _ _ _ _ _ _ _ _ _ _ _
    (search rules)
    c.name_field.ensures
    c.to_le_bytes.ensures
    refl
    c.to_le_bytes-2.ensures
    c.to_le_bytes-3.ensures
    c.to_le_bytes-4.ensures
    refl
    c.to_le_bytes-5.ensures
    c.to_le_bytes-6.ensures
    refl
    c.put.ensures
    c.put-2.ensures
    c.put-3.ensures
    c.put-4.ensures
    c.put-5.ensures
    c.put-6.ensures
    c.put-7.ensures
    c.put-8.ensures
    c.put-9.ensures
    ∙ ap entry_bytes c.entry.view_is
