-- Which calls call no device, and whose numbers and names fit.
use Rattle.std.proofs.Common.{refl}
use Rattle.msi.specs.Runs.{FitsCall}
use Rattle.msi_replay.specs.declared.call.LookUp.{LookUp}
use Rattle.msi_replay.specs.declared.call.LookUp.TheVariants as look
use Rattle.msi_replay.specs.declared.call.Change.{Change}
use Rattle.msi_replay.specs.declared.call.Change.TheVariants as change
use Rattle.msi_replay.specs.Sent.{change_sent, look_up_sent}
use Rattle.msi_replay.proofs.RunLemmas.{IsQuiet}

pub look_up_quiet : (q : LookUp) → IsQuiet (look_up_sent q)
look_up_quiet look.PackageType = record { unflushed = refl; alone = refl }
look_up_quiet look.DatabaseCodepage = record { unflushed = refl; alone = refl }
look_up_quiet (look.HasTable name) = record { unflushed = refl; alone = refl }
look_up_quiet (look.GetTable name) = record { unflushed = refl; alone = refl }
look_up_quiet look.Tables = record { unflushed = refl; alone = refl }
look_up_quiet (look.HasStream name) = record { unflushed = refl; alone = refl }
look_up_quiet look.Streams = record { unflushed = refl; alone = refl }
look_up_quiet look.HasDigitalSignature = record { unflushed = refl; alone = refl }

pub change_quiet : (c : Change) → IsQuiet (change_sent c)
change_quiet (change.CreateTable name columns) = record { unflushed = refl; alone = refl }
change_quiet (change.InsertRows query) = record { unflushed = refl; alone = refl }
change_quiet (change.UpdateRows query) = record { unflushed = refl; alone = refl }
change_quiet (change.DeleteRows query) = record { unflushed = refl; alone = refl }
change_quiet (change.DropTable name) = record { unflushed = refl; alone = refl }
change_quiet (change.AddColumn name column) = record { unflushed = refl; alone = refl }
change_quiet (change.ApplyTransform t passing) = record { unflushed = refl; alone = refl }
change_quiet (change.SetDatabaseCodepage page) = record { unflushed = refl; alone = refl }
change_quiet (change.RemoveStream name) = record { unflushed = refl; alone = refl }
change_quiet change.RemoveDigitalSignature = record { unflushed = refl; alone = refl }

pub look_up_fits : (q : LookUp) → FitsCall (look_up_sent q)
look_up_fits look.PackageType = tt
look_up_fits look.DatabaseCodepage = tt
look_up_fits (look.HasTable name) = tt
look_up_fits (look.GetTable name) = tt
look_up_fits look.Tables = tt
look_up_fits (look.HasStream name) = tt
look_up_fits look.Streams = tt
look_up_fits look.HasDigitalSignature = tt

pub change_fits : (c : Change) → FitsCall (change_sent c)
change_fits (change.CreateTable name columns) = tt
change_fits (change.InsertRows query) = tt
change_fits (change.UpdateRows query) = tt
change_fits (change.DeleteRows query) = tt
change_fits (change.DropTable name) = tt
change_fits (change.AddColumn name column) = tt
change_fits (change.ApplyTransform t passing) = tt
change_fits (change.SetDatabaseCodepage page) = tt
change_fits (change.RemoveStream name) = tt
change_fits change.RemoveDigitalSignature = tt
