-- A recount of a kept database: its streams stay.
use Rattle.std.specs.Prelude.{◌≡◌, None}
use Rattle.msi_base.specs.Refusals.{first_refusal}
use Rattle.msi_database_changes.specs.Recounting.{recount_refusals, recounted}
use Rattle.msi_database_storage.specs.Kept.{Kept}
use Rattle.msi_database.specs.Keeping.{IsKeptDatabase}

-- what it leaves
abbrev pub after_recount : Kept → Kept
after_recount k = record k { database = recounted k.database }

-- the streams spell the database that it leaves
abbrev pub RecountsAreKept : Type 0
RecountsAreKept = (k : Kept) → IsKeptDatabase k → first_refusal (recount_refusals k.database) ≡ None
    → IsKeptDatabase (after_recount k)
