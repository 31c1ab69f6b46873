-- References to texts widen to three bytes where two don't suffice: how a change is made then.
use Rattle.std.specs.Prelude.{Bool, true, false, not, length, nat_lt, ◌&&◌, if◌then◌else◌, Result, Ok, Err}
use Rattle.msi_base.specs.declared.errors.ErrorKind.{ErrorKind}
use Rattle.msi_pool.specs.FirstFit.{most_places}
use Rattle.msi_database_changes.specs.Database.{Database, is_sound}
use Rattle.msi_database_changes.specs.Changes.{Change}

-- the same database with references of three bytes
abbrev pub widened : Database → Database
widened d = record d { pool = record d.pool { long = true } }

-- whether two bytes don't suffice for what a change leaves. What is refused with three bytes is refused with two
abbrev pub needs_three_bytes : Result Change ErrorKind → Bool
needs_three_bytes (Ok c) = nat_lt (most_places false) (length c.database.pool.places)
needs_three_bytes (Err kind) = true

-- whether a change is made with wider references: the database is sound, and two bytes don't suffice
abbrev pub widens : (Database → Result Change ErrorKind) → Database → Bool
widens change d = is_sound d && not d.pool.long && needs_three_bytes (change (widened d))

abbrev pub widening : (Database → Result Change ErrorKind) → Database → Result Change ErrorKind
widening change d = if widens change d then change (widened d) else change d
