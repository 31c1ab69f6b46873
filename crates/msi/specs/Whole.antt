-- A package over a device, as contracts see it.
use Rattle.std.specs.Prelude.{◌≡◌, ℕ, Bool, true, List, Option, Result, Ok, Err, IfSome}
use Rattle.msi_base.specs.declared.errors.ErrorKind.{ErrorKind}
use Rattle.msi_container_device.specs.Held.{Held}
use Rattle.msi_summary.specs.Properties.{Properties}
use Rattle.msi_database_schema.specs.Keys.{is_stream_name, stream_key}
use Rattle.msi_database.specs.Database.{is_sound}
use Rattle.msi_database.specs.Changes.{Change}
use Rattle.msi_database_storage.specs.Kept.{Kept}
use Rattle.msi_database_storage.specs.Streams.{has_stream_at}
use Rattle.msi_database.specs.Others.{with_streams}
use Rattle.msi_transform_rows.specs.RecordRefusals.{Refusal}
use Rattle.msi.specs.Renewing.{opened}
use Rattle.msi.specs.declared.kinds.PackageType.{PackageType}
use Rattle.msi.specs.State.{State}
use Rattle.msi.specs.Steps.{after_change}
use Rattle.msi.specs.Transforming.{after_transform}

-- its state, what the device holds where that tells it, whether a call of the device failed, and whether bytes were
-- written that the device has not passed on
pub record Whole : Type 0 where
  pub state : State
  pub held : Option Held
  pub failed : Bool
  pub pending : Bool

-- another state over the same device
abbrev pub with_state : State → Whole → Whole
with_state s w = record w { state = s }

-- The parts of a state: the stream that lies open stands over the one that is kept
abbrev pub with_open : Option (List ℕ) → List ℕ → Kept → Kept
with_open name bytes k = with_streams (opened name bytes) k

abbrev pub state_of : PackageType → Properties → Kept → Bool → Bool → Bool → Bool → State
state_of kind summary kept has_storages is_unwritten is_summary_lent is_pool_changed = record {
  kind = kind;
  summary = summary;
  kept = kept;
  has_storages = has_storages;
  is_unwritten = is_unwritten;
  is_summary_lent = is_summary_lent;
  is_pool_changed = is_pool_changed;
}

-- a user's stream that is there
pub record IsOpen (k : Kept) (name : List ℕ) : Type 0 where
  pub text : List ℕ
  pub accepted : is_stream_name text ≡ true
  pub named : name ≡ stream_key text
  pub there : has_stream_at name k.streams ≡ true

-- What holds between calls: the stream that lies open is a user's and there, and only a sound database has changed its
-- pool
pub record IsHeld (k : Kept) (name : Option (List ℕ)) (is_pool_changed : Bool) : Type 0 where
  pub current : IfSome name (IsOpen k)
  pub changed : is_pool_changed ≡ true → is_sound k.database ≡ true

-- what an accepted change leaves
abbrev pub Leaves : Whole → Result Change ErrorKind → Whole → Type 0
Leaves old (Ok c) new = new ≡ with_state (after_change old.state c) old
Leaves old (Err kind) new = ⊥

-- what an accepted transform leaves
abbrev pub Becomes : Whole → Result Kept Refusal → Whole → Type 0
Becomes old (Ok k) new = new ≡ with_state (after_transform old.state k) old
Becomes old (Err refusal) new = ⊥
