-- Texts that cells take of the pool and give back.
use Rattle.std.specs.Prelude.{Bool, true, not, ◌&&◌, List, [], ◌∷◌, Option, Some, option_map, option_and_then}
use Rattle.std.specs.Prelude.{unwrap_or}
use Rattle.std.specs.List.{fold}
use Rattle.msi_pool.specs.FirstFit.{given_back, is_long_with, taken}
use Rattle.msi_pool.specs.Pool.{Pool, Place}
use Rattle.msi_table_values.specs.declared.value.Value.{Value}
use Rattle.msi_table_values.specs.declared.value.Value.TheVariants.{Null, Int, Str, Binary}
use Rattle.msi_table_cells.specs.declared.cell.ValueRef.{ValueRef}
use Rattle.msi_table_cells.specs.declared.cell.ValueRef.TheVariants as cell

-- The pool while a change goes on
pub record PoolInUse : Type 0 where
  pub places : List Place
  pub is_used : Bool

-- and whole, with its code page, and the width of references that the change began with
pub record UsedPool : Type 0 where
  pub pool : Pool
  pub is_used : Bool

abbrev pub in_use : UsedPool → PoolInUse
in_use u = record { places = u.pool.places; is_used = u.is_used }

-- whether the places need references of three bytes, where the change began with two
abbrev pub widens : Pool → Bool
widens pool = is_long_with pool.long pool.places && not pool.long

-- the pool with references that are as wide as its places need, and no narrower than they were
abbrev pub settled : Pool → Pool
settled pool = record pool { long = is_long_with pool.long pool.places }

-- each in turn, from the state that the one before it left
abbrev pub in_turn : {S X Y : Type 0} → (S → X → Option (Y × S)) → S → List X → Option (List Y × S)
in_turn step s [] = Some ([], s)
in_turn step s (x ∷ xs) = option_and_then (λ r. option_map (λ rs. (r.0 ∷ rs.0, rs.1)) (in_turn step r.1 xs)) (step s x)

-- the cell of a value, which takes its text; nothing where the pool is full
abbrev pub cell_put : Bool → PoolInUse → Value → Option (ValueRef × PoolInUse)
cell_put long pool (Str text) =
    option_map (λ r. (cell.Str r.0, record { places = r.1; is_used = true })) (taken long pool.places text)
cell_put long pool Null = Some (cell.Null, pool)
cell_put long pool (Int n) = Some (cell.Int n, pool)
cell_put long pool Binary = Some (cell.Binary, pool)

abbrev pub rows_put : Bool → PoolInUse → List (List Value) → Option (List (List ValueRef) × PoolInUse)
rows_put long pool rows = in_turn (in_turn (cell_put long)) pool rows

-- giving back the text of a cell, and of each cell of rows
abbrev pub cell_released : PoolInUse → ValueRef → PoolInUse
cell_released pool (cell.Str number) =
    record { places = unwrap_or (given_back pool.places number) pool.places; is_used = true }
cell_released pool _ = pool

abbrev pub rows_released : PoolInUse → List (List ValueRef) → PoolInUse
rows_released pool rows = fold (fold cell_released) pool rows
