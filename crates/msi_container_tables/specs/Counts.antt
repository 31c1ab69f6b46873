-- How many sectors a compound file has, and how many look-ups a chain takes.
use Rattle.std.specs.Prelude.{ℕ, ◌-◌, ◌/◌, List, length}
use Rattle.msi_container_format.specs.Container.{sector_size}

-- how many sectors start inside the file, behind its header
abbrev pub sectors_inside : List ℕ → ℕ
sectors_inside bytes = (length bytes - 1) / sector_size bytes

-- a chain whose length is known takes a look-up for each member but the last
abbrev pub links : List ℕ → ℕ
links chain = length chain - 1
