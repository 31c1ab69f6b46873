-- Worked examples of how many sectors a file has, and how many look-ups a chain takes, by computation.
use Rattle.std.specs.Prelude.{◌≡◌, [], refl, replicate}
use Rattle.msi_container_tables.specs.Counts.{sectors_inside, links}

-- an empty stream has no member, and takes nothing
no_links : links [] ≡ 0
no_links = refl

-- the header's sector isn't counted, and a sector that starts at the end isn't inside
two_inside : sectors_inside (replicate 1536 0) ≡ 2
two_inside = refl

three_inside : sectors_inside (replicate 1537 0) ≡ 3
three_inside = refl

none_inside : sectors_inside [] ≡ 0
none_inside = refl
