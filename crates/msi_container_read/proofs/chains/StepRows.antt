-- Worked examples of how often a successor is looked up, by computation.
use Rattle.std.specs.Prelude.{◌≡◌, [], ◌∷◌, refl, replicate}
use Rattle.msi_container_format.specs.Container.{Plan}
use Rattle.msi_container_format.specs.Trees.{Leaf, Node}
use Rattle.msi_container_tables.specs.Reading.{mini_limit}
use Rattle.msi_container_read.specs.Steps.{steps_of, rounded_length}

-- a file of one stream of 4096 bytes, in sectors 1 to 8
abbrev one_stream : Plan
one_stream = record {
  difat = [];
  fat = 9 ∷ [];
  directory = 0 ∷ [];
  mini_fat = [];
  mini_stream = [];
  tree = Node Leaf 1 Leaf;
  chains = (1 ∷ 2 ∷ 3 ∷ 4 ∷ 5 ∷ 6 ∷ 7 ∷ 8 ∷ []) ∷ [];
}

-- the directory takes one, and the stream one less than its sectors
eight_steps : steps_of one_stream ≡ 8
eight_steps = refl

-- six streams of 1, 64, 65, 128, 200 and 448 bytes, in mini sectors 0 to 16
abbrev six_streams : Plan
six_streams = record {
  difat = [];
  fat = 6 ∷ [];
  directory = 0 ∷ 1 ∷ [];
  mini_fat = 2 ∷ [];
  mini_stream = 3 ∷ 4 ∷ 5 ∷ [];
  tree = Node (Node Leaf 1 (Node Leaf 2 Leaf)) 3 (Node Leaf 4 (Node Leaf 5 (Node Leaf 6 Leaf)));
  chains = (0 ∷ []) ∷ (1 ∷ []) ∷ (2 ∷ 3 ∷ []) ∷ (4 ∷ 5 ∷ []) ∷ (6 ∷ 7 ∷ 8 ∷ 9 ∷ []) ∷ (10 ∷ 11 ∷ 12 ∷ 13 ∷ 14 ∷ 15 ∷ 16 ∷ []) ∷ [];
}

-- directory 2, mini FAT 1, mini stream 2, streams 11
sixteen_steps : steps_of six_streams ≡ 16
sixteen_steps = refl

-- eight mini sectors lie in a sector of 512 bytes
mini_sectors_of_three : mini_limit [] (3 ∷ 4 ∷ 5 ∷ []) ≡ 24
mini_sectors_of_three = refl

rounded_up : rounded_length (replicate 513 0) ≡ 1024
rounded_up = refl

rounded_already : rounded_length (replicate 512 0) ≡ 512
rounded_already = refl
