-- What an index says of its streams.
use Rattle.std.proofs.Common.{◌≡◌, ℕ, zero, suc, ◌+◌, ◌-◌, ◌*◌, ◌<◌, List, [], ◌∷◌, ◌++◌, length, get_or, take, drop, map, sym, ◌∙◌, ap, arith, refl}
use Rattle.std.proofs.lemmas.List.{append_assoc, length-map, get_or-map}
use Rattle.msi_container_write.specs.Extents.{units, all_units}
use Rattle.msi_container_write.specs.Index.{Placed, placed, streams_of, IsIndex, rest_from}
use Rattle.msi_container_write.specs.Layout.{mini_part, large_part, mini_parts, large_parts}

-- the streams of places
streams_placed : (first first_mini : ℕ) (streams : List (List ℕ × List ℕ)) → streams_of (placed first first_mini streams) ≡ streams
streams_placed first first_mini [] = refl
streams_placed first first_mini (stream ∷ streams) =
    ap (λ ss. stream ∷ ss) (streams_placed (first + units 512 (large_part stream)) (first_mini + units 64 (mini_part stream)) streams)

-- the streams of an index
pub streams_indexed : (places : List Placed) (streams : List (List ℕ × List ℕ)) → places ≡ placed 0 0 streams → streams_of places ≡ streams
streams_indexed places streams is = ap streams_of is ∙ streams_placed 0 0 streams

pub is_index : (places : List Placed) (streams : List (List ℕ × List ℕ)) → places ≡ placed 0 0 streams → IsIndex places
is_index places streams is = is ∙ ap (placed 0 0) (sym (streams_indexed places streams is))

-- of streams in order, each has how many sectors those before it take
first_of_placed : (a b : ℕ) (streams : List (List ℕ × List ℕ)) (i : ℕ) (d : Placed) → i < length (placed a b streams)
    → (get_or (placed a b streams) i d).first ≡ a + all_units 512 (take i (large_parts streams))
first_of_placed a b [] i d l = absurd (omega arith)
first_of_placed a b (stream ∷ streams) zero d l = omega arith
first_of_placed a b (stream ∷ streams) (suc i) d l =
    let h = first_of_placed (a + units 512 (large_part stream)) (b + units 64 (mini_part stream)) streams i d (omega arith) in
    omega arith

-- and how many mini sectors
first_mini_of_placed : (a b : ℕ) (streams : List (List ℕ × List ℕ)) (i : ℕ) (d : Placed) → i < length (placed a b streams)
    → (get_or (placed a b streams) i d).first_mini ≡ b + all_units 64 (take i (mini_parts streams))
first_mini_of_placed a b [] i d l = absurd (omega arith)
first_mini_of_placed a b (stream ∷ streams) zero d l = omega arith
first_mini_of_placed a b (stream ∷ streams) (suc i) d l =
    let h = first_mini_of_placed (a + units 512 (large_part stream)) (b + units 64 (mini_part stream)) streams i d (omega arith) in
    omega arith

-- the same by an index
pub first_at : (places : List Placed) → IsIndex places → (i : ℕ) (d : Placed) → i < length places
    → (get_or places i d).first ≡ all_units 512 (take i (large_parts (streams_of places)))
first_at places indexed i d l =
    let streams = streams_of places in
    let long : length places ≡ length (placed 0 0 streams) = ap length indexed in
    ap (λ (ps : List Placed). (get_or ps i d).first) indexed ∙ first_of_placed 0 0 streams i d (omega arith) ∙ omega arith

pub first_mini_at : (places : List Placed) → IsIndex places → (i : ℕ) (d : Placed) → i < length places
    → (get_or places i d).first_mini ≡ all_units 64 (take i (mini_parts (streams_of places)))
first_mini_at places indexed i d l =
    let streams = streams_of places in
    let long : length places ≡ length (placed 0 0 streams) = ap length indexed in
    ap (λ (ps : List Placed). (get_or ps i d).first_mini) indexed ∙ first_mini_of_placed 0 0 streams i d (omega arith) ∙ omega arith

-- the part of stream i
pub part_at : (part : List ℕ × List ℕ → List ℕ) (places : List Placed) (i : ℕ) (d : Placed) → i < length places
    → get_or (map part (streams_of places)) i [] ≡ part (get_or places i d).stream
part_at part places i d l =
    get_or-map part (streams_of places) i d.stream [] (omega (arith, length-map places (λ (place : Placed). place.stream)))
    ∙ ap part (get_or-map (λ (place : Placed). place.stream) places i d d.stream l)

pub parts_long : (part : List ℕ × List ℕ → List ℕ) (places : List Placed) → length places ≡ length (map part (streams_of places))
parts_long part places = sym (length-map (streams_of places) part ∙ length-map places (λ (place : Placed). place.stream))

-- what the place before a number has from a unit on, by what is known of it
pub found_part : (part : List ℕ × List ℕ → List ℕ) (first : Placed → ℕ) (places : List Placed) (size m until k : ℕ) (place : Placed) (bytes now : List ℕ)
    → place ≡ get_or places (until - 1) place
    → until - 1 < length places
    → k ≡ first place
    → bytes ≡ part place.stream
    → now ≡ drop (size * (m - k)) bytes
    → rest_from size (map part (streams_of places)) m ≡ drop (size * (m - first (get_or places (until - 1) place))) (get_or (map part (streams_of places)) (until - 1) [])
    → now ≡ rest_from size (map part (streams_of places)) m
found_part part first places size m until k place bytes now place_is within k_is bytes_is now_is rest_is =
    let first_is : k ≡ first (get_or places (until - 1) place) = k_is ∙ ap first place_is in
    let part_is : bytes ≡ get_or (map part (streams_of places)) (until - 1) [] =
    bytes_is ∙ ap (λ (p : Placed). part p.stream) place_is ∙ sym (part_at part places (until - 1) place within) in
    now_is
    ∙ ap (λ j. drop (size * (m - j)) bytes) first_is
    ∙ ap (drop (size * (m - first (get_or places (until - 1) place)))) part_is
    ∙ sym rest_is

-- one place more
pub place_pushed : (stream : List ℕ × List ℕ) (streams rest : List (List ℕ × List ℕ)) (first first_mini u v : ℕ) (name bytes : List ℕ) (before now all : List Placed)
    → streams ≡ stream ∷ rest
    → name ≡ stream.0
    → bytes ≡ stream.1
    → u ≡ units 512 (large_part stream)
    → v ≡ units 64 (mini_part stream)
    → now ≡ before ++ record { stream = (name, bytes); first = first; first_mini = first_mini } ∷ []
    → before ++ placed first first_mini streams ≡ all
    → now ++ placed (first + u) (first_mini + v) rest ≡ all
place_pushed stream streams rest first first_mini u v name bytes before now all is name_is bytes_is u_is v_is grown was =
    let place : List ℕ → List ℕ → Placed = λ n b. record { stream = (n, b); first = first; first_mini = first_mini } in
    let rests : ℕ → ℕ → List Placed = λ a b. placed (first + a) (first_mini + b) rest in
    let here : Placed = place stream.0 stream.1 in
    let grown_is : now ≡ before ++ here ∷ [] =
    grown ∙ ap (λ n. before ++ place n bytes ∷ []) name_is ∙ ap (λ b. before ++ place stream.0 b ∷ []) bytes_is in
    ap (λ (ps : List Placed). ps ++ rests u v) grown_is
    ∙ ap (λ a. before ++ here ∷ [] ++ rests a v) u_is
    ∙ ap (λ b. before ++ here ∷ [] ++ rests (units 512 (large_part stream)) b) v_is
    ∙ append_assoc before (here ∷ []) (rests (units 512 (large_part stream)) (units 64 (mini_part stream)))
    ∙ sym (ap (λ ss. before ++ placed first first_mini ss) is)
    ∙ was
