-- The counts of all places, set at once.
use Rattle.std.specs.Prelude.{ℕ, not, List, [], map, zip, count_by, ◌==◌, if◌then◌else◌}
use Rattle.msi_pool_places.specs.Pool.{Place}

-- a place that so many cells name: one without cells becomes free, and loses its text
abbrev pub with_count : ℕ → Place → Place
with_count n p = record { text = if n == 0 then [] else p.text; count = n }

abbrev pub with_counts : List ℕ → List Place → List Place
with_counts counts places = map (λ e. with_count e.0 e.1) (zip counts places)

-- how many places get another count
abbrev pub many_recounted : List ℕ → List Place → ℕ
many_recounted counts places = count_by (λ e. not (e.0 == e.1.count)) (zip counts places)
