-- Which places a text can take: one that can be named once more, or a new one, where there are few enough.
use Rattle.std.proofs.Common.{◌≡◌, ℕ, ◌<◌, ◌≤◌, Bool, true, false, List, [], length, Some, None, arith, rules}
use Rattle.std.specs.Prelude.{Option, position, slice_get, slice_index_or, unwrap_or}
use Rattle.std.proofs.lemmas.List.Quantifiers.{position-Some}
use Rattle.std.proofs.lemmas.Option.{slice_get-get_or}
use Rattle.msi_pool_places.specs.Pool.{Place}
use Rattle.msi_pool_places.specs.FirstFit.{is_fit, count_of, most_places}

abbrev pub no_place : Place
no_place = record { text = []; count = 0 }

pub fit_has_room : (text : List ℕ) (p : Place) → is_fit text p ≡ true → p.count < 65535
fit_has_room text p h = grind (arith, rules)

pub first_fit-room : (text : List ℕ) (places : List Place) (o : Option ℕ) → position (is_fit text) places ≡ o
    → unwrap_or o (length places) < length places → count_of (slice_get places (unwrap_or o (length places))) < 65535
first_fit-room text places None e h = absurd (omega (arith, h))
first_fit-room text places (Some i) e h = let f = position-Some (is_fit text) places i no_place e in
    rw (slice_get-get_or places i no_place (f.0)) (fit_has_room text (slice_index_or places i no_place) (f.1))

pub most_places-few : (long : Bool) → most_places long ≤ 16777215
most_places-few true = omega arith
most_places-few false = omega arith
